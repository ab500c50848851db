-- A tree without rows, whose rows are pending.
use Rattle.std.proofs.Common.{◌≡◌, ℕ, suc, ◌<◌, ◌≤◌, Bool, cond, ℤ, List, [], Option, None, Some, is_some, IsSome, count_by, arith, refl, ap, ◌∙◌, sym, subst, inl, inr}
use Rattle.std.specs.Ordering.{int_eq}
use Rattle.std.specs.List.{All}
use Rattle.std.proofs.lemmas.Option.{none-some, same_Some}
use Rattle.std.proofs.lemmas.Bool.{cases_eq}
use Rattle.std.proofs.lemmas.List.Elements.{All-nil, All-map}
use Rattle.indexmap.specs.IndexMap.{get as leaf_of}
use Rattle.rt_box.specs.Rect.{IsBox}
use Rattle.rt_tree_node.specs.declared.arena.Arena.{Arena}
use Rattle.rt_tree_node.specs.declared.cell.Cell.{Cell}
use Rattle.rt_tree_node.specs.declared.cell.Pending.{Pending}
use Rattle.rt_tree_node.specs.Node.{NodeCells}
use Rattle.rt_tree_node.specs.Places.{times_named, times_listed, cells_of, leaf_cells_of, level_of, parent_of, cells_at, leaf_cells_at, level_at, pending_rows, pending_nodes, pending_at, count_rows}
use Rattle.rt_tree_node.specs.Sound.{Names, IsLinked, HasHomes}
use Rattle.rt_tree_node.specs.Open.{HasHull, IsFittedBut, IsOpen}
use Rattle.rt_tree_node.proofs.Places.{nodes-joined, rows-joined, names_key, has_id}
use Rattle.rt_tree_place.proofs.Sums.{sum-none}
use Rattle.rt_tree.specs.Bare.{IsBare}
use Rattle.rt_tree_pack.specs.Packing.{AreEntered}
use Rattle.rt_tree_pack.specs.Steps.{is_top}

module _ {D : ℕ} (t : Arena D) (rows : List (Cell D)) (bare : IsBare t) (entered : AreEntered t rows) where
  abbrev leaf : NodeCells D
  leaf = record { level = 0; parent = None; cells = [] }

  abbrev ws : List (Pending D)
  ws = pending_at 0 rows

  abbrev at : Cell D → Pending D
  at c = record { level = 0; cell = c }

  no-cells : (x : ℕ) → cells_at t.nodes x ≡ []
  no-cells x = elim (cases_eq x t.root) [ inl e ↦ ap (cells_at t.nodes) e ∙ ap cells_of bare.leaf | inr other ↦ ap cells_of (bare.alone x other) ]

  no-rows : (x : ℕ) → leaf_cells_at t.nodes x ≡ []
  no-rows x = elim (cases_eq x t.root) [ inl e ↦ ap (leaf_cells_at t.nodes) e ∙ ap leaf_cells_of bare.leaf | inr other ↦ ap leaf_cells_of (bare.alone x other) ]

  lone : (x l : ℕ) → level_at t.nodes x ≡ Some l → (x ≡ t.root) × (l ≡ 0)
  lone x l e = elim (cases_eq x t.root) [
    | inl is ↦ (is, sym (same_Some 0 l (sym (ap (level_at t.nodes) is ∙ ap level_of bare.leaf) ∙ e)))
    | inr other ↦ absurd (none-some l (sym (ap level_of (bare.alone x other)) ∙ e))
  ]

  low : (x l : ℕ) → level_at t.nodes x ≡ Some (suc l) → ⊥
  low x l e = let h = (lone x (suc l) e).1 in absurd (omega (arith, h))

  waits-none : (x : ℕ) → times_named x (pending_nodes ws) ≡ 0
  waits-none x = omega (arith, nodes-joined (names_key x) [] 0 rows)

  waits-rows : (test : Cell D → Bool) → count_by test (pending_rows ws) ≡ count_by test rows
  waits-rows test = omega (arith, rows-joined test [] 0 rows)

  linked : IsLinked t.nodes t.root t.level ws
  linked = record {
    root_level = ap level_of bare.leaf ∙ ap Some (sym bare.level);
    root_parent = ap parent_of bare.leaf;
    root_waits_not = waits-none t.root;
    levels = λ x l e. omega (arith, (lone x l e).1);
    children = λ x l e. absurd (low x l e);
    named = λ x l e other. absurd (other (lone x l e).0);
    pending_levels = All-map (λ v. v.level ≤ t.level) at rows (λ j d within. omega arith);
    pending_named = All-map (λ v. (l : ℕ) → v.level ≡ suc l → Names t.nodes l v.cell) at rows (λ j d within l e. absurd (omega (arith, e)));
  }

  fitted : IsFittedBut (is_top t.root) t.capacity t.nodes t.root ws
  fitted = record {
    cap = bare.cap;
    some = λ x l e fine. absurd (low x l e);
    least = λ x l e other fine. absurd (other (lone x l e).0);
    most = λ x l e fine. absurd (fine (lone x l e).0);
    boxes = λ x. subst (All (λ c. IsBox D c.rect)) (sym (no-cells x)) (All-nil (λ c. IsBox D c.rect));
    hulls = λ x l e. absurd (low x l e);
    pending_boxes = All-map (λ v. IsBox D v.cell.rect) at rows entered.boxes;
    pending_hulls = All-map (λ v. (l : ℕ) → v.level ≡ suc l → HasHull (is_top t.root) t.nodes v.cell) at rows (λ j d within l e. absurd (omega (arith, e)));
  }

  abbrev f : ℤ → Option ℕ
  f = leaf_of int_eq t.leaves

  counted : (id : ℤ) (o : Option ℕ) → f id ≡ o → times_listed id rows ≡ cond (is_some o) 1 0
  counted id o e = entered.ids id ∙ ap (λ (p : Option ℕ). cond (is_some p) 1 0) e

  homes : HasHomes f t.nodes ws
  homes = record {
    home = λ x id some. absurd (omega (arith, some, ap (times_listed id) (no-rows x)));
    there = λ x id e. omega (arith, ap (times_listed id) (no-rows x), waits-rows (has_id id), counted id (Some x) e);
    pending = λ id some. by id (f id) refl (omega (arith, some, waits-rows (has_id id)));
  }
    where
      by : (id : ℤ) (o : Option ℕ) → f id ≡ o → 0 < times_listed id rows → IsSome (f id)
      by id None e some = absurd (omega (arith, some, counted id None e))
      by id (Some x) e some = ap is_some e

  pub ready : IsOpen (is_top t.root) t ws
  ready = record { linked = linked; fitted = fitted; homes = homes }

  pub ready-rows : (test : Cell D → Bool) → count_rows test t.nodes ws ≡ count_by test rows
  ready-rows test =
      let measure : Option (NodeCells D) → ℕ = λ place. count_by test (leaf_cells_of place) in
      let none = sum-none measure refl t.nodes.slots (λ k. ap (count_by test) (no-rows k)) in
      omega (arith, none, waits-rows test)
