-- An arena whose root, which has no cells, was lifted by a level.
use Rattle.std.proofs.Common.{◌≡◌, ◌≢◌, ℕ, zero, suc, ◌+◌, ◌≤◌, Bool, List, [], get_or, None, Some, arith, refl, ap, ◌∙◌, sym, subst, inl, inr}
use Rattle.std.specs.Ordering.{int_eq}
use Rattle.std.specs.List.{All}
use Rattle.std.proofs.lemmas.Option.{none-some, same_Some}
use Rattle.std.proofs.lemmas.Bool.{cases_eq}
use Rattle.std.proofs.lemmas.List.Elements.{All-nil, All-weaker}
use Rattle.indexmap.specs.IndexMap.{get as leaf_of}
use Rattle.slab.specs.Slab.{Slab, get, Updates}
use Rattle.rt_box.specs.Rect.{IsBox}
use Rattle.rt_tree_node.specs.declared.arena.Arena.{Arena}
use Rattle.rt_tree_node.specs.declared.cell.Cell.{Cell}
use Rattle.rt_tree_node.specs.declared.cell.Pending.{Pending}
use Rattle.rt_tree_node.specs.Node.{NodeCells}
use Rattle.rt_tree_node.specs.Places.{key_of, times_named, times_listed, cells_of, leaf_part, inner_part, leaf_cells_of, inner_cells_of, level_of, parent_of, cells_at, level_at, parent_at, inner_cells_at, pending_nodes, count_rows}
use Rattle.rt_tree_node.specs.Sound.{NamesChild, IsLinked}
use Rattle.rt_tree_node.specs.Open.{HasHull, IsFittedBut, IsOpen}
use Rattle.rt_tree_node.proofs.Links.{NamesChild-same, Names-same, same-above}
use Rattle.rt_tree_node.proofs.Fitted.{fitted-moved}
use Rattle.rt_tree_node.proofs.Homes.{homes-same}
use Rattle.rt_tree_place.proofs.Created.{rows-alike}
use Rattle.rt_tree_place.proofs.Refitted.{waits-free}
use Rattle.rt_tree_place.proofs.WayDown.{node-from_level}
use Rattle.rt_tree_pack.specs.Steps.{is_top}

module _ {D : ℕ} (t : Arena D) (b : Slab (NodeCells D)) (ws : List (Pending D)) (was : IsOpen (is_top t.root) t ws) (empty : cells_at t.nodes t.root ≡ [])
    (u : Updates t.nodes b t.root (Some record { level = suc t.level; parent = None; cells = [] })) where
  abbrev a : Slab (NodeCells D)
  a = t.nodes

  abbrev root : ℕ
  root = t.root

  old-root : (n : NodeCells D) × (get a root ≡ Some n) × (n.level ≡ t.level)
  old-root = node-from_level a root t.level was.linked.root_level

  no-cells : old-root.0.cells ≡ []
  no-cells = sym (ap cells_of old-root.1) ∙ empty

  lv : (x : ℕ) → x ≢ root → level_at b x ≡ level_at a x
  lv x other = ap level_of (u.others x other)

  pr : (x : ℕ) → parent_at b x ≡ parent_at a x
  pr x = elim (cases_eq x root) [
    | inl here ↦ ap (parent_at b) here ∙ ap parent_of u.changed ∙ sym (ap (parent_at a) here ∙ was.linked.root_parent)
    | inr other ↦ ap parent_of (u.others x other)
  ]

  inner-none : (l : ℕ) (cells : List (Cell D)) → cells ≡ [] → inner_part l cells ≡ []
  inner-none zero cells e = refl
  inner-none (suc l) cells e = e

  leaf-none : (l : ℕ) (cells : List (Cell D)) → cells ≡ [] → leaf_part l cells ≡ []
  leaf-none zero cells e = e
  leaf-none (suc l) cells e = refl

  ins : (x : ℕ) → inner_cells_at b x ≡ inner_cells_at a x
  ins x = elim (cases_eq x root) [
    | inl here ↦ ap (inner_cells_at b) here ∙ ap inner_cells_of u.changed
        ∙ sym (ap (inner_cells_at a) here ∙ ap inner_cells_of old-root.1 ∙ inner-none old-root.0.level old-root.0.cells no-cells)
    | inr other ↦ ap inner_cells_of (u.others x other)
  ]

  leaves : (x : ℕ) → leaf_cells_of (get b x) ≡ leaf_cells_of (get a x)
  leaves x = elim (cases_eq x root) [
    | inl here ↦ ap (λ y. leaf_cells_of (get b y)) here ∙ ap leaf_cells_of u.changed
        ∙ sym (ap (λ y. leaf_cells_of (get a y)) here ∙ ap leaf_cells_of old-root.1 ∙ leaf-none old-root.0.level old-root.0.cells no-cells)
    | inr other ↦ ap leaf_cells_of (u.others x other)
  ]

  here-none : (P : Cell D → Type 0) (x : ℕ) → x ≡ root → All P (cells_at b x)
  here-none P x here = subst (All P) (sym (ap (cells_at b) here ∙ ap cells_of u.changed)) (All-nil P)

  lifted-linked : IsLinked b root (suc t.level) ws
  lifted-linked = record {
    root_level = ap level_of u.changed;
    root_parent = ap parent_of u.changed;
    root_waits_not = was.linked.root_waits_not;
    levels = λ x i e. elim (cases_eq x root) [
      | inl here ↦ let same = same_Some (suc t.level) i (sym (ap (level_at b) here ∙ ap level_of u.changed) ∙ e) in omega (arith, same)
      | inr other ↦ let old = was.linked.levels x i (sym (lv x other) ∙ e) in omega (arith, old)
    ];
    children = λ x i e. elim (cases_eq x root) [
      | inl here ↦ here-none (NamesChild b i x) x here
      | inr other ↦ subst (All (NamesChild b i x)) (sym (ap cells_of (u.others x other))) (λ j d within.
          let q = get_or (cells_at a x) j d in
          let is = was.linked.children x i (sym (lv x other) ∙ e) j d within in
          let differs : key_of q ≢ root = λ same. none-some x (sym was.linked.root_parent ∙ ap (parent_at a) (sym same) ∙ is.parent_is) in
          NamesChild-same a b i x q (lv (key_of q) differs) (pr (key_of q)) is)
    ];
    named = λ x i e other.
        ap (λ cells. times_named x cells + times_named x (pending_nodes ws)) (same-above a b ins x (pr x))
        ∙ was.linked.named x i (sym (lv x other) ∙ e) other;
    pending_levels = All-weaker (λ v. v.level ≤ t.level) (λ v. v.level ≤ suc t.level) (λ v is. omega (arith, is)) ws was.linked.pending_levels;
    pending_named = λ j d within i e.
        let w = get_or ws j d in
        Names-same a b i w.cell (lv (key_of w.cell) (λ same. waits-free ws root was.linked.root_waits_not j d within i e same)) (was.linked.pending_named j d within i e);
  }

  lifted-fitted : IsFittedBut (is_top root) t.capacity b root ws
  lifted-fitted =
      fitted-moved (is_top root) t.capacity a b root root ws ws was.fitted
      (λ x l fine e. sym (lv x fine) ∙ e)
      (λ x fine. ap cells_of (u.others x fine))
      (λ x fine other. other) (λ x. cases_eq x root)
      (λ x here. here-none (λ c. IsBox D c.rect) x here)
      (λ x l here e. here-none (HasHull (is_top root) a) x here)
      was.fitted.pending_boxes was.fitted.pending_hulls

  pub lifted : IsOpen (is_top root) record t { nodes = b; level = suc t.level } ws
  lifted = record {
    linked = lifted-linked;
    fitted = lifted-fitted;
    homes = homes-same (leaf_of int_eq t.leaves) a b ws (λ x id. ap (times_listed id) (leaves x)) was.homes;
  }

  pub lifted-rows : (test : Cell D → Bool) → count_rows test b ws ≡ count_rows test a ws
  lifted-rows test = let same = rows-alike test a b leaves in omega (arith, same)
