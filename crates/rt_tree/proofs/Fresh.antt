-- A tree of one leaf without cells.
use Rattle.std.proofs.Common.{◌≡◌, ◌⊎◌, ℕ, suc, ◌-◌, ◌≤◌, ◌^◌, true, ℤ, ◌≤ℤ◌, List, [], ◌∷◌, length, get_or, Option, Some, None, vec_capacity, arith, refl, ap, sym, ◌∙◌, inl, inr}
use Rattle.std.proofs.Math.Nat.{mul-le-mul_left}
use Rattle.std.specs.List.{AllZip, sum_by, count_by}
use Rattle.std.specs.Map.{lookup}
use Rattle.std.specs.Ordering.{int_eq}
use Rattle.std.proofs.lemmas.Bool.{cases_eq}
use Rattle.std.proofs.lemmas.Int.{ints}
use Rattle.std.proofs.lemmas.Option.{same_Some, none-some}
use Rattle.slab.specs.Slab.{Slab, get, Updates}
use Rattle.indexmap.specs.IndexMap.{get as leaf_of}
use Rattle.rt_box.specs.Capacity.{IsCapacity, least_fill}
use Rattle.rt_tree_node.specs.declared.arena.Arena.{Arena}
use Rattle.rt_tree_node.specs.declared.cell.Cell.{Cell}
use Rattle.rt_tree_node.specs.declared.cell.Pending.{Pending}
use Rattle.rt_tree_node.specs.Node.{NodeCells}
use Rattle.rt_tree_node.specs.Places.{cells_of, leaf_cells_of, level_of, parent_of, cells_at, leaf_cells_at, level_at, times_listed, pending_rows}
use Rattle.rt_tree_node.specs.Sound.{IsLinked, IsFitted, HasHomes}
use Rattle.rt_tree_node.specs.Whole.{row_count}
use Rattle.rt_tree_node.proofs.Sums.{sum_over-updated}
use Rattle.rt_tree.specs.Kept.{IsKeptWith}

pub within-itself : (xs : List ℤ) → AllZip ◌≤ℤ◌ xs xs
within-itself [] = tt
within-itself (x ∷ xs) = (omega (arith, ints), within-itself xs)

module _ {D : ℕ} where
  abbrev leaf : NodeCells D
  leaf = record { level = 0; parent = None; cells = [] }

  abbrev none_pending : List (Pending D)
  none_pending = []

  module _ (a b : Slab (NodeCells D)) (root : ℕ) (empty : a.slots ≡ []) (u : Updates a b root (Some leaf)) where
    vacant : (k : ℕ) → get a k ≡ None
    vacant k = ap (λ slots. get_or slots k None) empty

    what : (k : ℕ) → (get b k ≡ Some leaf) ⊎ (get b k ≡ None)
    what k = elim (cases_eq k root) [
      | inl e ↦ inl (ap (get b) e ∙ u.changed)
      | inr ne ↦ inr (u.others k ne ∙ vacant k)
    ]

    no-cells : (k : ℕ) → cells_at b k ≡ []
    no-cells k = elim (what k) [ inl e ↦ ap cells_of e | inr e ↦ ap cells_of e ]

    no-rows : (k : ℕ) → leaf_cells_at b k ≡ []
    no-rows k = elim (what k) [ inl e ↦ ap leaf_cells_of e | inr e ↦ ap leaf_cells_of e ]

    lone : (k l : ℕ) → level_at b k ≡ Some l → (k ≡ root) × (l ≡ 0)
    lone k l e = elim (cases_eq k root) [
      | inl is ↦ (is, sym (same_Some 0 l (sym (ap level_of (ap (get b) is ∙ u.changed)) ∙ e)))
      | inr ne ↦ absurd (none-some l (sym (ap level_of (u.others k ne ∙ vacant k)) ∙ e))
    ]

    low : (k l : ℕ) → level_at b k ≡ Some (suc l) → ⊥
    low k l e = let h = (lone k (suc l) e).1 in absurd (omega arith)

    linked : IsLinked b root 0 none_pending
    linked = record {
      root_level = ap level_of u.changed;
      root_parent = ap parent_of u.changed;
      root_waits_not = refl;
      levels = λ k l e. omega (arith, (lone k l e).1);
      children = λ k l e. absurd (low k l e);
      named = λ k l e ne. absurd (ne (lone k l e).0);
      pending_levels = λ k d h. absurd (omega arith);
      pending_named = λ k d h. absurd (omega arith);
    }

    fitted : (capacity : ℕ) → IsCapacity capacity → IsFitted capacity b root none_pending None
    fitted capacity cap = record {
      cap = cap;
      some = λ k l e. absurd (low k l e);
      least = λ k l e ne odd. absurd (ne (lone k l e).0);
      most = λ k l e odd. omega (arith, ap length (no-cells k));
      boxes = λ k i d h. absurd (omega (arith, h, ap length (no-cells k)));
      hulls = λ k l e. absurd (low k l e);
      pending_boxes = λ k d h. absurd (omega arith);
      pending_hulls = λ k d h. absurd (omega arith);
    }

    homes : (f : ℤ → Option ℕ) → ((id : ℤ) → f id ≡ None) → HasHomes f b none_pending
    homes f nothing = record {
      home = λ k id some. absurd (omega (arith, some, ap (times_listed id) (no-rows k)));
      there = λ k id e. absurd (none-some k (sym (nothing id) ∙ e));
      pending = λ id some. absurd (omega (arith, some));
    }

    module _ (t : Arena D) (nodes : t.nodes ≡ b) (top : t.root ≡ root) (level : t.level ≡ 0) (idle : t.pending.items ≡ []) (ids : t.leaves.entries ≡ []) where
      no-count : row_count t ≡ 0
      no-count =
          let measure : Option (NodeCells D) → ℕ = λ place. count_by (λ (c : Cell D). true) (leaf_cells_of place) in
          let step = sum_over-updated measure refl a b root (Some leaf) u in
          let start : sum_by measure a.slots ≡ 0 = ap (sum_by measure) empty in
          let here = ap (λ (x : Slab (NodeCells D)). sum_by measure x.slots) nodes in
          let none = ap (λ ws. count_by (λ (c : Cell D). true) (pending_rows ws)) idle in
          omega (arith, step, start, here, none)

      pub fresh-kept : 1 ≤ D → D ≤ 3 → IsCapacity t.capacity → 33 ≤ t.nodes.capacity → t.nodes.capacity ≤ 2 ^ 62 → 1152 ≤ vec_capacity t.pending →
          IsKeptWith t 0
      fresh-kept some few cap room keys pending_room = record {
        some = some;
        few = few;
        whole = record {
          linked = rw (nodes, top, level, idle) linked;
          fitted = rw (nodes, top, idle) (fitted t.capacity cap);
          homes = rw (nodes, idle) (homes (leaf_of int_eq t.leaves) (λ id. ap (lookup (int_eq id)) ids));
        };
        branched = λ h. absurd (omega (arith, level, h));
        idle = idle;
        ids = omega (arith, ap length ids, no-count);
        rows = omega (arith, no-count);
        room = record {
          nodes = let h = mul-le-mul_left (least_fill t.capacity - 1) room in omega (arith, h, no-count);
          keys = keys;
        };
        leaves_room = omega arith;
        pending_room = pending_room;
      }
