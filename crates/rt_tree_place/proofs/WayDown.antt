-- One step down by the best child.
use Rattle.std.proofs.Common.{◌≡◌, ℕ, zero, suc, ◌+◌, ◌-◌, ◌<◌, ◌≤◌, List, ◌∷◌, length, get_or, Option, Some, None, nat_eq, eq-eqb, ne_eqb, IsSome, arith, refl, ap, ◌∙◌, sym, subst, inl, inr}
use Rattle.std.proofs.lemmas.Option.{none-some, same_Some, slice_get_within, get_or_from_slice_get}
use Rattle.std.proofs.lemmas.Bool.{cases_eq}
use Rattle.slab.specs.Slab.{Slab, get, ContainsKey}
use Rattle.rt_box.specs.declared.interval.Interval.{Interval}
use Rattle.rt_tree_subtree.specs.Subtree.{IsBestChild}
use Rattle.rt_tree_node.specs.Node.{NodeCells}
use Rattle.rt_tree_node.specs.Places.{key_of, times_named, rects, level_of, cells_at, level_at, parent_at}
use Rattle.rt_tree_node.specs.Sound.{NamesChild}
use Rattle.rt_tree_place.specs.Path.{LeadsTo}
use Rattle.rt_tree_node.proofs.Counts.{count-some}
use Rattle.rt_tree_node.proofs.Places.{names_key, inner-at_inner}
use Rattle.rt_tree_place.specs.Steps.{IsPassable, IsBestAt}
use Rattle.rt_tree_place.specs.Way.{LeadsUp}

above-leaves : (l : ℕ) → nat_eq (suc l) 1 ≡ nat_eq l 0
above-leaves l = elim (cases_eq l 0) [
  | inl e ↦ eq-eqb (suc l) 1 (omega arith) ∙ sym (eq-eqb l 0 e)
  | inr d ↦ ne_eqb (suc l) 1 (λ e. d (omega arith)) ∙ sym (ne_eqb l 0 d)
]

-- the child is as many steps away from the target level as its level says
low-enough : (target l : ℕ) → target ≤ l → nat_eq (suc l) 1 ≡ nat_eq (target + (l - target)) 0
low-enough target l low = let same : l ≡ target + (l - target) = omega arith in above-leaves l ∙ ap (λ n. nat_eq n 0) same

module _ {D : ℕ} where
  present-of : (s : Option (NodeCells D)) (l : ℕ) → level_of s ≡ Some l → IsSome s
  present-of None l e = absurd (none-some l e)
  present-of (Some n) l e = refl

  -- where a level is known there is a node
  pub present : (a : Slab (NodeCells D)) (k l : ℕ) → level_at a k ≡ Some l → ContainsKey a k
  present a k l e = present-of (get a k) l e

  node-of : (s : Option (NodeCells D)) (l : ℕ) → level_of s ≡ Some l → (n : NodeCells D) × (s ≡ Some n) × (n.level ≡ l)
  node-of None l e = absurd (none-some l e)
  node-of (Some n) l e = (n, refl, same_Some n.level l e)

  pub node-from_level : (a : Slab (NodeCells D)) (k l : ℕ) → level_at a k ≡ Some l → (n : NodeCells D) × (get a k ≡ Some n) × (n.level ≡ l)
  node-from_level a k l e = node-of (get a k) l e

  pub inner-some : (a : Slab (NodeCells D)) (root level k h : ℕ) → IsPassable a root level → level_at a k ≡ Some h → 0 < h → 1 ≤ length (cells_at a k)
  inner-some a root level k zero way e some = absurd (omega arith)
  inner-some a root level k (suc l) way e some = way.some k l e

  step-suc : (a : Slab (NodeCells D)) (root level target k l : ℕ) (rect : List Interval) (child : ℕ) → IsPassable a root level → level_at a k ≡ Some (suc l) → target ≤ l →
      IsBestAt a k (nat_eq (suc l) 1) rect child →
      (level_at a child ≡ Some l)
      × ((node : ℕ) (rest : List ℕ) → LeadsTo a target (l - target) child rect node rest → (path : List ℕ) × LeadsTo a target (suc (l - target)) k rect node path)
  step-suc a root level target k l rect child way e low best =
      let at = best.0 in let c = best.1 in
      let is = way.children k l e at c (slice_get_within (cells_at a k) at c best.3) in
      let named : NamesChild a l k c = subst (NamesChild a l k) (get_or_from_slice_get (cells_at a k) at c c best.3) is in (
        ap (level_at a) (sym best.4) ∙ named.names.level_is,
        λ node rest below. (
          k ∷ rest,
          (
            at,
            c,
            rest,
            subst (λ b. IsBestChild b (rects (cells_at a k)) rect at) (low-enough target l low) best.2,
            best.3,
            refl,
            subst (λ y. LeadsTo a target (l - target) y rect node rest) (sym best.4) below,
          ),
        ),
      )

  pub descent-step : (a : Slab (NodeCells D)) (root level target k h : ℕ) (rect : List Interval) (child : ℕ) → IsPassable a root level → level_at a k ≡ Some h → target < h →
      IsBestAt a k (nat_eq h 1) rect child →
      (level_at a child ≡ Some (h - 1))
      × ((node : ℕ) (rest : List ℕ) → LeadsTo a target (h - 1 - target) child rect node rest → (path : List ℕ) × LeadsTo a target (h - target) k rect node path)
  descent-step a root level target k zero rect child way e high best = absurd (omega arith)
  descent-step a root level target k (suc l) rect child way e high best =
      let same : l ≡ suc l - 1 = omega arith in
      let steps : suc (l - target) ≡ suc l - target = omega arith in
      subst (λ n. (level_at a child ≡ Some (suc l - 1)) × ((node : ℕ) (rest : List ℕ) → LeadsTo a target (suc l - 1 - target) child rect node rest → (path : List ℕ) × LeadsTo a target n k rect node path)) steps
      (subst (λ i. (level_at a child ≡ Some i) × ((node : ℕ) (rest : List ℕ) → LeadsTo a target (i - target) child rect node rest → (path : List ℕ) × LeadsTo a target (suc (l - target)) k rect node path))
      same (step-suc a root level target k l rect child way e (omega arith) best))

  -- what best children lead to is named by the node above it
  pub step-named : (a : Slab (NodeCells D)) (root level steps k h : ℕ) (rect : List Interval) (child : ℕ) → IsPassable a root level → level_at a k ≡ Some h → 0 < h →
      IsBestAt a k (nat_eq h 1) rect child → LeadsUp a root steps k → LeadsUp a root (suc steps) child
  step-named a root level steps k zero rect child way e some best up = absurd (omega arith)
  step-named a root level steps k (suc l) rect child way e some best up =
      let at = best.0 in let c = best.1 in
      let within = slice_get_within (cells_at a k) at c best.3 in
      let read : get_or (cells_at a k) at c ≡ c = get_or_from_slice_get (cells_at a k) at c c best.3 in
      let named : NamesChild a l k c = subst (NamesChild a l k) read (way.children k l e at c within) in
      let counted : 0 < times_named child (cells_at a k) = count-some (names_key child) (cells_at a k) at c within (eq-eqb _ _ (ap key_of read ∙ best.4)) in
      let same = ap (times_named child) (inner-at_inner a k l e) in
      (k, ap (parent_at a) (sym best.4) ∙ named.parent_is, omega arith, up)
