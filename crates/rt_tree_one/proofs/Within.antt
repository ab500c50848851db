-- Each node of a sound tree in preorder lies in the root's subtree.
use Rattle.std.proofs.Common.{◌≡◌, inl, inr, ℕ, zero, suc, ◌+◌, ◌<◌, ◌≤◌, ℤ, pos, List, [], ◌∷◌, length, get_or, refl, sym, ap, ◌∙◌, subst, arith}
use Rattle.std.specs.Prelude.{sum_by}
use Rattle.std.proofs.lemmas.Bool.{cases_eq, cases_lt}
use Rattle.std.proofs.lemmas.List.Sums.{sum_by-cons}
use Rattle.rt_box.specs.Capacity.{IsCapacity}
use Rattle.rt_check.specs.declared.node.NodeRow.{NodeRow}
use Rattle.rt_check.specs.declared.node.RawCell.{RawCell}
use Rattle.rt_check.specs.Shadow.{ShadowLists}
use Rattle.rt_check.specs.Conditions.{IsSound}
use Rattle.rt_tree_outside.specs.InOrder.{nodes_in as size_in, AreInOrder, IsPreorder}
use Rattle.rt_tree_one.proofs.Entries.{Each}
use Rattle.rt_tree_one.proofs.Standing.{At, at-get, at_once}
use Rattle.rt_tree_one.proofs.Children.{Names, IsChild, number-at, named-by, children-at, followed-at, cells-at}
use Rattle.rt_tree_one.proofs.Reading.{some_counted}

module _ {D : ℕ} where
  -- ---- where the cells' numbers are
  in_order : (nodes : List (NodeRow D)) (l place : ℕ) (cells : List (RawCell D)) (j : ℕ) (c : RawCell D) → AreInOrder nodes l place cells → At cells j c →
      (v : ℕ) × (c.number ≡ pos v) × (place ≤ v) × (v < place + sum_by (λ x. size_in nodes l x.number) cells)
  in_order nodes l place [] j c order here = absurd here
  in_order nodes l place (x ∷ xs) zero c order here =
      let own = some_counted nodes l x.number in
      (place, ap (λ (y : RawCell D). y.number) (sym here) ∙ order.0, omega arith, omega (arith, own, sum_by-cons (λ (y : RawCell D). size_in nodes l y.number) x xs))
  in_order nodes l place (x ∷ xs) (suc j) c order here =
      let later = in_order nodes l (place + size_in nodes l x.number) xs j c order.1 here in
      let low = later.2 in
      let high = later.3 in
      (later.0, later.1, omega (arith, low), omega (arith, high, sum_by-cons (λ (y : RawCell D). size_in nodes l y.number) x xs))

  module _ (s : ShadowLists D) (sound : IsSound s) (order : IsPreorder s) (capacity : IsCapacity s.capacity) where
    -- ---- a subtree lies in each that it begins in
    abbrev Contains : ℕ → Type 0
    Contains l = (k : ℕ) (n : NodeRow D) (number : ℤ) → At s.nodes k n → n.level ≡ l → number ≡ pos (k + 1) → (p : ℕ) (q : NodeRow D) → At s.nodes p q → k ≤ p →
        p < k + size_in s.nodes l number → p + size_in s.nodes q.level (pos (p + 1)) ≤ k + size_in s.nodes l number

    contains_own : (l k : ℕ) (n : NodeRow D) (number : ℤ) → At s.nodes k n → n.level ≡ l → number ≡ pos (k + 1) → (p : ℕ) (q : NodeRow D) → At s.nodes p q → p ≡ k →
        p + size_in s.nodes q.level (pos (p + 1)) ≤ k + size_in s.nodes l number
    contains_own l k n number here level e p q there at =
        let same : n ≡ q = at_once s.nodes k n q here (subst (λ (i : ℕ). At s.nodes i q) at there) in
        let levels : q.level ≡ l = ap (λ (x : NodeRow D). x.level) (sym same) ∙ level in
        let size : size_in s.nodes q.level (pos (p + 1)) ≡ size_in s.nodes l number
        = ap (λ (i : ℕ). size_in s.nodes i (pos (p + 1))) levels ∙ ap (size_in s.nodes l) (ap (λ (i : ℕ). pos (i + 1)) at ∙ sym e) in
        omega (arith, size, at)

    in_cells : (up l : ℕ) → Contains l → (cells : List (RawCell D)) (place : ℕ) → Each (IsChild s up l) cells → AreInOrder s.nodes l place cells →
        (p : ℕ) (q : NodeRow D) → At s.nodes p q → place ≤ p + 1 → p + 1 < place + sum_by (λ x. size_in s.nodes l x.number) cells →
        p + 1 + size_in s.nodes q.level (pos (p + 1)) ≤ place + sum_by (λ x. size_in s.nodes l x.number) cells
    in_cells up l contains [] place all are p q there low high = absurd (omega (arith, low, high))
    in_cells up l contains (c ∷ cs) place all are p q there low high =
        let child = all.0 in
        let same : pos place ≡ pos (child.at + 1) = sym are.0 ∙ child.number in
        let number : place ≡ child.at + 1 = cc in
        let sum = sum_by-cons (λ (x : RawCell D). size_in s.nodes l x.number) c cs in
        elim (cases_lt (p + 1) (place + size_in s.nodes l c.number)) [
          | inl inside ↦
              let h = contains child.at child.node c.number child.here child.level child.number p q there (omega (arith, number, low)) (omega (arith, number, inside)) in
              omega (arith, h, number, sum)
          | inr past ↦
              let h = in_cells up l contains cs (place + size_in s.nodes l c.number) all.1 are.1 p q there (omega (arith, past)) (omega (arith, high, sum)) in
              omega (arith, h, sum)
        ]

    contains : (l : ℕ) → Contains l
    contains zero k n number here level e p q there low high = contains_own zero k n number here level e p q there (omega (arith, low, high))
    contains (suc l) k n number here level e p q there low high =
        let size : size_in s.nodes (suc l) number ≡ 1 + sum_by (λ x. size_in s.nodes l x.number) n.cells
        = ap (λ (cs : List (RawCell D)). 1 + sum_by (λ x. size_in s.nodes l x.number) cs) (cells-at s sound order capacity k n here number e) in
        elim (cases_eq p k) [
          | inl same ↦ contains_own (suc l) k n number here level e p q there same
          | inr differs ↦
              let h = in_cells k l (contains l) n.cells (k + 2) (children-at s sound order capacity k l n here level) (followed-at s sound order capacity k l n here level)
              p q there (omega (arith, low, differs)) (omega (arith, high, size)) in
              omega (arith, h, size)
        ]

    -- ---- so no node lies behind the root's subtree
    -- a node that a cell names lies in the subtree of the cell's node
    named_inside : (p : ℕ) (q : NodeRow D) → At s.nodes p q → (up : Names s.nodes q.number) → (up.at < p) × (p < up.at + size_in s.nodes up.node.level (pos (up.at + 1)))
    named_inside p q here up =
        let (v, is, low, high) = in_order s.nodes up.level (up.at + 2) up.node.cells up.cell_at up.cell
        (followed-at s sound order capacity up.at up.level up.node up.here up.high) up.among in
        let same : pos v ≡ pos (p + 1) = sym is ∙ up.names ∙ number-at s sound order capacity p q here in
        let place : v ≡ p + 1 = cc in
        let size : size_in s.nodes up.node.level (pos (up.at + 1)) ≡ 1 + sum_by (λ x. size_in s.nodes up.level x.number) up.node.cells
        = ap (λ (l : ℕ). size_in s.nodes l (pos (up.at + 1))) up.high
        ∙ ap (λ (cs : List (RawCell D)). 1 + sum_by (λ x. size_in s.nodes up.level x.number) cs) (cells-at s sound order capacity up.at up.node up.here (pos (up.at + 1)) refl) in
        (omega (arith, low, place), omega (arith, high, place, size))

    pub none_behind : (root : NodeRow D) → At s.nodes 0 root → size_in s.nodes root.level (pos 1) < length s.nodes → ⊥
    none_behind root here past =
        let whole = size_in s.nodes root.level (pos 1) in
        let last = get_or s.nodes whole root in
        let there = at-get s.nodes whole root past in
        let some = some_counted s.nodes root.level (pos 1) in
        let up = named-by s sound order capacity whole last there (λ e. omega (arith, some, e)) in
        let inside = named_inside whole last there up in
        let within = contains root.level 0 root (pos 1) here refl refl up.at up.node up.here (omega arith) (omega (arith, inside.0)) in
        omega (arith, inside.1, within)
