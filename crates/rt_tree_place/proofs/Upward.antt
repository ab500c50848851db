-- The path of a row leads up as it leads down.
use Rattle.std.proofs.Common.{◌≡◌, ◌⊎◌, ℕ, zero, suc, List, [], ◌∷◌, Some, arith, refl, ap, ◌∙◌, sym, subst, inl, inr}
use Rattle.std.specs.List.{Contains, All}
use Rattle.std.proofs.lemmas.Option.{same_Some, slice_get_within, get_or_from_slice_get}
use Rattle.slab.specs.Slab.{Slab}
use Rattle.slab.proofs.SlabLemmas.{Contains-cons, Contains-cons_cases}
use Rattle.rt_box.specs.declared.interval.Interval.{Interval}
use Rattle.rt_tree_node.specs.Node.{NodeCells}
use Rattle.rt_tree_place.specs.Path.{LeadsTo}
use Rattle.rt_tree_node.specs.Places.{key_of, cells_at, level_at, parent_at}
use Rattle.rt_tree_node.specs.Sound.{NamesChild}

module _ {D : ℕ} (a : Slab (NodeCells D)) (children : (key l : ℕ) → level_at a key ≡ Some (suc l) → All (NamesChild a l key) (cells_at a key)) (rect : List Interval) where
  pub path-first : (l key leaf : ℕ) (path : List ℕ) → LeadsTo a 0 l key rect leaf path → Contains path key
  path-first zero key leaf path leads = subst (λ ks. Contains ks key) (sym leads.1) (0, omega arith, refl)
  path-first (suc l) key leaf path leads = subst (λ ks. Contains ks key) (sym leads.5) (0, omega arith, refl)

  pub path-last : (l key leaf : ℕ) (path : List ℕ) → LeadsTo a 0 l key rect leaf path → Contains path leaf
  path-last zero key leaf path leads = subst (λ ks. Contains ks leaf) (sym leads.1) (subst (λ k. Contains (key ∷ []) k) (sym leads.0) (0, omega arith, refl))
  path-last (suc l) key leaf path leads =
      subst (λ ks. Contains ks leaf) (sym leads.5) (Contains-cons key leaf leads.2 (path-last l (key_of leads.1) leaf leads.2 leads.6))

  -- the parent of each node on the path is on the path, except the first node's
  pub path-upward : (l key leaf : ℕ) (path : List ℕ) → LeadsTo a 0 l key rect leaf path → level_at a key ≡ Some l →
      (k p : ℕ) → Contains path k → parent_at a k ≡ Some p → (k ≡ key) ⊎ Contains path p
  path-upward zero key leaf path leads here k p on up = elim (Contains-cons_cases key k [] (subst (λ ks. Contains ks k) leads.1 on)) [
    | inl same ↦ inl (sym same)
    | inr more ↦ let none = more.1 in absurd (omega arith)
  ]
  path-upward (suc l) key leaf path leads here k p on up =
      let at = leads.0 in let c = leads.1 in let rest = leads.2 in
      let within = slice_get_within (cells_at a key) at c leads.4 in
      let child : NamesChild a l key c = subst (NamesChild a l key) (get_or_from_slice_get (cells_at a key) at c c leads.4) (children key l here at c within) in
      elim (Contains-cons_cases key k rest (subst (λ ks. Contains ks k) leads.5 on)) [
        | inl same ↦ inl (sym same)
        | inr more ↦ elim (path-upward l (key_of c) leaf rest leads.6 child.names.level_is k p more up) [
          | inl first ↦
              let parent : key ≡ p = same_Some key p (sym child.parent_is ∙ ap (parent_at a) (sym first) ∙ up) in
              inr (subst (λ ks. Contains ks p) (sym leads.5) (subst (λ q. Contains (key ∷ rest) q) parent (0, omega arith, refl)))
          | inr above ↦ inr (subst (λ ks. Contains ks p) (sym leads.5) (Contains-cons key p rest above))
        ]
      ]
