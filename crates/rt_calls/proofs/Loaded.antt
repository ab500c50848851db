-- A tree with the rows of a shadow in which the checker finds no problem.
use Rattle.std.proofs.Common.{◌≡◌, ℕ, ◌+◌, Bool, cond, ℤ, List, [], ◌∷◌, map, get_or, Err, count_by, arith, refl, ap, ◌∙◌, inl, inr}
use Rattle.std.specs.Ordering.{int_eq}
use Rattle.std.proofs.lemmas.Bool.Decides.{Decides-int_eq}
use Rattle.std.proofs.lemmas.Option.{slice_get_within, get_or_from_slice_get}
use Rattle.std.proofs.lemmas.List.Sums.{sum_by_more, sum_by-take-le}
use Rattle.rt_check.specs.declared.node.RawCell.{RawCell}
use Rattle.rt_check.specs.declared.problem.Condition.TheVariants.{IsOrdered}
use Rattle.rt_check.specs.Shadow.{ShadowLists}
use Rattle.rt_check.specs.Conditions.{is_ordered, leaf_cells, times_named, IsSound}
use Rattle.rt_tree_node.proofs.Counts.{count-cons}
use Rattle.rt_tree_pack.specs.Packing.{IsFirstRepeated}
use Rattle.rt_map.specs.declared.restore_fault.RestoreFault.{RestoreFault}
use Rattle.rt_map.specs.declared.restore_fault.RestoreFault.TheVariants.{NoBox, TooMany, Repeated, Memory}
use Rattle.rt_tree_walk.specs.declared.searching.Row.{Row}
use Rattle.rt_map.specs.Packing.{ids}
use Rattle.rt_map.specs.Restoring.{IsRestoredOf, HasRowWithoutBox, IsRestoreFaultOf}
use Rattle.rt_tree.specs.Lists.{row_in, rows_of}
use Rattle.rt_table_store.proofs.Soundness.{cell_passes}
use Rattle.rt_calls.specs.Loading.{code_of_fault, Loads}
use Rattle.rt_calls.proofs.Entries.{cells_are_ordered, unique-from-sound}

module _ {D : ℕ} where
  -- the tree has the rows of the shadow, and its capacity
  pub same-rows : (tree s : ShadowLists D) → IsRestoredOf tree s → (test : Row D → Bool) → count_by test (rows_of tree) ≡ count_by test (rows_of s)
  same-rows tree s restored test = elim restored [
    | inl same ↦ ap (λ t. count_by test (rows_of t)) same
    | inr packed ↦ packed.rows_are test
  ]

  pub same-capacity : (tree s : ShadowLists D) → IsRestoredOf tree s → tree.capacity ≡ s.capacity
  same-capacity tree s restored = elim restored [ inl same ↦ ap (λ t. t.capacity) same | inr packed ↦ packed.capacity_is ]

  -- as many rows have an id as cells
  named-rows : (id : ℤ) (cells : List (RawCell D)) → count_by (int_eq id) (ids (map row_in cells)) ≡ times_named id cells
  named-rows id [] = refl
  named-rows id (c ∷ cells) =
      omega (arith, count-cons (int_eq id) c.number (ids (map row_in cells)), count-cons (λ (x : RawCell D). int_eq id x.number) c cells, named-rows id cells)

  module _ (s : ShadowLists D) (sound : IsSound s) where
    boxed : HasRowWithoutBox s → ⊥
    boxed lacks = lacks.3.2 (cell_passes IsOrdered (λ n c. is_ordered c) s.nodes lacks.0 lacks.3.0 (cells_are_ordered s sound) lacks.1 lacks.3.1)

    once : (at : ℕ) → IsFirstRepeated (ids (rows_of s)) at → ⊥
    once at first =
        let all = ids (rows_of s) in
        let worth : ℤ → ℕ = λ x. cond (int_eq first.id x) 1 0 in
        let within = slice_get_within all at first.id first.here in
        let is = get_or_from_slice_get all at first.id first.id first.here in
        let one : ◌≡◌ {A = ℕ} (worth (get_or all at first.id)) 1 = ap worth is ∙ ap (λ b. cond b 1 0) ((Decides-int_eq first.id first.id).1 refl) in
        let grown = sum_by_more worth all at first.id within in
        let fewer = sum_by-take-le worth all (at + 1) in
        omega (arith, one, grown, fewer, first.earlier, named-rows first.id (leaf_cells s.nodes), unique-from-sound s sound first.id)

    pub refused : (fault : RestoreFault) → IsRestoreFaultOf s fault → Loads s (Err (code_of_fault fault))
    refused NoBox h = λ is. boxed h
    refused TooMany h = (sound, h)
    refused Repeated h = λ is. once h.0 h.1
    refused Memory h = tt
