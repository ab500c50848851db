-- Rows that get entries, one after the other.
use Rattle.std.proofs.Common.{◌≡◌, ℕ, zero, suc, ◌<◌, ◌≤◌, Bool, true, false, cond, ℤ, List, [], ◌∷◌, ◌++◌, take, length, get_or, count_by, Option, None, Some, is_some, IsSome, arith, refl, ap, ◌∙◌, sym, inl, inr}
use Rattle.std.specs.Ordering.{int_eq}
use Rattle.std.proofs.lemmas.List.{length-map, get_or-map}
use Rattle.std.proofs.lemmas.Option.{slice_get-get_or}
use Rattle.indexmap.specs.IndexMap.{IndexMap, get as leaf_of}
use Rattle.rt_tree_node.specs.declared.cell.Cell.{Cell}
use Rattle.rt_tree_node.specs.Places.{numbers, times_listed}
use Rattle.rt_tree_node.proofs.Counts.{count-cons, count-append}
use Rattle.rt_tree_node.proofs.Places.{has_id}
use Rattle.rt_tree_node.proofs.Homes.{same-id, listed-one, listed-other}
use Rattle.rt_tree_place.specs.NewRow.{Learns}
use Rattle.rt_tree_pack.specs.Packing.{HasEntries, IsFirstRepeated}

module _ {D : ℕ} {S : Type 0} where
  -- a row with a new id gets an entry
  pub entries-more : (m n : IndexMap ℤ ℕ S) (rows : List (Cell D)) (c : Cell D) (leaf : ℕ) → HasEntries m rows → leaf_of int_eq m c.number ≡ None →
      Learns m n c.number leaf → HasEntries n (rows ++ c ∷ [])
  entries-more m n rows c leaf has absent learns id = elim (same-id id c.number) [
    | inl same ↦
        let one = listed-one id c same in
        let none = has id ∙ ap (λ (o : Option ℕ). cond (is_some o) 1 0) (ap (leaf_of int_eq m) same ∙ absent) in
        let now : ◌≡◌ {A = ℕ} (cond (is_some (leaf_of int_eq n id)) 1 0) 1 = ap (λ (o : Option ℕ). cond (is_some o) 1 0) (ap (leaf_of int_eq n) same ∙ learns.here) in
        omega (arith, one, none, now, count-append (has_id id) rows (c ∷ []))
    | inr differs ↦
        let zero_here = listed-other id c differs in
        let now : ◌≡◌ {A = ℕ} (cond (is_some (leaf_of int_eq n id)) 1 0) (cond (is_some (leaf_of int_eq m id)) 1 0) = ap (λ (o : Option ℕ). cond (is_some o) 1 0) (learns.others id differs) in
        omega (arith, zero_here, has id, now, count-append (has_id id) rows (c ∷ []))
  ]

  -- an id that has an entry is that of an earlier row
  pub entered-once : (m : IndexMap ℤ ℕ S) (rows : List (Cell D)) (id : ℤ) → HasEntries m rows → IsSome (leaf_of int_eq m id) → 0 < times_listed id rows
  entered-once m rows id has there =
      let now : ◌≡◌ {A = ℕ} (cond (is_some (leaf_of int_eq m id)) 1 0) 1 = ap (λ b. cond b 1 0) there in
      omega (arith, has id, now)

  pub entered-few : (m : IndexMap ℤ ℕ S) (rows : List (Cell D)) (id : ℤ) → HasEntries m rows → times_listed id rows ≤ 1
  entered-few m rows id has = by (is_some (leaf_of int_eq m id)) (has id)
    where
      by : (b : Bool) → times_listed id rows ≡ cond b 1 0 → times_listed id rows ≤ 1
      by true e = omega (arith, e)
      by false e = omega (arith, e)

module _ {D : ℕ} where
  -- an id among the first ids is that of one of the first rows
  pub counted-ids : (id : ℤ) (i : ℕ) (rows : List (Cell D)) → count_by (int_eq id) (take i (numbers rows)) ≡ times_listed id (take i rows)
  counted-ids id zero rows = refl
  counted-ids id (suc i) [] = refl
  counted-ids id (suc i) (c ∷ rows) =
      omega (arith, count-cons (int_eq id) c.number (take i (numbers rows)), count-cons (has_id id) c (take i rows), counted-ids id i rows)

  -- a row whose id has an entry is the first that has the id of an earlier one
  pub first-repeated : {S : Type 0} (m : IndexMap ℤ ℕ S) (rows : List (Cell D)) (i : ℕ) (c : Cell D) → HasEntries m (take i rows) → i < length rows → c ≡ get_or rows i c →
      IsSome (leaf_of int_eq m c.number) → IsFirstRepeated (numbers rows) i
  first-repeated m rows i c has within is there =
      let number : Cell D → ℤ = λ q. q.number in
      let long : length (numbers rows) ≡ length rows = length-map rows number in
      record {
        id = c.number;
        here = slice_get-get_or (numbers rows) i c.number (omega (arith, long, within)) ∙ ap Some (get_or-map number rows i c c.number within ∙ ap number (sym is));
        earlier = omega (arith, counted-ids c.number i rows, entered-once m (take i rows) c.number has there);
        first = λ other. omega (arith, counted-ids other i rows, entered-few m (take i rows) other has);
      }
