-- Rows each found at its own id, and those that are looked up by what was found of them.
use Rattle.std.proofs.Common.{◌≡◌, ℕ, ℤ, Bool, List, [], ◌∷◌, map, Some, refl, ap, ◌∙◌}
use Rattle.std.specs.Prelude.{◌<ℤ◌, filter}
use Rattle.std.specs.List.{All, AllByRecursion, filter_map, cons_option}
use Rattle.std.proofs.lemmas.List.Elements.{All-filter, All-from_recursion, recursion_from_All}
use Rattle.std.specs.Option.{option_map}
use Rattle.rt_tree_walk.specs.declared.searching.Row.{Row}
use Rattle.rt_table_row.specs.Rows.{TableRow, AreRising, row_at}
use Rattle.rt_table_store.specs.Trees.{leaf_row}
use Rattle.rt_table_store.specs.Picking.{Stands}
use Rattle.rt_table_store.proofs.Order.{eq_same, eq_above}
use Rattle.rt_table_store.proofs.Sorted.{at_key, Rises, rises}

module _ {X : Type 0} (key : X → ℤ) where
  still_own : (x : X) (xs ys : List X) → AllByRecursion (λ y. key x <ℤ key y) ys → AllByRecursion (λ y. at_key key xs (key y) ≡ Some y) ys → AllByRecursion (λ y. at_key key (x ∷ xs) (key y) ≡ Some y) ys
  still_own x xs [] above own = tt
  still_own x xs (y ∷ ys) above own = (rw (eq_above (key y) (key x) above.0) own.0, still_own x xs ys above.1 own.1)

  -- at its key stands each itself
  own : (xs : List X) → Rises key xs → AllByRecursion (λ y. at_key key xs (key y) ≡ Some y) xs
  own [] rise = tt
  own (x ∷ xs) rise = (rw (eq_same (key x)), still_own x xs xs rise.0 (own xs rise.1))

-- at its id stands each row that a test leaves
own_picked : (p : TableRow → Bool) (rows : List TableRow) → AreRising rows → AllByRecursion (λ r. row_at rows r.id ≡ Some r) (filter p rows)
own_picked p rows rise =
    recursion_from_All (λ r. row_at rows r.id ≡ Some r) (filter p rows)
    (All-filter p (λ r. row_at rows r.id ≡ Some r) rows (All-from_recursion (λ r. row_at rows r.id ≡ Some r) rows (own (λ r. r.id) rows (rises (λ r. r.id) rows rise))))

found_rows : (rows found : List TableRow) → AllByRecursion (λ r. row_at rows r.id ≡ Some r) found → filter_map (row_at rows) (map (λ (r : TableRow). r.id) found) ≡ found
found_rows rows [] own = refl
found_rows rows (r ∷ found) own = rw own.0 (ap (λ (rs : List TableRow). r ∷ rs) (found_rows rows found own.1))

-- the rows that are looked up by the ids of those that are picked
pub looked_up : (p : TableRow → Bool) (rows : List TableRow) → AreRising rows → filter_map (row_at rows) (map (λ (r : TableRow). r.id) (filter p rows)) ≡ filter p rows
looked_up p rows rise = found_rows rows (filter p rows) (own_picked p rows rise)

-- ---- rows that were found with their boxes

module _ (D : ℕ) where
  same_found : (rows : List TableRow) (xs : List TableRow) → filter_map (λ (row : Row D). row_at rows row.id) (map leaf_row xs) ≡ filter_map (row_at rows) (map (λ (r : TableRow). r.id) xs)
  same_found rows [] = refl
  same_found rows (x ∷ xs) = ap (cons_option (row_at rows x.id)) (same_found rows xs)

  -- the rows that are looked up by what was found of those that are picked
  pub found_up : (p : TableRow → Bool) (rows : List TableRow) (found : List (Row D)) → AreRising rows → found ≡ map leaf_row (filter p rows) →
      filter_map (λ (row : Row D). row_at rows row.id) found ≡ filter p rows
  found_up p rows found rise same =
      ap (filter_map (λ (row : Row D). row_at rows row.id)) same ∙ same_found rows (filter p rows) ∙ looked_up p rows rise

  each_found : (rows : List TableRow) (xs : List TableRow) → AllByRecursion (λ r. row_at rows r.id ≡ Some r) xs → AllByRecursion (Stands {D = D} rows) (map leaf_row xs)
  each_found rows [] each = tt
  each_found rows (x ∷ xs) each = (ap (option_map leaf_row) each.0, each_found rows xs each.1)

  -- each that was found is its row's
  pub all_found : (p : TableRow → Bool) (rows : List TableRow) (found : List (Row D)) → AreRising rows → found ≡ map leaf_row (filter p rows) → All (Stands {D = D} rows) found
  all_found p rows found rise same =
      rw same (All-from_recursion (Stands {D = D} rows) (map leaf_row (filter p rows)) (each_found rows (filter p rows) (own_picked p rows rise)))
