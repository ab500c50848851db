-- Rows without auxiliary values: an id and a box are all of them.
use Rattle.std.proofs.Common.{◌≡◌, ℕ, Bool, List, [], ◌∷◌, map, filter, sym, ap, refl, ◌∙◌}
use Rattle.std.specs.List.{All, AllByRecursion}
use Rattle.std.proofs.lemmas.List.Elements.{All-filter, recursion_from_All}
use Rattle.rt_tree_walk.specs.declared.searching.Row.{Row}
use Rattle.rt_sql_statement.specs.declared.value.Value.{Value}
use Rattle.rt_table_row.specs.Rows.{TableRow, values_of}
use Rattle.rt_table_store.specs.Trees.{leaf_row}
use Rattle.rt_reply.specs.Rows.{box_values}

abbrev IsBare : TableRow → Type 0
IsBare row = row.auxiliary ≡ []

same_values : (row : TableRow) → IsBare row → values_of (record { id = row.id; box = row.box; auxiliary = [] }) ≡ values_of row
same_values row bare = ap (λ (values : List Value). values_of (record { id = row.id; box = row.box; auxiliary = values })) (sym bare)

module _ (D : ℕ) where
  each_whole : (rows : List TableRow) → AllByRecursion IsBare rows → map (λ (row : Row D). box_values row) (map leaf_row rows) ≡ map values_of rows
  each_whole [] bare = refl
  each_whole (row ∷ rows) bare =
      ap (λ (values : List Value). values ∷ map (λ (r : Row D). box_values r) (map leaf_row rows)) (same_values row bare.0)
      ∙ ap (λ (lists : List (List Value)). values_of row ∷ lists) (each_whole rows bare.1)

  -- what was found of the rows that are picked is all of them
  pub whole : (p : TableRow → Bool) (rows : List TableRow) (found : List (Row D)) → All IsBare rows → found ≡ map leaf_row (filter p rows) →
      map (λ (row : Row D). box_values row) found ≡ map values_of (filter p rows)
  whole p rows found bare same =
      ap (map (λ (row : Row D). box_values row)) same ∙ each_whole (filter p rows) (recursion_from_All IsBare (filter p rows) (All-filter p IsBare rows bare))
