-- Rows without auxiliary values.
use Rattle.std.proofs.Common.{◌≡◌, ℤ, List, [], ◌∷◌, map, None, ap}
use Rattle.std.specs.List.{All, AllByRecursion}
use Rattle.std.specs.Option.{unwrap_or}
use Rattle.std.specs.Ordering.{int_eq}
use Rattle.std.proofs.lemmas.List.{nil_from_length}
use Rattle.std.proofs.lemmas.List.Elements.{All-from_recursion}
use Rattle.indexmap.specs.IndexMap.{IndexMap, get, index_map_len}
use Rattle.rt_check.specs.Shadow.{ShadowLists}
use Rattle.rt_check.specs.declared.node.RowEntry.{RowEntry}
use Rattle.rt_sql_statement.specs.declared.value.Value.{Value}
use Rattle.rt_table_row.specs.Rows.{TableRow}
use Rattle.rt_table_store.specs.StoreInside.{joined, rows_in}

abbrev IsBare : TableRow → Type 0
IsBare row = row.auxiliary ≡ []

module _ {S : Type 0} (auxiliary : IndexMap ℤ (List Value) S) (none : index_map_len auxiliary ≡ 0) where
  nothing_at : (id : ℤ) → get int_eq auxiliary id ≡ None
  nothing_at id = rw (nil_from_length auxiliary.entries none)

  each_bare : {D : _} (tree : ShadowLists D) (entries : List RowEntry) → AllByRecursion IsBare (map (λ entry. joined tree auxiliary entry.id) entries)
  each_bare tree [] = tt
  each_bare tree (entry ∷ entries) = (ap (λ values. unwrap_or values []) (nothing_at entry.id), each_bare tree entries)

  -- where the map has none, no row has any
  pub bare : {D : _} (tree : ShadowLists D) → All IsBare (rows_in tree auxiliary)
  bare tree = All-from_recursion IsBare (rows_in tree auxiliary) (each_bare tree tree.rows)
