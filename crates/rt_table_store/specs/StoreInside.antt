-- How a store keeps its rows: the boxes in a tree, the auxiliary values in a map by id.
use Rattle.std.specs.Prelude.{ℕ, ◌≤◌, ℤ, List, [], map, length, is_some, IsSome}
use Rattle.std.specs.Option.{unwrap_or}
use Rattle.std.specs.Ordering.{int_eq}
use Rattle.indexmap.specs.IndexMap.{IndexMap, get, spare}
use Rattle.rt_check.specs.Shadow.{ShadowLists}
use Rattle.rt_sql_statement.specs.declared.value.Value.{Value}
use Rattle.rt_tree.specs.Lists.{box_of}
use Rattle.rt_table_row.specs.Rows.{TableRow}
use Rattle.rt_table_row.specs.Edits.{most_rows}
use Rattle.rt_table_store.specs.StoreLists.{StoreLists}
use Rattle.rt_table_store.specs.GreatestIds.{Ranks}
use Rattle.rt_table_store.specs.declared.store.Store.TheInside.{Inside}

-- the row of an id: its box from the tree, its auxiliary values from the map, which has none of most rows
abbrev pub joined : {D : _} {S : Type 0} → ShadowLists D → IndexMap ℤ (List Value) S → ℤ → TableRow
joined tree auxiliary id = record { id = id; box = unwrap_or (box_of tree id) []; auxiliary = unwrap_or (get int_eq auxiliary id) [] }

abbrev pub rows_in : {D : _} {S : Type 0} → ShadowLists D → IndexMap ℤ (List Value) S → List TableRow
rows_in tree auxiliary = map (λ entry. joined tree auxiliary entry.id) tree.rows

abbrev pub stored : {D : _} → Inside D → StoreLists D
stored s = record {
  rows = rows_in s.tree.lists s.auxiliary;
  tree = s.tree.lists;
  room = s.tree.spare;
  auxiliary_room = spare s.auxiliary;
}

-- one to three axes; auxiliary values are stored of rows alone; the greatest ids of the rows are known
pub record IsJoined (D : ℕ) (s : Inside D) : Type 0 where
  pub some : 1 ≤ D
  pub few : D ≤ 3
  pub most : length s.tree.lists.rows ≤ most_rows
  pub auxiliary : (id : ℤ) → IsSome (get int_eq s.auxiliary id) → IsSome (box_of s.tree.lists id)
  pub ranks : Ranks (λ id. is_some (box_of s.tree.lists id)) s.largest
