-- The rules, held against worked trees of one axis and nodes of at most five cells, which can be followed by hand: each is
-- proved by running the definitions.
use Rattle.std.specs.Prelude.{◌≡◌, ℕ, ℤ, pos, List, [], ◌∷◌, Option, None, Some, refl}
use Rattle.rt_box.specs.Interval.{interval}
use Rattle.rt_check.specs.declared.node.NodeRow.{NodeRow}
use Rattle.rt_check.specs.declared.node.RawCell.{RawCell}
use Rattle.rt_check.specs.declared.node.RowEntry.{RowEntry}
use Rattle.rt_check.specs.Shadow.{ShadowLists}
use Rattle.rt_tree_rules.specs.Nested.{Row, Tree}
use Rattle.rt_tree_rules.specs.Placing.{Work, IsInsertion}
use Rattle.rt_tree_rules.specs.Removing.{IsRemoval}
use Rattle.rt_tree_rules.specs.Shadow.{shadow_of}

-- ---- trees and what is seen of them, written as in a dump

abbrev node : ℕ → ℕ → Option ℤ → List (RawCell 1) → NodeRow 1
node number level parent cells = record { number = pos number; level = level; parent = parent; cells = cells }

abbrev cell : ℕ → ℕ → ℕ → RawCell 1
cell number lo hi = record { number = pos number; lo = pos lo ∷ []; hi = pos hi ∷ [] }

abbrev row : ℕ → ℕ → RowEntry
row id leaf = record { id = pos id; leaf = pos leaf }

abbrev rtree : List (NodeRow 1) → List RowEntry → ShadowLists 1
rtree nodes rows = record { capacity = 5; root = pos 1; nodes = nodes; rows = rows }

abbrev none : Option ℤ
none = None

abbrev one : Option ℤ
one = Some (pos 1)

abbrev point : ℕ → ℕ → Row
point id place = record { id = pos id; rect = interval (pos place) (pos place) ∷ [] }

abbrev leaf : List Row → Tree
leaf rows = record { level = 0; root = rows }

abbrev leaves : List (List Row) → Tree
leaves nodes = record { level = 1; root = nodes }

abbrev work : ℕ → ℕ → ℕ → Work
work placements splits reinsertions = record { placements = placements; splits = splits; reinsertions = reinsertions }

-- ---- the sixth point splits the root, three and three

abbrev five : Tree
five = leaf (point 1 0 ∷ point 2 1 ∷ point 3 2 ∷ point 4 10 ∷ point 5 11 ∷ [])

abbrev six : Tree
six = leaves ((point 1 0 ∷ point 2 1 ∷ point 3 2 ∷ []) ∷ (point 4 10 ∷ point 5 11 ∷ point 6 12 ∷ []) ∷ [])

root-is_split : IsInsertion 1 5 five (point 6 12) six (work 1 1 0)
root-is_split = record { count = 1; none_waits = refl; tree_is = refl; work_is = refl }

dump-six : shadow_of 5 six ≡ rtree (
    node 1 1 none (cell 2 0 2 ∷ cell 3 10 12 ∷ [])
    ∷ node 2 0 one (cell 1 0 0 ∷ cell 2 1 1 ∷ cell 3 2 2 ∷ [])
    ∷ node 3 0 one (cell 4 10 10 ∷ cell 5 11 11 ∷ cell 6 12 12 ∷ []) ∷ [])
    (row 1 2 ∷ row 2 2 ∷ row 3 2 ∷ row 4 3 ∷ row 5 3 ∷ row 6 3 ∷ [])
dump-six = refl

-- ---- of the ninth point's leaf one row is inserted again; it comes back, and the leaf is split

abbrev eight : Tree
eight = leaves (
    (point 1 0 ∷ point 2 1 ∷ point 3 2 ∷ point 7 3 ∷ point 8 4 ∷ []) ∷ (point 4 10 ∷ point 5 11 ∷ point 6 12 ∷ []) ∷ [])

abbrev nine : Tree
nine = leaves (
    (point 1 0 ∷ point 2 1 ∷ []) ∷ (point 4 10 ∷ point 5 11 ∷ point 6 12 ∷ [])
    ∷ (point 3 2 ∷ point 7 3 ∷ point 8 4 ∷ point 9 5 ∷ []) ∷ [])

row-is_inserted_again : IsInsertion 1 5 eight (point 9 5) nine (work 2 1 1)
row-is_inserted_again = record { count = 2; none_waits = refl; tree_is = refl; work_is = refl }

dump-nine : shadow_of 5 nine ≡ rtree (
    node 1 1 none (cell 2 0 1 ∷ cell 3 10 12 ∷ cell 4 2 5 ∷ [])
    ∷ node 2 0 one (cell 1 0 0 ∷ cell 2 1 1 ∷ [])
    ∷ node 3 0 one (cell 4 10 10 ∷ cell 5 11 11 ∷ cell 6 12 12 ∷ [])
    ∷ node 4 0 one (cell 3 2 2 ∷ cell 7 3 3 ∷ cell 8 4 4 ∷ cell 9 5 5 ∷ []) ∷ [])
    (row 1 2 ∷ row 2 2 ∷ row 3 4 ∷ row 4 3 ∷ row 5 3 ∷ row 6 3 ∷ row 7 4 ∷ row 8 4 ∷ row 9 4 ∷ [])
dump-nine = refl

-- ---- three rows leave, and two leaves with them: the row that is left of each is inserted again, the second one twice

abbrev without_1 : Tree
without_1 = leaves (
    (point 4 10 ∷ point 5 11 ∷ point 6 12 ∷ []) ∷ (point 3 2 ∷ point 7 3 ∷ point 8 4 ∷ point 9 5 ∷ point 2 1 ∷ []) ∷ [])

abbrev without_1_4 : Tree
without_1_4 = leaves (
    (point 5 11 ∷ point 6 12 ∷ []) ∷ (point 3 2 ∷ point 7 3 ∷ point 8 4 ∷ point 9 5 ∷ point 2 1 ∷ []) ∷ [])

abbrev without_1_4_5 : Tree
without_1_4_5 = leaves ((point 2 1 ∷ point 3 2 ∷ []) ∷ (point 7 3 ∷ point 8 4 ∷ point 9 5 ∷ point 6 12 ∷ []) ∷ [])

leaf-is_eliminated : IsRemoval 1 5 nine (pos 1) without_1
leaf-is_eliminated = record {
  settled = without_1;
  settle = (without_1, work 1 0 0, record { count = 1; none_waits = refl; tree_is = refl; work_is = refl }, refl);
  shortened = refl;
}

row-leaves_alone : IsRemoval 1 5 without_1 (pos 4) without_1_4
row-leaves_alone = record { settled = without_1_4; settle = refl; shortened = refl }

leaf-is_eliminated_and_split : IsRemoval 1 5 without_1_4 (pos 5) without_1_4_5
leaf-is_eliminated_and_split = record {
  settled = without_1_4_5;
  settle = (without_1_4_5, work 2 1 1, record { count = 2; none_waits = refl; tree_is = refl; work_is = refl }, refl);
  shortened = refl;
}

dump-after_removals : shadow_of 5 without_1_4_5 ≡ rtree (
    node 1 1 none (cell 2 1 2 ∷ cell 3 3 12 ∷ [])
    ∷ node 2 0 one (cell 2 1 1 ∷ cell 3 2 2 ∷ [])
    ∷ node 3 0 one (cell 7 3 3 ∷ cell 8 4 4 ∷ cell 9 5 5 ∷ cell 6 12 12 ∷ []) ∷ [])
    (row 2 2 ∷ row 3 2 ∷ row 6 3 ∷ row 7 3 ∷ row 8 3 ∷ row 9 3 ∷ [])
dump-after_removals = refl

-- ---- a root with one child gives way to it

abbrev lower : Tree
lower = leaf (point 7 3 ∷ point 8 4 ∷ point 9 5 ∷ point 6 12 ∷ point 3 2 ∷ [])

root-gives_way : IsRemoval 1 5 without_1_4_5 (pos 2) lower
root-gives_way = record {
  settled = leaves (lower.root ∷ []);
  settle = (leaves (lower.root ∷ []), work 1 0 0, record { count = 1; none_waits = refl; tree_is = refl; work_is = refl }, refl);
  shortened = refl;
}

-- ---- the last row leaves

last-leaves : IsRemoval 1 5 (leaf (point 6 12 ∷ [])) (pos 6) (leaf [])
last-leaves = record { settled = leaf []; settle = refl; shortened = refl }

dump-no_points : shadow_of 5 (leaf []) ≡ rtree (node 1 0 none [] ∷ []) []
dump-no_points = refl
