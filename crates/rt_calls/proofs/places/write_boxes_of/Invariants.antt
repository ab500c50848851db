use Rattle.std.proofs.Common.{◌≡◌, ◌*◌, List, length, take, drop}
use Rattle.rt_tree_walk.specs.declared.searching.Row.{Row}
use Rattle.rt_calls.specs.Numbers.{box_numbers}
use Rattle.rt_calls.specs.Places.{AreRowsOf}
use Rattle.rt_calls.proofs.places.write_boxes_of.Given as goal

abbrev pub invariant-loop-at : goal.invariant-loop-at
invariant-loop-at g l = record {
  place : l.place ≡ l.at * (2 * g.row.D);
  size : length l.boxes ≡ length l.initial.boxes;
  rows : (rows : List (Row g.row.D)) × AreRowsOf l.tree.lists (take l.at l.ids) rows × (length (box_numbers rows) ≡ l.place) × (take l.place l.boxes ≡ box_numbers rows);
  back : drop l.place l.boxes ≡ drop l.place l.initial.boxes;
}
