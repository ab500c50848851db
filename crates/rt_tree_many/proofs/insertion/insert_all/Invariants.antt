use Rattle.std.proofs.Common.{◌≡◌, ◌+◌, ◌≤◌, take, length}
use Rattle.rt_tree_many.specs.Insertion.{GainsRows, InsertsInTurn}
use Rattle.rt_tree_many.proofs.insertion.insert_all.Given as goal

abbrev pub invariant-loop-row : goal.invariant-loop-row
invariant-loop-row g l = record {
  gains : GainsRows l.initial.tree.lists l.tree.lists (take l.row-index l.rows);
  turns : InsertsInTurn l.initial.tree.lists (take l.row-index l.rows) l.tree.lists;
  spare : length l.rows ≤ l.tree.spare + l.row-index;
  capacity : l.tree.lists.capacity ≡ l.initial.tree.lists.capacity;
}
