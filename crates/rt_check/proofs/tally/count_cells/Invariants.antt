use Rattle.std.proofs.Common.{◌≡◌, ◌++◌, List, take, length}
use Rattle.rt_check.specs.declared.node.RawCell.{RawCell}
use Rattle.rt_check.specs.Tally.{tallies}
use Rattle.rt_check.proofs.tally.count_cells.Given as goal

-- the cells so far are counted
abbrev pub invariant-loop-cell : goal.invariant-loop-cell
invariant-loop-cell g l = record {
  long : length l.counts ≡ length l.numbers.keys;
  counted : (before : List (RawCell g.row.D)) → l.initial.counts ≡ tallies l.numbers.keys before
      → l.counts ≡ tallies l.numbers.keys (before ++ take l.cell-index l.cells);
}
