use Rattle.std.proofs.Common.{◌≡◌, ◌*◌, length}
use Rattle.rt_tree_nearest.specs.Candidates.{AdmitsNear}
use Rattle.rt_tree_nearest.proofs.query.window_within.Given as goal

abbrev pub invariant-loop-axis : goal.invariant-loop-axis
invariant-loop-axis g l = record {
  long : length l.window ≡ 2 * g.row.D;
  near : AdmitsNear g.row.D l.target l.fn.limit l.window;
}
