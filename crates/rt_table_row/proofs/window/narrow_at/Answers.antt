use Rattle.std.proofs.Common.{arith}
use Rattle.rt_table_row.proofs.Windows.{NarrowsAt-coordinate}
use Rattle.rt_table_row.proofs.window.narrow_at.Goals as goal

pub returns-then-place : goal.returns-then-place
returns-then-place g c = NarrowsAt-coordinate g.row.D _ _ _ _ _ (omega arith) c.narrow_by_test.ensures
