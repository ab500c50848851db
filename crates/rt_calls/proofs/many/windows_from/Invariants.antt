use Rattle.std.proofs.Common.{◌*◌}
use Rattle.std.specs.List.{AllZip}
use Rattle.rt_calls.specs.Numbers.{pieces}
use Rattle.rt_calls.specs.Windows.{AdmitsPiece}
use Rattle.rt_calls.proofs.many.windows_from.Given as goal

abbrev pub invariant-loop-place : goal.invariant-loop-place
invariant-loop-place g l = AllZip (AdmitsPiece g.row.D l.relation) (pieces (2 * g.row.D) l.place l.numbers) l.windows.items
