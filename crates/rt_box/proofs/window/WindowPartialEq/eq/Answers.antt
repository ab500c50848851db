use Rattle.std.proofs.Common.{rules}
use Rattle.rt_box.proofs.Windows.{pointwise-paired_up}
use Rattle.rt_box.proofs.window.WindowPartialEq.eq.Goals as goal

pub returns : goal.returns
returns g c = search (rules, pointwise-paired_up, c.eq.ensures)
