use Rattle.std.proofs.Common.{◌↔◌, IsTrue, All, rules}
use Rattle.rt_box.specs.declared.window.Ends.{Ends}
use Rattle.rt_box.specs.Interval.{HasNumbers}
use Rattle.rt_box.proofs.Windows.{All-in_order}
use Rattle.rt_box.proofs.window.Window.has_numbers.Goals as goal

pub returns : goal.returns
returns g c =
    let axes = c.self.inside.axes in
    let each : IsTrue c.all.result ↔ All (λ (e : Ends). HasNumbers e.lo × HasNumbers e.hi) axes = search rules in
    let same = All-in_order axes in
    rw (← c.self.view_is) ((λ t. same.0 (each.0 t)), (λ all. each.1 (same.1 all)))
