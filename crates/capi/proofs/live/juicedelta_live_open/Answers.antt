use Rattle.std.proofs.Common.{◌≡◌, rules, ◌∙◌, None, FitsSigned, w32, to_z-of_z}
use Rattle.rt_box.specs.Capacity.{IsCapacity}
use Rattle.rt_calls.specs.Live.{IsLive, IsNewLive}
use Rattle.rt_calls.specs.Trees.{IsAxes, MakesNoTree}
use Rattle.capi.proofs.OnTrees.{opened}
use Rattle.capi.proofs.live.juicedelta_live_open.Goals as goal

pub returns-in-Ok : goal.returns-in-Ok
returns-in-Ok c =
    let fits : FitsSigned w32 c.number-in-Ok.result = search rules in
    let closed : c.args.handle.now.held ≡ None = search rules in
    let made : IsAxes c.args.axes × IsCapacity c.args.capacity × IsLive (IsNewLive c.args.axes) c.in-Ok.object = c.in-Ok.ensures in
    opened (IsLive (IsNewLive c.args.axes)) (MakesNoTree c.args.axes c.args.capacity) _ _ c.in-Ok.object _ _
    closed c.fill.ensures made.2 (made.0, made.1) (to_z-of_z fits ∙ c.number-in-Ok.ensures)
