use Rattle.std.proofs.Common.{◌≡◌, rules, ◌∙◌, None, FitsSigned, w32, to_z-of_z}
use Rattle.rt_box.specs.Capacity.{IsCapacity}
use Rattle.rt_calls.specs.Calls.{IsScript}
use Rattle.rt_calls.specs.Scripts.{IsNewScript}
use Rattle.rt_calls.specs.Trees.{MakesNone}
use Rattle.capi.proofs.OnTrees.{opened}
use Rattle.capi.proofs.script.juicedelta_script_open.Goals as goal

pub returns-in-Ok : goal.returns-in-Ok
returns-in-Ok c =
    let fits : FitsSigned w32 c.number-in-Ok.result = search rules in
    let closed : c.args.handle.now.held ≡ None = search rules in
    let made : IsCapacity c.args.capacity × IsScript (IsNewScript c.args.capacity) c.in-Ok.object = c.in-Ok.ensures in
    opened (IsScript (IsNewScript c.args.capacity)) (MakesNone c.args.capacity) _ _ c.in-Ok.object _ _
    closed c.fill.ensures made.1 made.0 (to_z-of_z fits ∙ c.number-in-Ok.ensures)
