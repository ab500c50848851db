use Rattle.std.proofs.Common.{◌≡◌, rules, ◌∙◌, None, FitsSigned, w32, to_z-of_z}
use Rattle.rt_calls.specs.Calls.{IsTree}
use Rattle.rt_calls.specs.Packing.{IsPacked, MayPack, OpensNoRows}
use Rattle.rt_calls.specs.Trees.{IsAxes}
use Rattle.capi.proofs.OnTrees.{opened}
use Rattle.capi.proofs.packing.juicedelta_tree_open_rows.Goals as goal

pub returns-in-Ok-clause-opened : goal.returns-in-Ok-clause-opened
returns-in-Ok-clause-opened c =
    let fits : FitsSigned w32 c.number-in-Ok.result = search rules in
    let closed : c.args.handle.now.held ≡ None = search rules in
    let made : IsAxes c.args.axes × MayPack c.args.axes c.args.capacity c.args.ids.now c.args.boxes.now ×
    IsTree c.args.axes (λ D. IsPacked {D = D} c.args.capacity c.args.ids.now c.args.boxes.now) c.in-Ok.object = c.in-Ok.ensures.packed in
    opened (IsTree c.args.axes (λ D. IsPacked {D = D} c.args.capacity c.args.ids.now c.args.boxes.now))
    (OpensNoRows c.args.axes c.args.capacity c.args.ids.now c.args.boxes.now c.pack_any.new.at) _ _ c.in-Ok.object _ _
    closed c.fill.ensures made.2 (made.0, made.1) (to_z-of_z fits ∙ c.number-in-Ok.ensures)
