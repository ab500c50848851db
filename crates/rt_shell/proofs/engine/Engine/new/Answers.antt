use Rattle.std.proofs.Common.{false, ap, refl}
use Rattle.rt_session.specs.Session.{State}
use Rattle.rt_shell.specs.Transcript.{Progress}
use Rattle.rt_shell.proofs.engine.Engine.new.Goals as goal

pub returns : goal.returns
returns c =
    let at_start : State → Progress = λ state. record { state = state; pieces = 0; refused = false } in
    record { at_start = ap at_start c.new-2.ensures; stands = c.in_ok-new.ensures; asked = refl }
