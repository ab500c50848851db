use Rattle.std.proofs.Common.{◌≡◌, ap, arith}
use Rattle.std.specs.Prelude.{is_some}
use Rattle.rt_sql_cut.proofs.CutterFront.{nothing_ready}
use Rattle.rt_shell.specs.Transcript.{Progress}
use Rattle.rt_shell.proofs.shell.Shell.new.Goals as goal

pub invariant_of-result : goal.invariant_of-result
invariant_of-result c =
    let none : c.in_ok-new.field-0.pieces ≡ 0 = ap (λ (p : Progress). p.pieces) c.in_ok-new.ensures.at_start in
    record {
      idle = ap is_some (nothing_ready c.in_ok-new.field-0.cutter c.in_ok-new.ensures.stands);
      few = omega arith;
    }
