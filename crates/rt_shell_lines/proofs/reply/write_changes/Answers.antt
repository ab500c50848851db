use Rattle.std.proofs.Common.{arith}
use Rattle.rt_bytes.proofs.Writing.{Writes-failed}
use Rattle.rt_reply.specs.Changes.{change_seen}
use Rattle.rt_shell_lines.proofs.Sequences.{WritesAll-item, WritesPrefix-item}
use Rattle.rt_shell_lines.specs.Lines.{change_line}
use Rattle.rt_shell_lines.proofs.reply.write_changes.Goals as goal

pub returns-in_err-write_change : goal.returns-in_err-write_change
returns-in_err-write_change g c =
    Writes-failed _ _ _ _ _ _ c.from_residual.ensures.0
    (WritesPrefix-item change_line _ _ _ _ _ _ c.args.changes.now c.loop-at.at (change_seen c.get-change.result) (omega arith) c.get-change.ensures
    c.loop-at.invariant c.in_err-write_change.ensures)

pub loop-at-preserved : goal.loop-at-preserved
loop-at-preserved g c =
    WritesAll-item change_line _ _ _ _ _ _ c.args.changes.now c.loop-at.at (change_seen c.get-change.result) (omega arith) c.get-change.ensures
    c.loop-at.invariant c.in_ok-write_change.ensures
