use Rattle.std.proofs.Common.{◌≤◌, ◌<◌, take, drop, length, arith}
use Rattle.std.specs.List.{flat_map}
use Rattle.rt_reply.specs.Rows.{values_in}
use Rattle.rt_bytes.proofs.Writing.{WritesAll-trans, WritesPrefix-after, Writes-failed}
use Rattle.rt_shell_lines.specs.Lines.{columns_line}
use Rattle.rt_shell_lines.proofs.Groups.{before_and_between, before_and_after}
use Rattle.rt_shell_lines.proofs.reply.write_columns.Goals as goal

pub returns-in_err-next : goal.returns-in_err-next
returns-in_err-next g c =
    let rows = values_in c.args.rows.now in
    let line = columns_line c.args.places.now in
    let from = c.loop-from.from in
    Writes-failed _ _ _ _ _ _ c.from_residual.ensures.0
    (rw (← before_and_after line from rows)
    (WritesPrefix-after _ _ _ _ _ _ (flat_map line (take from rows)) (flat_map line (drop from rows)) c.loop-from.invariant.3 c.in_err-next.ensures.written))

pub loop-from-preserved : goal.loop-from-preserved
loop-from-preserved g c =
    let rows = values_in c.args.rows.now in
    let line = columns_line c.args.places.now in
    let from = c.loop-from.from in
    let next = c.in_ok-next.next in
    let on : from < next = c.in_ok-next.ensures.next.0 in
    let within : next ≤ length rows = omega (arith, c.in_ok-next.ensures.next.1, c.min.ensures, c.len-in-loop-from.ensures, c.loop-from.invariant.0) in
    let le : from ≤ next = omega (arith, on) in (
      within,
      omega (arith, on, c.min-at_once.ensures, c.most_at_once-most.ensures.some),
      omega (arith, c.min-at_once.ensures, c.most_at_once-most.ensures.few, c.loop-from.invariant.5),
      rw (← before_and_between line from next rows le)
          (WritesAll-trans _ _ _ _ _ _ (flat_map line (take from rows)) (flat_map line (drop from (take next rows))) c.loop-from.invariant.3 c.in_ok-next.ensures.written),
      c.most_at_once-most.ensures.some,
      omega (arith, c.most_at_once-most.ensures.few, c.loop-from.invariant.5),
    )
