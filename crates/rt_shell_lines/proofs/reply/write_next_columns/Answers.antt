use Rattle.std.proofs.Common.{◌≤◌, take, drop, arith, rules}
use Rattle.std.specs.List.{flat_map}
use Rattle.rt_reply.specs.Rows.{values_in}
use Rattle.rt_bytes.proofs.Writing.{WritesPrefix-more}
use Rattle.rt_shell_lines.specs.Lines.{columns_line}
use Rattle.rt_shell_lines.proofs.Groups.{between_and_after}
use Rattle.rt_shell_lines.proofs.Sequences.{next-failed}
use Rattle.rt_shell_lines.proofs.reply.write_next_columns.Goals as goal

pub returns-in_err-write_whole-in-Some-clause-written : goal.returns-in_err-write_whole-in-Some-clause-written
returns-in_err-write_whole-in-Some-clause-written g c =
    let rows = values_in c.args.rows.now in
    let line = columns_line c.args.places.now in
    let from = c.args.from in
    let to = c.args.to in
    let le : from ≤ to = omega (arith, c.requires.some) in
    next-failed _ _ _ _ _ line from rows c.from_residual.ensures.0
    (rw (← between_and_after line from to rows le c.requires.within)
    (WritesPrefix-more _ _ _ _ (flat_map line (drop from (take to rows))) (flat_map line (drop to rows)) (search rules)))
