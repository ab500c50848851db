use Rattle.std.proofs.Common.{◌≤◌, length, drop}
use Rattle.rt_sql.proofs.Cuts.{gap_second, has_second, cut_after_second, cut_at_rest, cut_at_front, ascii_outside_line}
use Rattle.rt_sql.specs.Token.{is_in_line}
use Rattle.rt_sql.proofs.lexer.comment_len.Goals as goal
use Rattle.rt_sql.proofs.lexer.comment_len.Goals.{then-first-eq45, else-first-eq45}

pub range_from-rest-requires : goal.range_from-rest-requires
range_from-rest-requires c =
    let second = gap_second c.args.first _ c.requires.comment c.requires.white in
    λ _. cut_after_second c.args.text.now c.utf8.text (has_second c.args.text.now second.0) second.1

pub returns-clause-cut : goal.returns-clause-cut
returns-clause-cut c =
    let z = c.args.text.now in
    let second = gap_second c.args.first _ c.requires.comment c.requires.white in
    let two : 2 ≤ length z = has_second z second.0 in
    elim c.if-first-eq45.branch [
      | then-first-eq45 w ↦
          rw (w.result-is, w.prefix_len.ensures.value, w.as_bytes.ensures.value, c.range_from-rest.ensures.value)
          (cut_at_rest 2 z _ two (cut_at_front is_in_line (drop 2 z) ascii_outside_line))
      | else-first-eq45 w ↦ rw w.result-is (cut_at_rest 2 z w.block_len.result two (rw c.range_from-rest.ensures.value at w.block_len.ensures.cut))
    ]
