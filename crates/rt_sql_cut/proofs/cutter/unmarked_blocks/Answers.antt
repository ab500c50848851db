use Rattle.std.proofs.Common.{◌≡◌, ◌+◌, ◌-◌, ◌≤◌, length, take, drop, ap, sym, ◌∙◌, arith}
use Rattle.rt_sql_cut.proofs.CutterBlocks.{block_more}
use Rattle.rt_sql_cut.proofs.cutter.unmarked_blocks.Goals as goal

pub loop-end-preserved : goal.loop-end-preserved
loop-end-preserved c =
    let bytes = c.args.bytes.now in
    let end = c.loop-end.end in
    let whole : end + 16 - end ≡ 16 = omega arith in
    let within : end + 16 ≤ length bytes = omega arith in
    (block_more bytes _ end within (ap (λ n. take n (drop end bytes)) whole) (sym c.has_mark.ensures ∙ c.if-not-has_mark.true) c.loop-end.invariant.0, within)
