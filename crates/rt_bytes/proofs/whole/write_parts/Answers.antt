use Rattle.std.proofs.Common.{arith, Bor, List, ℕ}
use Rattle.rt_bytes.proofs.Writing.{WritesAll-part, WritesPrefix-part, Writes-failed}
use Rattle.rt_bytes.proofs.whole.write_parts.Goals as goal

pub returns-in_err-write_whole : goal.returns-in_err-write_whole
returns-in_err-write_whole g c =
    let bytes_of : Bor (List ℕ) → List ℕ = λ part. part.now in
    Writes-failed _ _ _ _ _ _ c.from_residual.ensures.0
    (WritesPrefix-part bytes_of _ _ _ _ _ _ c.args.parts.now c.loop-part.part-index _ (omega arith)
    c.loop-part.invariant c.in_err-write_whole.ensures)

pub loop-part-preserved : goal.loop-part-preserved
loop-part-preserved g c =
    let bytes_of : Bor (List ℕ) → List ℕ = λ part. part.now in
    WritesAll-part bytes_of _ _ _ _ _ _ c.args.parts.now c.loop-part.part-index _ (omega arith)
    c.loop-part.invariant c.in_ok-write_whole.ensures
