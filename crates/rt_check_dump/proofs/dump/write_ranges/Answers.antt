use Rattle.std.proofs.Common.{◌≡◌, ℤ, List, sym, ap, ◌∙◌, subst, arith, length, get_or, ◌<◌, pos, take}
use Rattle.std.proofs.lemmas.Slice.Zip.{get_or-zip, length-zip}
use Rattle.std.proofs.Math.Seq.{take-length}
use Rattle.rt_check.specs.Conditions.{coordinate}
use Rattle.std.specs.List.{flat_map, zip}
use Rattle.rt_bytes.specs.Bytes.{WritesPrefix, WritesAll}
use Rattle.rt_check_dump.specs.Dump.{range_text}
use Rattle.rt_bytes.proofs.Writing.{WritesAll-part, WritesPrefix-part, Writes-failed}
use Rattle.rt_check_dump.proofs.dump.write_ranges.Goals as goal

pub returns-in_err-write_range : goal.returns-in_err-write_range
returns-in_err-write_range g c =
    let lo = c.args.cell.now.lo in
    let hi = c.args.cell.now.hi in
    let i = c.loop-axis.axis in
    let low : i < length lo = omega (arith, c.axes-axis-end.ensures.lo, c.axes-axis-end.ensures.value, c.loop-axis-test.true) in
    let high : i < length hi = omega (arith, c.axes-axis-end.ensures.hi, c.axes-axis-end.ensures.value, c.loop-axis-test.true) in
    let within : i < length (zip lo hi) = omega (arith, length-zip lo hi, low, high) in
    let this : (coordinate lo i, coordinate hi i) ≡ get_or (zip lo hi) i (pos 0, pos 0) = sym (get_or-zip lo hi i (pos 0, pos 0) low high) in
    let front : WritesPrefix (g.W.ByteWriter.written c.loop-axis.writer) (g.W.ByteWriter.written c.write_range.new.writer) (g.W.ByteWriter.faults c.loop-axis.writer)
    (g.W.ByteWriter.faults c.write_range.new.writer) (range_text (get_or (zip lo hi) i (pos 0, pos 0))) =
    subst (λ (r : ℤ × ℤ). WritesPrefix (g.W.ByteWriter.written c.loop-axis.writer) (g.W.ByteWriter.written c.write_range.new.writer)
    (g.W.ByteWriter.faults c.loop-axis.writer) (g.W.ByteWriter.faults c.write_range.new.writer) (range_text r)) this c.in_err-write_range.ensures in
    Writes-failed _ _ _ _ _ _ c.from_residual.ensures.0
    (WritesPrefix-part range_text _ _ _ _ _ _ (zip lo hi) i (pos 0, pos 0) within c.loop-axis.invariant front)

pub loop-axis-preserved : goal.loop-axis-preserved
loop-axis-preserved g c =
    let lo = c.args.cell.now.lo in
    let hi = c.args.cell.now.hi in
    let i = c.loop-axis.axis in
    let low : i < length lo = omega (arith, c.axes-axis-end.ensures.lo, c.axes-axis-end.ensures.value, c.loop-axis-test.true) in
    let high : i < length hi = omega (arith, c.axes-axis-end.ensures.hi, c.axes-axis-end.ensures.value, c.loop-axis-test.true) in
    let within : i < length (zip lo hi) = omega (arith, length-zip lo hi, low, high) in
    let this : (coordinate lo i, coordinate hi i) ≡ get_or (zip lo hi) i (pos 0, pos 0) = sym (get_or-zip lo hi i (pos 0, pos 0) low high) in
    let whole : WritesAll (g.W.ByteWriter.written c.loop-axis.writer) (g.W.ByteWriter.written c.write_range.new.writer) (g.W.ByteWriter.faults c.loop-axis.writer)
    (g.W.ByteWriter.faults c.write_range.new.writer) (range_text (get_or (zip lo hi) i (pos 0, pos 0))) =
    subst (λ (r : ℤ × ℤ). WritesAll (g.W.ByteWriter.written c.loop-axis.writer) (g.W.ByteWriter.written c.write_range.new.writer)
    (g.W.ByteWriter.faults c.loop-axis.writer) (g.W.ByteWriter.faults c.write_range.new.writer) (range_text r)) this c.in_ok-write_range.ensures in
    WritesAll-part range_text _ _ _ _ _ _ (zip lo hi) i (pos 0, pos 0) within c.loop-axis.invariant whole

pub returns : goal.returns
returns g c =
    let lo = c.args.cell.now.lo in
    let hi = c.args.cell.now.hi in
    let ended : length (zip lo hi) ≡ c.loop-axis.axis =
    omega (arith, length-zip lo hi, c.axes-axis-end.ensures.lo, c.axes-axis-end.ensures.hi, c.axes-axis-end.ensures.value, c.loop-axis-test.false, c.loop-axis.auto.axis-end) in
    let whole : take c.loop-axis.axis (zip lo hi) ≡ zip lo hi = ap (λ n. take n (zip lo hi)) (sym ended) ∙ take-length (zip lo hi) in
    subst (λ (rs : List (ℤ × ℤ)). WritesAll (g.W.ByteWriter.written c.args.writer.now) (g.W.ByteWriter.written c.loop-axis.writer)
    (g.W.ByteWriter.faults c.args.writer.now) (g.W.ByteWriter.faults c.loop-axis.writer) (flat_map range_text rs)) whole c.loop-axis.invariant
