use Rattle.std.proofs.Common.{pos, arith, rules, slice_index_or, FitsSigned, w32, to_z-of_z}
use Rattle.rt_calls.proofs.Writing.{front_more, back_more}
use Rattle.rt_calls.proofs.numbers.write_at.Goals as goal

pub loop-place-preserved : goal.loop-place-preserved
loop-place-preserved c =
    let fits : FitsSigned w32 (slice_index_or c.args.numbers.now c.loop-place.place (pos 0)) = search rules in
    record {
      size = search rules;
      front = front_more c.args.buffer.now c.loop-place.buffer c.args.numbers.now c.args.at c.loop-place.place _ c.loop-place-test.true (omega (arith, c.requires, c.loop-place.invariant.size, c.loop-place-test.true)) c.loop-place.invariant.front (to_z-of_z fits);
      back = back_more c.args.buffer.now c.loop-place.buffer c.args.at c.loop-place.place _ c.loop-place.invariant.back;
    }
