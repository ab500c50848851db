use Rattle.std.proofs.Common.{arith}
use Rattle.rt_bytes.proofs.Writing.{WritesAll-step}
use Rattle.rt_bytes.proofs.whole.write_whole.Goals as goal

pub loop-done-preserved : goal.loop-done-preserved
loop-done-preserved g c = record {
  within = omega (arith, c.in_ok-done.ensures.count, c.loop-done.invariant.within);
  so_far = WritesAll-step _ _ _ _ _ _ c.args.bytes.now c.loop-done.done c.in_ok-done.field-0
      c.loop-done.invariant.so_far c.in_ok-done.ensures.bytes c.in_ok-done.ensures.failed;
}
