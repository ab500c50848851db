use Rattle.std.proofs.Common.{◌≡◌, ◌+◌, length, arith, subst}
use Rattle.rt_box.specs.Rect.{los, his}
use Rattle.rt_calls.specs.Numbers.{Writes}
use Rattle.rt_calls.proofs.Reaching.{length-los}
use Rattle.rt_calls.proofs.Writing.{front_then, back_then}
use Rattle.rt_calls.proofs.numbers.write_box.Goals as goal

pub returns-clause-written : goal.returns-clause-written
returns-clause-written g c =
    let rect = c.args.rect.now in
    let one = c.write_at.new.buffer in
    let two = c.write_at-2.new.buffer in
    let sides : g.row.D ≡ length (los rect) = omega (arith, length-los rect, c.facts.ensures.axes_are) in
    let first : Writes (los rect) c.args.at c.args.buffer.now one = subst (λ ns. Writes ns c.args.at c.args.buffer.now one) c.lo.ensures c.write_at.ensures in
    let second : Writes (his rect) (c.args.at + g.row.D) one two = subst (λ ns. Writes ns (c.args.at + g.row.D) one two) c.hi.ensures c.write_at-2.ensures in
    let behind : Writes (his rect) (c.args.at + length (los rect)) one two = subst (λ n. Writes (his rect) (c.args.at + n) one two) sides second in
    (front_then c.args.buffer.now one two (los rect) (his rect) c.args.at first.0 behind.0, back_then c.args.buffer.now one two (los rect) (his rect) c.args.at first.1 behind.1)
