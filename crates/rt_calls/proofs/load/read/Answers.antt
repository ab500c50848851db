use Rattle.std.proofs.Common.{◌≡◌, Ok, sym, ◌∙◌}
use Rattle.rt_check_dump.specs.Reading.{read_text}
use Rattle.rt_calls.proofs.load.read.Goals as goal

pub returns-in-Ok : goal.returns-in-Ok
returns-in-Ok c = (
  c.in-Ok.ensures.same,
  λ other is.
      let this : read_text c.args.text.now ≡ Ok c.in-Ok.shadow = c.in-Ok.ensures.reads in
      let that : read_text c.args.text.now ≡ Ok other = (c.dumps_are_read.ensures c.args.text.now other).1 is in
      let same : Ok other ≡ Ok c.in-Ok.shadow = sym that ∙ this in cc,
)

pub returns-in-Err-At : goal.returns-in-Err-At
returns-in-Err-At c dump =
    let fault = rw c.in-Err-At.field-0-is at c.in-Err-At.ensures.reads in
    let read : read_text c.args.text.now ≡ Ok dump.0 = (c.dumps_are_read.ensures c.args.text.now dump.0).1 dump.1 in cc
