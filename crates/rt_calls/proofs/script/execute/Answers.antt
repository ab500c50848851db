use Rattle.std.proofs.Common.{refl, sym, ap, ◌∙◌, Err}
use Rattle.rt_calls.specs.Scripts.{code_of_feed}
use Rattle.rt_calls.proofs.script.execute.Goals as goal

pub returns-in-Ok : goal.returns-in-Ok
returns-in-Ok c = rw c.in-Some.is (c.feed.new.self, c.feed.result, sym (ap code_of_feed c.in-Ok.is), refl, c.feed.ensures.feeds)

pub returns-in-Err-Write : goal.returns-in-Err-Write
returns-in-Err-Write c = rw c.in-Some.is (c.feed.new.self, c.feed.result, sym (ap code_of_feed (c.in-Err-Write.is ∙ ap Err c.in-Err-Write.field-0-is)), refl, c.feed.ensures.feeds)

pub returns-in-Err-TooLong : goal.returns-in-Err-TooLong
returns-in-Err-TooLong c = rw c.in-Some.is (c.feed.new.self, c.feed.result, sym (ap code_of_feed (c.in-Err-TooLong.is ∙ ap Err c.in-Err-TooLong.field-0-is)), refl, c.feed.ensures.feeds)
