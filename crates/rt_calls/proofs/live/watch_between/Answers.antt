use Rattle.std.proofs.Common.{to_z-of_z}
use Rattle.rt_live.specs.Live.{with_window}
use Rattle.rt_live.specs.declared.fault.Fault.TheVariants.{WindowTaken}
use Rattle.rt_calls.proofs.Living.{is_free, came}
use Rattle.rt_calls.proofs.live.watch_between.Goals as goal

pub returns-in-Ok-clause-edited : goal.returns-in-Ok-clause-edited
returns-in-Ok-clause-edited g c =
    came c.args.live.now.lists.windows _ c.args.window (to_z-of_z c.ranges.window) (with_window c.args.live.now.lists)
    c.tell.new.changes c.args.live.now c.watch.new.self c.tell.result c.args.min c.args.max c.in-Some.rect
    c.in-Some.ensures.lo c.in-Some.ensures.hi
    (is_free _ c.in-Ok.field-0 WindowTaken c.in-Ok.ensures.taken) c.in-Ok.ensures.ok c.tell.ensures.told c.tell.ensures.done
