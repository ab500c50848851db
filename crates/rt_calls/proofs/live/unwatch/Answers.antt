use Rattle.std.proofs.Common.{to_z-of_z}
use Rattle.rt_live.specs.Live.{with_window}
use Rattle.rt_live.specs.declared.fault.Fault.TheVariants.{NoWindow}
use Rattle.rt_calls.proofs.Living.{is_there, left}
use Rattle.rt_calls.proofs.live.unwatch.Goals as goal

pub returns-in-Ok-clause-edited : goal.returns-in-Ok-clause-edited
returns-in-Ok-clause-edited g c =
    left c.args.live.now.lists.windows _ c.args.window (to_z-of_z c.ranges.window) (with_window c.args.live.now.lists)
    c.tell.new.changes c.args.live.now c.unwatch.new.self c.tell.result
    (is_there _ c.in-Ok.field-0 NoWindow c.in-Ok.ensures.no_window) c.in-Ok.ensures.ok c.tell.ensures.told c.tell.ensures.done
