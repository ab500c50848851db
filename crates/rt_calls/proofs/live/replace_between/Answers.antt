use Rattle.std.proofs.Common.{to_z-of_z}
use Rattle.rt_live.specs.Live.{with_row}
use Rattle.rt_live.specs.declared.fault.Fault.TheVariants.{Missing}
use Rattle.rt_calls.proofs.Living.{is_there, replaced}
use Rattle.rt_calls.proofs.live.replace_between.Goals as goal

pub returns-in-Ok-clause-edited : goal.returns-in-Ok-clause-edited
returns-in-Ok-clause-edited g c =
    replaced c.args.live.now.lists.rows _ c.args.id (to_z-of_z c.ranges.id) (with_row c.args.live.now.lists)
    c.tell.new.changes c.args.live.now c.replace.new.self c.tell.result c.args.min c.args.max c.in-Some.rect
    c.in-Some.ensures.lo c.in-Some.ensures.hi
    (is_there _ c.in-Ok.field-0 Missing c.in-Ok.ensures.missing) c.in-Ok.ensures.ok c.tell.ensures.told c.tell.ensures.done
