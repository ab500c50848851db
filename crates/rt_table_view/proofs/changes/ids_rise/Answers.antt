use Rattle.std.specs.BTreeMap.{keys}
use Rattle.rt_table_view.proofs.Rising.{rising_sorted}
use Rattle.rt_table_view.proofs.changes.ids_rise.Goals as goal

pub returns : goal.returns
returns g c = rising_sorted (keys c.args.fates.now) c.len.ensures.ordered
