use Rattle.std.proofs.Common.{◌≡◌, take}
use Rattle.rt_table_row.specs.Settings.{set_names}
use Rattle.rt_table_row.proofs.settings.names_of.Given as goal

abbrev pub invariant-loop-set : goal.invariant-loop-set
invariant-loop-set l = l.names.items ≡ set_names (take l.set-index l.sets)
