use Rattle.std.proofs.Common.{◌∙◌}
use Rattle.rt_table_row.proofs.Setting.{set_among}
use Rattle.rt_table_row.proofs.settings.is_among.Goals as goal

pub returns : goal.returns
returns c = c.is_set.ensures ∙ set_among c.args.sets.now c.args.name.now
