use Rattle.std.proofs.Common.{rules}
use Rattle.rt_table_row.proofs.Setting.{length-own_fills}
use Rattle.rt_table_row.proofs.settings.Settings.new_entry.Goals as goal

pub entry_of-requires : goal.entry_of-requires
entry_of-requires g c =
    let long = rw (← c.self.view_is, length-own_fills 0 c.self.inside.readings.items) at c.requires.long in (
      search rules,
      (
        search rules,
        (
          search rules,
          (
            search rules,
            rw c.as_slice.ensures.value long,
          ),
        ),
      ),
    )

pub returns : goal.returns
returns g c = rw (← c.self.view_is, ← c.as_slice.ensures.value) c.entry_of.ensures
