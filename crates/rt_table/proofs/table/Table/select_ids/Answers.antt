use Rattle.rt_table.specs.TableInside.{contents}
use Rattle.rt_table.proofs.Viewing.{selected_ids}
use Rattle.rt_table.proofs.table.Table.select_ids.Goals as goal

pub returns-clause-ok : goal.returns-clause-ok
returns-clause-ok g c = rw (← c.self.view_is) (selected_ids (contents c.self.inside).lists c.args.cond c.in_ok-condition.condition c.in_ok-condition.ensures _ c.in_ok-ids.ensures)
