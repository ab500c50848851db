use Rattle.rt_table_plan.proofs.update.set_row.Goals as goal

pub returns : goal.returns
returns g c = λ now knows. rw c.in_ok-new.ensures (c.replace_row.ensures now knows)
