use Rattle.std.proofs.Common.{◌≤◌, ◌+◌, rules, w64, FitsSigned, sym, subst}
use Rattle.std.proofs.lemmas.Int.{to_z-of_z}
use Rattle.rt_table_row.specs.declared.entry.Step.{Step}
use Rattle.rt_table_row.specs.Entries.{step_of}
use Rattle.rt_table_step.specs.Steps.{inserts, auxiliary_rows_of}
use Rattle.rt_table_step.proofs.StepCounts.{auxiliary_left}
use Rattle.rt_table_step.proofs.steps.apply_step.Goals as goal

pub returns-in-Becomes-clause-tree : goal.returns-in-Becomes-clause-tree
returns-in-Becomes-clause-tree g c =
    let fits : FitsSigned w64 c.in-Becomes.id = search rules in
    rw c.in-Becomes.is (rw (to_z-of_z w64 c.in-Becomes.id fits) at c.replace.ensures.tree)

pub returns-in-Comes-clause-room : goal.returns-in-Comes-clause-room
returns-in-Comes-clause-room g c = subst (λ (step : Step g.row.D). c.args.store.now.room ≤ c.insert.new.self.room + inserts (step_of step)) (sym c.in-Comes.is) c.insert.ensures.room

pub returns-in-Comes-clause-auxiliary : goal.returns-in-Comes-clause-auxiliary
returns-in-Comes-clause-auxiliary g c =
    subst (λ (step : Step g.row.D). c.args.store.now.auxiliary_room ≤ c.insert.new.self.auxiliary_room + auxiliary_rows_of (step_of step)) (sym c.in-Comes.is)
    (auxiliary_left c.in-Comes.row.auxiliary c.args.store.now.auxiliary_room c.insert.new.self.auxiliary_room c.insert.ensures.auxiliary_room c.insert.ensures.no_auxiliary)

pub returns-in-Becomes-clause-room : goal.returns-in-Becomes-clause-room
returns-in-Becomes-clause-room g c = subst (λ (step : Step g.row.D). c.args.store.now.room ≤ c.replace.new.self.room + inserts (step_of step)) (sym c.in-Becomes.is) c.replace.ensures.room

pub returns-in-Becomes-clause-auxiliary : goal.returns-in-Becomes-clause-auxiliary
returns-in-Becomes-clause-auxiliary g c =
    subst (λ (step : Step g.row.D). c.args.store.now.auxiliary_room ≤ c.replace.new.self.auxiliary_room + auxiliary_rows_of (step_of step)) (sym c.in-Becomes.is)
    (auxiliary_left c.in-Becomes.row.auxiliary c.args.store.now.auxiliary_room c.replace.new.self.auxiliary_room c.replace.ensures.auxiliary_room c.replace.ensures.no_auxiliary)
