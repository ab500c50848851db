use Rattle.std.proofs.Common.{sym}
use Rattle.rt_table_row.specs.Filters.{admits}
use Rattle.rt_table_store.proofs.Admitted.{all_pass}
use Rattle.rt_table_store.proofs.store.Store.tested_rows.Goals as goal

pub returns-then-is_said : goal.returns-then-is_said
returns-then-is_said g c =
    sym (all_pass c.args.self.now.rows c.args.window.now (admits c.args.condition.now)
    (λ row admitted. c.is_said.ensures.all c.if-is_said.true c.args.window.now row c.requires.window admitted)
    c.args.rows.items c.requires.stand c.requires.admitted)
