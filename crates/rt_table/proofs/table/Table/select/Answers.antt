use Rattle.std.proofs.Common.{ℕ, sym, subst}
use Rattle.rt_table_row.specs.Windows.{IsWindowAt}
use Rattle.rt_table_row.proofs.Windows.{window-of}
use Rattle.rt_table.specs.TableInside.{contents}
use Rattle.rt_table.proofs.Viewing.{selected}
use Rattle.rt_table.proofs.table.Table.select.Goals as goal

pub returns-clause-ok : goal.returns-clause-ok
returns-clause-ok g c = rw (← c.self.view_is) (selected (contents c.self.inside).lists c.args.cond c.in_ok-condition.condition c.in_ok-condition.ensures _ c.in_ok-select.ensures.rows)

pub returns-clause-visited : goal.returns-clause-visited
returns-clause-visited g c =
    rw (← c.self.view_is) (λ counted.
    let visited = c.in_ok-select.ensures.visited counted in
    let window = visited.0 in
    let at : IsWindowAt c.self.inside.columns.axes c.in_ok-condition.condition window =
    subst (λ (n : ℕ). IsWindowAt n c.in_ok-condition.condition window) (sym c.self.invariant.axes_are) visited.1 in
    (window, window-of c.self.inside.columns c.args.cond c.in_ok-condition.condition window c.in_ok-condition.ensures at, visited.2))
