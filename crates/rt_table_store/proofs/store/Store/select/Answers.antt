use Rattle.std.proofs.Common.{◌≡◌, List, Vec, Global}
use Rattle.std.proofs.lemmas.Result.{IfOk-weaker}
use Rattle.rt_box.specs.declared.interval.Interval.{Interval}
use Rattle.rt_box.specs.Window.{IsUnlimited}
use Rattle.rt_tree_walk.specs.declared.searching.Found.{Found}
use Rattle.rt_tree_walk.specs.declared.searching.Row.{Row}
use Rattle.rt_table_store.specs.Visiting.{Visits}
use Rattle.rt_table_store.specs.Picking.{VisitsBy}
use Rattle.rt_table_store.specs.declared.select.Nodes.TheVariants.{Counted}
use Rattle.rt_table_store.proofs.store.Store.select.Goals as goal

pub returns-in-Some-clause-visited : goal.returns-in-Some-clause-visited
returns-in-Some-clause-visited g c =
    IfOk-weaker c.select_by_id.result (λ found. (window : List Interval) → IsUnlimited g.row.D window → Visits c.args.self.now.tree window found.visited)
    (λ found. c.args.nodes ≡ Counted → VisitsBy c.args.condition.now c.args.self.now.tree found.visited)
    (λ (found : Found (Vec (Row g.row.D) Global)) h. λ counted. let free = c.in-Some.ensures.window counted in (free.0, free.1, h free.0 free.2))
    c.select_by_id.ensures.visited

pub returns-clause-visited : goal.returns-clause-visited
returns-clause-visited g c =
    IfOk-weaker c.select_by_window.result (λ found. Visits c.args.self.now.tree c.window-window.result found.visited)
    (λ found. c.args.nodes ≡ Counted → VisitsBy c.args.condition.now c.args.self.now.tree found.visited)
    (λ (found : Found (Vec (Row g.row.D) Global)) h. λ _. (c.window-window.result, c.window-window.ensures, h))
    c.select_by_window.ensures.visited
