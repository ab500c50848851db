use Rattle.std.proofs.Common.{subst, Vec, Global}
use Rattle.std.proofs.lemmas.Result.{IfOk-weaker}
use Rattle.rt_tree_walk.specs.declared.searching.Found.{Found}
use Rattle.rt_tree_walk.specs.declared.searching.Row.{Row}
use Rattle.rt_tree_walk.specs.Search.{Finds}
use Rattle.rt_tree.specs.Lists.{TreeLists}
use Rattle.rt_tree.specs.Search.{FindsIn}
use Rattle.rt_tree.proofs.Kept.{settled}
use Rattle.rt_tree.proofs.Finds.{finds-in}
use Rattle.rt_tree.proofs.tree.Tree.search.Goals as goal

pub returns : goal.returns
returns g c =
    IfOk-weaker c.search.result (λ found. Finds c.self.inside.arena c.args.window.now found.rows.items found.visited)
    (λ found. FindsIn c.args.self.now.lists c.args.window.now found.rows.items found.visited)
    (λ (found : Found (Vec (Row g.row.D) Global)) h.
    subst (λ (v : TreeLists g.row.D). FindsIn v.lists c.args.window.now found.rows.items found.visited) c.self.view_is
    (finds-in c.self.inside.arena (settled c.self.inside c.self.invariant) c.args.window.now found.rows.items found.visited h))
    c.search.ensures
