use Rattle.std.proofs.Common.{length, ap, arith, subst, sym}
use Rattle.std.proofs.lemmas.Result.{IfOk-weaker}
use Rattle.rt_tree_walk.specs.Search.{FindsAfter}
use Rattle.rt_tree.specs.Lists.{TreeLists}
use Rattle.rt_tree.specs.Search.{FindsIn, FindsInAfter, CountsIn}
use Rattle.rt_tree.proofs.Kept.{settled}
use Rattle.rt_tree.proofs.Finds.{finds-in, counts-back}
use Rattle.rt_tree.proofs.Shape.{nodes-long}
use Rattle.rt_tree.proofs.tree.Tree.search_into.Goals as goal

pub returns-clause-ok : goal.returns-clause-ok
returns-clause-ok g c =
    let old = c.args.rows.now.items in
    let new = c.search_into.new.rows.items in
    IfOk-weaker c.search_into.result (λ visited. FindsAfter c.self.inside.arena c.args.window.now old new visited)
    (λ visited. FindsInAfter c.args.self.now.lists c.args.window.now old new visited)
    (λ visited h. record {
      more = h.more;
      is = h.is;
      finds = subst (λ (v : TreeLists g.row.D). FindsIn v.lists c.args.window.now h.more visited) c.self.view_is
          (finds-in c.self.inside.arena (settled c.self.inside c.self.invariant) c.args.window.now h.more visited h.finds);
    })
    c.search_into.ensures.ok

pub returns-clause-succeeds : goal.returns-clause-succeeds
returns-clause-succeeds g c = λ room.
    let s = settled c.self.inside c.self.invariant in
    c.search_into.ensures.succeeds (record {
      count = room.count;
      counts = counts-back c.self.inside.arena s c.args.window.now room.count
          (subst (λ (v : TreeLists g.row.D). CountsIn v.lists c.args.window.now room.count) (sym c.self.view_is) room.counts);
      rows_fit = room.rows_fit;
      nodes_fit = omega (arith, nodes-long c.self.inside.arena s, ap (λ (v : TreeLists g.row.D). length v.lists.nodes) c.self.view_is, room.nodes_fit);
    })
