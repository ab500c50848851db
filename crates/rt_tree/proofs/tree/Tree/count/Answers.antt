use Rattle.std.proofs.Common.{ℕ, ◌∙◌, subst}
use Rattle.std.proofs.lemmas.Result.{IfOk-weaker}
use Rattle.rt_tree_walk.specs.Search.{Counts}
use Rattle.rt_tree.specs.Lists.{TreeLists}
use Rattle.rt_tree.specs.Search.{CountsIn}
use Rattle.rt_tree.proofs.Kept.{settled}
use Rattle.rt_tree.proofs.Finds.{counts-in}
use Rattle.rt_tree.proofs.Everything.{counts-all}
use Rattle.rt_tree.proofs.tree.Tree.count.Goals as goal

pub returns : goal.returns
returns g c =
    IfOk-weaker c.count.result (λ n. Counts c.self.inside.arena c.args.window.now n)
    (λ n. CountsIn c.args.self.now.lists c.args.window.now n)
    (λ (n : ℕ) h.
    subst (λ (v : TreeLists g.row.D). CountsIn v.lists c.args.window.now n) c.self.view_is
    (counts-in c.self.inside.arena (settled c.self.inside c.self.invariant) c.args.window.now n h))
    c.count.ensures

pub returns-then-admits_root : goal.returns-then-admits_root
returns-then-admits_root g c =
    let t = c.self.inside.arena in
    subst (λ (v : TreeLists g.row.D). CountsIn v.lists c.args.window.now c.len.result) c.self.view_is
    (counts-all t (settled c.self.inside c.self.invariant) c.args.window.now (c.admits_root.ensures c.if-admits_root.true) c.len.result
    (c.len.ensures.len ∙ c.self.invariant.ids))
