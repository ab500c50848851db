use Rattle.std.proofs.Common.{List, ap, ◌∙◌}
use Rattle.std.specs.List.{count_by}
use Rattle.std.proofs.lemmas.Result.{IfOk-weaker}
use Rattle.rt_tree_walk.specs.declared.searching.Row.{Row}
use Rattle.rt_tree_join.specs.Join.{touching_within, JoinsItself}
use Rattle.rt_map.specs.Join.{JoinsItselfIn}
use Rattle.rt_map.proofs.Listed.{listed}
use Rattle.rt_map.proofs.pairs.join_self.Goals as goal

pub returns : goal.returns
returns g c =
    let t = c.arena.result.now in
    let own = listed t c.args.tree.now.spare c.args.tree.now.lists c.arena.ensures.kept c.arena.ensures.lists in
    IfOk-weaker c.join_self.result (λ pairs. JoinsItself t pairs.items) (λ pairs. JoinsItselfIn c.args.tree.now.lists pairs.items)
    (λ pairs h. record {
      each = λ test. h.each test ∙ ap (λ (rows : List (Row g.row.D)). count_by test (touching_within rows)) own;
      once = h.once;
    })
    c.join_self.ensures
