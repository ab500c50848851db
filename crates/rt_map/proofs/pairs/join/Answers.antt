use Rattle.std.proofs.Common.{List, ap, ◌∙◌}
use Rattle.std.specs.List.{count_by}
use Rattle.std.proofs.lemmas.Result.{IfOk-weaker}
use Rattle.rt_tree_walk.specs.declared.searching.Row.{Row}
use Rattle.rt_tree_walk.specs.Rows.{rows_in}
use Rattle.rt_tree_join.specs.Join.{touching_pairs, Joins}
use Rattle.rt_tree.specs.Lists.{rows_of}
use Rattle.rt_map.specs.Join.{JoinsIn}
use Rattle.rt_map.proofs.Listed.{listed}
use Rattle.rt_map.proofs.pairs.join.Goals as goal

pub returns : goal.returns
returns g c =
    let t = c.arena.result.now in
    let u = c.arena-2.result.now in
    let own = listed t c.args.tree.now.spare c.args.tree.now.lists c.arena.ensures.kept c.arena.ensures.lists in
    let others = listed u c.args.other.now.spare c.args.other.now.lists c.arena-2.ensures.kept c.arena-2.ensures.lists in
    IfOk-weaker c.join.result (λ pairs. Joins t u pairs.items) (λ pairs. JoinsIn c.args.tree.now.lists c.args.other.now.lists pairs.items)
    (λ pairs h. record {
      each = λ test.
          h.each test ∙ ap (λ (rows : List (Row g.row.D)). count_by test (touching_pairs rows (rows_in u))) own
          ∙ ap (λ (rows : List (Row g.row.D)). count_by test (touching_pairs (rows_of c.args.tree.now.lists) rows)) others;
      once = h.once;
    })
    c.join.ensures
