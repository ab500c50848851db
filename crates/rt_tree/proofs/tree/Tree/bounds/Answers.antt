use Rattle.std.proofs.Common.{◌≡◌, ◌↔◌, List, [], IsNone, ap, sym, ◌∙◌, subst}
use Rattle.std.specs.Option.{IfSome}
use Rattle.rt_tree_walk.specs.declared.searching.Row.{Row}
use Rattle.rt_tree_walk.specs.Rows.{rows_in}
use Rattle.rt_tree.specs.Bounds.{IsLeastAround}
use Rattle.rt_tree.specs.Lists.{TreeLists, rows_of}
use Rattle.rt_tree.proofs.Around.{bounds-are}
use Rattle.rt_tree.proofs.Kept.{settled}
use Rattle.rt_tree.proofs.Nearby.{rows-listed}
use Rattle.rt_tree.proofs.tree.Tree.bounds.Goals as goal

pub returns-clause-none : goal.returns-clause-none
returns-clause-none g c =
    let t = c.self.inside.arena in
    let s = settled c.self.inside c.self.invariant in
    let own : rows_in t ≡ rows_of c.args.self.now.lists = sym (rows-listed t s) ∙ ap (λ (v : TreeLists g.row.D). rows_of v.lists) c.self.view_is in
    subst (λ (rows : List (Row g.row.D)). IsNone c.root_box.result ↔ (rows ≡ [])) own (bounds-are t s c.root_box.result c.root_box.ensures).0

pub returns-clause-some : goal.returns-clause-some
returns-clause-some g c =
    let t = c.self.inside.arena in
    let s = settled c.self.inside c.self.invariant in
    let own : rows_in t ≡ rows_of c.args.self.now.lists = sym (rows-listed t s) ∙ ap (λ (v : TreeLists g.row.D). rows_of v.lists) c.self.view_is in
    subst (λ (rows : List (Row g.row.D)). IfSome c.root_box.result (IsLeastAround rows)) own (bounds-are t s c.root_box.result c.root_box.ensures).1
