use Rattle.std.proofs.Common.{ℕ, List, [], length, Contains, arith, ap, ◌∙◌, sym, subst}
use Rattle.slab.specs.Slab.{Slab}
use Rattle.rt_tree_node.specs.Node.{NodeCells}
use Rattle.rt_tree_node.specs.Places.{level_at}
use Rattle.rt_tree_node.specs.Below.{rows_below}
use Rattle.rt_tree_node.specs.Sound.{IsLinked}
use Rattle.rt_tree_node.specs.Sums.{sum_at}
use Rattle.rt_tree_node.proofs.Summed.{known}
use Rattle.rt_tree_node.proofs.nodes.Nodes.rows_below.Goals as goal

pub returns : goal.returns
returns g c l lev =
    let a = c.self.inside.slab in
    let sums = c.self.inside.sums.items in
    let stale = c.self.inside.stale.items in
    let right = c.if-not-are_right.false in
    let none : (k : ℕ) → Contains stale k → ⊥ = λ k there.
    let some = there.1 in
    omega (arith, some, c.are_right.ensures.none right, ap length c.as_slice.ensures.value) in
    let linked : IsLinked a c.requires.root c.requires.level [] = subst (λ (s : Slab (NodeCells g.row.D)). IsLinked s c.requires.root c.requires.level []) (sym c.self.view_is) c.requires.linked in
    c.sum_of.ensures ∙ ap (λ (xs : List ℕ). sum_at xs c.args.key) c.as_slice-2.ensures.value
    ∙ known a c.requires.root c.requires.level linked sums (Contains stale) none (c.self.invariant.sums (c.are_right.ensures.known right)) l c.args.key
    (ap (λ (s : Slab (NodeCells g.row.D)). level_at s c.args.key) c.self.view_is ∙ lev)
    ∙ ap (λ (s : Slab (NodeCells g.row.D)). length (rows_below s l c.args.key)) c.self.view_is
