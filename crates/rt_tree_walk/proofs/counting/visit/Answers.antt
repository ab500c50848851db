use Rattle.std.proofs.Common.{rules, arith, ◌≡◌, ℕ, ◌≤◌, Option, None, Some, IsSome, refl, sym, subst, inl, inr}
use Rattle.std.proofs.lemmas.Bool.{true≢false}
use Rattle.slab.specs.Slab.{get}
use Rattle.rt_tree_node.specs.Node.{NodeCells}
use Rattle.rt_tree_node.specs.Places.{level_of}
use Rattle.rt_tree_walk.specs.Visits.{keys_of, VisitsCounting}
use Rattle.rt_tree_walk.proofs.Inside.{visits-counting_all}
use Rattle.rt_tree_walk.proofs.counting.visit.Goals as goal

pub node_at-node-requires : goal.node_at-node-requires
node_at-node-requires g c = let few : g.row.D ≤ 3 = c.requires.few in search rules

level-there : {D : ℕ} (o : Option (NodeCells D)) → IsSome o → (l : ℕ) × (level_of o ≡ Some l)
level-there None some = absurd (true≢false (sym some))
level-there (Some n) some = (n.level, refl)

pub returns-in-Some-clause-count : goal.returns-in-Some-clause-count
returns-in-Some-clause-count g c =
    let a = c.args.tree.now.nodes in
    let at = level-there (get a c.args.next.key) c.requires.present in
    inr (record {
      inside = c.requires.mark c.in-Some.ensures.inside;
      level = at.0;
      level_is = at.1;
      counted = c.in-Some.ensures.below at.0 at.1;
      same = refl;
    })

pub returns-then-next-clause-count : goal.returns-then-next-clause-count
returns-then-next-clause-count g c =
    let a = c.args.tree.now.nodes in
    let window = c.args.query.now.window in
    let keys = keys_of c.args.reached.now.items in
    inl
    (subst (λ (count : ℕ). VisitsCounting a window c.args.next.key count keys keys) (sym c.len.ensures.value)
    (visits-counting_all a window c.args.next.key c.node_at-node.result.now c.node_at-node.ensures
    (omega (arith, c.if-level-gt0.false, c.level.ensures)) (c.requires.mark c.if-next.true).cells keys))
