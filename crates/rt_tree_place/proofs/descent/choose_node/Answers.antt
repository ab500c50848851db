use Rattle.std.proofs.Common.{◌≡◌, suc, ◌-◌, ◌≤◌, [], ◌∷◌, length, arith, refl, subst, rules}
use Rattle.slab.specs.Slab.{ContainsKey}
use Rattle.rt_tree_node.specs.Places.{cells_at}
use Rattle.rt_tree_place.specs.Path.{LeadsTo}
use Rattle.rt_tree_place.proofs.WayDown.{present, inner-some, descent-step, step-named}
use Rattle.rt_tree_place.proofs.descent.choose_node.Goals as goal

pub best_child-key-requires : goal.best_child-key-requires
best_child-key-requires g c =
    let few = c.facts.ensures.few in
    let here : ContainsKey c.args.nodes.now c.loop-height.key = present c.args.nodes.now c.loop-height.key c.loop-height.height c.loop-height.invariant.here in
    let some : 1 ≤ length (cells_at c.args.nodes.now c.loop-height.key) =
    inner-some c.args.nodes.now c.args.root c.args.level c.loop-height.key c.loop-height.height c.requires.passable c.loop-height.invariant.here (omega (arith, c.loop-height-test.true)) in
    search rules

pub loop-height-preserved : goal.loop-height-preserved
loop-height-preserved g c =
    let step = descent-step c.args.nodes.now c.args.root c.args.level c.args.target c.loop-height.key c.loop-height.height c.args.rect.now c.best_child-key.result c.requires.passable
    c.loop-height.invariant.here (omega (arith, c.loop-height-test.true)) c.best_child-key.ensures in
    record {
      here = step.0;
      above = omega (arith, c.loop-height-test.true);
      way = (
        suc c.loop-height.invariant.way.0,
        step-named c.args.nodes.now c.args.root c.args.level c.loop-height.invariant.way.0 c.loop-height.key c.loop-height.height c.args.rect.now c.best_child-key.result
            c.requires.passable c.loop-height.invariant.here (omega (arith, c.loop-height-test.true)) c.best_child-key.ensures c.loop-height.invariant.way.1,
      );
      path = λ node rest below. let up = step.1 node rest below in c.loop-height.invariant.path node up.0 up.1;
    }

pub returns-clause-path : goal.returns-clause-path
returns-clause-path g c =
    let bottom : 0 ≡ c.loop-height.height - c.args.target = omega (arith, c.loop-height-test.false, c.loop-height.invariant.above) in
    c.loop-height.invariant.path c.loop-height.key (c.loop-height.key ∷ [])
    (subst (λ n. LeadsTo c.args.nodes.now c.args.target n c.loop-height.key c.args.rect.now c.loop-height.key (c.loop-height.key ∷ [])) bottom (refl, refl))
