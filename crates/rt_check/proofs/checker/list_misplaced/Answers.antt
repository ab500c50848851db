use Rattle.std.proofs.Common.{◌≡◌, ◌++◌, ◌∷◌, [], Bool, sym, ◌∙◌, ap, arith, length, get_or, min, ◌<◌, ◌+◌, drop, rules}
use Rattle.rt_check.specs.declared.problem.Problem.{Problem}
use Rattle.rt_check.specs.declared.node.NodeRow.{NodeRow}
use Rattle.rt_check.specs.declared.problem.Condition.TheVariants.{HasPlace}
use Rattle.rt_check.specs.Conditions.{has_place, times_named, inner_cells, failing}
use Rattle.rt_check.proofs.Tallies.{tallies-at}
use Rattle.rt_check.proofs.Listing.{failing-fails}
use Rattle.rt_check.proofs.checker.list_misplaced.Goals as goal

pub has_place-requires : goal.has_place-requires
has_place-requires g c =
    let nodes = c.args.shadow.now.nodes in
    let this : get_or nodes c.loop-index.index c.node-item.result ≡ c.node-item.result =
    ap (λ l. get_or l c.loop-index.index c.node-item.result) (sym c.nodes-node-items.ensures.value) ∙ sym c.node-item.is in
    let same : length c.nodes-node-items.result.now ≡ length nodes = ap length c.nodes-node-items.ensures.value in
    let within : c.loop-index.index < length nodes = omega (arith, same, c.loop-index-test.true) in
    let counted : get_or c.args.named.now c.loop-index.index 0 ≡ min 2 (times_named c.node-item.result.number (inner_cells nodes)) =
    ap (λ l. get_or l c.loop-index.index 0) c.requires
    ∙ tallies-at (λ (n : NodeRow g.row.D). n.number) nodes (inner_cells nodes) c.loop-index.index c.node-item.result within
    ∙ ap (λ n. min 2 (times_named n.number (inner_cells nodes))) this in
    search rules

pub loop-index-preserved : goal.loop-index-preserved
loop-index-preserved g c =
    let nodes = c.args.shadow.now.nodes in
    let i = c.loop-index.index in
    let d = c.node-item.result in
    let test : NodeRow g.row.D → Bool = has_place c.args.shadow.now in
    let entry : NodeRow g.row.D → Problem = λ n. record { condition = HasPlace; node = n.number; position = 0 } in
    let this : get_or nodes i d ≡ d = ap (λ l. get_or l i d) (sym c.nodes-node-items.ensures.value) ∙ sym c.node-item.is in
    let same : length c.nodes-node-items.result.now ≡ length nodes = ap length c.nodes-node-items.ensures.value in
    let within : i < length nodes = omega (arith, same, c.loop-index-test.true) in
    let added : c.push.new.self.items ≡ c.loop-index.problems.items ++ entry (get_or nodes i d) ∷ [] =
    c.in_ok-push.ensures.items ∙ ap (λ p. c.loop-index.problems.items ++ p ∷ []) (c.node_problem.ensures ∙ ap entry (sym this)) in
    ap (λ l. l ++ failing test entry (drop (i + 1) nodes)) added
    ∙ failing-fails test entry _ _ nodes i d within (ap test this ∙ sym c.if-has_place.ensures) c.loop-index.invariant
