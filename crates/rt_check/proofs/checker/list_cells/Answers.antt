use Rattle.std.proofs.Common.{◌≡◌, ◌++◌, ◌<◌, ◌+◌, List, sym, ◌∙◌, ap, arith, length, get_or, drop}
use Rattle.std.specs.List.{flat_map}
use Rattle.rt_check.specs.declared.problem.Problem.{Problem}
use Rattle.rt_check.specs.declared.node.NodeRow.{NodeRow}
use Rattle.rt_check.specs.Conditions.{cell_problems_of}
use Rattle.rt_check.specs.ProblemLists.{condition_of, meets_condition}
use Rattle.rt_check.proofs.Listing.{flat_map-adds}
use Rattle.rt_check.proofs.checker.list_cells.Goals as goal

pub loop-node-preserved : goal.loop-node-preserved
loop-node-preserved g c =
    let nodes = c.args.shadow.now.nodes in
    let i = c.loop-node.node-index in
    let d = c.node-item.result in
    let of_node : NodeRow g.row.D → List Problem =
    cell_problems_of (condition_of c.args.condition) (meets_condition c.args.shadow.now c.args.condition) in
    let this : get_or nodes i d ≡ d = ap (λ l. get_or l i d) (sym c.nodes-node-items.ensures.value) ∙ sym c.node-item.is in
    let same : length c.nodes-node-items.result.now ≡ length nodes = ap length c.nodes-node-items.ensures.value in
    let within : i < length nodes = omega (arith, same, c.loop-node-test.true) in
    let added : c.list_cells_of.new.problems.items ≡ c.loop-node.problems.items ++ of_node (get_or nodes i d) =
    c.in_ok-list_cells_of.ensures ∙ ap (λ n. c.loop-node.problems.items ++ of_node n) (sym this) in
    ap (λ l. l ++ flat_map of_node (drop (i + 1) nodes)) added ∙ flat_map-adds of_node _ _ nodes i d within c.loop-node.invariant
