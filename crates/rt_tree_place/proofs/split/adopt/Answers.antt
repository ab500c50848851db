use Rattle.std.proofs.Common.{Some, take, arith, ap, ◌∙◌, sym, subst, rules}
use Rattle.slab.specs.Slab.{get, ContainsKey}
use Rattle.rt_tree_node.specs.Places.{key_of, picked}
use Rattle.rt_tree_node.specs.Changes.{Puts}
use Rattle.rt_tree_place.specs.Steps.{Adopts}
use Rattle.rt_tree_place.proofs.Adopted.{picked-more, at-picked, kept-present, some-node, adopts-more}
use Rattle.rt_tree_place.proofs.split.adopt.Goals as goal

pub set_parent-requires : goal.set_parent-requires
set_parent-requires g c =
    let few = c.requires.few in
    let old : ContainsKey c.args.nodes.now (key_of c.cell-cell.result) =
    at-picked (λ q. ContainsKey c.args.nodes.now (key_of q)) c.args.from.now.cells c.args.positions.now c.loop-at.at-index c.cell-cell.result (omega arith)
    c.requires.within c.cell-cell.ensures c.requires.present in
    let here : ContainsKey c.loop-at.nodes c.key.result =
    subst (λ k. ContainsKey c.loop-at.nodes k) (sym c.key.ensures)
    (kept-present c.args.nodes.now c.loop-at.nodes (key_of c.cell-cell.result) (c.loop-at.invariant.levels (key_of c.cell-cell.result)) old) in
    search rules

pub loop-at-preserved : goal.loop-at-preserved
loop-at-preserved g c =
    let old : ContainsKey c.args.nodes.now (key_of c.cell-cell.result) =
    at-picked (λ q. ContainsKey c.args.nodes.now (key_of q)) c.args.from.now.cells c.args.positions.now c.loop-at.at-index c.cell-cell.result (omega arith)
    c.requires.within c.cell-cell.ensures c.requires.present in
    let found = some-node (get c.loop-at.nodes (key_of c.cell-cell.result))
    (kept-present c.args.nodes.now c.loop-at.nodes (key_of c.cell-cell.result) (c.loop-at.invariant.levels (key_of c.cell-cell.result)) old) in
    let n = found.0 in
    let step : Puts c.loop-at.nodes c.set_parent.new.nodes (key_of c.cell-cell.result) (record n { parent = Some c.args.key }) =
    subst (λ k. Puts c.loop-at.nodes c.set_parent.new.nodes k (record n { parent = Some c.args.key })) c.key.ensures
    (c.set_parent.ensures n (ap (get c.loop-at.nodes) c.key.ensures ∙ found.1)) in
    subst (λ cs. Adopts c.args.nodes.now c.set_parent.new.nodes c.args.key cs)
    (sym (picked-more c.args.from.now.cells c.args.positions.now c.loop-at.at-index c.cell-cell.result (omega arith) c.requires.within c.cell-cell.ensures))
    (adopts-more c.args.nodes.now c.loop-at.nodes c.set_parent.new.nodes c.args.key (picked c.args.from.now.cells (take c.loop-at.at-index c.args.positions.now)) c.cell-cell.result n
    found.1 c.loop-at.invariant step)
