use Rattle.std.proofs.Common.{◌≡◌, ◌+◌, ◌∷◌, ◌++◌, List, [], take, map, rules, ap, ◌∙◌, sym, subst}
use Rattle.std.specs.List.{All}
use Rattle.std.proofs.lemmas.List.{map-append, take_more}
use Rattle.std.proofs.lemmas.List.Elements.{All-push}
use Rattle.rt_check.specs.declared.node.NodeRow.{NodeRow}
use Rattle.rt_map.specs.declared.shape.Shape.{Shape}
use Rattle.rt_map.specs.ReadingInside.{shape_in}
use Rattle.rt_tree_one.specs.Laws.{HaveAxes}
use Rattle.rt_map.proofs.shadows.shapes_of.Goals as goal

pub loop-node-preserved : goal.loop-node-preserved
loop-node-preserved g c =
    let nodes = c.nodes-node-items.result.now in
    let node = c.node-item.result in
    let i = c.loop-node.node-index in
    let same : c.nodes-node-items.result.now ≡ c.args.shadow.now.nodes = c.nodes-node-items.ensures.value in
    let next : take (i + 1) nodes ≡ take i nodes ++ node ∷ [] =
    take_more nodes i node c.loop-node-test.true ∙ ap (λ (x : NodeRow g.row.D). take i nodes ++ x ∷ []) (sym c.node-item.is) in
    let shapes : c.loop-node.shapes.items ≡ map shape_in (take i nodes) = c.loop-node.invariant.shapes ∙ ap (λ (ns : List (NodeRow g.row.D)). map shape_in (take i ns)) (sym same) in
    let axes : All HaveAxes (take i nodes) = subst (λ (ns : List (NodeRow g.row.D)). All HaveAxes (take i ns)) (sym same) c.loop-node.invariant.axes in
    let pushed : c.push.new.self.items ≡ c.loop-node.shapes.items ++ shape_in node ∷ [] = search rules in
    record {
      shapes = pushed ∙ ap (λ (xs : List Shape). xs ++ shape_in node ∷ []) shapes ∙ sym (map-append shape_in (take i nodes) (node ∷ []))
          ∙ ap (map shape_in) (sym next) ∙ ap (λ (ns : List (NodeRow g.row.D)). map shape_in (take (i + 1) ns)) same;
      axes = subst (λ (ns : List (NodeRow g.row.D)). All HaveAxes (take (i + 1) ns)) same
          (subst (All HaveAxes) (sym next) (All-push HaveAxes (take i nodes) node axes c.have_axes.ensures));
    }
