use Rattle.std.proofs.Common.{Some, refl, subst}
use Rattle.rt_tree_node.specs.Changes.{Changes}
use Rattle.rt_tree_place.proofs.attaching.attach.Goals as goal

pub returns : goal.returns
returns g c = record {
  rest = refl;
  row = λ e. absurd (c.if-entry-eq0.false e);
  child = λ some. (
    refl,
    c.set_parent.new.nodes,
    subst (λ k. Changes (λ n. record n { parent = Some c.args.key }) c.args.tree.now.nodes c.set_parent.new.nodes k) c.key.ensures c.set_parent.ensures,
    c.add_cell-2.ensures,
  );
}
