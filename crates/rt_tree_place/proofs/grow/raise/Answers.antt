use Rattle.std.proofs.Common.{◌≡◌, suc, ◌+◌, [], None, Some, arith, ap, ◌∙◌, sym, subst}
use Rattle.slab.specs.Slab.{Updates}
use Rattle.rt_box.specs.Rect.{IsBox}
use Rattle.rt_tree_node.specs.Node.{NodeCells}
use Rattle.rt_tree_node.specs.declared.arena.Arena.{Arena}
use Rattle.rt_tree_place.specs.Steps.{Attaches}
use Rattle.rt_tree_place.proofs.Raised.{raised}
use Rattle.rt_tree_place.proofs.grow.raise.Goals as goal

pub returns : goal.returns
returns g c =
    let t = c.args.tree.now in
    let b = c.add_node-root.new.nodes in
    let k = c.add_node-root.result in
    let cell = c.cell_for-cell.result in
    let higher : t.level + 1 ≡ suc t.level = omega arith in
    let node : _ → NodeCells g.row.D = λ l. record { level = l; parent = None; cells = [] } in
    let made : c.new.result ≡ node (suc t.level) = c.new.ensures ∙ ap node higher in
    let u : Updates t.nodes b k (Some (node (suc t.level))) = subst (λ m. Updates t.nodes b k (Some m)) made c.add_node-root.ensures.updates in
    let between : _ → Arena g.row.D = λ l. record t { nodes = b; root = k; level = l } in
    raised t c.requires.rising b k cell c.add_node-root.ensures.was_vacant u c.cell_for-cell.ensures.number
    (subst (IsBox g.row.D) (sym c.cell_for-cell.ensures.rect) c.hull_at-hull.ensures.is_box) c.attach.new.tree
    (subst (λ l. Attaches (between l) c.attach.new.tree k record { level = l; cell = cell }) higher c.attach.ensures)
    c.add_node-root.ensures.len c.add_node-root.ensures.capacity c.requires.full
