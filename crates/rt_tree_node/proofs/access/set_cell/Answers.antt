use Rattle.std.proofs.Common.{rules, ◌≡◌, ◌<◌, ◌≤◌, length, Contains, arith, refl, ap, ◌∙◌, sym}
use Rattle.slab.specs.Slab.{Slab}
use Rattle.rt_tree_node.specs.declared.cell.Cell.{Cell}
use Rattle.rt_tree_node.specs.Node.{NodeCells}
use Rattle.rt_tree_node.specs.Places.{cells_of, cells_at}
use Rattle.rt_tree_node.specs.Sums.{total}
use Rattle.rt_tree_node.proofs.Summed.{set-logged, set-even, total-set}
use Rattle.rt_tree_node.proofs.access.set_cell.Goals as goal

pub cell-was-requires : goal.cell-was-requires
cell-was-requires g c = let few : g.row.D ≤ 3 = c.nodes.invariant.few in search rules

pub set-requires : goal.set-requires
set-requires g c = let few : g.row.D ≤ 3 = c.nodes.invariant.few in search rules

pub invariant_of-nodes : goal.invariant_of-nodes
invariant_of-nodes g c = record {
  few = c.nodes.invariant.few;
  sums = set-logged c.nodes.inside.slab c.nodes.inside.sums.items c.args.key c.index.result c.index.ensures c.set.new.self
      c.nodes.inside.stale.items c.log.new.stale.items c.nodes.inside.is_lost c.log.new.is_lost c.log.ensures c.nodes.invariant.sums;
}

pub invariant_of-nodes-else-was-cell : goal.invariant_of-nodes-else-was-cell
invariant_of-nodes-else-was-cell g c =
    let sums = c.nodes.inside.sums.items in
    let n = c.index_mut-node.result.now in
    let cells : cells_at c.args.nodes.now c.args.key ≡ n.cells =
    ap (λ (s : Slab (NodeCells g.row.D)). cells_at s c.args.key) (sym c.nodes.view_is) ∙ ap (cells_at c.nodes.inside.slab) (sym c.index.ensures)
    ∙ ap cells_of c.index_mut-node.ensures.value in
    let within : c.args.at < length n.cells = omega (arith, c.requires.within, ap length cells) in
    let number : c.cell-was.result.number ≡ c.args.cell.now.number = search rules in
    record {
      few = c.nodes.invariant.few;
      sums = λ known. set-even c.nodes.inside.slab sums c.index.result c.index.result refl (Contains c.nodes.inside.stale.items)
          n c.set.new.self c.index_mut-node.ensures.value
          (ap (total sums) c.set.ensures ∙ total-set sums n.cells c.args.at c.args.cell.now c.cell-was.result within (sym (ap (λ (x : Cell g.row.D). x.number) c.cell-was.ensures) ∙ number) n refl)
          (c.nodes.invariant.sums known);
    }
