use Rattle.std.proofs.Common.{◌≡◌, ℕ, ◌+◌, ◌-◌, ◌≤◌, List, Option, is_some, count_by, arith, ap, sym, ◌∙◌, le_trans, le_of_eq}
use Rattle.rt_tree_node.specs.Node.{NodeCells}
use Rattle.rt_tree.proofs.tree.with_room.Goals as goal

roomy : (room len copied more capacity : ℕ) → more ≡ room - len → copied ≡ len → copied + more ≤ capacity → room ≤ capacity
roomy room len copied more capacity rest same fits = omega (arith, rest, same, fits)

pub returns : goal.returns
returns g c =
    let same = c.in_ok-copy.ensures.same in
    record {
      same = same;
      room = roomy c.args.room c.len.result (count_by is_some c.in_ok-copy.copy.slots) c.saturating_sub.result c.in_ok-copy.copy.capacity c.saturating_sub.ensures
          (ap (λ (slots : List (Option (NodeCells g.row.D))). count_by is_some slots) same ∙ sym c.len.ensures) c.in_ok-copy.ensures.room;
      keys = le_trans (le_of_eq (sym c.capacity.ensures.value)) c.if-capacity-gt-MOST_NODES.false;
    }
