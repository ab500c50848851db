use Rattle.std.proofs.Common.{◌≡◌, take}
use Rattle.std.specs.Prelude.{fold}
use Rattle.rt_check_draw.specs.Levels.{with_node}
use Rattle.rt_check_draw.specs.Boxes.{nodes_on}
use Rattle.rt_check_draw.proofs.levels.row_of.Given as goal

-- the nodes so far are summed up
abbrev pub invariant-loop-node : goal.invariant-loop-node
invariant-loop-node g l = l.row ≡ fold (with_node l.axes l.most) (record { level = l.level; nodes = 0; cells = 0; area = 0; shared = 0 }) (nodes_on l.level (take l.node-index l.shadow.nodes))
