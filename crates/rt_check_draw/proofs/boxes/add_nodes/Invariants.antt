use Rattle.std.proofs.Common.{◌≡◌, ◌++◌, take}
use Rattle.std.specs.List.{flat_map}
use Rattle.rt_check_draw.specs.declared.boxes.Title.TheVariants.{Name}
use Rattle.rt_check_draw.specs.Boxes.{box_line, cells_on}
use Rattle.rt_check_draw.proofs.boxes.add_nodes.Given as goal

-- the lines of the nodes so far are added
abbrev pub invariant-loop-node : goal.invariant-loop-node
invariant-loop-node g l = l.text.items ≡ l.initial.text.items ++ flat_map (box_line Name l.frame l.level) (cells_on l.level (take l.node-index l.shadow.nodes))
