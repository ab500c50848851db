use Rattle.std.proofs.Common.{◌≡◌, ◌++◌, take}
use Rattle.std.specs.List.{flat_map}
use Rattle.rt_check_draw.specs.Boxes.{box_line}
use Rattle.rt_check_draw.proofs.boxes.add_boxes.Given as goal

-- the boxes of the cells so far are added
abbrev pub invariant-loop-cell : goal.invariant-loop-cell
invariant-loop-cell g l = l.text.items ≡ l.initial.text.items ++ flat_map (box_line l.title l.frame l.node.level) (take l.cell-index l.node.cells)
