use Rattle.std.proofs.Common.{◌≡◌, ◌++◌, take}
use Rattle.std.specs.List.{flat_map}
use Rattle.rt_check_draw.specs.Boxes.{level_text}
use Rattle.rt_check_draw.proofs.boxes.add_levels.Given as goal

-- the levels so far are added
abbrev pub invariant-loop-level : goal.invariant-loop-level
invariant-loop-level g l = l.text.items ≡ l.initial.text.items ++ flat_map (level_text l.frame l.shadow.nodes) (take l.level-index l.levels)
