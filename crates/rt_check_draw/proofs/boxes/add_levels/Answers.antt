use Rattle.std.proofs.Common.{arith}
use Rattle.rt_check_draw.specs.Boxes.{level_text}
use Rattle.rt_check_draw.proofs.Drawn.{appended}
use Rattle.rt_check_draw.proofs.boxes.add_levels.Goals as goal

pub loop-level-preserved : goal.loop-level-preserved
loop-level-preserved g c =
    appended (level_text c.args.frame.now c.args.shadow.now.nodes) _ _ _ c.args.levels.now c.loop-level.level-index _ (omega arith) c.loop-level.invariant c.in_ok-add_level.ensures
