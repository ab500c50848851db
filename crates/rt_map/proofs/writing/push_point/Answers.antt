use Rattle.std.proofs.Common.{pos, arith}
use Rattle.std.specs.Prelude.{FitsSigned}
use Rattle.std.specs.Int.{w32}
use Rattle.std.proofs.lemmas.Grind.{common_steps}
use Rattle.std.proofs.lemmas.List.Elements.{All-more}
use Rattle.rt_map.proofs.writing.push_point.Goals as goal

pub loop-coordinate-preserved : goal.loop-coordinate-preserved
loop-coordinate-preserved g c = record {
  bytes = grind (arith, common_steps);
  written = All-more (FitsSigned w32) c.args.point.now c.loop-coordinate.coordinate-index (pos 0) (omega (arith, c.loop-coordinate-test.true, c.told-point)) c.loop-coordinate.invariant.written
      c.push_coordinate.ensures.fits;
}
