use Rattle.std.proofs.Common.{◌<◌, length, subst, arith, pos}
use Rattle.std.specs.List.{All}
use Rattle.std.proofs.lemmas.List.{take_all}
use Rattle.std.proofs.lemmas.List.Elements.{All-more}
use Rattle.rt_check_dump.specs.InRange.{IsInt}
use Rattle.rt_check_dump.proofs.looks.look_at_coordinates.Goals as goal

pub loop-coordinate-preserved : goal.loop-coordinate-preserved
loop-coordinate-preserved c =
    let within : c.loop-coordinate.coordinate-index < length c.args.coordinates.now = omega (arith, c.loop-coordinate-test.true) in
    All-more IsInt c.args.coordinates.now c.loop-coordinate.coordinate-index (pos 0) within c.loop-coordinate.invariant c.look_at_coordinate.ensures

pub returns : goal.returns
returns c =
    let whole = take_all c.loop-coordinate.coordinate-index c.args.coordinates.now (omega (arith, c.loop-coordinate-test.false)) in
    subst (All IsInt) whole c.loop-coordinate.invariant
