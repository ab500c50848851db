use Rattle.std.proofs.Common.{◌<◌, pos, length, get_or, arith, ◌∙◌, sym, to_z, of_z}
use Rattle.std.specs.Prelude.{FitsSigned}
use Rattle.std.specs.Int.{w32}
use Rattle.std.proofs.lemmas.Int.{to_z-of_z}
use Rattle.std.proofs.lemmas.List.{length-set, same_lists, get_or_default}
use Rattle.rt_map.proofs.Pieces.{next-number, agree-more}
use Rattle.rt_map.proofs.reading.read_point.Goals as goal

pub loop-axis-preserved : goal.loop-axis-preserved
loop-axis-preserved g c =
    let inv = c.loop-axis.invariant in
    let axis = c.loop-axis.axis in
    let found = c.short_of.result in
    let small : FitsSigned w32 found = record { sfits = c.short_of.type_inv } in
    record {
      left = omega (arith, c.split_at.ensures.back_len);
      long = length-set c.loop-axis.point axis (to_z w32 (of_z w32 found)) ∙ inv.long;
      read = λ point long fits same.
          let so_far = inv.read point long fits same in
          let within : axis < length point = omega (arith, long, c.loop-axis-test.true) in
          let next = next-number c.loop-axis.left.now point axis within so_far.0 in
          let is = c.short_of.ensures (get_or point axis (pos 0)) (fits axis (pos 0) within) (c.split_at.ensures.front ∙ next.front) in (
            c.split_at.ensures.back ∙ next.back,
            agree-more c.loop-axis.point point axis (to_z w32 (of_z w32 found)) (omega (arith, inv.long, c.loop-axis-test.true)) (to_z-of_z w32 found small ∙ is) so_far.1,
          );
    }

pub returns : goal.returns
returns g c = λ point long fits same.
    let inv = c.loop-axis.invariant in
    let so_far = inv.read point long fits same in
    same_lists c.loop-axis.point point (inv.long ∙ sym long) (λ k d within.
    get_or_default c.loop-axis.point k d (pos 0) within ∙ so_far.1 k (omega (arith, inv.long, c.loop-axis-test.false))
    ∙ get_or_default point k (pos 0) d (omega (arith, inv.long, long)))
