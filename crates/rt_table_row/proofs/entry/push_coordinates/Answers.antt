use Rattle.std.proofs.Common.{rules, arith, suc, ◌≡◌, ◌+◌, ◌∷◌, ◌++◌, [], take, length, FitsSigned, w32, w64, to_z-of_z, ap, sym, append_assoc, ◌∙◌}
use Rattle.std.proofs.Math.Seq.{take-length}
use Rattle.rt_box.specs.Rect.{coordinates}
use Rattle.rt_table_row.proofs.Places.{coordinates_more}
use Rattle.rt_table_row.proofs.entry.push_coordinates.Goals as goal

pub loop-axis-preserved : goal.loop-axis-preserved
loop-axis-preserved g c =
    let sides = c.args.rect.now in
    let range = c.range-range.result in
    let so_far = coordinates (take c.loop-axis.axis sides) in
    let low : FitsSigned w32 range.lo = search rules in
    let high : FitsSigned w32 range.hi = search rules in
    let low_fits : FitsSigned w64 c.from.result = search rules in
    let high_fits : FitsSigned w64 c.from-in-loop-axis.result = search rules in
    let first : c.push_reserved.new.self.items ≡ c.loop-axis.numbers.items ++ range.lo ∷ [] = rw (to_z-of_z low_fits, c.from.ensures, to_z-of_z low) at c.push_reserved.ensures.items in
    let second : c.push_reserved-in-loop-axis.new.self.items ≡ c.push_reserved.new.self.items ++ range.hi ∷ [] = rw (to_z-of_z high_fits, c.from-in-loop-axis.ensures, to_z-of_z high) at c.push_reserved-in-loop-axis.ensures.items in
    let next : c.loop-axis.axis + 1 ≡ suc c.loop-axis.axis = omega arith in
    let more = ap (λ n. coordinates (take n sides)) next ∙ coordinates_more sides c.loop-axis.axis range (omega (arith, c.axes-axis-end.ensures.is_box.axes_are, c.axes-axis-end.ensures.value)) c.range-range.ensures.value in (
      second
          ∙ ap (λ ns. ns ++ range.hi ∷ []) (first ∙ ap (λ ns. ns ++ range.lo ∷ []) c.loop-axis.invariant.0)
          ∙ append_assoc (c.args.numbers.now.items ++ so_far) (range.lo ∷ []) (range.hi ∷ [])
          ∙ append_assoc c.args.numbers.now.items so_far (range.lo ∷ range.hi ∷ [])
          ∙ ap (λ ns. c.args.numbers.now.items ++ ns) (sym more),
      omega (arith, c.push_reserved.ensures.len, c.push_reserved.ensures.capacity, c.push_reserved-in-loop-axis.ensures.len, c.push_reserved-in-loop-axis.ensures.capacity, c.loop-axis.invariant.1),
    )

pub returns : goal.returns
returns g c =
    let all : c.loop-axis.axis ≡ length c.args.rect.now = omega (arith, c.axes-axis-end.ensures.value, c.axes-axis-end.ensures.is_box.axes_are) in
    c.loop-axis.invariant.0 ∙ ap (λ sides. c.args.numbers.now.items ++ coordinates sides) (ap (λ n. take n c.args.rect.now) all ∙ take-length c.args.rect.now)
