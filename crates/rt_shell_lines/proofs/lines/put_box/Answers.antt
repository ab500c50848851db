use Rattle.std.proofs.Common.{◌≡◌, ◌<◌, ◌-◌, suc, ℕ, List, ◌++◌, codes, take, drop, length, FitsSigned, w32, w64, to_z-of_z, ap, ◌∙◌, arith, rules}
use Rattle.std.specs.Fmt.{signed_decimal}
use Rattle.std.specs.List.{flat_map}
use Rattle.rt_box.specs.Rect.{coordinates}
use Rattle.rt_shell_lines.proofs.Numbers.{bar, coordinates-put, box-put, length_number}
use Rattle.rt_shell_lines.proofs.lines.put_box.Goals as goal

pub loop-axis-preserved : goal.loop-axis-preserved
loop-axis-preserved g c =
    let sides = c.args.row.now.rect in
    let axis = c.loop-axis.axis - 1 in
    let range = c.range-range.result in
    let low : FitsSigned w32 range.lo = search rules in
    let high : FitsSigned w32 range.hi = search rules in
    let first = c.put_coordinate-start in
    let second = c.put_coordinate-start-in-loop-axis in
    let put_hi : drop first.result first.new.bytes ≡ bar range.hi ++ drop c.loop-axis.start c.loop-axis.bytes = rw (to_z-of_z high) at first.ensures.put in
    let put_lo : drop second.result second.new.bytes ≡ bar range.lo ++ drop first.result first.new.bytes = rw (to_z-of_z low) at second.ensures.put in
    let next : suc axis ≡ c.loop-axis.axis = omega (arith, c.loop-axis-test.true) in
    let within : axis < length sides = omega (arith, c.loop-axis-test.true, c.loop-axis.invariant.0) in (
      omega (arith, c.loop-axis.invariant.0),
      omega (arith, c.loop-axis.invariant.1, first.ensures.start, second.ensures.start),
      omega (arith, c.loop-axis-test.true, c.loop-axis.invariant.2, first.ensures.few, second.ensures.few),
      ap (λ (text : List ℕ). flat_map bar (coordinates (take axis sides)) ++ text) (put_lo ∙ ap (λ (text : List ℕ). bar range.lo ++ text) put_hi)
          ∙ coordinates-put sides axis range (drop c.loop-axis.start c.loop-axis.bytes) within c.range-range.ensures.value
          ∙ ap (λ (n : ℕ). flat_map bar (coordinates (take n sides)) ++ drop c.loop-axis.start c.loop-axis.bytes) next
          ∙ c.loop-axis.invariant.3,
    )

pub put_number-requires-clause-room : goal.put_number-requires-clause-room
put_number-requires-clause-room g c =
    let fits : FitsSigned w64 c.args.row.now.id = search rules in
    rw (to_z-of_z fits) (omega (arith, length_number c.args.row.now.id fits, c.requires.room, c.loop-axis.invariant.2, c.axes-axis.ensures.is_box.axes_are, c.axes-axis.ensures.is_box.few))

pub returns-clause-put : goal.returns-clause-put
returns-clause-put g c =
    let row = c.args.row.now in
    let fits : FitsSigned w64 row.id = search rules in
    let put : drop c.put_number.result c.put_number.new.bytes ≡ signed_decimal row.id ++ drop c.loop-axis.start c.loop-axis.bytes = rw (to_z-of_z fits) at c.put_number.ensures.put in
    let none : c.loop-axis.axis ≡ 0 = omega (arith, c.loop-axis-test.false) in
    let behind : drop c.loop-axis.start c.loop-axis.bytes ≡ (flat_map bar (coordinates row.rect) ++ codes "\n") ++ drop c.args.end c.args.bytes.now =
    rw none at c.loop-axis.invariant.3 in
    put ∙ ap (λ (text : List ℕ). signed_decimal row.id ++ text) behind ∙ box-put row (drop c.args.end c.args.bytes.now)

pub returns-clause-few : goal.returns-clause-few
returns-clause-few g c =
    let fits : FitsSigned w64 c.args.row.now.id = search rules in
    let long = rw (to_z-of_z fits) at c.put_number.ensures.long in
    omega (arith, long, length_number c.args.row.now.id fits, c.requires.room, c.loop-axis.invariant.2, c.axes-axis.ensures.is_box.axes_are, c.axes-axis.ensures.is_box.few)
