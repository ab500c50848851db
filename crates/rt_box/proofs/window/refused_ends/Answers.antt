use Rattle.std.proofs.Common.{arith, rules, get_or, pos}
use Rattle.rt_box.specs.declared.window.Ends.{Ends}
use Rattle.rt_box.specs.Interval.{interval}
use Rattle.rt_box.proofs.Lanes.{is_outside, outside_mask, none_outside, is_beyond, beyond_mask, none_beyond}
use Rattle.rt_box.proofs.Windows.{All-in_order, axis_from_side, side_from_axis}
use Rattle.rt_box.proofs.window.refused_ends.Goals as goal

-- what a read past the end would give
abbrev read : Ends
read = record { lo = interval (pos 0) (pos 0); hi = interval (pos 0) (pos 0) }

pub returns-then-has_numbers-clause-lanes : goal.returns-then-has_numbers-clause-lanes
returns-then-has_numbers-clause-lanes g c =
    let one = get_or c.args.axes.now c.args.first read in
    let two = get_or c.args.axes.now c.args.second read in
    let side = c.side-side.result.now in
    let other = c.side-other.result.now in (
      is_beyond one.lo side.lo,
      is_beyond one.hi side.hi,
      is_beyond two.lo other.lo,
      is_beyond two.hi other.hi,
      beyond_mask one.lo one.hi two.lo two.hi side.lo side.hi other.lo other.hi,
    )

pub returns-then-has_numbers-clause-clear : goal.returns-then-has_numbers-clause-clear
returns-then-has_numbers-clause-clear g c =
    let axes = c.args.axes.now in
    let rect = c.args.rect.now in
    let one = get_or axes c.args.first read in
    let two = get_or axes c.args.second read in
    let side = c.side-side.result.now in
    let other = c.side-other.result.now in
    let some = (All-in_order axes).1 (c.requires.some c.if-has_numbers.true) in
    let first = some c.args.first read (omega arith) in
    let second = some c.args.second read (omega arith) in
    let both = none_beyond one.lo one.hi two.lo two.hi side.lo side.hi other.lo other.hi
    (search rules, search rules) (search rules, search rules) (search rules, search rules) (search rules, search rules)
    (search rules) (search rules) (search rules) (search rules) first.0 first.1 second.0 second.1 in (
      (λ t. (
        axis_from_side axes rect c.args.first read side (omega arith) (omega arith) c.side-side.ensures.value (both.0 t).0,
        axis_from_side axes rect c.args.second read other (omega arith) (omega arith) c.side-other.ensures.value (both.0 t).1,
      )),
      (λ h. both.1 (
        side_from_axis axes rect c.args.first read side c.side-side.ensures.value h.0,
        side_from_axis axes rect c.args.second read other c.side-other.ensures.value h.1,
      )),
    )

pub returns-clause-lanes : goal.returns-clause-lanes
returns-clause-lanes g c =
    let one = get_or c.args.axes.now c.args.first read in
    let two = get_or c.args.axes.now c.args.second read in
    let side = c.side-side.result.now in
    let other = c.side-other.result.now in (
      is_outside one.lo side.lo,
      is_outside one.hi side.hi,
      is_outside two.lo other.lo,
      is_outside two.hi other.hi,
      outside_mask one.lo one.hi two.lo two.hi side.lo side.hi other.lo other.hi,
    )

pub returns-clause-clear : goal.returns-clause-clear
returns-clause-clear g c =
    let axes = c.args.axes.now in
    let rect = c.args.rect.now in
    let one = get_or axes c.args.first read in
    let two = get_or axes c.args.second read in
    let side = c.side-side.result.now in
    let other = c.side-other.result.now in
    let both = none_outside one.lo one.hi two.lo two.hi side.lo side.hi other.lo other.hi
    (search rules, search rules) (search rules, search rules) (search rules, search rules) (search rules, search rules)
    (search rules) (search rules) (search rules) (search rules) in (
      (λ t. (
        axis_from_side axes rect c.args.first read side (omega arith) (omega arith) c.side-side.ensures.value (both.0 t).0,
        axis_from_side axes rect c.args.second read other (omega arith) (omega arith) c.side-other.ensures.value (both.0 t).1,
      )),
      (λ h. both.1 (
        side_from_axis axes rect c.args.first read side c.side-side.ensures.value h.0,
        side_from_axis axes rect c.args.second read other c.side-other.ensures.value h.1,
      )),
    )
