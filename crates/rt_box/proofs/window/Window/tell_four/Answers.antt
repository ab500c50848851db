use Rattle.std.proofs.Common.{◌≡◌, ℕ, ◌↔◌, List, [], ℤ, All, length, get_or, pos, arith, refl, sym, subst, ◌∙◌}
use Rattle.std.proofs.lemmas.List.{get_or_default}
use Rattle.std.proofs.lemmas.List.Elements.{All-nil}
use Rattle.rt_box.specs.declared.interval.Interval.{Interval}
use Rattle.rt_box.specs.declared.window.Ends.{Ends}
use Rattle.rt_box.specs.Bits.{Tells, AreLanes, IsClear}
use Rattle.rt_box.specs.Ends.{AdmitsSide}
use Rattle.rt_box.specs.Interval.{interval}
use Rattle.rt_box.specs.Rect.{IsBox}
use Rattle.rt_box.specs.Window.{Admits}
use Rattle.rt_box.proofs.Lanes.{handed, handed_lanes, handed_clear}
use Rattle.rt_box.proofs.Telling.{four_at, All-four, Tells-four}
use Rattle.rt_box.proofs.Windows.{one_side}
use Rattle.rt_box.proofs.window.Window.tell_four.Goals as goal

-- what a read past the end would give
abbrev read : Ends
read = record { lo = interval (pos 0) (pos 0); hi = interval (pos 0) (pos 0) }

pub returns-then-this-eq1-clause-told : goal.returns-then-this-eq1-clause-told
returns-then-this-eq1-clause-told g c =
    let axes = c.self.inside.axes in
    let window = c.args.self.now in
    let ends = get_or axes 0 read in
    let x = c.index-rects-at.result in
    let y = c.index-rects-at-2.result in
    let z = c.index-rects-at-3.result in
    let u = c.index-rects-at-4.result in
    let one : length axes ≡ 1 = c.self.told ∙ c.if-this-eq1.true in
    let ends_are : ends ≡ get_or axes 0 ends = get_or_default axes 0 read ends (omega (arith, one)) in
    let four = four_at c.args.rects.now c.args.at x y z u c.requires.within c.index-rects-at.is c.index-rects-at-2.is c.index-rects-at-3.is c.index-rects-at-4.is in
    let side_of : (b : List Interval) (side : Interval) → IsBox g.row.D b → side ≡ get_or b 0 side → (AdmitsSide ends side ↔ Admits window b) =
    λ b side is_box side_is. one_side axes window b ends side c.self.view_is one (is_box.axes_are ∙ c.if-this-eq1.true) ends_are side_is in
    let first = c.side.result.now in
    let second = c.side-then-this-eq1.result.now in
    let third = c.side-then-this-eq1-2.result.now in
    let fourth = c.side-then-this-eq1-3.result.now in
    let bits : ℕ = c.admits_four.result in
    subst (λ (xs : List (List Interval)). Tells (Admits window) xs bits) (sym four)
    (Tells-four (Admits window) (AdmitsSide ends) first second third fourth x y z u [] 0 bits bits c.admits_four.ensures refl (omega arith)
    (side_of x first c.side.ensures.is_box c.side.ensures.value)
    (side_of y second c.side-then-this-eq1.ensures.is_box c.side-then-this-eq1.ensures.value)
    (side_of z third c.side-then-this-eq1-2.ensures.is_box c.side-then-this-eq1-2.ensures.value)
    (side_of u fourth c.side-then-this-eq1-3.ensures.is_box c.side-then-this-eq1-3.ensures.value))

pub returns-then-this-eq1-clause-boxes : goal.returns-then-this-eq1-clause-boxes
returns-then-this-eq1-clause-boxes g c =
    let x = c.index-rects-at.result in
    let y = c.index-rects-at-2.result in
    let z = c.index-rects-at-3.result in
    let u = c.index-rects-at-4.result in
    let four = four_at c.args.rects.now c.args.at x y z u c.requires.within c.index-rects-at.is c.index-rects-at-2.is c.index-rects-at-3.is c.index-rects-at-4.is in
    subst (λ (xs : List (List Interval)). All (IsBox g.row.D) xs) (sym four)
    (All-four (IsBox g.row.D) x y z u [] c.facts.ensures c.facts-2.ensures c.facts-3.ensures c.facts-4.ensures (All-nil (IsBox g.row.D)))

pub tell_clear-requires-clause-a : goal.tell_clear-requires-clause-a
tell_clear-requires-clause-a g c = handed_lanes c.refused.result c.refused.ensures.lanes

pub tell_clear-requires-clause-b : goal.tell_clear-requires-clause-b
tell_clear-requires-clause-b g c = handed_lanes c.refused-2.result c.refused-2.ensures.lanes

pub tell_clear-requires-clause-c : goal.tell_clear-requires-clause-c
tell_clear-requires-clause-c g c = handed_lanes c.refused-3.result c.refused-3.ensures.lanes

pub tell_clear-requires-clause-d : goal.tell_clear-requires-clause-d
tell_clear-requires-clause-d g c = handed_lanes c.refused-4.result c.refused-4.ensures.lanes

pub returns-clause-told : goal.returns-clause-told
returns-clause-told g c =
    let window = c.args.self.now in
    let x = c.index-rects-at.result in
    let y = c.index-rects-at-2.result in
    let z = c.index-rects-at-3.result in
    let u = c.index-rects-at-4.result in
    let four = four_at c.args.rects.now c.args.at x y z u c.requires.within c.index-rects-at.is c.index-rects-at-2.is c.index-rects-at-3.is c.index-rects-at-4.is in
    let clear_of : (b : List Interval) (lanes : List ℤ) → AreLanes lanes → (IsClear lanes ↔ Admits window b) → (IsClear (handed lanes) ↔ Admits window b) =
    λ b lanes are is. let same = handed_clear lanes are in ((λ h. is.0 (same.0 h)), (λ h. same.1 (is.1 h))) in
    let bits : ℕ = c.tell_clear.result in
    subst (λ (xs : List (List Interval)). Tells (Admits window) xs bits) (sym four)
    (Tells-four (Admits window) IsClear (handed c.refused.result) (handed c.refused-2.result) (handed c.refused-3.result) (handed c.refused-4.result)
    x y z u [] 0 bits bits c.tell_clear.ensures refl (omega arith)
    (clear_of x c.refused.result c.refused.ensures.lanes c.refused.ensures.clear)
    (clear_of y c.refused-2.result c.refused-2.ensures.lanes c.refused-2.ensures.clear)
    (clear_of z c.refused-3.result c.refused-3.ensures.lanes c.refused-3.ensures.clear)
    (clear_of u c.refused-4.result c.refused-4.ensures.lanes c.refused-4.ensures.clear))

pub returns-clause-boxes : goal.returns-clause-boxes
returns-clause-boxes g c =
    let x = c.index-rects-at.result in
    let y = c.index-rects-at-2.result in
    let z = c.index-rects-at-3.result in
    let u = c.index-rects-at-4.result in
    let four = four_at c.args.rects.now c.args.at x y z u c.requires.within c.index-rects-at.is c.index-rects-at-2.is c.index-rects-at-3.is c.index-rects-at-4.is in
    subst (λ (xs : List (List Interval)). All (IsBox g.row.D) xs) (sym four)
    (All-four (IsBox g.row.D) x y z u [] c.facts.ensures c.facts-2.ensures c.facts-3.ensures c.facts-4.ensures (All-nil (IsBox g.row.D)))
