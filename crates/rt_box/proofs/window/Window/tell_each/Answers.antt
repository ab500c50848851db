use Rattle.std.proofs.Common.{◌≡◌, ℕ, ◌-◌, ◌+◌, ◌*◌, List, ◌∷◌, All, drop, arith, refl, sym, subst}
use Rattle.std.proofs.lemmas.List.Elements.{All-cons}
use Rattle.rt_box.specs.declared.interval.Interval.{Interval}
use Rattle.rt_box.specs.Bits.{Tells}
use Rattle.rt_box.specs.Rect.{IsBox}
use Rattle.rt_box.specs.Window.{Admits}
use Rattle.rt_box.proofs.Telling.{left_from, Tells-room, Tells-front, bit-le}
use Rattle.rt_box.proofs.window.Window.tell_each.Goals as goal

pub overflow_mul-bits : goal.overflow_mul-bits
overflow_mul-bits g c =
    omega (arith, Tells-room (Admits c.args.self.now) c.args.rects.now c.loop-at.at 1 c.loop-at.bits c.loop-at.invariant.told (omega (arith, c.loop-at-test.true)) c.requires)

pub overflow_add-bits : goal.overflow_add-bits
overflow_add-bits g c =
    omega (
      arith,
      bit-le c.admits.result c.from.result c.from.ensures,
      Tells-room (Admits c.args.self.now) c.args.rects.now c.loop-at.at 1 c.loop-at.bits c.loop-at.invariant.told (omega (arith, c.loop-at-test.true)) c.requires,
    )

pub loop-at-preserved : goal.loop-at-preserved
loop-at-preserved g c =
    let rects = c.args.rects.now in
    let at : ℕ = c.loop-at.at in
    let next : ℕ = at - 1 in
    let rect = c.index-rects-at.result in
    let before = c.loop-at.invariant in
    let back : next + 1 ≡ at = omega (arith, c.loop-at-test.true) in
    let front : drop next rects ≡ rect ∷ drop at rects =
    left_from rects next at rect (drop at rects) (omega (arith, c.loop-at-test.true, before.within)) back c.index-rects-at.is refl in
    record {
      within = omega (arith, before.within);
      told = subst (λ (xs : List (List Interval)). Tells (Admits c.args.self.now) xs (2 * c.loop-at.bits + c.from.result)) (sym front)
          (Tells-front (Admits c.args.self.now) rect (drop at rects) c.loop-at.bits c.admits.result c.from.result (2 * c.loop-at.bits + c.from.result) c.admits.ensures c.from.ensures before.told refl);
      boxes = subst (λ (xs : List (List Interval)). All (IsBox g.row.D) xs) (sym front) (All-cons (IsBox g.row.D) rect (drop at rects) c.facts.ensures before.boxes);
    }

pub returns-clause-told : goal.returns-clause-told
returns-clause-told g c =
    let none : c.loop-at.at ≡ 0 = omega (arith, c.loop-at-test.false) in
    subst (λ n. Tells (Admits c.args.self.now) (drop n c.args.rects.now) c.loop-at.bits) none c.loop-at.invariant.told

pub returns-clause-boxes : goal.returns-clause-boxes
returns-clause-boxes g c =
    let none : c.loop-at.at ≡ 0 = omega (arith, c.loop-at-test.false) in
    subst (λ n. All (IsBox g.row.D) (drop n c.args.rects.now)) none c.loop-at.invariant.boxes
