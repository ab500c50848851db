use Rattle.std.proofs.Common.{ℕ, ◌+◌, ◌≤◌, List, All, take, drop, length, arith, refl, subst}
use Rattle.std.proofs.lemmas.List.Elements.{All-append}
use Rattle.rt_box.specs.declared.interval.Interval.{Interval}
use Rattle.rt_box.specs.Rect.{IsBox}
use Rattle.rt_box.specs.Window.{Admits}
use Rattle.rt_box.proofs.Telling.{four-behind, Tells-more, Tells-more-fits}
use Rattle.rt_box.proofs.window.Window.tell_fours.Goals as goal

pub overflow_add-bits : goal.overflow_add-bits
overflow_add-bits g c =
    let more : c.loop-at.at + 4 ≤ length c.args.rects.now = omega (arith, c.loop-at-test.true, c.loop-at.invariant.within) in
    let fits = Tells-more-fits (Admits c.args.self.now) c.args.rects.now c.loop-at.at c.loop-at.bits c.tell_four.result more c.requires.few c.loop-at.invariant.told c.tell_four.ensures.told in
    omega (arith, fits)

pub loop-at-preserved : goal.loop-at-preserved
loop-at-preserved g c =
    let rects = c.args.rects.now in
    let at : ℕ = c.loop-at.at in
    let before = c.loop-at.invariant in
    let more : at + 4 ≤ length rects = omega (arith, c.loop-at-test.true, before.within) in
    record {
      within = more;
      told = Tells-more (Admits c.args.self.now) rects at c.loop-at.bits c.tell_four.result more c.requires.few before.told c.tell_four.ensures.told;
      boxes = subst (λ (xs : List (List Interval)). All (IsBox g.row.D) xs) (four-behind rects at (at + 4) refl)
          (All-append (IsBox g.row.D) (take at rects) (take 4 (drop at rects)) before.boxes c.tell_four.ensures.boxes);
    }
