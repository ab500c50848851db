use Rattle.std.proofs.Common.{◌≡◌, ◌+◌, ◌-◌, ◌≤◌, length, arith}
use Rattle.rt_box.specs.Rect.{IsBox}
use Rattle.rt_box.specs.Window.{Admits}
use Rattle.rt_box.proofs.Telling.{Tells-together-fits, Tells-together, All-together}
use Rattle.rt_box.proofs.window.Window.admitted.Goals as goal

pub overflow_add-result : goal.overflow_add-result
overflow_add-result g c =
    let rects = c.args.rects.now in
    let long : (length rects - 4) + 4 ≡ length rects = omega (arith, c.if-rects-lt4.false) in
    let past : length rects - 4 ≤ c.tell_fours-bits.result.0 = omega (arith, c.tell_fours-bits.ensures.most) in
    let fits = Tells-together-fits (Admits c.args.self.now) rects c.tell_fours-bits.result.0 (length rects - 4) c.tell_fours-bits.result.1 c.tell_four.result long past
    c.tell_fours-bits.ensures.within c.requires c.tell_fours-bits.ensures.told c.tell_four.ensures.told in
    omega (arith, fits)

pub returns-clause-told : goal.returns-clause-told
returns-clause-told g c =
    let rects = c.args.rects.now in
    let long : (length rects - 4) + 4 ≡ length rects = omega (arith, c.if-rects-lt4.false) in
    let past : length rects - 4 ≤ c.tell_fours-bits.result.0 = omega (arith, c.tell_fours-bits.ensures.most) in
    Tells-together (Admits c.args.self.now) rects c.tell_fours-bits.result.0 (length rects - 4) c.tell_fours-bits.result.1 c.tell_four.result long past
    c.tell_fours-bits.ensures.within c.requires c.tell_fours-bits.ensures.told c.tell_four.ensures.told

pub returns-clause-boxes : goal.returns-clause-boxes
returns-clause-boxes g c =
    let rects = c.args.rects.now in
    let long : (length rects - 4) + 4 ≡ length rects = omega (arith, c.if-rects-lt4.false) in
    let past : length rects - 4 ≤ c.tell_fours-bits.result.0 = omega (arith, c.tell_fours-bits.ensures.most) in
    All-together (IsBox g.row.D) rects c.tell_fours-bits.result.0 (length rects - 4) long past c.tell_fours-bits.ensures.boxes c.tell_four.ensures.boxes
