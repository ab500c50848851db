use Rattle.std.proofs.Common.{arith, subst}
use Rattle.rt_box.specs.Ends.{AdmitsAxis}
use Rattle.rt_box.proofs.Lanes.{none_set}
use Rattle.rt_box.proofs.Windows.{Admits-sides, Admits-all, axis_from_side, side_from_axis}
use Rattle.rt_box.proofs.window.Window.admits.Goals as goal

pub returns-then-last-eq0 : goal.returns-then-last-eq0
returns-then-last-eq0 g c =
    let axes = c.self.inside.axes in
    let rect = c.args.rect.now in
    let is_box = c.axes-last.ensures.is_box in
    let side = c.side-side.result.now in (
      (λ t.
          let here : AdmitsAxis axes rect 0 = axis_from_side axes rect 0 _ side (omega arith) (omega (arith, is_box.axes_are)) c.side-side.ensures.value (c.admits.ensures.0 t) in
          Admits-all axes c.args.self.now rect c.self.view_is (omega arith)
          (λ i e d below. subst (AdmitsAxis axes rect) (omega arith) here e d)),
      (λ h. c.admits.ensures.1 (side_from_axis axes rect 0 _ side c.side-side.ensures.value
          (λ e d. Admits-sides axes c.args.self.now rect 0 e d c.self.view_is (omega arith) h))),
    )

pub returns : goal.returns
returns g c =
    let (s, t, u, v, is) = c.refused.ensures.lanes in
    let none = none_set s t u v c.refused.result is in
    ((λ h. c.refused.ensures.clear.0 (none.0 h)), (λ h. none.1 (c.refused.ensures.clear.1 h)))
