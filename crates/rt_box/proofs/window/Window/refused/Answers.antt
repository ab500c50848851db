use Rattle.std.proofs.Common.{◌≡◌, ℕ, ◌-◌, ◌<◌, ◌||◌, length, arith, inl, inr, subst, sym}
use Rattle.std.proofs.lemmas.Bool.{cases_eq}
use Rattle.rt_box.specs.Ends.{AdmitsAxis}
use Rattle.rt_box.proofs.Lanes.{both_masks, both_clear}
use Rattle.rt_box.proofs.Windows.{Admits-sides, Admits-all}
use Rattle.rt_box.proofs.window.Window.refused.Goals as goal

pub returns-clause-lanes : goal.returns-clause-lanes
returns-clause-lanes g c =
    let (s, t, u, v, a_is) = c.refused_ends.ensures.lanes in
    let (w, x, y, z, b_is) = c.refused_ends-2.ensures.lanes in
    (s || w, t || x, u || y, v || z, both_masks s t u v w x y z c.refused_ends.result c.refused_ends-2.result a_is b_is)

pub returns-clause-clear : goal.returns-clause-clear
returns-clause-clear g c =
    let axes = c.self.inside.axes in
    let rect = c.args.rect.now in
    let is_box = c.axes-last.ensures.is_box in
    let last = c.axes-last.result - 1 in
    let both = both_clear c.refused_ends.result c.refused_ends-2.result c.refused_ends.ensures.lanes c.refused_ends-2.ensures.lanes in (
      (λ t.
          let first_two : AdmitsAxis axes rect 0 × AdmitsAxis axes rect 1 = c.refused_ends.ensures.clear.0 (both.0 t).0 in
          let last_two : AdmitsAxis axes rect (last - 1) × AdmitsAxis axes rect last = c.refused_ends-2.ensures.clear.0 (both.0 t).1 in
          Admits-all axes c.args.self.now rect c.self.view_is (omega arith)
          (λ i e d below. elim (cases_eq i 0) [
            | inl first ↦ subst (AdmitsAxis axes rect) (sym first) first_two.0 e d
            | inr later ↦ elim (cases_eq i last) [
              | inl at_end ↦ subst (AdmitsAxis axes rect) (sym at_end) last_two.1 e d
              | inr ne ↦
                  let second : 1 ≡ i = omega (arith, later, ne, below, is_box.few) in
                  subst (AdmitsAxis axes rect) second first_two.1 e d
            ]
          ])),
      (λ h.
          let each : (i : ℕ) → i < length axes → AdmitsAxis axes rect i = λ i below e d. Admits-sides axes c.args.self.now rect i e d c.self.view_is below h in
          both.1 (c.refused_ends.ensures.clear.1 (each 0 (omega arith), each 1 (omega arith)), c.refused_ends-2.ensures.clear.1 (each (last - 1) (omega arith), each last (omega arith)))),
    )
