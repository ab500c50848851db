use Rattle.std.proofs.Common.{◌≡◌, ◌+◌, ◌*◌, ◌/◌, arith}
use Rattle.std.proofs.lemmas.Int.{ints}
use Rattle.rt_box.proofs.Windows.{Narrows-set_lo, Narrows-set_hi}
use Rattle.rt_box.proofs.window.Window.narrow.Goals as goal
use Rattle.rt_box.proofs.window.Window.narrow.Goals.{then-coordinate-eq0, else-coordinate-eq0}

pub returns : goal.returns
returns g c = elim c.if-coordinate-eq0.branch [
  | then-coordinate-eq0 w ↦
      let even : c.args.coordinate ≡ 2 * (c.args.coordinate / 2) = omega arith in
      Narrows-set_lo c.self.inside.axes _ _ _ _ _ _ _ _ _ c.self.view_is even (omega arith) w.self-is (omega (arith, ints)) w.narrowed.ensures
  | else-coordinate-eq0 w ↦
      let odd : c.args.coordinate ≡ 2 * (c.args.coordinate / 2) + 1 = omega arith in
      Narrows-set_hi c.self.inside.axes _ _ _ _ _ _ _ _ _ c.self.view_is odd (omega arith) w.self-is (omega (arith, ints)) w.narrowed-else-coordinate-eq0.ensures
]
