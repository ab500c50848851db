use Rattle.std.proofs.Common.{◌≡◌, length, pos, arith, ap}
use Rattle.rt_box.specs.declared.interval.Interval.{Interval}
use Rattle.rt_box.specs.Interval.{Covers}
use Rattle.rt_box.proofs.Lists.{AllZip-from_places, AllZip-get_or_both, one_more}
use Rattle.rt_box.proofs.rect.Rect.contains.Goals as goal

pub loop-axis-preserved : goal.loop-axis-preserved
loop-axis-preserved g c =
    let long : length c.args.self.now ≡ g.row.D = omega (arith, ap length c.self.view_is) in
    let inner_long : length c.args.inner.now ≡ g.row.D = omega (arith, ap length c.inner.view_is) in
    let axis = c.loop-axis.axis in
    let seen = c.loop-axis.invariant in
    let next = c.are_inside-inside.ensures in
    let point : Interval = record { lo = pos 0; hi = pos 0 } in (
      (λ inside. one_more Covers c.args.self.now c.args.inner.now axis point point (omega arith) (omega arith) (seen.0 (next.0 inside).0)
          (rw (← c.self.view_is, ← c.inner.view_is) (next.0 inside).1)),
      (λ all. next.1 (seen.1 (λ i below d e. all i (omega arith) d e), rw (c.self.view_is, c.inner.view_is) (all axis (omega arith) point point))),
    )

pub returns : goal.returns
returns g c =
    let long : length c.args.self.now ≡ g.row.D = omega (arith, ap length c.self.view_is) in
    let inner_long : length c.args.inner.now ≡ g.row.D = omega (arith, ap length c.inner.view_is) in
    let seen = c.loop-axis.invariant in (
      (λ inside. AllZip-from_places Covers c.args.self.now c.args.inner.now (omega arith)
          (λ i d e within. seen.0 inside i (omega arith) d e)),
      (λ holds. seen.1 (λ i below d e. AllZip-get_or_both Covers c.args.self.now c.args.inner.now i d e holds (omega arith))),
    )
