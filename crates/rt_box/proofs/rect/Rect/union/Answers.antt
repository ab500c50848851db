use Rattle.std.proofs.Common.{◌≡◌, length, arith, ◌∙◌, sym, ap}
use Rattle.std.proofs.lemmas.List.{same_lists}
use Rattle.rt_box.specs.Interval.{cover}
use Rattle.rt_box.specs.Rect.{union_box}
use Rattle.rt_box.proofs.Measures.{length-paired, get_or-paired}
use Rattle.rt_box.proofs.rect.Rect.union.Goals as goal

pub returns : goal.returns
returns g c =
    let long : length c.args.self.now ≡ g.row.D = omega (arith, ap length c.self.view_is) in
    let other_long : length c.args.other.now ≡ g.row.D = omega (arith, ap length c.other.view_is) in
    same_lists c.loop-axis.sides (union_box c.args.self.now c.args.other.now)
    (omega (arith, length-paired cover c.args.self.now c.args.other.now))
    (λ i d within. c.loop-axis.invariant.done i (omega arith) d
    ∙ sym (get_or-paired cover c.args.self.now c.args.other.now i d d d (omega arith) (omega arith)))
