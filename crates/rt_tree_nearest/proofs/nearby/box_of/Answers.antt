use Rattle.std.proofs.Common.{◌≡◌, List, Option, Some, subst}
use Rattle.std.specs.Option.{IfSome}
use Rattle.rt_box.specs.declared.interval.Interval.{Interval}
use Rattle.rt_box.specs.Rect.{los, his}
use Rattle.rt_tree_nearest.proofs.Points.{no-lower, box-is}
use Rattle.rt_tree_nearest.proofs.nearby.box_of.Goals as goal

pub unwrap-requires : goal.unwrap-requires
unwrap-requires g c = c.new.ensures.valid.1 (no-lower c.args.point.now)

pub returns : goal.returns
returns g c =
    let point = c.args.point.now in
    let b = c.unwrap.result in
    let low : IfSome (Some b) (λ r. los r ≡ point) = subst (λ (o : Option (List Interval)). IfSome o (λ r. los r ≡ point)) c.unwrap.ensures c.new.ensures.lo in
    let high : IfSome (Some b) (λ r. his r ≡ point) = subst (λ (o : Option (List Interval)). IfSome o (λ r. his r ≡ point)) c.unwrap.ensures c.new.ensures.hi in
    box-is b point low high
