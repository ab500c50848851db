use Rattle.std.proofs.Common.{◌≡◌, ◌∙◌, map, length, ap, subst, arith}
use Rattle.std.proofs.lemmas.List.{length-map}
use Rattle.rt_table_row.specs.Arrangements.{value_at, own_places}
use Rattle.rt_table_row.proofs.Arranging.{own_more, length-own_places}
use Rattle.rt_table_row.proofs.arrangement.in_order.Goals as goal

pub loop-place-preserved : goal.loop-place-preserved
loop-place-preserved c =
    c.in_ok-push.ensures.items ∙ own_more c.args.list.now c.loop-place.values.items c.loop-place.place c.in_ok-copy_at.field-0 c.loop-place.invariant c.in_ok-copy_at.ensures

pub returns : goal.returns
returns c =
    let same : c.loop-place.place ≡ c.args.count = omega (arith, c.loop-place.auto.place-end) in
    let value : c.loop-place.values.items ≡ map (value_at c.args.list.now) (own_places c.args.count) =
    subst (λ n. c.loop-place.values.items ≡ map (value_at c.args.list.now) (own_places n)) same c.loop-place.invariant in
    record {
      value = value;
      each = ap length value ∙ length-map (own_places c.args.count) (value_at c.args.list.now) ∙ length-own_places c.args.count;
    }
