use Rattle.std.proofs.Common.{◌≡◌, ◌<◌, ◌≤ℤ◌, ◌<ℤ◌, ℤ, true, List, length, subst}
use Rattle.std.specs.List.{list_any}
use Rattle.std.specs.Ordering.{int_eq}
use Rattle.rt_table_store.proofs.Ranking.{ranks-put, ranks-passed, reached}
use Rattle.rt_table_store.proofs.largest.add.Goals as goal

pub returns-then-is_below-clause-ranks : goal.returns-then-is_below-clause-ranks
returns-then-is_below-clause-ranks c = λ there r.
    let some = subst (λ (xs : List ℤ). 0 < length xs) c.as_slice.ensures.value (c.is_below.ensures.some c.if-is_below.true) in
    let below = subst (λ (xs : List ℤ). (other : ℤ) → list_any (int_eq other) xs ≡ true → c.args.id.now <ℤ other) c.as_slice.ensures.value (c.is_below.ensures.below c.if-is_below.true) in
    ranks-passed there c.make_room.new.ids.items (c.make_room.ensures.ranks there r) c.args.id.now some below

pub returns-clause-ranks : goal.returns-clause-ranks
returns-clause-ranks c = λ there r.
    let least = subst (λ (xs : List ℤ). 0 < length xs → (other : ℤ) × (list_any (int_eq other) xs ≡ true) × (other ≤ℤ c.args.id.now)) c.as_slice.ensures.value (c.is_below.ensures.not c.if-is_below.false) in
    let room = c.make_room.ensures.ranks there r in
    ranks-put there c.make_room.new.ids.items room c.args.id.now c.put.new.ids.items c.put.ensures.ids (reached there c.make_room.new.ids.items room c.args.id.now least)
