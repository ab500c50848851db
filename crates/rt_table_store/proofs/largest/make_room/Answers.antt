use Rattle.std.proofs.Common.{◌<◌, ◌/◌, List, ℤ, length, arith, sym, subst}
use Rattle.std.specs.List.Sorted.{IsSorted}
use Rattle.std.specs.Ordering.{int_cmp}
use Rattle.rt_table_store.specs.GreatestIds.{Ranks}
use Rattle.rt_table_store.proofs.Ranking.{ranks-dropped, sorted-dropped}
use Rattle.rt_table_store.proofs.largest.make_room.Goals as goal

pub returns-clause-ranks : goal.returns-clause-ranks
returns-clause-ranks c =
    let inside : c.len-2.result / 2 < length c.args.ids.now.items = omega (arith, c.requires.two, c.if-len-capacity.false, c.capacity.ensures, c.len.ensures, c.len-2.ensures) in
    λ there r. subst (λ (ys : List ℤ). Ranks there ys) (sym c.drop_first.ensures.items) (ranks-dropped c.args.ids.now.items c.requires.order (c.len-2.result / 2) inside there r)

pub returns-clause-order : goal.returns-clause-order
returns-clause-order c =
    let inside : c.len-2.result / 2 < length c.args.ids.now.items = omega (arith, c.requires.two, c.if-len-capacity.false, c.capacity.ensures, c.len.ensures, c.len-2.ensures) in
    subst (λ (ys : List ℤ). IsSorted int_cmp ys) (sym c.drop_first.ensures.items) (sorted-dropped c.args.ids.now.items c.requires.order (c.len-2.result / 2) inside)
