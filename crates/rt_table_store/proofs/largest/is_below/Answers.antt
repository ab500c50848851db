use Rattle.std.proofs.Common.{◌≡◌, ◌≤ℤ◌, ℤ, true, get_or, rules, arith, sym, subst, w64, FitsSigned}
use Rattle.std.specs.List.{list_any}
use Rattle.std.specs.Ordering.{int_eq}
use Rattle.std.proofs.lemmas.Int.{ints, to_z-of_z}
use Rattle.rt_table_store.proofs.Order.{lt_from}
use Rattle.rt_table_store.proofs.Ranking.{from-first, from-place, not-lt}
use Rattle.rt_table_store.proofs.largest.is_below.Goals as goal

pub returns-in-Some-clause-below : goal.returns-in-Some-clause-below
returns-in-Some-clause-below c =
    let id = c.args.id.now in
    let first = c.in-Some.first.now in
    let fits : FitsSigned w64 id = search rules in
    let fits_first : FitsSigned w64 first = search rules in
    let is : first ≡ get_or c.args.ids.now 0 first = search rules in
    rw (to_z-of_z w64 id fits, to_z-of_z w64 first fits_first)
    (λ less other there. let low = lt_from id first less in let high = subst (λ (z : ℤ). z ≤ℤ other) (sym is) (from-first c.args.ids.now c.requires first other there) in omega (arith, ints, low, high))

pub returns-in-Some-clause-not : goal.returns-in-Some-clause-not
returns-in-Some-clause-not c =
    let id = c.args.id.now in
    let first = c.in-Some.first.now in
    let fits : FitsSigned w64 id = search rules in
    let fits_first : FitsSigned w64 first = search rules in
    let is : first ≡ get_or c.args.ids.now 0 first = search rules in
    rw (to_z-of_z w64 id fits, to_z-of_z w64 first fits_first)
    (λ not some. (first, subst (λ (z : ℤ). list_any (int_eq z) c.args.ids.now ≡ true) (sym is) (from-place c.args.ids.now 0 first some), not-lt id first not))
