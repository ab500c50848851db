use Rattle.std.proofs.Common.{rules, arith, FitsSigned, w32, to_z-of_z, ◌≡◌, ◌%◌}
use Rattle.std.proofs.lemmas.Bool.Decides.{nat_tests}
use Rattle.rt_table_row.proofs.Places.{high_at}
use Rattle.rt_table_row.proofs.entry.coordinate.Goals as goal

pub returns-else-place-eq0 : goal.returns-else-place-eq0
returns-else-place-eq0 g c =
    let fits : FitsSigned w32 c.range-range.result.hi = search rules in
    let odd : c.args.place % 2 ≡ 1 = grind (arith, nat_tests) in
    rw (to_z-of_z fits)
    (high_at c.args.rect.now c.args.place c.range-range.result _ (omega (arith, c.range-range.ensures.is_box.axes_are)) odd c.range-range.ensures.value)
