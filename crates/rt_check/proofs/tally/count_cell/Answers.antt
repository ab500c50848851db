use Rattle.std.proofs.Common.{◌≡◌, ◌+◌, sym, ap, ◌∙◌, get_or, set, min, arith, false, pos}
use Rattle.std.proofs.lemmas.List.Quantifiers.{position-Some}
use Rattle.std.specs.List.{list_any}
use Rattle.std.specs.Ordering.{int_eq}
use Rattle.rt_check.specs.Tally.{tallies}
use Rattle.rt_check.proofs.Known.{same_number}
use Rattle.rt_check.proofs.Tallies.{tallies-raised, tallies-same, absent-differs}
use Rattle.rt_check.proofs.tally.count_cell.Goals as goal

pub returns-in-Some : goal.returns-in-Some
returns-in-Some g c = λ cells counted.
    let keys = c.args.numbers.now.keys in
    let at = c.in-Some.at in
    let found = position-Some (int_eq c.args.cell.now.number) keys at (pos 0) (sym c.in-Some.ensures.index) in
    let same : get_or keys at (pos 0) ≡ c.args.cell.now.number = sym (same_number _ _ found.1) in
    let was : get_or c.args.counts.now at 0 ≡ get_or (tallies keys cells) at 0 = ap (λ l. get_or l at 0) counted in
    let raised : c.min.result ≡ min 2 (get_or (tallies keys cells) at 0 + 1) = omega (arith, c.min.ensures, c.saturating_add.ensures, was) in
    ap (λ l. set l at c.min.result) counted ∙ ap (set (tallies keys cells) at) raised
    ∙ tallies-raised keys cells c.args.cell.now at (pos 0) c.are_distinct.ensures found.0 same

pub returns-in_default : goal.returns-in_default
returns-in_default g c = λ cells counted.
    let none : list_any (int_eq c.args.cell.now.number) c.args.numbers.now.keys ≡ false = sym c.in_default.ensures.found in
    counted ∙ tallies-same c.args.numbers.now.keys cells c.args.cell.now (absent-differs c.args.cell.now.number c.args.numbers.now.keys none)
