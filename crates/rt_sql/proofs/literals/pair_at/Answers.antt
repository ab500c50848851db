use Rattle.std.proofs.Common.{◌≡◌, ◌+◌, ◌<◌, true, false, length, slice_index, arith}
use Rattle.rt_sql.proofs.Doubling.{pair_goes}
use Rattle.rt_sql.proofs.literals.pair_at.Goals as goal

pub loop-at-preserved : goal.loop-at-preserved
loop-at-preserved c =
    let z = c.args.text.now in
    let at = c.loop-at.at in
    let q = c.args.quote in
    let lacks : slice_index z at ≡ q → at + 1 < length z → slice_index z (at + 1) ≡ q → ⊥ =
    λ e h f. let is : false ≡ true = c.if-is_pair_at.ensures.1 (h, e, f) in absurd (cc) in
    (omega arith, pair_goes q at z (omega arith) lacks c.loop-at.invariant.1)
