use Rattle.rt_sql.proofs.Cuts.{cut_past_pair}
use Rattle.rt_sql.proofs.literals.undouble.Goals as goal

pub range_from-rest-requires : goal.range_from-rest-requires
range_from-rest-requires c =
    let within = rw c.as_bytes.ensures.value at c.in-Some.ensures.within in
    λ _. cut_past_pair c.loop-at.rest.now c.in-Some.at c.args.quote c.loop-at.invariant.0 within.0 within.2 c.requires
