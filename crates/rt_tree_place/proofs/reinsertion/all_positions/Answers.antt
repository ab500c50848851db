use Rattle.std.proofs.Common.{◌<◌, [], ◌∷◌, ◌++◌, length, arith, ap, ◌∙◌, sym, rules}
use Rattle.std.proofs.lemmas.List.FromFn.{length-range_with_len}
use Rattle.rt_tree_place.proofs.Positions.{range-more}
use Rattle.rt_tree_place.proofs.reinsertion.all_positions.Goals as goal

pub push-requires : goal.push-requires
push-requires c =
    let room : length c.loop-position.positions.items < 52 =
    omega (arith, ap length c.loop-position.invariant, length-range_with_len 0 c.loop-position.position, c.loop-position-test.true, c.requires) in
    search rules

pub loop-position-preserved : goal.loop-position-preserved
loop-position-preserved c =
    c.push.ensures.items ∙ ap (λ xs. xs ++ c.loop-position.position ∷ []) c.loop-position.invariant ∙ sym (range-more c.loop-position.position)
