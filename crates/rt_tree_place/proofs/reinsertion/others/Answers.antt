use Rattle.std.proofs.Common.{◌+◌, ◌<◌, ◌++◌, length, get_or, take, arith, ap, ◌∙◌, sym, subst, rules}
use Rattle.std.specs.List.{range_with_len}
use Rattle.std.specs.List.Sorted.{IsPermutation}
use Rattle.std.proofs.lemmas.List.Sorted.{IsPermutation-refl}
use Rattle.rt_tree_place.specs.Rules.{IsRisingList}
use Rattle.rt_tree_place.proofs.Positions.{still-left, others-more, rising-range, rising-remove}
use Rattle.rt_tree_place.proofs.reinsertion.others.Goals as goal

pub loop-position-init : goal.loop-position-init
loop-position-init c =
    let all = sym c.all_positions-left.ensures in
    record {
      parted = subst (IsPermutation (range_with_len 0 c.args.len)) all (IsPermutation-refl (range_with_len 0 c.args.len));
      rising = subst IsRisingList all (rising-range c.args.len);
    }

pub remove-requires : goal.remove-requires
remove-requires c =
    let left = c.loop-position.left.items in
    let read = c.as_slice.ensures.value in
    let here : c.index_of-at.result < length left =
    still-left c.args.len c.loop-position.position-index c.index_of-at.result c.args.positions.now left (omega arith) c.requires.distinct c.loop-position.invariant.parted
    (λ k below e. c.index_of-at.ensures.first k below (ap (λ xs. get_or xs k 0) read ∙ e)) in
    search rules

pub loop-position-preserved : goal.loop-position-preserved
loop-position-preserved c =
    let left = c.loop-position.left.items in
    let read = c.as_slice.ensures.value in
    let here : c.index_of-at.result < length left =
    still-left c.args.len c.loop-position.position-index c.index_of-at.result c.args.positions.now left (omega arith) c.requires.distinct c.loop-position.invariant.parted
    (λ k below e. c.index_of-at.ensures.first k below (ap (λ xs. get_or xs k 0) read ∙ e)) in
    record {
      parted = subst (λ xs. IsPermutation (range_with_len 0 c.args.len) (take (c.loop-position.position-index + 1) c.args.positions.now ++ xs)) (sym c.remove.ensures.items)
          (others-more (range_with_len 0 c.args.len) c.args.positions.now left c.loop-position.position-index c.index_of-at.result (omega arith) here
          (sym (ap (λ xs. get_or xs c.index_of-at.result 0) read) ∙ c.index_of-at.ensures.found (omega (arith, ap length read, here))) c.loop-position.invariant.parted);
      rising = subst IsRisingList (sym c.remove.ensures.items) (rising-remove left c.index_of-at.result here c.loop-position.invariant.rising);
    }
