use Rattle.std.proofs.Common.{◌<◌, length, arith, refl, ap, ◌∙◌, sym, subst}
use Rattle.std.specs.List.{All}
use Rattle.rt_tree_choice.specs.Hull.{AreFronts, AreBacks}
use Rattle.rt_tree_choice.specs.Split.{along, sorting}
use Rattle.rt_tree_choice.specs.Judgements.{IsBestParting}
use Rattle.rt_tree_choice.proofs.Sorted.{length-sorting, sorting-within}
use Rattle.rt_tree_choice.proofs.Partings.{judged-sorting}
use Rattle.rt_tree_choice.proofs.split.best_of_sorting.Goals as goal

pub front_hulls-fronts-requires : goal.front_hulls-fronts-requires
front_hulls-fronts-requires g c =
    let boxes = c.args.boxes.now in
    let is = c.as_slice.ensures.value ∙ c.sorted_positions-order.ensures in
    let long = length-sorting (along boxes c.args.axis c.args.upper) boxes in (
      omega (arith, c.facts.ensures.few),
      (
        omega (arith, c.facts.ensures.few),
        (
          omega (arith, ap length is, long),
          (
            omega (arith, ap length is, long, c.least-least.ensures.valid),
            subst (λ ps. All (λ p. p < length boxes) ps) (sym is) (sorting-within (along boxes c.args.axis c.args.upper) boxes),
          ),
        ),
      ),
    )

pub back_hulls-backs-requires : goal.back_hulls-backs-requires
back_hulls-backs-requires g c =
    let boxes = c.args.boxes.now in
    let is = c.as_slice-2.ensures.value ∙ c.sorted_positions-order.ensures in
    let long = length-sorting (along boxes c.args.axis c.args.upper) boxes in (
      omega (arith, c.facts.ensures.few),
      (
        omega (arith, c.facts.ensures.few),
        (
          omega (arith, ap length is, long),
          (
            omega (arith, ap length is, long, c.least-least.ensures.valid),
            subst (λ ps. All (λ p. p < length boxes) ps) (sym is) (sorting-within (along boxes c.args.axis c.args.upper) boxes),
          ),
        ),
      ),
    )

pub returns : goal.returns
returns g c =
    let boxes = c.args.boxes.now in
    let is = c.as_slice.ensures.value ∙ c.sorted_positions-order.ensures in
    let is-2 = c.as_slice-2.ensures.value ∙ c.sorted_positions-order.ensures in
    let long = length-sorting (along boxes c.args.axis c.args.upper) boxes in
    judged-sorting boxes c.args.capacity c.args.axis c.args.upper (sorting boxes c.args.axis c.args.upper) c.front_hulls-fronts.result c.back_hulls-backs.result
    c.requires.full c.least-least.ensures.valid long refl
    (subst (λ ps. AreFronts boxes ps c.front_hulls-fronts.result) is c.front_hulls-fronts.ensures)
    (subst (λ ps. AreBacks boxes ps c.back_hulls-backs.result) is-2 c.back_hulls-backs.ensures)
    c.best_parting.result
    (subst (λ m. IsBestParting c.front_hulls-fronts.result c.back_hulls-backs.result m (length boxes) c.best_parting.result) c.least-least.ensures.value c.best_parting.ensures)
