use Rattle.std.proofs.Common.{◌+◌, refl, ◌∙◌, sym, subst}
use Rattle.std.proofs.lemmas.Bool.{false≢true}
use Rattle.rt_tree_choice.specs.Split.{cut_at}
use Rattle.rt_tree_choice.specs.Judgements.{IsJudgedAxis}
use Rattle.rt_tree_choice.proofs.Partings.{judged-axis_upper, judged-axis_lower}
use Rattle.rt_tree_choice.proofs.split.best_of_axis.Goals as goal

pub returns-then-by_upper : goal.returns-then-by_upper
returns-then-by_upper g c =
    let lower = c.best_of_sorting-lower in
    let upper = c.best_of_sorting-upper in
    subst (λ b. IsJudgedAxis c.args.boxes.now c.args.capacity c.args.axis
    record { margins = lower.result.margins + upper.result.margins; cut = cut_at c.args.axis b upper.result.first })
    (sym c.if-by_upper.true)
    (judged-axis_upper c.args.boxes.now c.args.capacity c.args.axis lower.result upper.result lower.ensures upper.ensures _ refl
    (c.is_better-by_upper.ensures.0 c.if-by_upper.true))

pub returns-else-by_upper : goal.returns-else-by_upper
returns-else-by_upper g c =
    let lower = c.best_of_sorting-lower in
    let upper = c.best_of_sorting-upper in
    subst (λ b. IsJudgedAxis c.args.boxes.now c.args.capacity c.args.axis
    record { margins = lower.result.margins + upper.result.margins; cut = cut_at c.args.axis b lower.result.first })
    (sym c.if-by_upper.false)
    (judged-axis_lower c.args.boxes.now c.args.capacity c.args.axis lower.result upper.result lower.ensures upper.ensures _ refl
    (λ less. false≢true (sym c.if-by_upper.false ∙ c.is_better-by_upper.ensures.1 less)))
