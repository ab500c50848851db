use Rattle.std.proofs.Common.{ℤ, List, [], ◌∷◌, ◌++◌, sym, ap, ◌∙◌}
use Rattle.rt_calls.specs.Numbers.{pieces}
use Rattle.rt_calls.proofs.Pieces.{pieces_more}
use Rattle.rt_calls.proofs.many.points_from.Goals as goal

pub loop-place-preserved : goal.loop-place-preserved
loop-place-preserved g c =
    c.in_ok-push.ensures.items ∙ ap (λ (l : List (List ℤ)). l ++ c.point_at.result ∷ []) c.loop-place.invariant
    ∙ ap (λ (p : List ℤ). pieces g.row.D c.loop-place.place c.args.numbers.now ++ p ∷ []) c.point_at.ensures ∙ sym (pieces_more g.row.D c.loop-place.place c.args.numbers.now)
