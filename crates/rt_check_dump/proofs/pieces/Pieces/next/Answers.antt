use Rattle.std.proofs.Common.{ap, sym, ◌∙◌, ◌∷◌, take, ◌+◌, ◌≤◌, length, arith}
use Rattle.std.specs.Prelude.{◌==◌}
use Rattle.std.specs.List.{position_or_len}
use Rattle.std.proofs.lemmas.List.{take_rest}
use Rattle.rt_check_dump.specs.Pieces.{pieces, pieces_left}
use Rattle.rt_check_dump.proofs.Cuts.{pieces-cut, pieces-whole}
use Rattle.rt_check_dump.proofs.pieces.Pieces.next.Goals as goal

pub returns-then-at-rest : goal.returns-then-at-rest
returns-then-at-rest c =
    let sep = c.self.inside.separator in
    let text = c.in_ok-rest.rest.now in
    let n = c.place_of-at.result in
    sym c.self.view_is ∙ ap (pieces_left sep) c.in_ok-rest.was
    ∙ pieces-cut sep text n c.place_of-at.ensures.place c.if-at-rest.true
    ∙ ap (λ l. take n text ∷ pieces sep l) (sym (take_rest text (n + 1)))

pub returns : goal.returns
returns c =
    let sep = c.self.inside.separator in
    let text = c.in_ok-rest.rest.now in
    let long : length text ≤ position_or_len (λ b. b == sep) text = omega (arith, c.place_of-at.ensures.place, c.if-at-rest.false) in
    sym c.self.view_is ∙ ap (pieces_left sep) c.in_ok-rest.was ∙ pieces-whole sep text long
