use Rattle.std.proofs.Common.{ap, sym, ◌∙◌}
use Rattle.rt_check_dump.specs.Pieces.{pieces_left}
use Rattle.rt_check_dump.proofs.Cuts.{pieces-some}
use Rattle.rt_check_dump.proofs.pieces.Pieces.is_done.Goals as goal

pub returns-in-Some : goal.returns-in-Some
returns-in-Some c = (
  λ h. let no : ⊥ = cc in absurd no,
  λ none. absurd (pieces-some c.self.inside.separator c.in-Some.field-0.now
      (sym (ap (pieces_left c.self.inside.separator) c.in-Some.is) ∙ c.self.view_is ∙ none)),
)
