-- What it means that a dump is clean.
use Rattle.std.proofs.Common.{◌≡◌, ℕ, List, [], ◌∷◌, Result, Ok, Err, refl, ◌∙◌, ap}
use Rattle.rt_check.specs.declared.problem.Problem.{Problem}
use Rattle.rt_bytes.specs.declared.outcome.Status.TheVariants.{Clean}
use Rattle.rt_check_dump.specs.declared.dump.AnyShadow.{AnyShadow}
use Rattle.rt_check_dump.specs.declared.dump.AnyShadow.TheVariants.{One, Two, Three}
use Rattle.rt_check_dump.specs.declared.fault.LineFault.{LineFault}
use Rattle.rt_check_dump.specs.Faults.{IsTextOf}
use Rattle.rt_check_dump.specs.Reading.{read_text}
use Rattle.rt_check_dump.proofs.FaultyText.{dumps-read}
use Rattle.rt_check_report.specs.Report.{all_problems, verdict_status, report_status, IsAnySound, CleanIsSound}

none-listed : (problems : List Problem) → verdict_status problems ≡ Clean → problems ≡ []
none-listed [] e = refl
none-listed (p ∷ ps) e = let no : ⊥ = cc in absurd no

sound : (shadow : AnyShadow) → all_problems shadow ≡ [] → IsAnySound shadow
sound (One s) none = none
sound (Two s) none = none
sound (Three s) none = none

no-problem : (shadow : AnyShadow) → IsAnySound shadow → all_problems shadow ≡ []
no-problem (One s) is = is
no-problem (Two s) is = is
no-problem (Three s) is = is

pub clean-sound : CleanIsSound
clean-sound bytes = (
  λ e. by_reading (read_text bytes) refl e,
  λ s. ap report_status ((dumps-read bytes s.0).1 s.1) ∙ ap verdict_status (no-problem s.0 s.2),
)
  where
    by_reading : (r : Result AnyShadow (ℕ × LineFault)) → read_text bytes ≡ r → report_status r ≡ Clean → (shadow : AnyShadow) × IsTextOf shadow bytes × IsAnySound shadow
    by_reading (Ok s) is e = (s, (dumps-read bytes s).0 is, sound s (none-listed (all_problems s) e))
    by_reading (Err fault) is e = let no : ⊥ = cc in absurd no
