-- What is said of a dump (own).
use Rattle.std.specs.Prelude.{◌≡◌, ◌↔◌, ℕ, List, [], ◌∷◌, ◌++◌, codes, decimal, Result, Ok, Err}
use Rattle.rt_check.specs.declared.problem.Problem.{Problem}
use Rattle.rt_check_dump.specs.declared.dump.AnyShadow.{AnyShadow}
use Rattle.rt_check_dump.specs.declared.dump.AnyShadow.TheVariants.{One, Two, Three}
use Rattle.rt_check_dump.specs.declared.fault.LineFault.{LineFault}
use Rattle.rt_check.specs.Conditions.{problems_of, IsSound}
use Rattle.rt_check_dump.specs.Codes.{code_of, fault_text}
use Rattle.rt_check_dump.specs.Faults.{IsTextOf}
use Rattle.rt_check_dump.specs.Reading.{read_text}
use Rattle.rt_check_report.specs.Verdict.{verdict_lines}
use Rattle.rt_bytes.specs.declared.outcome.Status.{Status}
use Rattle.rt_bytes.specs.declared.outcome.Status.TheVariants.{Clean, Refused}

-- the first fault of a dump: the line's number, the fault's number and its words
abbrev pub fault_line : ℕ → LineFault → List ℕ
fault_line line fault =
    codes "bad dump " ++ decimal line ++ codes " " ++ decimal (code_of fault) ++ codes ": " ++ fault_text fault ++ codes "\n"

-- the problems of a shadow of one, two or three axes
abbrev pub all_problems : AnyShadow → List Problem
all_problems (One s) = problems_of s
all_problems (Two s) = problems_of s
all_problems (Three s) = problems_of s

-- what is printed of the bytes of a dump
abbrev pub report_on : Result AnyShadow (ℕ × LineFault) → List ℕ
report_on (Ok shadow) = verdict_lines (all_problems shadow)
report_on (Err fault) = fault_line fault.0 fault.1

abbrev pub verdict_status : List Problem → Status
verdict_status [] = Clean
verdict_status (p ∷ ps) = Refused

abbrev pub report_status : Result AnyShadow (ℕ × LineFault) → Status
report_status (Ok shadow) = verdict_status (all_problems shadow)
report_status (Err fault) = Refused

-- no condition fails, on one, two or three axes
abbrev pub IsAnySound : AnyShadow → Type 0
IsAnySound (One s) = IsSound s
IsAnySound (Two s) = IsSound s
IsAnySound (Three s) = IsSound s

-- a dump is clean exactly if it is the text of a sound shadow
abbrev pub CleanIsSound : Type 0
CleanIsSound = (bytes : List ℕ) → (report_status (read_text bytes) ≡ Clean) ↔ ((shadow : AnyShadow) × IsTextOf shadow bytes × IsAnySound shadow)
