-- The words of a number (own).
use Rattle.std.specs.Prelude.{◌≡◌, ℕ, ℤ, List, length, Option}
use Rattle.rt_calls.specs.Buffers.{Copies}
use Rattle.rt_calls.specs.Calls.{Answers}
use Rattle.rt_calls.specs.Codes.{IsNumberOf, words_of}
use Rattle.rt_calls.specs.declared.code.Code.{Code}

-- the words of the code with that number, or those of no code, are copied, and their length is told
abbrev pub GivesWords : ℤ → List ℕ → List ℕ → ℕ → ℤ → Type 0
GivesWords number before after total answer = (named : Option Code) × IsNumberOf number named ×
    (total ≡ length (words_of named)) × Answers answer (Copies (words_of named) before after)
