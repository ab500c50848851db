-- The caller's lists and buffers, and what a call leaves in them (own).
use Rattle.std.specs.Prelude.{◌≡◌, ◌≢◌, ◌<◌, ◌≤◌, ℕ, List, ◌++◌, length, drop}
use Rattle.rt_calls.specs.declared.code.Code.{Code}
use Rattle.rt_calls.specs.declared.code.Code.TheVariants.{Done, BufferTooSmall, OutOfMemory}

-- the items are the buffer's first, and those after them stay; or the buffer is shorter, and unchanged
abbrev pub Copies : {X : Type 0} → List X → List X → List X → Code → Type 0
Copies items before after Done = (length items ≤ length before) × (after ≡ items ++ drop (length items) before)
Copies items before after BufferTooSmall = (length before < length items) × (after ≡ before)
Copies items before after code = ⊥

-- the text is copied, and its length is told; or no memory is left
abbrev pub GivesText : List ℕ → List ℕ → List ℕ → ℕ → ℕ → Code → Type 0
GivesText text before after told total OutOfMemory = (after ≡ before) × (total ≡ told)
GivesText text before after told total code = (total ≡ length text) × Copies text before after code

-- a list has the wanted length, and the call says the one; or it has another length, and the call says the other
abbrev pub Sized : ℕ → ℕ → Type 0 → Type 0 → Type 0
Sized long wanted right wrong = (long ≡ wanted → right) × (long ≢ wanted → wrong)
