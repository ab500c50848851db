-- What readers and writers count, and what a whole write leaves (own).
use Rattle.std.specs.Prelude.{◌≡◌, ℕ, ◌+◌, ◌-◌, ◌^◌, ◌<◌, ◌≤◌, min, List, length, take, MatchResult, Result, Ok, Err, Option}
use Rattle.std.specs.Io.KnownBytes.{Appends}

-- a count raised by one, which stays at 2^64 - 1
abbrev pub one_more : ℕ → ℕ
one_more n = min (n + 1) (2 ^ 64 - 1)

-- an Err raises the count by one, an Ok leaves it
abbrev pub CountsErr : {T E : Type 0} → ℕ → ℕ → Result T E → Type 0
CountsErr old new r = MatchResult r (λ _. new ≡ old) (λ _. new ≡ one_more old)

-- an answer is passed on under another fault: an Ok stays, an Err becomes that fault and is counted
abbrev pub PassesOn : {T E F : Type 0} → Result T E → F → ℕ → ℕ → Result T F → Type 0
PassesOn (Ok given) fault old new r = (r ≡ Ok given) × (new ≡ old)
PassesOn (Err reason) fault old new r = (r ≡ Err fault) × (new ≡ one_more old)

-- a write of `len` bytes took none of them, though there were some
abbrev pub TookNone : {E : Type 0} → ℕ → Result ℕ E → Type 0
TookNone len answer = (0 < len) × (answer ≡ Ok 0)

-- all of the bytes were written, and no fault was counted
abbrev pub WritesAll : Option (List ℕ) → Option (List ℕ) → ℕ → ℕ → List ℕ → Type 0
WritesAll old new faults_old faults_new bytes = Appends old new bytes × (faults_new ≡ faults_old)

-- some prefix of the bytes was written
abbrev pub AppendsPrefix : Option (List ℕ) → Option (List ℕ) → List ℕ → Type 0
AppendsPrefix old new bytes = (n : ℕ) × (n ≤ length bytes) × Appends old new (take n bytes)

-- a prefix of the bytes was written, and one fault counted
abbrev pub WritesPrefix : Option (List ℕ) → Option (List ℕ) → ℕ → ℕ → List ℕ → Type 0
WritesPrefix old new faults_old faults_new bytes = AppendsPrefix old new bytes × (faults_new ≡ one_more faults_old)

-- at Ok all of the bytes were written; at Err a prefix of them, and the fault was counted
abbrev pub Writes : {T E : Type 0} → Option (List ℕ) → Option (List ℕ) → ℕ → ℕ → Result T E → List ℕ → Type 0
Writes old new faults_old faults_new r bytes =
    MatchResult r (λ _. WritesAll old new faults_old faults_new bytes) (λ _. WritesPrefix old new faults_old faults_new bytes)
