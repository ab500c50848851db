-- What a call answers that may run out of memory. Source: own.
use Rattle.std.specs.Prelude.{◌≡◌, ◌⊎◌, Result, Ok, Err}
use Rattle.rt_sql_statement.specs.declared.refusal.Refusal.{Refusal}
use Rattle.rt_sql_statement.specs.declared.refusal.Refusal.TheVariants.{OutOfMemory}

-- the answer that is wanted, unless memory ran out
abbrev pub Gives : {A : Type 0} → Result A Refusal → Result A Refusal → Type 0
Gives wanted result = (result ≡ wanted) ⊎ (result ≡ Err OutOfMemory)

-- the same if what is given stands for what is wanted, as a view tells
abbrev pub GivesAs : {A B : Type 0} → (B → A) → Result A Refusal → Result B Refusal → Type 0
GivesAs view wanted (Ok given) = wanted ≡ Ok (view given)
GivesAs view wanted (Err refusal) = (wanted ≡ Err refusal) ⊎ (refusal ≡ OutOfMemory)
