-- Texts that grow, and texts in parts (own).
use Rattle.std.specs.Prelude.{◌≡◌, ℕ, List, ◌++◌, Result, OnOk, Vec}
use Rattle.std.specs.declared.alloc.Global.{Global}
use Rattle.std.specs.List.{flat_map}

-- at Ok the text has these bytes more
abbrev pub Adds : {E : Type 0} → Result Unit E → Vec ℕ Global → Vec ℕ Global → List ℕ → Type 0
Adds result old new more = OnOk result (new.items ≡ old.items ++ more)

-- texts one after the other
abbrev pub together : List (List ℕ) → List ℕ
together parts = flat_map (λ part. part) parts
