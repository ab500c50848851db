-- What was read of a reader, and what a reader held.
use Rattle.std.proofs.Common.{◌≡◌, ◌∙◌, ℕ, ◌+◌, ◌<◌, ◌≤◌, List, [], ◌++◌, length, Option, None, Some, refl, sym, ap, arith, append_assoc, append-nil, length-append}
use Rattle.std.specs.Prelude.{IfSome}
use Rattle.std.specs.Io.KnownBytes.{Appends, Consumes, Keeps, IsAtEnd}
use Rattle.rt_bytes.specs.Devices.{most_reads, Held}

pub Consumes-trans : (a b c : Option (List ℕ)) (xs ys : List ℕ) → Consumes a b xs → Consumes b c ys → Consumes a c (xs ++ ys)
Consumes-trans None b c xs ys p q = tt
Consumes-trans (Some s) None c xs ys p q = absurd p
Consumes-trans (Some s) (Some t) None xs ys p q = absurd q
Consumes-trans (Some s) (Some t) (Some u) xs ys p q = p ∙ ap (λ l. xs ++ l) q ∙ sym (append_assoc xs ys u)

pub Consumes-kept : (a b c : Option (List ℕ)) (xs : List ℕ) → Consumes a b xs → Keeps b c → Consumes a c xs
Consumes-kept None b c xs p q = tt
Consumes-kept (Some s) None c xs p q = absurd p
Consumes-kept (Some s) (Some t) None xs p q = absurd q
Consumes-kept (Some s) (Some t) (Some u) xs p q = p ∙ ap (λ l. xs ++ l) (sym q)

pub Consumes-none : (a : Option (List ℕ)) → Consumes a a []
Consumes-none None = tt
Consumes-none (Some s) = refl

pub always : (P : Type 0) (a : Option (List ℕ)) → P → IfSome a (λ script. length script < most_reads → P)
always P None p = tt
always P (Some s) p = λ short. p

-- that many bytes were read, so the script wasn't shorter
pub too_long : (P : Type 0) (a b : Option (List ℕ)) (xs : List ℕ) → Consumes a b xs → most_reads ≤ length xs → IfSome a (λ script. length script < most_reads → P)
too_long P None b xs p long = tt
too_long P (Some s) None xs p long = absurd p
too_long P (Some s) (Some t) xs p long = λ short. absurd (omega (arith, ap length p, length-append xs t))

pub held_at_end : (a b : Option (List ℕ)) (read : List ℕ) → Consumes a b read → IsAtEnd b → Held a read
held_at_end None b read p e = tt
held_at_end (Some s) None read p e = absurd p
held_at_end (Some s) (Some t) read p e = p ∙ ap (λ l. read ++ l) e ∙ append-nil read

pub held_before : (a b : Option (List ℕ)) (read : List ℕ) → Consumes a b read → (rest : List ℕ) × Held a (read ++ rest)
held_before None b read p = ([], tt)
held_before (Some s) None read p = absurd p
held_before (Some s) (Some t) read p = (t, p)

pub Appends-kept : (a b c : Option (List ℕ)) (xs : List ℕ) → Appends a b xs → Keeps b c → Appends a c xs
Appends-kept None b c xs p q = tt
Appends-kept (Some s) None c xs p q = absurd p
Appends-kept (Some s) (Some t) None xs p q = absurd q
Appends-kept (Some s) (Some t) (Some u) xs p q = q ∙ p
