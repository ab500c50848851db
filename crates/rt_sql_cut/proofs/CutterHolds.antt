-- What is held of several bytes at once.
use Rattle.std.proofs.Common.{◌≡◌, ℕ, ◌+◌, ◌<◌, ◌≤◌, List, [], ◌∷◌, ◌++◌, length, Some, None, sym, refl, ap, ◌∙◌, subst, ⊎_elim, append_assoc, append-nil, arith}
use Rattle.std.proofs.lemmas.Bool.{cases_lt, lt-ltb, le-ltb, cond-true, cond-false}
use Rattle.std.proofs.lemmas.List.{length_push}
use Rattle.rt_sql_cut.specs.CutterStep.{with_bytes}

pub bytes_none : (bytes : List ℕ) → with_bytes None bytes ≡ None
bytes_none [] = refl
bytes_none (b ∷ bytes) = bytes_none bytes

pub bytes_short : (held bytes : List ℕ) → length held + length bytes ≤ 65536 → with_bytes (Some held) bytes ≡ Some (held ++ bytes)
bytes_short held [] short = ap Some (sym (append-nil held))
bytes_short held (b ∷ bytes) short =
    ap (λ h. with_bytes h bytes) (cond-true _ _ _ (lt-ltb (length held) 65536 (omega arith))) ∙ bytes_short (held ++ b ∷ []) bytes (subst (λ n. n + length bytes ≤ 65536) (sym (length_push held b)) (omega arith)) ∙ ap Some (append_assoc held (b ∷ []) bytes)

pub bytes_long : (held bytes : List ℕ) → length held ≤ 65536 → 65536 < length held + length bytes → with_bytes (Some held) bytes ≡ None
bytes_long held [] short long = absurd (omega arith)
bytes_long held (b ∷ bytes) short long =
    ⊎_elim
    (λ (room : length held < 65536).
    ap (λ h. with_bytes h bytes) (cond-true _ _ _ (lt-ltb (length held) 65536 room)) ∙ bytes_long (held ++ b ∷ []) bytes (subst (λ n. n ≤ 65536) (sym (length_push held b)) (omega arith)) (subst (λ n. 65536 < n + length bytes) (sym (length_push held b)) (omega arith)))
    (λ (full : 65536 ≤ length held).
    ap (λ h. with_bytes h bytes) (cond-false _ _ _ (le-ltb _ _ full)) ∙ bytes_none bytes)
    (cases_lt (length held) 65536)
