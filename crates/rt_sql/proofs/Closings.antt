-- Where a quote closes, one character further.
use Rattle.std.proofs.Math.Seq.{drop-cons}
use Rattle.std.proofs.Common.{◌≡◌, ◌≢◌, ℕ, suc, ◌+◌, ◌<◌, true, false, ◌==◌, [], ◌∷◌, length, get_or, drop, refl, ap, ◌∙◌, sym, add-one, arith}
use Rattle.std.proofs.lemmas.Bool.Decides.{nat_tests}
use Rattle.rt_sql.specs.Token.{Text}
use Rattle.rt_sql.specs.Lex.{closing}

pub differs : (b q : ℕ) → b ≢ q → (b == q) ≡ false
differs b q h = grind (arith, nat_tests)

pub equals : (b q : ℕ) → b ≡ q → (b == q) ≡ true
equals b q h = grind (arith, nat_tests)

pub closing-other : (q at b : ℕ) (z : Text) → (b == q) ≡ false → closing q at (b ∷ z) ≡ closing q (at + 1) z
closing-other q at b [] h = rw h refl
closing-other q at b (c ∷ z) h = rw h refl

pub closing-twice : (q at b c : ℕ) (z : Text) → (b == q) ≡ true → (c == q) ≡ true → closing q at (b ∷ c ∷ z) ≡ closing q (at + 2) z
closing-twice q at b c z h k = rw (h, k) refl

closing_goes-suc : (q i : ℕ) (z : Text) → i < length z → get_or z i 0 ≢ q → closing q i (drop i z) ≡ closing q (i + 1) (drop (suc i) z)
closing_goes-suc q i z h n = rw (drop-cons z i 0 h) (closing-other q i (get_or z i 0) (drop (suc i) z) (differs (get_or z i 0) q n))

pub closing_goes : (q i : ℕ) (z : Text) → i < length z → get_or z i 0 ≢ q → closing q i (drop i z) ≡ closing q (i + 1) (drop (i + 1) z)
closing_goes q i z h n = closing_goes-suc q i z h n ∙ ap (λ k. closing q (i + 1) (drop k z)) (sym (add-one i))

closing_skips-suc : (q i : ℕ) (z : Text) → suc i < length z → get_or z i 0 ≡ q → get_or z (suc i) 0 ≡ q → closing q i (drop i z) ≡ closing q (i + 2) (drop (suc (suc i)) z)
closing_skips-suc q i z h e f =
    let h' : i < length z = omega arith in
    rw (drop-cons z i 0 h', drop-cons z (suc i) 0 h) (closing-twice q i (get_or z i 0) (get_or z (suc i) 0) (drop (suc (suc i)) z) (equals (get_or z i 0) q e) (equals (get_or z (suc i) 0) q f))

pub closing_skips : (q i : ℕ) (z : Text) → i + 1 < length z → get_or z i 0 ≡ q → get_or z (i + 1) 0 ≡ q → closing q i (drop i z) ≡ closing q (i + 2) (drop (i + 2) z)
closing_skips q i z h e f =
    let two : suc (suc i) ≡ i + 2 = omega arith in
    closing_skips-suc q i z (omega arith) e (rw add-one at f) ∙ ap (λ k. closing q (i + 2) (drop k z)) two
