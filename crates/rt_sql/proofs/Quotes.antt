-- Texts in quotes.
use Rattle.std.proofs.Common.{add-zero, ◌≡◌, ℕ, ◌+◌, true, false, ◌==◌, [], ◌∷◌, ◌++◌, length, Some, refl, ap, ◌∙◌, sym, arith}
use Rattle.std.proofs.lemmas.Bool.Decides.{nat_tests}
use Rattle.rt_sql.specs.Token.{Text, begins, double}
use Rattle.rt_sql.specs.Tokens.{is_byte}
use Rattle.rt_sql.specs.Lex.{closing}
use Rattle.rt_sql.proofs.Closings.{closing-other, closing-twice}
use Rattle.rt_sql.proofs.Basics.{test, none}

pub own_byte : (q : ℕ) → (q == q) ≡ true
own_byte q = grind (arith, nat_tests)

pub byte_is : (b q : ℕ) → (b == q) ≡ true → b ≡ q
byte_is b q h = grind (arith, nat_tests)

closing-end : (q at : ℕ) (after : Text) → begins (is_byte q) after ≡ false → closing q at (q ∷ after) ≡ Some at
closing-end q at [] h = rw (own_byte q) refl
closing-end q at (c ∷ z) h = rw (own_byte q, h) refl

pub double-twice : (q b : ℕ) (n : Text) → (b == q) ≡ true → double q (b ∷ n) ≡ b ∷ b ∷ double q n
double-twice q b n h = rw h refl

pub double-once : (q b : ℕ) (n : Text) → (b == q) ≡ false → double q (b ∷ n) ≡ b ∷ double q n
double-once q b n h = rw h refl

pub closing_doubled : (q at : ℕ) (n after : Text) → begins (is_byte q) after ≡ false → closing q at (double q n ++ q ∷ after) ≡ Some (at + length (double q n))
closing_doubled q at [] after h = closing-end q at after h ∙ ap Some (sym (add-zero at))
closing_doubled q at (b ∷ n) after h =
    test (b == q)
    (λ e.
    let sum : (at + 2) + length (double q n) ≡ at + length (b ∷ b ∷ double q n) = omega arith in
    rw (double-twice q b n e)
    (closing-twice q at b b (double q n ++ q ∷ after) e e ∙ closing_doubled q (at + 2) n after h ∙ ap Some sum))
    (λ e.
    let sum : (at + 1) + length (double q n) ≡ at + length (b ∷ double q n) = omega arith in
    rw (double-once q b n e)
    (closing-other q at b (double q n ++ q ∷ after) e ∙ closing_doubled q (at + 1) n after h ∙ ap Some sum))

-- what stands before the quote that closes
abbrev pub Closed : ℕ → ℕ → Text → ℕ → Type 0
Closed q at z m = (n after : Text) × (z ≡ double q n ++ q ∷ after) × (begins (is_byte q) after ≡ false) × (m ≡ at + length (double q n))

some_is : {A : Type 0} {a b : A} → Some a ≡ Some b → a ≡ b
some_is e = cc

pub closed_by : (q at : ℕ) (z : Text) (m : ℕ) → closing q at z ≡ Some m → Closed q at z m
closed_by q at [] m h = none h
closed_by q at (b ∷ []) m h =
    test (b == q)
    (λ e. ([], [], ap (λ x. x ∷ []) (byte_is b q e), refl, sym (some_is (rw e at h)) ∙ sym (add-zero at)))
    (λ e. none (rw e at h))
closed_by q at (b ∷ c ∷ z) m h =
    test (b == q)
    (λ e. let h1 = rw e at h in
    test (c == q)
    (λ f.
    let k = closed_by q (at + 2) z m (rw f at h1) in
    let is_b = byte_is b q e in
    let is_c = byte_is c q f in (
      q ∷ k.0,
      k.1,
      ap (λ x. x ∷ c ∷ z) is_b ∙ ap (λ x. q ∷ x ∷ z) is_c ∙ ap (λ x. q ∷ q ∷ x) k.2 ∙ ap (λ x. x ++ q ∷ k.1) (sym (double-twice q q k.0 (own_byte q))),
      k.3,
      rw (double-twice q q k.0 (own_byte q)) (omega (arith, k.4)),
    ))
    (λ f. ([], c ∷ z, ap (λ x. x ∷ c ∷ z) (byte_is b q e), f, sym (some_is (rw f at h1)) ∙ sym (add-zero at))))
    (λ e.
    let k = closed_by q (at + 1) (c ∷ z) m (rw e at h) in (
      b ∷ k.0,
      k.1,
      rw (double-once q b k.0 e) (ap (λ x. b ∷ x) k.2),
      k.3,
      rw (double-once q b k.0 e) (omega (arith, k.4)),
    ))
