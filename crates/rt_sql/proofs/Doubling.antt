-- Texts with doubled quotes, and hexadecimal digits, one step further.
use Rattle.std.proofs.Math.Seq.{drop-cons}
use Rattle.std.proofs.Common.{◌≡◌, ℕ, ◌+◌, ◌<◌, true, ◌==◌, [], ◌∷◌, ◌++◌, length, get_or, get_or-drop, add-zero, length-drop, take, drop, refl, ap, ◌∙◌, sym, add-one, append_assoc, arith}
use Rattle.std.proofs.lemmas.Bool.Decides.{nat_tests}
use Rattle.std.proofs.lemmas.List.{take_more}
use Rattle.rt_sql.specs.Token.{Text, undouble, hex_bytes}
use Rattle.rt_sql.proofs.Basics.{test}

byte_is : (x y : ℕ) → (x == y) ≡ true → x ≡ y
byte_is x y h = grind (arith, nat_tests)

undouble-next : (q b : ℕ) (z : Text) → (b ≡ q → 0 < length z → get_or z 0 0 ≡ q → ⊥) → undouble q (b ∷ z) ≡ b ∷ undouble q z
undouble-next q b [] h = refl
undouble-next q b (c ∷ z) h =
    test (b == q)
    (λ e. test (c == q) (λ f. absurd (h (byte_is b q e) (omega arith) (byte_is c q f))) (λ f. rw (e, f) refl))
    (λ e. rw e refl)

first-drop : (z : Text) (n : ℕ) → get_or (drop n z) 0 0 ≡ get_or z n 0
first-drop z n = rw (get_or-drop, add-zero) refl

next_drop : (z : Text) (at : ℕ) → at < length z → drop at z ≡ get_or z at 0 ∷ drop (at + 1) z
next_drop z at h = drop-cons z at 0 h ∙ ap (λ n. get_or z at 0 ∷ drop n z) (sym (add-one at))

pub pair_goes : (q at : ℕ) (z : Text) → at < length z → (get_or z at 0 ≡ q → at + 1 < length z → get_or z (at + 1) 0 ≡ q → ⊥) → undouble q z ≡ take at z ++ undouble q (drop at z) → undouble q z ≡ take (at + 1) z ++ undouble q (drop (at + 1) z)
pair_goes q at z h lacks e =
    let x = get_or z at 0 in
    let is_next : drop at z ≡ x ∷ drop (at + 1) z = next_drop z at h in
    let lacks' : x ≡ q → 0 < length (drop (at + 1) z) → get_or (drop (at + 1) z) 0 0 ≡ q → ⊥ =
    λ is_first more is_second. lacks is_first (omega (arith, length-drop (at + 1) z)) (sym (first-drop z (at + 1)) ∙ is_second) in
    e ∙ ap (λ s. take at z ++ s) (ap (undouble q) is_next ∙ undouble-next q x (drop (at + 1) z) lacks')
    ∙ sym (append_assoc (take at z) (x ∷ []) (undouble q (drop (at + 1) z)))
    ∙ ap (λ s. s ++ undouble q (drop (at + 1) z)) (sym (take_more z at 0 h))

pub short_hex : (z : Text) → length z < 2 → hex_bytes z ≡ []
short_hex [] h = refl
short_hex (b ∷ []) h = refl
short_hex (b ∷ c ∷ z) h = absurd (omega arith)
