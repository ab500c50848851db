-- The cells of a node from a place on; two clauses of one result.
use Rattle.std.proofs.Common.{◌≡◌, ℕ, zero, suc, ◌+◌, ◌<◌, ◌≤◌, Result, Ok, Err, OnOk, List, [], ◌∷◌, drop, length, get_or, arith, refl, ap, sym, ◌∙◌}

pub drop-next : {X : Type 0} (xs : List X) (i : ℕ) (x : X) → i < length xs → x ≡ get_or xs i x → drop i xs ≡ x ∷ drop (i + 1) xs
drop-next [] i x h is = absurd (omega (arith, h))
drop-next (y ∷ xs) zero x h is = ap (λ z. z ∷ xs) (sym is)
drop-next (y ∷ xs) (suc i) x h is =
    let next : suc i + 1 ≡ suc (i + 1) = omega arith in
    drop-next xs i x (omega (arith, h)) is ∙ ap (λ n. x ∷ drop n (y ∷ xs)) (sym next)

pub drop-past : {X : Type 0} (xs : List X) (i : ℕ) → length xs ≤ i → drop i xs ≡ []
drop-past [] zero h = refl
drop-past [] (suc i) h = refl
drop-past (x ∷ xs) zero h = absurd (omega (arith, h))
drop-past (x ∷ xs) (suc i) h = drop-past xs i (omega (arith, h))

pub on-ok-both : {T E P Q R : Type 0} (r : Result T E) → (P → Q → R) → OnOk r P → OnOk r Q → OnOk r R
on-ok-both (Ok x) f p q = f p q
on-ok-both (Err e) f p q = tt
