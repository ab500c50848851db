-- Lemmas on lists: a product, and what holds of two lists place by place.
use Rattle.std.proofs.Common.{◌≡◌, ℕ, zero, suc, ◌+◌, ◌*◌, ◌<◌, List, [], ◌∷◌, ◌++◌, length, map, get_or, take, inl, inr, arith, ap, sym, subst, ◌∙◌}
use Rattle.std.specs.List.{AllZip}
use Rattle.std.proofs.Math.Nat.{mul_assoc}
use Rattle.std.proofs.lemmas.Bool.{cases_eq}
use Rattle.std.proofs.lemmas.List.{take_more, map-append, get_or_default}
use Rattle.rt_box.specs.Rect.{product}

pub product-push : (xs : List ℕ) (y : ℕ) → product (xs ++ y ∷ []) ≡ product xs * y
product-push [] y = omega arith
product-push (x ∷ xs) y = ap (λ n. x * n) (product-push xs y) ∙ sym (mul_assoc x (product xs) y)

pub product-map_more : {X : Type 0} (f : X → ℕ) (xs : List X) (i : ℕ) (d : X) → i < length xs →
    product (map f (take (i + 1) xs)) ≡ product (map f (take i xs)) * f (get_or xs i d)
product-map_more f xs i d h = rw (take_more xs i d h, map-append) (product-push (map f (take i xs)) (f (get_or xs i d)))

-- R holds place by place
pub AllZip-from_places : {X Y : Type 0} (R : X → Y → Type 0) (xs : List X) (ys : List Y) → length xs ≡ length ys →
    ((i : ℕ) (d : X) (e : Y) → i < length xs → R (get_or xs i d) (get_or ys i e)) → AllZip R xs ys
AllZip-from_places R [] [] e h = tt
AllZip-from_places R [] (y ∷ ys) e h = absurd (omega arith)
AllZip-from_places R (x ∷ xs) [] e h = absurd (omega arith)
AllZip-from_places R (x ∷ xs) (y ∷ ys) e h =
    (h 0 x y (omega arith), AllZip-from_places R xs ys (omega arith) (λ i d d' k. h (suc i) d d' (omega arith)))

pub AllZip-get_or_both : {X Y : Type 0} (R : X → Y → Type 0) (xs : List X) (ys : List Y) (i : ℕ) (d : X) (e : Y) →
    AllZip R xs ys → i < length xs → R (get_or xs i d) (get_or ys i e)
AllZip-get_or_both R [] ys i d e h l = absurd (omega arith)
AllZip-get_or_both R (x ∷ xs) [] i d e h l = absurd h
AllZip-get_or_both R (x ∷ xs) (y ∷ ys) zero d e h l = h.0
AllZip-get_or_both R (x ∷ xs) (y ∷ ys) (suc i) d e h l = AllZip-get_or_both R xs ys i d e h.1 (omega arith)

-- what holds at each place before one, and there, holds at each place up to it
pub one_more : {X Y : Type 0} (R : X → Y → Type 0) (xs : List X) (ys : List Y) (n : ℕ) (a : X) (b : Y) → n < length xs → n < length ys →
    ((i : ℕ) → i < n → (d : X) (e : Y) → R (get_or xs i d) (get_or ys i e)) → R (get_or xs n a) (get_or ys n b) →
    (i : ℕ) → i < n + 1 → (d : X) (e : Y) → R (get_or xs i d) (get_or ys i e)
one_more R xs ys n a b within within' before here i below d e = elim (cases_eq i n) [
  | inl same ↦
      subst (λ k. R (get_or xs k d) (get_or ys k e)) (sym same)
      (subst (λ x. R x (get_or ys n e)) (get_or_default xs n a d within) (subst (λ y. R (get_or xs n a) y) (get_or_default ys n b e within') here))
  | inr other ↦ before i (omega arith) d e
]
