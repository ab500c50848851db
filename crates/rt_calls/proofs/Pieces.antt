-- Pieces of a list, one more at a time.
use Rattle.std.proofs.Common.{◌≡◌, ℕ, zero, suc, ◌+◌, ◌*◌, ℤ, List, [], ◌∷◌, ◌++◌, length, take, drop, arith, add-one, refl, sym, ap, subst, ◌∙◌}
use Rattle.std.specs.List.{AllZip}
use Rattle.std.proofs.lemmas.List.{drop-drop}
use Rattle.std.proofs.lemmas.Slice.Zip.{all_zipped_more}
use Rattle.rt_tree_many.specs.Parts.{starts_from, HasParts}
use Rattle.rt_calls.specs.Numbers.{piece_at, pieces}

pieces_suc : (width count : ℕ) (xs : List ℤ) → pieces width (suc count) xs ≡ pieces width count xs ++ piece_at width xs count ∷ []
pieces_suc width zero xs =
    let none : zero ≡ zero * width = omega arith in
    ap (λ n. take width (drop n xs) ∷ []) none
pieces_suc width (suc count) xs =
    let far : width + count * width ≡ suc count * width = omega arith in
    ap (λ ps. take width xs ∷ ps) (pieces_suc width count (drop width xs)
    ∙ ap (λ ys. pieces width count (drop width xs) ++ take width ys ∷ []) (drop-drop (count * width) width xs ∙ ap (λ n. drop n xs) far))

pub pieces_more : (width count : ℕ) (xs : List ℤ) → pieces width (count + 1) xs ≡ pieces width count xs ++ piece_at width xs count ∷ []
pieces_more width count xs = ap (λ n. pieces width n xs) (add-one count) ∙ pieces_suc width count xs

-- one more piece, and what belongs to it
pub zipped_more : {Y : Type 0} (R : List ℤ → Y → Type 0) (width count : ℕ) (xs : List ℤ) (ys new : List Y) (y : Y) → R (piece_at width xs count) y →
    new ≡ ys ++ y ∷ [] → AllZip R (pieces width count xs) ys → AllZip R (pieces width (count + 1) xs) new
zipped_more R width count xs ys new y here pushed has =
    subst (λ l. AllZip R (pieces width (count + 1) xs) l) (sym pushed)
    (subst (λ ps. AllZip R ps (ys ++ y ∷ [])) (sym (pieces_more width count xs)) (all_zipped_more R (pieces width count xs) ys (piece_at width xs count) y has here))

pub zipped_none : {Y : Type 0} (R : List ℤ → Y → Type 0) (ys : List Y) → ys ≡ [] → AllZip R [] ys
zipped_none R ys none = subst (λ l. AllZip R [] l) (sym none) tt

-- what belongs to what belongs to it
pub zipped_on : {X Y Z : Type 0} (P : X → Y → Type 0) (Q : Y → Z → Type 0) (R : X → Z → Type 0) → ((x : X) (y : Y) (z : Z) → P x y → Q y z → R x z) →
    (xs : List X) (ys : List Y) (zs : List Z) → AllZip P xs ys → AllZip Q ys zs → AllZip R xs zs
zipped_on P Q R both [] [] [] p q = tt
zipped_on P Q R both [] [] (z ∷ zs) p q = absurd q
zipped_on P Q R both [] (y ∷ ys) zs p q = absurd p
zipped_on P Q R both (x ∷ xs) [] zs p q = absurd p
zipped_on P Q R both (x ∷ xs) (y ∷ ys) [] p q = absurd q
zipped_on P Q R both (x ∷ xs) (y ∷ ys) (z ∷ zs) p q = (both x y z p.0 q.0, zipped_on P Q R both xs ys zs p.1 q.1)

pub zipped_long : {X Y : Type 0} (R : X → Y → Type 0) (xs : List X) (ys : List Y) → AllZip R xs ys → length ys ≡ length xs
zipped_long R [] [] h = refl
zipped_long R [] (y ∷ ys) h = absurd h
zipped_long R (x ∷ xs) [] h = absurd h
zipped_long R (x ∷ xs) (y ∷ ys) h = omega (arith, zipped_long R xs ys h.1)

pub length-pieces : (width count : ℕ) (xs : List ℤ) → length (pieces width count xs) ≡ count
length-pieces width zero xs = refl
length-pieces width (suc count) xs = omega (arith, length-pieces width count (drop width xs))

length-starts_from : (place : ℕ) (parts : List (List ℤ)) → length (starts_from place parts) ≡ length parts
length-starts_from place [] = refl
length-starts_from place (part ∷ parts) = omega (arith, length-starts_from (place + length part) parts)

-- there are as many starts as parts
pub starts-counted : (parts : List (List ℤ)) (all : List ℤ) (begin : List ℕ) → HasParts parts all begin → length begin ≡ length parts
starts-counted parts all begin has = ap length has.begin ∙ length-starts_from 0 parts
