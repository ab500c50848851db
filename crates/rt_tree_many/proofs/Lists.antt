-- Ids among others, and lists that grow by one.
use Rattle.std.proofs.Common.{◌≡◌, ◌≢◌, ℕ, ◌+◌, ◌<◌, false, ℤ, List, [], ◌∷◌, ◌++◌, take, length, get_or, Some, arith, refl, ap, sym, ◌∙◌}
use Rattle.std.specs.Prelude.{slice_get}
use Rattle.std.specs.List.{All, AllZip}
use Rattle.std.specs.Ordering.{int_eq}
use Rattle.std.proofs.lemmas.Bool.{or_from, or_parts, true≢false}
use Rattle.std.proofs.lemmas.Bool.Decides.{Decides-int_eq}
use Rattle.std.proofs.lemmas.Option.{slice_get-get_or}
use Rattle.std.proofs.lemmas.List.{take_more, length-map, get_or-map, map-append, take-map}
use Rattle.std.proofs.lemmas.List.Elements.{All-nil, All-cons}
use Rattle.rt_map.specs.Packing.{ids}
use Rattle.rt_tree_walk.specs.declared.searching.Row.{Row}
use Rattle.rt_tree_many.specs.Insertion.{is_among}

pub int_eq-apart : (x y : ℤ) → int_eq x y ≡ false → x ≢ y
int_eq-apart x y e same = true≢false (sym ((Decides-int_eq x y).1 same) ∙ e)

-- what isn't among a list and its next id
pub among-push : (xs : List ℤ) (y z : ℤ) → is_among (xs ++ y ∷ []) z ≡ false → (is_among xs z ≡ false) × (z ≢ y)
among-push [] y z e = (refl, int_eq-apart z y (or_parts (int_eq z y) false e).0)
among-push (x ∷ xs) y z e =
    let parts = or_parts (int_eq z x) (is_among (xs ++ y ∷ []) z) e in
    let rest = among-push xs y z parts.1 in
    (or_from (int_eq z x) (is_among xs z) parts.0 rest.0, rest.1)

pub all-zip-push : {A B : Type 0} (R : A → B → Type 0) (xs : List A) (ys : List B) (x : A) (y : B) → AllZip R xs ys → R x y → AllZip R (xs ++ x ∷ []) (ys ++ y ∷ [])
all-zip-push R [] [] x y all r = (r, tt)
all-zip-push R [] (b ∷ ys) x y all r = absurd all
all-zip-push R (a ∷ xs) [] x y all r = absurd all
all-zip-push R (a ∷ xs) (b ∷ ys) x y all r = (all.0, all-zip-push R xs ys x y all.1 r)

pub take-item : {X : Type 0} (xs : List X) (i : ℕ) (x : X) → i < length xs → x ≡ get_or xs i x → take (i + 1) xs ≡ take i xs ++ x ∷ []
take-item {X} xs i x within is = take_more xs i x within ∙ ap (λ (y : X). take i xs ++ y ∷ []) (sym is)

module _ {D : ℕ} where
  -- rows whose ids the id isn't among have others
  pub among-none : (rows : List (Row D)) (z : ℤ) → is_among (ids rows) z ≡ false → All (λ r. r.id ≢ z) rows
  among-none [] z e = All-nil (λ (r : Row D). r.id ≢ z)
  among-none (r ∷ rows) z e =
      let parts = or_parts (int_eq z r.id) (is_among (ids rows) z) e in
      All-cons (λ (x : Row D). x.id ≢ z) r rows (λ same. int_eq-apart z r.id parts.0 (sym same)) (among-none rows z parts.1)

  pub id-at : (rows : List (Row D)) (i : ℕ) (row : Row D) → i < length rows → row ≡ get_or rows i row → slice_get (ids rows) i ≡ Some row.id
  id-at rows i row within is =
      let id : Row D → ℤ = λ r. r.id in
      let long : length (ids rows) ≡ length rows = length-map rows id in
      slice_get-get_or (ids rows) i row.id (omega (arith, long, within)) ∙ ap Some (get_or-map id rows i row row.id within ∙ ap id (sym is))

  pub take-next : (rows : List (Row D)) (i : ℕ) (row : Row D) → i < length rows → row ≡ get_or rows i row → take (i + 1) rows ≡ take i rows ++ row ∷ []
  take-next rows i row within is = take-item rows i row within is

  pub ids-next : (rows : List (Row D)) (i : ℕ) (row : Row D) → i < length rows → row ≡ get_or rows i row → take (i + 1) (ids rows) ≡ take i (ids rows) ++ row.id ∷ []
  ids-next rows i row within is =
      let id : Row D → ℤ = λ r. r.id in
      take-map id (i + 1) rows ∙ ap ids (take-next rows i row within is) ∙ map-append id (take i rows) (row ∷ [])
      ∙ ap (λ (xs : List ℤ). xs ++ row.id ∷ []) (sym (take-map id i rows))
