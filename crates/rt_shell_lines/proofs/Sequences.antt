-- What several writes in a row come to.
use Rattle.std.proofs.Common.{◌≡◌, ℕ, ◌+◌, ◌<◌, List, ◌++◌, subst, length, take, drop, get_or, Result, Ok, Err, Option}
use Rattle.std.specs.Prelude.{IsErr, MatchResult}
use Rattle.std.specs.List.{flat_map}
use Rattle.rt_bytes.specs.Bytes.{WritesAll, WritesPrefix, Writes}
use Rattle.rt_bytes.proofs.Writing.{WritesAll-part, WritesPrefix-part, WritesPrefix-after, WritesPrefix-more, Writes-failed}

-- all of xs is written and then a prefix of ys, with zs to come
pub Writes-middle : {T E : Type 0} (a b c : Option (List ℕ)) (f g h : ℕ) (r : Result T E) (xs ys zs all : List ℕ) → xs ++ ys ++ zs ≡ all
    → IsErr r → WritesAll a b f g xs → WritesPrefix b c g h ys → Writes a c f h r all
Writes-middle a b c f g h r xs ys zs all e failed p q =
    Writes-failed a c f h r all failed (subst (WritesPrefix a c f h) e
    (WritesPrefix-more a c f h (xs ++ ys) zs (WritesPrefix-after a b c f g h xs ys p q)))

-- what an Err says of a write of some rows
pub next-failed : {X E : Type 0} (a b : Option (List ℕ)) (f g : ℕ) (r : Result ℕ E) (line : X → List ℕ) (from : ℕ) (rows : List X)
    → IsErr r → WritesPrefix a b f g (flat_map line (drop from rows))
    → MatchResult r (λ next. WritesAll a b f g (flat_map line (drop from (take next rows)))) (λ _. WritesPrefix a b f g (flat_map line (drop from rows)))
next-failed a b f g (Ok next) line from rows failed p = let none : ⊥ = cc in absurd none
next-failed a b f g (Err e) line from rows failed p = p

module _ {X : Type 0} (bytes_of : X → List ℕ) where
  -- the items before i and then item i are written
  pub WritesAll-item : (a b c : Option (List ℕ)) (f g h : ℕ) (items : List X) (i : ℕ) (x : X) → i < length items → x ≡ get_or items i x
      → WritesAll a b f g (flat_map bytes_of (take i items)) → WritesAll b c g h (bytes_of x)
      → WritesAll a c f h (flat_map bytes_of (take (i + 1) items))
  WritesAll-item a b c f g h items i x within is p q =
      WritesAll-part bytes_of a b c f g h items i x within p (subst (λ (y : X). WritesAll b c g h (bytes_of y)) is q)

  -- the items before i are written, and a prefix of item i
  pub WritesPrefix-item : (a b c : Option (List ℕ)) (f g h : ℕ) (items : List X) (i : ℕ) (x : X) → i < length items → x ≡ get_or items i x
      → WritesAll a b f g (flat_map bytes_of (take i items)) → WritesPrefix b c g h (bytes_of x)
      → WritesPrefix a c f h (flat_map bytes_of items)
  WritesPrefix-item a b c f g h items i x within is p q =
      WritesPrefix-part bytes_of a b c f g h items i x within p (subst (λ (y : X). WritesPrefix b c g h (bytes_of y)) is q)
