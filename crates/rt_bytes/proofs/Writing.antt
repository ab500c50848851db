-- Lemmas on writes of whole lists of bytes: how two of them compose.
use Rattle.std.proofs.Common.{◌≡◌, ℕ, ◌+◌, ◌-◌, ◌≤◌, List, [], ◌∷◌, ◌++◌, refl, sym, ap, ◌∙◌, subst, length, take, drop, arith, length-append, get_or, ◌<◌, Result, Ok, Err, Option}
use Rattle.std.proofs.lemmas.List.{take-append-le, take_rest, take_more}
use Rattle.std.proofs.lemmas.Grind.{flat_map-append}
use Rattle.std.specs.Prelude.{IsErr}
use Rattle.std.proofs.Common.{append-nil, take-append-drop}
use Rattle.std.specs.List.{flat_map}
use Rattle.std.proofs.Math.Seq.{take-append-add, take-length, take-add}
use Rattle.std.specs.Io.KnownBytes.{Appends, Keeps}
use Rattle.std.proofs.KnownBytes.{Appends-nil, Appends-trans, Appends-kept}
use Rattle.rt_bytes.specs.Bytes.{one_more, WritesAll, AppendsPrefix, WritesPrefix, Writes}

-- nothing is written in no call
pub WritesAll-nil : (a : Option (List ℕ)) (f : ℕ) → WritesAll a a f f []
WritesAll-nil a f = (Appends-nil a, refl)

-- all of xs and then all of ys is all of both
pub WritesAll-trans : (a b c : Option (List ℕ)) (f g h : ℕ) (xs ys : List ℕ)
    → WritesAll a b f g xs → WritesAll b c g h ys → WritesAll a c f h (xs ++ ys)
WritesAll-trans a b c f g h xs ys p q = (Appends-trans a b c xs ys p.0 q.0, q.1 ∙ p.1)

-- all is a prefix
pub AppendsPrefix-all : (a b : Option (List ℕ)) (xs : List ℕ) → Appends a b xs → AppendsPrefix a b xs
AppendsPrefix-all a b xs p = (length xs, omega arith, subst (Appends a b) (sym (take-length xs)) p)

-- nothing is a prefix
pub AppendsPrefix-kept : (a b : Option (List ℕ)) (xs : List ℕ) → Keeps a b → AppendsPrefix a b xs
AppendsPrefix-kept a b xs p = (0, omega arith, Appends-kept a a b [] (Appends-nil a) p)

-- a prefix of xs is one of xs and what follows
pub AppendsPrefix-more : (a b : Option (List ℕ)) (xs ys : List ℕ) → AppendsPrefix a b xs → AppendsPrefix a b (xs ++ ys)
AppendsPrefix-more a b xs ys p =
    let n = p.0 in
    let within : n ≤ length xs = p.1 in
    let longer : n ≤ length (xs ++ ys) = omega (arith, length-append xs ys) in
    (n, longer, subst (Appends a b) (sym (take-append-le n xs ys within)) p.2)

-- all of xs and then a prefix of ys is a prefix of both
pub AppendsPrefix-after : (a b c : Option (List ℕ)) (xs ys : List ℕ) → Appends a b xs → AppendsPrefix b c ys → AppendsPrefix a c (xs ++ ys)
AppendsPrefix-after a b c xs ys p q =
    let n = q.0 in
    let within : n ≤ length ys = q.1 in
    let longer : length xs + n ≤ length (xs ++ ys) = omega (arith, length-append xs ys) in
    (length xs + n, longer, subst (Appends a c) (sym (take-append-add xs ys n)) (Appends-trans a b c xs (take n ys) p q.2))

-- a prefix of xs is one of xs and what follows, with the fault counted
pub WritesPrefix-more : (a b : Option (List ℕ)) (f g : ℕ) (xs ys : List ℕ) → WritesPrefix a b f g xs → WritesPrefix a b f g (xs ++ ys)
WritesPrefix-more a b f g xs ys p = (AppendsPrefix-more a b xs ys p.0, p.1)

-- all of xs and then a prefix of ys is a prefix of both
pub WritesPrefix-after : (a b c : Option (List ℕ)) (f g h : ℕ) (xs ys : List ℕ)
    → WritesAll a b f g xs → WritesPrefix b c g h ys → WritesPrefix a c f h (xs ++ ys)
WritesPrefix-after a b c f g h xs ys p q = (AppendsPrefix-after a b c xs ys p.0 q.0, q.1 ∙ ap one_more p.1)

-- all of xs, and then what came of ys, is what comes of both
pub Writes-after : {T E : Type 0} (a b c : Option (List ℕ)) (f g h : ℕ) (r : Result T E) (xs ys : List ℕ)
    → WritesAll a b f g xs → Writes b c g h r ys → Writes a c f h r (xs ++ ys)
Writes-after a b c f g h (Ok t) xs ys p q = WritesAll-trans a b c f g h xs ys p q
Writes-after a b c f g h (Err e) xs ys p q = WritesPrefix-after a b c f g h xs ys p q

-- a write that goes on after the first i bytes with n of the rest
pub WritesAll-step : (a b c : Option (List ℕ)) (f g h : ℕ) (bytes : List ℕ) (i n : ℕ)
    → WritesAll a b f g (take i bytes) → Appends b c (take n (take (length bytes - i) (drop i bytes))) → h ≡ g
    → WritesAll a c f h (take (i + n) bytes)
WritesAll-step a b c f g h bytes i n p q e =
    let moved : Appends b c (take n (drop i bytes)) = subst (λ (l : List ℕ). Appends b c (take n l)) (take_rest bytes i) q in
    (subst (Appends a c) (sym (take-add i n bytes)) (Appends-trans a b c (take i bytes) (take n (drop i bytes)) p.0 moved), e ∙ p.1)

-- a write that stops after the first i bytes
pub WritesPrefix-stop : (a b c : Option (List ℕ)) (f g h : ℕ) (bytes : List ℕ) (i : ℕ)
    → i ≤ length bytes → WritesAll a b f g (take i bytes) → Keeps b c → h ≡ one_more g → WritesPrefix a c f h bytes
WritesPrefix-stop a b c f g h bytes i within p q e =
    ((i, within, Appends-kept a b c (take i bytes) p.0 q), e ∙ ap one_more p.1)

module _ {X : Type 0} (bytes_of : X → List ℕ) where
  flat_map-more : (parts : List X) (i : ℕ) (d : X) → i < length parts
      → flat_map bytes_of (take (i + 1) parts) ≡ flat_map bytes_of (take i parts) ++ bytes_of (get_or parts i d)
  flat_map-more parts i d within =
      ap (flat_map bytes_of) (take_more parts i d within)
      ∙ flat_map-append bytes_of (take i parts) (get_or parts i d ∷ [])
      ∙ ap (λ l. flat_map bytes_of (take i parts) ++ l) (append-nil (bytes_of (get_or parts i d)))

  -- the parts before i and then part i are written
  pub WritesAll-part : (a b c : Option (List ℕ)) (f g h : ℕ) (parts : List X) (i : ℕ) (d : X) → i < length parts
      → WritesAll a b f g (flat_map bytes_of (take i parts)) → WritesAll b c g h (bytes_of (get_or parts i d))
      → WritesAll a c f h (flat_map bytes_of (take (i + 1) parts))
  WritesAll-part a b c f g h parts i d within p q =
      subst (WritesAll a c f h) (sym (flat_map-more parts i d within)) (WritesAll-trans a b c f g h _ _ p q)

  -- the parts before i are written, and a prefix of part i
  pub WritesPrefix-part : (a b c : Option (List ℕ)) (f g h : ℕ) (parts : List X) (i : ℕ) (d : X) → i < length parts
      → WritesAll a b f g (flat_map bytes_of (take i parts)) → WritesPrefix b c g h (bytes_of (get_or parts i d))
      → WritesPrefix a c f h (flat_map bytes_of parts)
  WritesPrefix-part a b c f g h parts i d within p q =
      let upto : WritesPrefix a c f h (flat_map bytes_of (take (i + 1) parts)) =
      subst (WritesPrefix a c f h) (sym (flat_map-more parts i d within)) (WritesPrefix-after a b c f g h _ _ p q) in
      let whole : flat_map bytes_of (take (i + 1) parts) ++ flat_map bytes_of (drop (i + 1) parts) ≡ flat_map bytes_of parts =
      sym (flat_map-append bytes_of (take (i + 1) parts) (drop (i + 1) parts)) ∙ ap (flat_map bytes_of) (take-append-drop (i + 1) parts) in
      subst (WritesPrefix a c f h) whole (WritesPrefix-more a c f h _ _ upto)

-- what an Err says of a write
pub Writes-failed : {T E : Type 0} (a b : Option (List ℕ)) (f g : ℕ) (r : Result T E) (xs : List ℕ)
    → IsErr r → WritesPrefix a b f g xs → Writes a b f g r xs
Writes-failed a b f g (Ok t) xs e p = let none : ⊥ = cc in absurd none
Writes-failed a b f g (Err x) xs e p = p

-- two writes, one after the other
pub Writes-both : {T E : Type 0} (a b c : Option (List ℕ)) (f g h : ℕ) (r : Result T E) (xs ys all : List ℕ) → xs ++ ys ≡ all
    → WritesAll a b f g xs → Writes b c g h r ys → Writes a c f h r all
Writes-both a b c f g h r xs ys all e p q = subst (Writes a c f h r) e (Writes-after a b c f g h r xs ys p q)

-- two writes, of which the first failed
pub Writes-first : {T E : Type 0} (a b : Option (List ℕ)) (f g : ℕ) (r : Result T E) (xs ys all : List ℕ) → xs ++ ys ≡ all
    → IsErr r → WritesPrefix a b f g xs → Writes a b f g r all
Writes-first a b f g r xs ys all e failed p = Writes-failed a b f g r all failed (subst (WritesPrefix a b f g) e (WritesPrefix-more a b f g xs ys p))
