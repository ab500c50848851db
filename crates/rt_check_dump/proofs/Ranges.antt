-- Lemmas on the ranges of a cell's line.
use Rattle.std.proofs.Common.{◌≡◌, ℕ, suc, ◌+◌, ◌-◌, ◌<◌, ℤ, List, [], ◌∷◌, ◌++◌, Option, Some, None, refl, sym, ◌∙◌, ap, take, drop, set, length, arith, append_assoc, append-nil}
use Rattle.std.proofs.Math.Seq.{take-suc-set, take-length}
use Rattle.std.specs.Option.{option_map, option_and_then}
use Rattle.rt_check_dump.specs.declared.lines.Range.{Range}
use Rattle.rt_check_dump.specs.Lines.{ranges_of, first_range}

-- the coordinate written at i follows those before it
taken : (xs : List ℤ) (i : ℕ) (x : ℤ) → i < length xs → take (i + 1) (set xs i x) ≡ take i xs ++ x ∷ []
taken xs i x within = let next : i + 1 ≡ suc i = omega arith in ap (λ k. take k (set xs i x)) next ∙ take-suc-set xs i x within

-- ranges behind others
abbrev pub joined : List ℤ → List ℤ → Option (List ℤ × List ℤ) → Option (List ℤ × List ℤ)
joined lo hi rs = option_map {U = List ℤ × List ℤ} (λ r. (lo ++ r.0, hi ++ r.1)) rs

prepended : (a b c d : List ℤ) (rs : Option (List ℤ × List ℤ)) (lo hi : ℤ)
    → a ≡ c ++ lo ∷ [] → b ≡ d ++ hi ∷ []
    → joined a b rs ≡ joined c d (joined (lo ∷ []) (hi ∷ []) rs)
prepended a b c d None lo hi e f = refl
prepended a b c d (Some r) lo hi e f =
    ap (λ l. Some (l ++ r.0, b ++ r.1)) e ∙ ap (λ l. Some ((c ++ lo ∷ []) ++ r.0, l ++ r.1)) f
    ∙ ap (λ l. Some (l, (d ++ hi ∷ []) ++ r.1)) (append_assoc c (lo ∷ []) r.0)
    ∙ ap (λ l. Some (c ++ (lo ∷ r.0), l)) (append_assoc d (hi ∷ []) r.1)

-- one range more
pub ranges-next : (n i : ℕ) (lo hi : List ℤ) (ws : List (List ℕ)) (r : Range) → i < n → i < length lo → i < length hi → Some r ≡ first_range ws
    → joined (take (i + 1) (set lo i r.lo)) (take (i + 1) (set hi i r.hi)) (ranges_of (n - (i + 1)) (drop 2 ws))
    ≡ joined (take i lo) (take i hi) (ranges_of (n - i) ws)
ranges-next n i lo hi ws r more low high e =
    let next : suc (n - (i + 1)) ≡ n - i = omega arith in
    let rest = ranges_of (n - (i + 1)) (drop 2 ws) in
    prepended _ _ (take i lo) (take i hi) rest r.lo r.hi (taken lo i r.lo low) (taken hi i r.hi high)
    ∙ ap (λ (f : Option Range). joined (take i lo) (take i hi) (option_and_then (λ r. joined (r.lo ∷ []) (r.hi ∷ []) rest) f)) e
    ∙ ap (λ k. joined (take i lo) (take i hi) (ranges_of k ws)) next

-- the last range
pub ranges-done : (n : ℕ) (lo hi : List ℤ) (ws : List (List ℕ)) (all : Option (List ℤ × List ℤ)) → length lo ≡ n → length hi ≡ n
    → joined (take n lo) (take n hi) (ranges_of (n - n) ws) ≡ all → Some (lo, hi) ≡ all
ranges-done n lo hi ws all low high e =
    let none : n - n ≡ 0 = omega arith in
    ap (λ l. Some (l, hi)) (sym (append-nil lo)) ∙ ap (λ l. Some (lo ++ [], l)) (sym (append-nil hi))
    ∙ ap (λ l. Some (l ++ [], hi ++ [])) (sym (take-length lo)) ∙ ap (λ k. Some (take k lo ++ [], hi ++ [])) low
    ∙ ap (λ l. Some (take n lo ++ [], l ++ [])) (sym (take-length hi)) ∙ ap (λ k. Some (take n lo ++ [], take k hi ++ [])) high
    ∙ ap (λ k. joined (take n lo) (take n hi) (ranges_of k ws)) (sym none) ∙ e
