-- Lemmas on loops that list what some elements add.
use Rattle.std.proofs.Common.{◌≡◌, ℕ, suc, ◌+◌, ◌<◌, List, [], ◌∷◌, ◌++◌, Bool, true, false, not, cond, map, sym, ◌∙◌, ap, length, get_or, drop, append_assoc, append-nil, arith}
use Rattle.std.proofs.Math.Seq.{drop-cons, drop-length}
use Rattle.std.proofs.lemmas.List.FromFn.{get_or-enumerate_from, length-enumerate_from}
use Rattle.std.specs.Prelude.{filter}
use Rattle.std.specs.List.{flat_map}
use Rattle.rt_check.specs.Conditions.{failing, numbered}

drop_next : {X : Type 0} (xs : List X) (i : ℕ) (d : X) → i < length xs → drop i xs ≡ get_or xs i d ∷ drop (i + 1) xs
drop_next xs i d within =
    let next : suc i ≡ i + 1 = omega arith in
    drop-cons xs i d within ∙ ap (λ j. get_or xs i d ∷ drop j xs) next

module _ {X P : Type 0} (f : X → List P) where
  -- the element at i adds its part
  pub flat_map-adds : (done all : List P) (xs : List X) (i : ℕ) (d : X) → i < length xs
      → done ++ flat_map f (drop i xs) ≡ all → (done ++ f (get_or xs i d)) ++ flat_map f (drop (i + 1) xs) ≡ all
  flat_map-adds done all xs i d within whole =
      append_assoc done (f (get_or xs i d)) (flat_map f (drop (i + 1) xs))
      ∙ ap (λ l. done ++ flat_map f l) (sym (drop_next xs i d within)) ∙ whole

  -- at the end nothing is left to add
  pub flat_map-ends : (done all : List P) (xs : List X) → done ++ flat_map f (drop (length xs) xs) ≡ all → done ≡ all
  flat_map-ends done all xs whole =
      sym (append-nil done) ∙ ap (λ l. done ++ flat_map f l) (sym (drop-length xs)) ∙ whole

module _ {X P : Type 0} (test : X → Bool) (entry : X → P) where
  failing-first : (x : X) (rest : List X) (b : Bool) → test x ≡ b
      → failing test entry (x ∷ rest) ≡ map entry (cond (not b) (x ∷ filter (λ x. not (test x)) rest) (filter (λ x. not (test x)) rest))
  failing-first x rest b e = ap (λ b. map entry (cond (not b) (x ∷ filter (λ x. not (test x)) rest) (filter (λ x. not (test x)) rest))) e

  -- an element that passes adds nothing
  pub failing-passes : (done all : List P) (xs : List X) (i : ℕ) (d : X) → i < length xs → test (get_or xs i d) ≡ true
      → done ++ failing test entry (drop i xs) ≡ all → done ++ failing test entry (drop (i + 1) xs) ≡ all
  failing-passes done all xs i d within passes whole =
      ap (λ l. done ++ l) (sym (failing-first (get_or xs i d) (drop (i + 1) xs) true passes))
      ∙ ap (λ l. done ++ failing test entry l) (sym (drop_next xs i d within)) ∙ whole

  -- an element that fails adds its entry
  pub failing-fails : (done all : List P) (xs : List X) (i : ℕ) (d : X) → i < length xs → test (get_or xs i d) ≡ false
      → done ++ failing test entry (drop i xs) ≡ all
      → (done ++ entry (get_or xs i d) ∷ []) ++ failing test entry (drop (i + 1) xs) ≡ all
  failing-fails done all xs i d within fails whole =
      append_assoc done (entry (get_or xs i d) ∷ []) (failing test entry (drop (i + 1) xs))
      ∙ ap (λ l. done ++ l) (sym (failing-first (get_or xs i d) (drop (i + 1) xs) false fails))
      ∙ ap (λ l. done ++ failing test entry l) (sym (drop_next xs i d within)) ∙ whole

  -- at the end nothing is left to add
  pub failing-ends : (done all : List P) (xs : List X) → done ++ failing test entry (drop (length xs) xs) ≡ all → done ≡ all
  failing-ends done all xs whole =
      sym (append-nil done) ∙ ap (λ l. done ++ failing test entry l) (sym (drop-length xs)) ∙ whole

-- the element at i of the numbered list
pub numbered-at : {X : Type 0} (xs : List X) (i : ℕ) (d : X) → i < length xs → get_or (numbered xs) i (0, d) ≡ (i + 1, get_or xs i d)
numbered-at xs i d within =
    let next : 1 + i ≡ i + 1 = omega arith in
    get_or-enumerate_from 1 xs i (0, d) within ∙ ap (λ n. (n, get_or xs i d)) next

pub length-numbered : {X : Type 0} (xs : List X) → length (numbered xs) ≡ length xs
length-numbered xs = length-enumerate_from 1 xs

module _ {X P : Type 0} (test : X → Bool) (entry : ℕ → X → P) where
  -- the same for the numbered list
  pub numbered-passes : (done all : List P) (xs : List X) (i : ℕ) (d : X) → i < length xs → test (get_or xs i d) ≡ true
      → done ++ failing (λ p. test p.1) (λ p. entry p.0 p.1) (drop i (numbered xs)) ≡ all
      → done ++ failing (λ p. test p.1) (λ p. entry p.0 p.1) (drop (i + 1) (numbered xs)) ≡ all
  numbered-passes done all xs i d within passes whole =
      let inside : i < length (numbered xs) = omega (arith, length-numbered xs, within) in
      failing-passes (λ p. test p.1) (λ p. entry p.0 p.1) done all (numbered xs) i (0, d) inside
      (ap (λ p. test p.1) (numbered-at xs i d within) ∙ passes) whole

  pub numbered-fails : (done all : List P) (xs : List X) (i : ℕ) (d : X) → i < length xs → test (get_or xs i d) ≡ false
      → done ++ failing (λ p. test p.1) (λ p. entry p.0 p.1) (drop i (numbered xs)) ≡ all
      → (done ++ entry (i + 1) (get_or xs i d) ∷ []) ++ failing (λ p. test p.1) (λ p. entry p.0 p.1) (drop (i + 1) (numbered xs)) ≡ all
  numbered-fails done all xs i d within fails whole =
      let inside : i < length (numbered xs) = omega (arith, length-numbered xs, within) in
      ap (λ p. (done ++ entry p.0 p.1 ∷ []) ++ failing (λ p. test p.1) (λ p. entry p.0 p.1) (drop (i + 1) (numbered xs))) (sym (numbered-at xs i d within))
      ∙ failing-fails (λ p. test p.1) (λ p. entry p.0 p.1) done all (numbered xs) i (0, d) inside
      (ap (λ p. test p.1) (numbered-at xs i d within) ∙ fails) whole

  pub numbered-ends : (done all : List P) (xs : List X) (i : ℕ) → i ≡ length xs
      → done ++ failing (λ p. test p.1) (λ p. entry p.0 p.1) (drop i (numbered xs)) ≡ all → done ≡ all
  numbered-ends done all xs i e whole =
      failing-ends (λ p. test p.1) (λ p. entry p.0 p.1) done all (numbered xs)
      (ap (λ j. done ++ failing (λ p. test p.1) (λ p. entry p.0 p.1) (drop j (numbered xs))) (length-numbered xs ∙ sym e) ∙ whole)
