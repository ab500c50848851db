-- Lists of which one element changes.
use Rattle.std.proofs.Common.{◌≡◌, ◌≢◌, ℕ, zero, suc, ◌<◌, ◌≤◌, Bool, true, cond, List, [], ◌∷◌, map, length, get_or, set, count_by, Some, slice_get, refl, ap, arith}
use Rattle.std.specs.List.{remove}
use Rattle.std.proofs.lemmas.Option.{slice_get_within, get_or_from_slice_get}
use Rattle.rt_tree_node.proofs.Counts.{count-cons, count-some}

pub two : {X : Type 0} (test : X → Bool) (xs : List X) (i j : ℕ) (d e : X) → i < length xs → j < length xs → i ≢ j →
    test (get_or xs i d) ≡ true → test (get_or xs j e) ≡ true → 2 ≤ count_by test xs
two test [] i j d e in_i in_j other holds holds_too = absurd (omega arith)
two test (x ∷ xs) zero zero d e in_i in_j other holds holds_too = absurd (other refl)
two test (x ∷ xs) zero (suc j) d e in_i in_j other holds holds_too =
    let one : ◌≡◌ {A = ℕ} (cond (test x) 1 0) 1 = ap (λ b. cond b 1 0) holds in
    let more = count-some test xs j e (omega arith) holds_too in
    omega (arith, count-cons test x xs)
two test (x ∷ xs) (suc i) zero d e in_i in_j other holds holds_too =
    let one : ◌≡◌ {A = ℕ} (cond (test x) 1 0) 1 = ap (λ b. cond b 1 0) holds_too in
    let more = count-some test xs i d (omega arith) holds in
    omega (arith, count-cons test x xs)
two test (x ∷ xs) (suc i) (suc j) d e in_i in_j other holds holds_too =
    let more = two test xs i j d e (omega arith) (omega arith) (λ h. other (ap suc h)) holds holds_too in
    omega (arith, count-cons test x xs)

module _ {X Y : Type 0} (f g : X → Y) where
  -- what the two functions make of the elements is the same, except at a position
  abbrev pub AgreeBut : List X → ℕ → Type 0
  AgreeBut xs at = (i : ℕ) (d : X) → i < length xs → i ≢ at → f (get_or xs i d) ≡ g (get_or xs i d)

  agree_all : (xs : List X) → ((i : ℕ) (d : X) → i < length xs → f (get_or xs i d) ≡ g (get_or xs i d)) → map f xs ≡ map g xs
  agree_all [] same = refl
  agree_all (x ∷ xs) same =
      let head : f x ≡ g x = same 0 x (omega arith) in
      let tail = agree_all xs (λ i d within. same (suc i) d (omega arith)) in
      cc

  pub set_same : (xs : List X) (at : ℕ) (y : Y) → AgreeBut xs at → set (map f xs) at y ≡ set (map g xs) at y
  set_same [] at y same = refl
  set_same (x ∷ xs) zero y same = ap (λ (ys : List Y). y ∷ ys) (agree_all xs (λ i d within. same (suc i) d (omega arith) (λ e. absurd (omega arith))))
  set_same (x ∷ xs) (suc at) y same =
      let head : f x ≡ g x = same 0 x (omega arith) (λ e. absurd (omega arith)) in
      let tail = set_same xs at y (λ i d within other. same (suc i) d (omega arith) (λ e. other (omega arith))) in
      cc

  pub map_but : (xs : List X) (at : ℕ) (c : X) → slice_get xs at ≡ Some c → AgreeBut xs at → map f xs ≡ set (map g xs) at (f c)
  map_but [] at c here same = absurd (omega (arith, slice_get_within [] at c here))
  map_but (x ∷ xs) zero c here same =
      let head : x ≡ c = get_or_from_slice_get (x ∷ xs) 0 c x here in
      let tail = agree_all xs (λ i d within. same (suc i) d (omega arith) (λ e. absurd (omega arith))) in
      let first : f x ≡ f c = ap f head in
      cc
  map_but (x ∷ xs) (suc at) c here same =
      let head : f x ≡ g x = same 0 x (omega arith) (λ e. absurd (omega arith)) in
      let tail = map_but xs at c here (λ i d within other. same (suc i) d (omega arith) (λ e. other (omega arith))) in
      cc

pub remove_map : {X Y : Type 0} (f : X → Y) (xs : List X) (at : ℕ) → remove (map f xs) at ≡ map f (remove xs at)
remove_map f [] zero = refl
remove_map f [] (suc at) = refl
remove_map f (x ∷ xs) zero = refl
remove_map f (x ∷ xs) (suc at) = ap (λ ys. f x ∷ ys) (remove_map f xs at)

pub remove_same : {X Y : Type 0} (f g : X → Y) (xs : List X) (at : ℕ) → AgreeBut f g xs at → remove (map f xs) at ≡ remove (map g xs) at
remove_same f g [] at same = refl
remove_same f g (x ∷ xs) zero same = agree_all f g xs (λ i d within. same (suc i) d (omega arith) (λ e. absurd (omega arith)))
remove_same f g (x ∷ xs) (suc at) same =
    let head : f x ≡ g x = same 0 x (omega arith) (λ e. absurd (omega arith)) in
    let tail = remove_same f g xs at (λ i d within other. same (suc i) d (omega arith) (λ e. other (omega arith))) in
    cc
