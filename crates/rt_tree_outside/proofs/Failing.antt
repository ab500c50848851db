-- What the list of problems comes to where tests hold of all elements.
use Rattle.std.proofs.Common.{◌≡◌, ℕ, zero, suc, ◌<◌, Bool, true, not, cond, List, [], ◌∷◌, map, arith, refl, ap, ◌∙◌}
use Rattle.std.specs.Prelude.{filter}
use Rattle.std.specs.List.{All, list_all}
use Rattle.std.proofs.lemmas.Bool.{and_from}
use Rattle.std.proofs.lemmas.List.Elements.{All-head, All-tail}
use Rattle.rt_check.specs.Conditions.{each_axis, failing}

pub failing-none : {X P : Type 0} (test : X → Bool) (entry : X → P) (xs : List X) → All (λ x. test x ≡ true) xs → failing test entry xs ≡ []
failing-none test entry [] all = refl
failing-none test entry (x ∷ xs) all =
    ap (λ b. map entry (cond (not b) (x ∷ filter (λ y. not (test y)) xs) (filter (λ y. not (test y)) xs))) (All-head (λ y. test y ≡ true) x xs all)
    ∙ failing-none test entry xs (All-tail (λ y. test y ≡ true) x xs all)

pub each_axis-from : (test : ℕ → Bool) (n : ℕ) → ((axis : ℕ) → axis < n → test axis ≡ true) → each_axis test n ≡ true
each_axis-from test zero all = refl
each_axis-from test (suc n) all = and_from (each_axis test n) (test n) (each_axis-from test n (λ axis h. all axis (omega arith))) (all n (omega arith))

pub list_all-from : {X : Type 0} (test : X → Bool) (xs : List X) → All (λ x. test x ≡ true) xs → list_all test xs ≡ true
list_all-from test [] all = refl
list_all-from test (x ∷ xs) all =
    and_from (test x) (list_all test xs) (All-head (λ y. test y ≡ true) x xs all) (list_all-from test xs (All-tail (λ y. test y ≡ true) x xs all))
