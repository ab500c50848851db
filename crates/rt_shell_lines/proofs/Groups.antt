-- Lists in parts: what stands before a place, between two places, and behind the second; and the bytes of these parts.
use Rattle.std.proofs.Common.{◌≡◌, ℕ, ◌≤◌, List, ◌++◌, take, drop, sym, ap, ◌∙◌, take-append-drop, length, arith}
use Rattle.std.specs.List.{flat_map}
use Rattle.std.proofs.lemmas.List.{drop-append-le, length-take}
use Rattle.std.proofs.lemmas.Grind.{common_steps, flat_map-append}

module _ {X : Type 0} (bytes_of : X → List ℕ) where
  pub before_and_between : (from to : ℕ) (xs : List X) → from ≤ to
      → flat_map bytes_of (take from xs) ++ flat_map bytes_of (drop from (take to xs)) ≡ flat_map bytes_of (take to xs)
  before_and_between from to xs le =
      let front : take from (take to xs) ≡ take from xs = grind (arith, common_steps) in
      sym (flat_map-append bytes_of (take from xs) (drop from (take to xs)))
      ∙ ap (λ l. flat_map bytes_of (l ++ drop from (take to xs))) (sym front)
      ∙ ap (flat_map bytes_of) (take-append-drop from (take to xs))

  pub before_and_after : (from : ℕ) (xs : List X) → flat_map bytes_of (take from xs) ++ flat_map bytes_of (drop from xs) ≡ flat_map bytes_of xs
  before_and_after from xs = sym (flat_map-append bytes_of (take from xs) (drop from xs)) ∙ ap (flat_map bytes_of) (take-append-drop from xs)

  pub between_and_after : (from to : ℕ) (xs : List X) → from ≤ to → to ≤ length xs
      → flat_map bytes_of (drop from (take to xs)) ++ flat_map bytes_of (drop to xs) ≡ flat_map bytes_of (drop from xs)
  between_and_after from to xs le within =
      let long : from ≤ length (take to xs) = omega (arith, length-take to xs) in
      sym (flat_map-append bytes_of (drop from (take to xs)) (drop to xs))
      ∙ ap (flat_map bytes_of) (sym (drop-append-le from (take to xs) (drop to xs) long) ∙ ap (drop from) (take-append-drop to xs))
