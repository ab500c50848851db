-- What a loop over a list makes of one element more.
use Rattle.std.proofs.Common.{◌≡◌, ℕ, ◌+◌, ◌<◌, ◌≤◌, Bool, true, false, cond, List, [], ◌∷◌, ◌++◌, length, map, get_or, take, append_assoc, append-nil, arith, ap, sym, ◌∙◌}
use Rattle.std.specs.List.{filter, flat_map}
use Rattle.std.proofs.lemmas.List.{take_more, map_more, flat_map_more}
use Rattle.std.proofs.lemmas.List.Elements.{filter_more}

module _ {X : Type 0} (xs : List X) (i : ℕ) (x : X) (within : i < length xs) (is : x ≡ get_or xs i x) where
  take-item : take (i + 1) xs ≡ take i xs ++ x ∷ []
  take-item = take_more xs i x within ∙ ap (λ (y : X). take i xs ++ y ∷ []) (sym is)

  -- what it gives was appended
  pub given-more : {Y : Type 0} (f : X → List Y) (old before after : List Y) → before ≡ old ++ flat_map f (take i xs) → after ≡ before ++ f x → after ≡ old ++ flat_map f (take (i + 1) xs)
  given-more {Y} f old before after so more =
      more ∙ ap (λ (ys : List Y). ys ++ f x) so ∙ flat_map_more f old (take i xs) x ∙ ap (λ (zs : List X). old ++ flat_map f zs) (sym take-item)

  pub mapped-more : {Y : Type 0} (f : X → Y) (before after : List Y) (y : Y) → before ≡ map f (take i xs) → after ≡ before ++ y ∷ [] → y ≡ f x → after ≡ map f (take (i + 1) xs)
  mapped-more {Y} f before after y so more same =
      more ∙ ap (λ (z : Y). before ++ z ∷ []) (same ∙ ap f is) ∙ ap (λ (ys : List Y). ys ++ f (get_or xs i x) ∷ []) so ∙ sym (map_more f xs i x within)

  -- it was appended, since it passes
  pub passed-more : (p : X → Bool) (old before after : List X) → p x ≡ true → before ≡ old ++ filter p (take i xs) → after ≡ before ++ x ∷ [] → after ≡ old ++ filter p (take (i + 1) xs)
  passed-more p old before after passes so more =
      let kept = filter p (take i xs) in
      more ∙ ap (λ (ys : List X). ys ++ x ∷ []) so ∙ append_assoc old kept (x ∷ [])
      ∙ ap (λ (ys : List X). old ++ ys)
      (ap (λ (y : X). kept ++ y ∷ []) is ∙ sym (filter_more p xs i x within ∙ ap (λ (b : Bool). kept ++ cond b (get_or xs i x ∷ []) []) (ap p (sym is) ∙ passes)))

  -- it was passed over, since it doesn't pass
  pub passed-over : (p : X → Bool) (old before : List X) → p x ≡ false → before ≡ old ++ filter p (take i xs) → before ≡ old ++ filter p (take (i + 1) xs)
  passed-over p old before fails so =
      let kept = filter p (take i xs) in
      so ∙ ap (λ (ys : List X). old ++ ys)
      (sym (filter_more p xs i x within ∙ ap (λ (b : Bool). kept ++ cond b (get_or xs i x ∷ []) []) (ap p (sym is) ∙ fails) ∙ append-nil kept))

-- There is room for what is left, of which at most one change is listed for each.
pub room-for-one : (listed n room i : ℕ) → listed + n ≤ room + i → i < n → listed < room
room-for-one listed n room i fits within = omega (arith, fits, within)

pub room-for-rest : (listed listed' n room room' i : ℕ) → listed + n ≤ room + i → listed' ≤ listed + 1 → room' ≡ room → listed' + n ≤ room' + (i + 1)
room-for-rest listed listed' n room room' i fits few same = omega (arith, fits, few, same)
