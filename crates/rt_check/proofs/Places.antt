-- A number at a place of a list without doubles.
use Rattle.std.proofs.Common.{◌≡◌, ℕ, zero, suc, ◌+◌, ◌<◌, ℤ, List, [], ◌∷◌, true, false, not, cond, length, get_or, Some, arith, sym, ◌∙◌, ap}
use Rattle.std.specs.Prelude.{position, slice_get}
use Rattle.std.specs.List.{IsDistinct, list_any, position_or_len}
use Rattle.std.specs.Ordering.{int_eq}
use Rattle.std.proofs.lemmas.Bool.Decides.{Decides-int_eq}
use Rattle.std.proofs.lemmas.List.Folds.{list_any_at}
use Rattle.std.proofs.lemmas.Map.Keys.{IsDistinct-head, IsDistinct-tail}
use Rattle.std.proofs.lemmas.Option.{same_Some, slice_get_within, get_or_from_slice_get}
use Rattle.rt_check.proofs.Tallies.{differ-back, differs-at}

-- how far a search goes
goes-to : (ks : List ℤ) (i : ℕ) (x : ℤ) → IsDistinct int_eq ks → slice_get ks i ≡ Some x → position_or_len (int_eq x) ks ≡ i
goes-to [] i x distinct at = let none : ⊥ = let within = slice_get_within [] i x at in omega (arith, within) in absurd none
goes-to (k ∷ ks) zero x distinct at =
    let is : int_eq x k ≡ true = (Decides-int_eq x k).1 (sym (same_Some k x at)) in
    ap (λ b. cond (not b) (1 + position_or_len (int_eq x) ks) 0) is
goes-to (k ∷ ks) (suc i) x distinct at =
    let within : i < length ks = slice_get_within ks i x at in
    let here : get_or ks i x ≡ x = get_or_from_slice_get ks i x x at in
    let differ : int_eq k x ≡ false = ap (int_eq k) (sym here) ∙ differs-at k ks i x (IsDistinct-head int_eq k ks distinct) within in
    ap (λ b. cond (not b) (1 + position_or_len (int_eq x) ks) 0) (differ-back k x differ)
    ∙ ap (λ n. 1 + n) (goes-to ks i x (IsDistinct-tail int_eq k ks distinct) at) ∙ omega arith

-- a search finds the number there
pub position-there : (ks : List ℤ) (i : ℕ) (x : ℤ) → IsDistinct int_eq ks → slice_get ks i ≡ Some x → Some i ≡ position (int_eq x) ks
position-there ks i x distinct at =
    let far = goes-to ks i x distinct at in
    let within = slice_get_within ks i x at in
    grind (arith, far, within)

pub any-there : (ks : List ℤ) (i : ℕ) (x : ℤ) → slice_get ks i ≡ Some x → true ≡ list_any (int_eq x) ks
any-there ks i x at =
    sym (list_any_at (int_eq x) ks i x (slice_get_within ks i x at) ((Decides-int_eq x (get_or ks i x)).1 (sym (get_or_from_slice_get ks i x x at))))
