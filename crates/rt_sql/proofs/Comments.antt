-- Comments, as they are defined and as reading tests them.
use Rattle.std.proofs.Common.{◌≡◌, ◌≢◌, ℕ, Bool, true, false, not, ◌==◌, ◌&&◌, [], ◌∷◌, ◌++◌, drop, slice_index, refl, ap, ◌∙◌, arith}
use Rattle.std.proofs.lemmas.Bool.Decides.{nat_tests}
use Rattle.std.proofs.lemmas.List.Sums.{AllPass-from_list_all, list_all-from_AllPass}
use Rattle.std.specs.List.{list_all}
use Rattle.rt_sql_cut.specs.Text.{HasClose, IsLineText, EndsLine}
use Rattle.rt_sql.specs.Token.{Text, begins, is_in_line}
use Rattle.rt_sql.proofs.Basics.{test}
use Rattle.rt_sql.proofs.Quotes.{byte_is}

in_line : (b : ℕ) → b ≢ 10 → is_in_line b ≡ true
unfolding is_in_line
in_line b h = grind (arith, nat_tests)

no_line_feed : (b : ℕ) → is_in_line b ≡ true → b ≢ 10
unfolding is_in_line
no_line_feed b h = grind (arith, nat_tests)

line_feed : (b : ℕ) → is_in_line b ≡ false → b ≡ 10
unfolding is_in_line
line_feed b h = grind (arith, nat_tests)

pub line_passes : (line : Text) → IsLineText line → list_all is_in_line line ≡ true
line_passes line h = list_all-from_AllPass is_in_line line (λ k d l. in_line _ (h k d l))

pub passes_line : (line : Text) → list_all is_in_line line ≡ true → IsLineText line
passes_line line h = λ k d l. no_line_feed _ (AllPass-from_list_all is_in_line line h k d l)

pub line_stops : (after : Text) → EndsLine after → begins is_in_line after ≡ false
unfolding is_in_line
line_stops [] h = refl
line_stops (b ∷ z) h = rw h refl

pub stops_line : (after : Text) → begins is_in_line after ≡ false → EndsLine after
stops_line [] h = tt
stops_line (b ∷ z) h = line_feed b h

-- ---- `*/` stands nowhere in a text

abbrev pub is_open : Text → Bool
is_open [] = true
is_open (b ∷ z) = not (b == 42 && begins (λ c. c == 47) z) && is_open z

and_none : (x : Bool) → (x && false) ≡ false
and_none true = refl
and_none false = refl

pub and_both : (x y : Bool) → (x && y) ≡ true → (x ≡ true) × (y ≡ true)
and_both true true h = (refl, refl)
and_both true false h = absurd (cc)
and_both false y h = absurd (cc)

pub begins_slash : (z : Text) → begins (λ c. c == 47) z ≡ (slice_index z 0 == 47)
begins_slash [] = refl
begins_slash (c ∷ z) = refl

pub block_end : (b : ℕ) (z : Text) → ((b == 42) ≡ true) × ((slice_index z 0 == 47) ≡ true) → b ∷ z ≡ 42 ∷ 47 ∷ drop 1 z
block_end b [] e = absurd (cc)
block_end b (c ∷ z) e = ap (λ x. x ∷ c ∷ z) (byte_is b 42 e.0) ∙ ap (λ x. 42 ∷ x ∷ z) (byte_is c 47 e.1)

closed_here : (front rest : Text) → is_open (front ++ 42 ∷ 47 ∷ rest) ≡ false
closed_here [] rest = refl
closed_here (b ∷ front) rest = rw (closed_here front rest) (and_none (not (b == 42 && begins (λ c. c == 47) (front ++ 42 ∷ 47 ∷ rest))))

not_both : (x : Bool) → x ≡ true → x ≡ false → ⊥
not_both x e f = cc

pub open_lacks : (z : Text) → is_open z ≡ true → ¬ HasClose z
open_lacks z h g = not_both (is_open z) h (ap is_open g.2 ∙ closed_here g.0 g.1)

pub lacks_open : (z : Text) → ¬ HasClose z → is_open z ≡ true
lacks_open [] h = refl
lacks_open (b ∷ z) h =
    let at_slash = ap (λ x. b == 42 && x) (begins_slash z) in
    test (b == 42 && slice_index z 0 == 47)
    (λ e. absurd (h ([], drop 1 z, block_end b z (and_both (b == 42) (slice_index z 0 == 47) e))))
    (λ e. rw (at_slash ∙ e) (lacks_open z (λ g. h (b ∷ g.0, g.1, ap (λ x. b ∷ x) g.2))))
