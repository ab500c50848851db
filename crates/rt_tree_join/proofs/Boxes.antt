-- Boxes that touch.
use Rattle.std.proofs.Common.{◌≡◌, ℕ, zero, suc, ◌+◌, ◌*◌, ◌<◌, ◌%◌, ◌/◌, ◌^◌, ◌≤◌, drop, ◌==◌, cond, true, false, ℤ, pos, ◌≤ℤ◌, ◌↔◌, List, [], ◌∷◌, length, map, get_or, arith, refl, ap, sym, ◌∙◌, subst, inl, inr}
use Rattle.std.specs.Prelude.{int_le}
use Rattle.std.specs.Bool.{Decides}
use Rattle.std.specs.List.{All, AllZip, filter}
use Rattle.std.proofs.Math.Nat.{two-pow-succ, div-div-eq-div-mul}
use Rattle.std.proofs.lemmas.Bool.{true≢false, cases_Bool, cases_eq}
use Rattle.std.proofs.lemmas.Bool.Decides.{Decides-and, Decides-eqb, same_from_decides}
use Rattle.std.proofs.lemmas.Int.{ints}
use Rattle.std.proofs.lemmas.List.{get_or_default}
use Rattle.std.proofs.lemmas.List.Elements.{All-head, All-tail}
use Rattle.rt_box.specs.declared.interval.Interval.{Interval}
use Rattle.rt_box.specs.declared.operator.Operator.TheVariants.{Le, Ge}
use Rattle.rt_box.specs.Bits.{Tells}
use Rattle.rt_box.specs.Rect.{IsBox, Holds, coordinates}
use Rattle.rt_box.specs.Window.{Admits, Narrows}
use Rattle.rt_box.proofs.Lists.{AllZip-from_places, AllZip-get_or_both}
use Rattle.rt_box.proofs.Narrowing.{length-coordinates, Admits-narrowed}
use Rattle.rt_tree_walk.proofs.Picked.{Tells-cells}
use Rattle.rt_tree_walk.proofs.Ints.{int_le-true, int_le-from}
use Rattle.rt_tree_node.specs.declared.cell.Cell.{Cell}
use Rattle.rt_tree_walk.specs.Visits.{picked}
use Rattle.rt_tree_join.specs.Join.{meet, touch, IsTouching}

abbrev pub Meets : Interval → Interval → Type 0
Meets i j = (i.lo ≤ℤ j.hi) × (j.lo ≤ℤ i.hi)

meet-decides : (i j : Interval) → Decides (meet i j) (Meets i j)
meet-decides i j =
    Decides-and (int_le i.lo j.hi) (int_le j.lo i.hi) (int_le-true i.lo j.hi, int_le-from i.lo j.hi) (int_le-true j.lo i.hi, int_le-from j.lo i.hi)

pub touch-decides : (a b : List Interval) → Decides (touch a b) (AllZip Meets a b)
touch-decides [] [] = (λ e. tt, λ h. refl)
touch-decides [] (j ∷ b) = (λ e. absurd (true≢false (sym e)), λ h. absurd h)
touch-decides (i ∷ a) [] = (λ e. absurd (true≢false (sym e)), λ h. absurd h)
touch-decides (i ∷ a) (j ∷ b) = Decides-and (meet i j) (touch a b) (meet-decides i j) (touch-decides a b)

meets-swap : (a b : List Interval) → AllZip Meets a b → AllZip Meets b a
meets-swap [] [] h = tt
meets-swap [] (j ∷ b) h = absurd h
meets-swap (i ∷ a) [] h = absurd h
meets-swap (i ∷ a) (j ∷ b) h = ((h.0.1, h.0.0), meets-swap a b h.1)

-- boxes that hold two that touch do so too
meets-within : (a b r s : List Interval) → Holds a r → Holds b s → AllZip Meets r s → AllZip Meets a b
meets-within [] b (y ∷ r) s h k m = absurd h
meets-within (x ∷ a) b [] s h k m = absurd h
meets-within [] b [] (w ∷ s) h k m = absurd m
meets-within [] (z ∷ b) [] [] h k m = absurd k
meets-within [] [] [] [] h k m = tt
meets-within (x ∷ a) b (y ∷ r) [] h k m = absurd m
meets-within (x ∷ a) [] (y ∷ r) (w ∷ s) h k m = absurd k
meets-within (x ∷ a) (z ∷ b) (y ∷ r) (w ∷ s) h k m =
    let c = h.0 in
    let d = k.0 in
    let n = m.0 in
    let first : x.lo ≤ℤ z.hi = omega (arith, ints, c.0, n.0, d.1) in
    let second : z.lo ≤ℤ x.hi = omega (arith, ints, c.1, n.1, d.0) in
    ((first, second), meets-within a b r s h.1 k.1 m.1)

pub touch-swap : (a b : List Interval) → touch a b ≡ true → touch b a ≡ true
touch-swap a b e = (touch-decides b a).1 (meets-swap a b ((touch-decides a b).0 e))

pub touch-same : (a b : List Interval) → touch a b ≡ touch b a
touch-same a b = same_from_decides {P = touch a b ≡ true} (touch a b) (touch b a) ((λ e. e), (λ e. e)) (touch-swap b a, touch-swap a b)

pub touch-apart : (a b r s : List Interval) → Holds a r → Holds b s → touch a b ≡ false → touch r s ≡ false
touch-apart a b r s h k e = elim (cases_Bool (touch r s)) [
  | inl both ↦ absurd (true≢false (sym ((touch-decides a b).1 (meets-within a b r s h k ((touch-decides r s).0 both))) ∙ e))
  | inr none ↦ none
]

pub touch-apart_swapped : (a b r s : List Interval) → Holds a r → Holds b s → touch b a ≡ false → touch r s ≡ false
touch-apart_swapped a b r s h k e = elim (cases_Bool (touch r s)) [
  | inl both ↦ absurd (true≢false (sym (touch-swap a b ((touch-decides a b).1 (meets-within a b r s h k ((touch-decides r s).0 both)))) ∙ e))
  | inr none ↦ none
]

-- ---- the window
lo-at : (b : List Interval) (i k : ℕ) (d : Interval) → k ≡ 2 * i → i < length b → get_or (coordinates b) k (pos 0) ≡ (get_or b i d).lo
lo-at [] i k d e h = absurd (omega arith)
lo-at (x ∷ b) zero k d e h = let none : k ≡ 0 = omega (arith, e) in ap (λ n. get_or (coordinates (x ∷ b)) n (pos 0)) none
lo-at (x ∷ b) (suc i) zero d e h = absurd (omega (arith, e))
lo-at (x ∷ b) (suc i) (suc zero) d e h = absurd (omega (arith, e))
lo-at (x ∷ b) (suc i) (suc (suc k)) d e h = lo-at b i k d (omega (arith, e)) (omega arith)

hi-at : (b : List Interval) (i k : ℕ) (d : Interval) → k ≡ 2 * i + 1 → i < length b → get_or (coordinates b) k (pos 0) ≡ (get_or b i d).hi
hi-at [] i k d e h = absurd (omega arith)
hi-at (x ∷ b) zero k d e h = let one : k ≡ 1 = omega (arith, e) in ap (λ n. get_or (coordinates (x ∷ b)) n (pos 0)) one
hi-at (x ∷ b) (suc i) zero d e h = absurd (omega (arith, e))
hi-at (x ∷ b) (suc i) (suc zero) d e h = absurd (omega (arith, e))
hi-at (x ∷ b) (suc i) (suc (suc k)) d e h = hi-at b i k d (omega (arith, e)) (omega arith)

-- the boxes meet on the axes below n
abbrev pub MeetBelow : ℕ → List Interval → List Interval → Type 0
MeetBelow n a b = (k : ℕ) (d e : Interval) → k < n → Meets (get_or a k d) (get_or b k e)

abbrev pub TouchesBelow : ℕ → ℕ → List Interval → List Interval → Type 0
TouchesBelow axes n rect window = (b : List Interval) → IsBox axes b → Admits window b ↔ MeetBelow n rect b

pub touches-more : (axes n : ℕ) (rect old mid new : List Interval) (x : Interval) (hi lo : ℤ) → hi ≡ x.hi → lo ≡ x.lo → n < axes → length rect ≡ axes →
    length old ≡ 2 * axes → x ≡ get_or rect n x → Narrows old mid (2 * n) Le hi → Narrows mid new (2 * n + 1) Ge lo →
    TouchesBelow axes n rect old → TouchesBelow axes (n + 1) rect new
touches-more axes n rect old mid new x hi lo p q h l o e first0 second0 so = λ b is.
    let first : Narrows old mid (2 * n) Le x.hi = subst (λ (z : ℤ). Narrows old mid (2 * n) Le z) p first0 in
    let second : Narrows mid new (2 * n + 1) Ge x.lo = subst (λ (z : ℤ). Narrows mid new (2 * n + 1) Ge z) q second0 in
    let long : length (coordinates b) ≡ 2 * axes = omega (arith, length-coordinates b, is.axes_are) in
    let one = Admits-narrowed old mid b (2 * n) Le x.hi (o ∙ sym long) (omega (arith, o, h)) first in
    let two = Admits-narrowed mid new b (2 * n + 1) Ge x.lo (first.long ∙ o ∙ sym long) (omega (arith, first.long, o, h)) second in
    let here : (d : Interval) → get_or rect n d ≡ x = λ d. get_or_default rect n d x (omega (arith, l, h)) ∙ sym e in
    let low : (d : Interval) → get_or (coordinates b) (2 * n) (pos 0) ≡ (get_or b n d).lo = λ d. lo-at b n (2 * n) d refl (omega (arith, is.axes_are, h)) in
    let high : (d : Interval) → get_or (coordinates b) (2 * n + 1) (pos 0) ≡ (get_or b n d).hi = λ d. hi-at b n (2 * n + 1) d refl (omega (arith, is.axes_are, h)) in (
      (λ admitted. λ k d f less. elim (cases_eq k n) [
        | inl same ↦
            let after = two.0 admitted in
            let before = one.0 after.0 in
            let begins : x.lo ≤ℤ (get_or b n f).hi = subst (λ (z : ℤ). x.lo ≤ℤ z) (high f) after.1 in
            let ends : (get_or b n f).lo ≤ℤ x.hi = subst (λ (z : ℤ). z ≤ℤ x.hi) (low f) before.1 in
            subst (λ (j : ℕ). Meets (get_or rect j d) (get_or b j f)) (sym same)
            (subst (λ (y : Interval). Meets y (get_or b n f)) (sym (here d)) (begins, ends))
        | inr ne ↦ (so b is).0 (one.0 (two.0 admitted).0).0 k d f (omega (arith, ne, less))
      ]),
      (λ meets.
          let met : Meets x (get_or b n x) = subst (λ (y : Interval). Meets y (get_or b n x)) (here x) (meets n x x (omega arith)) in
          two.1 (
            one.1 ((so b is).1 (λ k d f less. meets k d f (omega (arith, less))), subst (λ (z : ℤ). z ≤ℤ x.hi) (sym (low x)) met.1),
            subst (λ (z : ℤ). x.lo ≤ℤ z) (sym (high x)) met.0,
          )),
    )

pub touching-all : (axes : ℕ) (rect window : List Interval) → length rect ≡ axes → TouchesBelow axes axes rect window → IsTouching axes rect window
touching-all axes rect window l so = λ b is.
    let decides = touch-decides rect b in
    let same : length rect ≡ length b = l ∙ sym is.axes_are in (
      (λ admitted. let below = (so b is).0 admitted in
          decides.1 (AllZip-from_places Meets rect b same (λ k d f less. below k d f (omega (arith, l, less))))),
      (λ e. (so b is).1 (λ k d f less. AllZip-get_or_both Meets rect b k d f (decides.0 e) (omega (arith, l, less)))),
    )

module _ {D : ℕ} where
  -- where the bits tell which boxes such a window admits, they pick the cells that touch the box
  pub picked-touching : (rect window : List Interval) (cells : List (Cell D)) (bits : ℕ) → IsTouching D rect window →
      All (IsBox D) (map (λ c. c.rect) cells) → Tells (Admits window) (map (λ c. c.rect) cells) bits →
      picked cells bits ≡ filter (λ c. touch rect c.rect) cells
  picked-touching rect window [] bits touches boxes told = refl
  picked-touching rect window (c ∷ cs) bits touches boxes told =
      let rest : picked cs (bits / 2) ≡ filter (λ x. touch rect x.rect) cs =
      picked-touching rect window cs (bits / 2) touches (All-tail (IsBox D) c.rect (map (λ x. x.rect) cs) boxes) told.1 in
      let here = touches c.rect (All-head (IsBox D) c.rect (map (λ x. x.rect) cs) boxes) in
      let bit = Decides-eqb (bits % 2) 1 in
      let same : (bits % 2 == 1) ≡ touch rect c.rect =
      same_from_decides {P = touch rect c.rect ≡ true} (bits % 2 == 1) (touch rect c.rect)
      ((λ e. here.0 (told.0.0 (bit.0 e))), (λ e. bit.1 (told.0.1 (here.1 e)))) ((λ e. e), (λ e. e)) in
      ap (λ v. cond v (c ∷ picked cs (bits / 2)) (picked cs (bits / 2))) same ∙ ap (λ l. cond (touch rect c.rect) (c ∷ l) l) rest

  -- the same of the cells from a place on, and of the bits from there on
  pub picked-later : (n : ℕ) (rect window : List Interval) (cells : List (Cell D)) (bits : ℕ) → n ≤ length cells → IsTouching D rect window →
      All (IsBox D) (map (λ c. c.rect) cells) → Tells (Admits window) (map (λ c. c.rect) cells) bits →
      (picked (drop n cells) (bits / 2 ^ n) ≡ filter (λ c. touch rect c.rect) (drop n cells)) × (bits / 2 ^ n < 2 ^ length (drop n cells))
  picked-later zero rect window cells bits within touches boxes told =
      let same : bits / 2 ^ 0 ≡ bits = omega arith in
      let below = (Tells-cells (Admits window) (map (λ c. c.rect) cells) cells bits refl told).1 in
      (ap (picked cells) same ∙ picked-touching rect window cells bits touches boxes told, omega (arith, same, below))
  picked-later (suc n) rect window [] bits within touches boxes told = absurd (omega (arith, within))
  picked-later (suc n) rect window (c ∷ cs) bits within touches boxes told =
      let double : 2 ^ suc n ≡ 2 * 2 ^ n = omega (arith, two-pow-succ n) in
      let half : bits / 2 / 2 ^ n ≡ bits / 2 ^ suc n = div-div-eq-div-mul bits 2 (2 ^ n) ∙ ap (λ k. bits / k) (sym double) in
      let rest = picked-later n rect window cs (bits / 2) (omega (arith, within)) touches (All-tail (IsBox D) c.rect (map (λ x. x.rect) cs) boxes) told.1 in
      (ap (picked (drop n cs)) (sym half) ∙ rest.0, omega (arith, half, rest.1))
