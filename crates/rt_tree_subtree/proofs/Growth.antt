-- How overlaps grow where a box is widened.
use Rattle.std.proofs.Common.{◌≡◌, ◌≢◌, inl, inr, ℕ, suc, ◌+◌, ◌-◌, ◌<◌, ◌≤◌, List, [], ◌∷◌, length, take, drop, sum_by, get_or, arith, ap, ◌∙◌, refl, sym, subst, add-one}
use Rattle.std.proofs.lemmas.List.{get_or_read, take_rest, get_or-take, get_or-drop, length-take, length-drop}
use Rattle.std.proofs.lemmas.Bool.{cases_lt}
use Rattle.std.proofs.lemmas.List.Sums.{sum_by-append, sum_by_more, sum_by-le-sum_by, sum_by-take-drop, sum_by-drop_more}
use Rattle.std.specs.Int.{int_min, int_max}
use Rattle.std.proofs.lemmas.Int.{ints, clamps}
use Rattle.rt_box.specs.declared.interval.Interval.{Interval}
use Rattle.rt_box.specs.Interval.{interval, Covers, cover}
use Rattle.rt_box.specs.Rect.{IsBox, overlap, union_box, Holds}
use Rattle.rt_box.proofs.Holding.{Holds-union_left, overlap-le_left}
use Rattle.rt_box.specs.Boxes.{box_at}
use Rattle.rt_tree_subtree.specs.Subtree.{overlap_with_others, overlap_enlargement}

pub Holds-widened : (axes : ℕ) (own new widened : List Interval) → IsBox axes own → IsBox axes new → widened ≡ union_box own new → Holds widened own
Holds-widened axes own new widened own_is new_is e =
    rw e (Holds-union_left own new (omega (arith, own_is.axes_are, new_is.axes_are)))

-- the cells before a position and those after it are the others
others_are : (boxes : List (List Interval)) (position : ℕ) (b : List Interval) →
    overlap_with_others boxes position b
    ≡ sum_by (overlap b) (take position boxes) + sum_by (overlap b) (drop (position + 1) boxes)
others_are boxes position b =
    rw (add-one position) (sum_by-append (overlap b) (take position boxes) (drop (suc position) boxes))

pub overlap_enlargement-from_parts : (boxes : List (List Interval)) (position : ℕ) (new own widened : List Interval) (m n : ℕ) →
    position < length boxes → own ≡ get_or boxes position own → widened ≡ union_box own new →
    m + sum_by (overlap own) (take position boxes) ≡ sum_by (overlap widened) (take position boxes) →
    n + sum_by (overlap own) (take (length boxes - (position + 1)) (drop (position + 1) boxes))
    ≡ sum_by (overlap widened) (take (length boxes - (position + 1)) (drop (position + 1) boxes)) →
    m + n ≡ overlap_enlargement boxes new position
overlap_enlargement-from_parts boxes position new own widened m n within own_is widened_is first rest =
    let here : own ≡ box_at boxes position = get_or_read boxes position own within own_is _ in
    let rest' : n + sum_by (overlap own) (drop (position + 1) boxes) ≡ sum_by (overlap widened) (drop (position + 1) boxes)
    = rw take_rest at rest in
    let before = others_are boxes position own in
    let after = others_are boxes position widened in
    let e : m + n ≡ overlap_with_others boxes position widened - overlap_with_others boxes position own = omega arith in
    e ∙ ap (λ w. overlap_with_others boxes position w - overlap_with_others boxes position own) widened_is
    ∙ ap (λ o. overlap_with_others boxes position (union_box o new) - overlap_with_others boxes position o) here

-- an overlap with one more cell
growth-step : (others : List (List Interval)) (b other : List Interval) (i : ℕ) → i < length others → other ≡ get_or others i other →
    sum_by (overlap b) (take (i + 1) others) ≡ sum_by (overlap b) (take i others) + overlap b other
growth-step others b other i within other_is =
    sum_by_more (overlap b) others i other within ∙ ap (λ x. sum_by (overlap b) (take i others) + overlap b x) (sym other_is)

pub growth-more : (others : List (List Interval)) (own widened other : List Interval) (i growth x y : ℕ) → i < length others →
    other ≡ get_or others i other → Holds widened own → x ≡ overlap widened other → y ≡ overlap own other →
    growth + sum_by (overlap own) (take i others) ≡ sum_by (overlap widened) (take i others) →
    growth + (x - y) + sum_by (overlap own) (take (i + 1) others) ≡ sum_by (overlap widened) (take (i + 1) others)
growth-more others own widened other i growth x y within other_is wider x_is y_is so_far =
    omega (
      arith,
      growth-step others own other i within other_is,
      growth-step others widened other i within other_is,
      overlap-le_left widened own other wider,
    )

-- a part of the sum that is above the limit
pub growth-exceeds : (others : List (List Interval)) (own widened other : List Interval) (i growth limit x y : ℕ) → i < length others →
    other ≡ get_or others i other → Holds widened own → x ≡ overlap widened other → y ≡ overlap own other →
    growth + sum_by (overlap own) (take i others) ≡ sum_by (overlap widened) (take i others) → growth ≤ limit → limit - growth < x - y →
    limit + sum_by (overlap own) others < sum_by (overlap widened) others
growth-exceeds others own widened other i growth limit x y within other_is wider x_is y_is so_far small more =
    let part = growth-more others own widened other i growth x y within other_is wider x_is y_is so_far in
    let rest = sum_by-le-sum_by (overlap own) (overlap widened) (drop (i + 1) others) (λ b. overlap-le_left widened own b wider) in
    let own_sum = sum_by-take-drop (overlap own) others (i + 1) in
    let widened_sum = sum_by-take-drop (overlap widened) others (i + 1) in
    omega arith

pub overlap_enlargement-above : (boxes : List (List Interval)) (position : ℕ) (new own widened : List Interval) (limit : ℕ) →
    position < length boxes → own ≡ get_or boxes position own → widened ≡ union_box own new →
    limit + (sum_by (overlap own) (take position boxes) + sum_by (overlap own) (drop (position + 1) boxes))
    < sum_by (overlap widened) (take position boxes) + sum_by (overlap widened) (drop (position + 1) boxes) →
    limit < overlap_enlargement boxes new position
overlap_enlargement-above boxes position new own widened limit within own_is widened_is above =
    let here : own ≡ box_at boxes position = get_or_read boxes position own within own_is _ in
    let before = others_are boxes position own in
    let after = others_are boxes position widened in
    let e : limit < overlap_with_others boxes position widened - overlap_with_others boxes position own = omega arith in
    subst (λ o. limit < overlap_with_others boxes position (union_box o new) - overlap_with_others boxes position o) here
    (subst (λ w. limit < overlap_with_others boxes position w - overlap_with_others boxes position own) widened_is e)

others-grow : (others : List (List Interval)) (own widened : List Interval) → Holds widened own → sum_by (overlap own) others ≤ sum_by (overlap widened) others
others-grow others own widened wider = sum_by-le-sum_by (overlap own) (overlap widened) others (λ b. overlap-le_left widened own b wider)

-- the first part alone is above the limit
pub growth-before_above : (boxes : List (List Interval)) (position : ℕ) (new own widened : List Interval) (limit : ℕ) →
    position < length boxes → own ≡ get_or boxes position own → widened ≡ union_box own new → Holds widened own →
    limit + sum_by (overlap own) (take position boxes) < sum_by (overlap widened) (take position boxes) →
    limit < overlap_enlargement boxes new position
growth-before_above boxes position new own widened limit within own_is widened_is wider above =
    let grows = others-grow (drop (position + 1) boxes) own widened wider in
    overlap_enlargement-above boxes position new own widened limit within own_is widened_is (omega arith)

pub growth-after_above : (boxes : List (List Interval)) (position : ℕ) (new own widened : List Interval) (limit before : ℕ) →
    position < length boxes → own ≡ get_or boxes position own → widened ≡ union_box own new → before ≤ limit →
    before + sum_by (overlap own) (take position boxes) ≡ sum_by (overlap widened) (take position boxes) →
    (limit - before) + sum_by (overlap own) (take (length boxes - (position + 1)) (drop (position + 1) boxes))
    < sum_by (overlap widened) (take (length boxes - (position + 1)) (drop (position + 1) boxes)) →
    limit < overlap_enlargement boxes new position
growth-after_above boxes position new own widened limit before within own_is widened_is small first above =
    let above' : (limit - before) + sum_by (overlap own) (drop (position + 1) boxes) < sum_by (overlap widened) (drop (position + 1) boxes)
    = rw take_rest at above in
    overlap_enlargement-above boxes position new own widened limit within own_is widened_is (omega arith)

-- a cell that the widened box doesn't meet
pub growth-none : (others : List (List Interval)) (own widened other : List Interval) (i growth x : ℕ) → i < length others →
    other ≡ get_or others i other → Holds widened own → x ≡ overlap widened other → x ≡ 0 →
    growth + sum_by (overlap own) (take i others) ≡ sum_by (overlap widened) (take i others) →
    growth + sum_by (overlap own) (take (i + 1) others) ≡ sum_by (overlap widened) (take (i + 1) others)
growth-none others own widened other i growth x within other_is wider x_is none so_far =
    omega (
      arith,
      growth-step others own other i within other_is,
      growth-step others widened other i within other_is,
      overlap-le_left widened own other wider,
    )

-- the sum grows at least by the growth of one term
one-grows : (others : List (List Interval)) (own widened d : List Interval) (j : ℕ) → j < length others → Holds widened own →
    sum_by (overlap own) others + (overlap widened (get_or others j d) - overlap own (get_or others j d)) ≤ sum_by (overlap widened) others
one-grows others own widened d j within wider =
    let before = others-grow (take j others) own widened wider in
    let after = others-grow (drop (j + 1) others) own widened wider in
    let own_sum = sum_by-take-drop (overlap own) others j in
    let widened_sum = sum_by-take-drop (overlap widened) others j in
    let own_rest = sum_by-drop_more (overlap own) others j d within in
    let widened_rest = sum_by-drop_more (overlap widened) others j d within in
    let here = overlap-le_left widened own (get_or others j d) wider in
    omega arith

-- one other cell alone takes it above the limit
pub growth-near_above : (boxes : List (List Interval)) (position near : ℕ) (new own widened cell : List Interval) (limit x y : ℕ) →
    position < length boxes → near < length boxes → near ≢ position → own ≡ get_or boxes position own → widened ≡ union_box own new → Holds widened own →
    cell ≡ get_or boxes near cell → x ≡ overlap widened cell → y ≡ overlap own cell → limit < x - y →
    limit < overlap_enlargement boxes new position
growth-near_above boxes position near new own widened cell limit x y within near_in differs own_is widened_is wider cell_is x_is y_is above =
    overlap_enlargement-above boxes position new own widened limit within own_is widened_is
    (elim (cases_lt near position) [
      | inl front ↦
          let at : get_or (take position boxes) near cell ≡ cell = get_or-take position boxes near cell front ∙ sym cell_is in
          let grows = one-grows (take position boxes) own widened cell near (omega (arith, length-take position boxes)) wider in
          let rest = others-grow (drop (position + 1) boxes) own widened wider in
          let w = ap (overlap widened) at in
          let o = ap (overlap own) at in
          omega arith
      | inr back ↦
          let place : (position + 1) + (near - (position + 1)) ≡ near = omega arith in
          let at : get_or (drop (position + 1) boxes) (near - (position + 1)) cell ≡ cell =
          get_or-drop (position + 1) boxes (near - (position + 1)) cell ∙ ap (λ k. get_or boxes k cell) place ∙ sym cell_is in
          let grows = one-grows (drop (position + 1) boxes) own widened cell (near - (position + 1)) (omega (arith, length-drop (position + 1) boxes)) wider in
          let rest = others-grow (take position boxes) own widened wider in
          let w = ap (overlap widened) at in
          let o = ap (overlap own) at in
          omega arith
    ])

-- ---- a box that holds another is their union
cover-holder : (a b : Interval) → Covers a b → cover a b ≡ a
cover-holder a b h =
    let lo : int_min a.lo b.lo ≡ a.lo = omega (arith, ints, clamps, h.0) in
    let hi : int_max a.hi b.hi ≡ a.hi = omega (arith, ints, clamps, h.1) in
    ap (λ x. interval x (int_max a.hi b.hi)) lo ∙ ap (λ y. interval a.lo y) hi

pub union-holder : (a b : List Interval) → Holds a b → union_box a b ≡ a
union-holder [] b h = refl
union-holder (x ∷ a) [] h = absurd h
union-holder (x ∷ a) (y ∷ b) h = ap (λ i. i ∷ union_box a b) (cover-holder x y h.0) ∙ ap (λ is. x ∷ is) (union-holder a b h.1)

-- a cell that holds the new box doesn't grow
pub overlap-still : (boxes : List (List Interval)) (new : List Interval) (position : ℕ) (own : List Interval) →
    position < length boxes → own ≡ get_or boxes position own → Holds own new → overlap_enlargement boxes new position ≡ 0
overlap-still boxes new position own within own_is holds =
    let here : own ≡ box_at boxes position = get_or_read boxes position own within own_is _ in
    let whole : union_box (box_at boxes position) new ≡ box_at boxes position =
    union-holder (box_at boxes position) new (subst (λ b. Holds b new) here holds) in
    let e = ap (overlap_with_others boxes position) whole in omega arith
