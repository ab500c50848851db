-- Hulls of lists of boxes, grown at their end or at their front.
use Rattle.std.proofs.Common.{◌≡◌, ℕ, ◌+◌, ◌<◌, List, [], ◌∷◌, ◌++◌, length, get_or, take, arith, refl, ap, ◌∙◌}
use Rattle.std.specs.Int.{int_min, int_max}
use Rattle.std.specs.List.{fold, All}
use Rattle.std.proofs.lemmas.Int.{ints, clamps}
use Rattle.std.proofs.lemmas.List.{take_more, length-take}
use Rattle.std.proofs.lemmas.List.Sums.{fold_push}
use Rattle.std.proofs.lemmas.List.Elements.{All-nil, All-cons, All-head, All-tail}
use Rattle.rt_box.specs.declared.interval.Interval.{Interval}
use Rattle.rt_box.specs.Interval.{interval, cover}
use Rattle.rt_box.specs.Rect.{IsBox, Holds, union_box}
use Rattle.rt_box.specs.Hull.{hull}
use Rattle.rt_box.proofs.Holding.{IsBox-union, Holds-union_left, Holds-union_right, Holds-union_least, Holds_refl, Holds_trans}

cover_assoc : (a b c : Interval) → cover (cover a b) c ≡ cover a (cover b c)
cover_assoc a b c =
    let lo : int_min (int_min a.lo b.lo) c.lo ≡ int_min a.lo (int_min b.lo c.lo) = omega (arith, ints, clamps) in
    let hi : int_max (int_max a.hi b.hi) c.hi ≡ int_max a.hi (int_max b.hi c.hi) = omega (arith, ints, clamps) in
    ap (λ x. interval x (int_max (int_max a.hi b.hi) c.hi)) lo ∙ ap (λ y. interval (int_min a.lo (int_min b.lo c.lo)) y) hi

union_assoc : (a b c : List Interval) → union_box (union_box a b) c ≡ union_box a (union_box b c)
union_assoc [] b c = refl
union_assoc (x ∷ a) [] c = refl
union_assoc (x ∷ a) (y ∷ b) [] = refl
union_assoc (x ∷ a) (y ∷ b) (z ∷ c) =
    ap (λ i. i ∷ union_box (union_box a b) c) (cover_assoc x y z) ∙ ap (λ is. cover x (cover y z) ∷ is) (union_assoc a b c)

fold-from_union : (a b : List Interval) (cs : List (List Interval)) → fold union_box (union_box a b) cs ≡ union_box a (fold union_box b cs)
fold-from_union a b [] = refl
fold-from_union a b (c ∷ cs) = ap (λ u. fold union_box u cs) (union_assoc a b c) ∙ fold-from_union a (union_box b c) cs

pub hull-cons : (b : List Interval) (bs : List (List Interval)) → 0 < length bs → hull (b ∷ bs) ≡ union_box b (hull bs)
hull-cons b [] h = absurd (omega arith)
hull-cons b (c ∷ cs) h = fold-from_union b c cs

-- the hull is a box that holds each of the boxes, and is the least such
pub hull-least : (axes : ℕ) (b : List Interval) (bs : List (List Interval)) → All (IsBox axes) (b ∷ bs) →
    IsBox axes (hull (b ∷ bs)) × All (Holds (hull (b ∷ bs))) (b ∷ bs)
    × ((c : List Interval) → All (Holds c) (b ∷ bs) → Holds c (hull (b ∷ bs)))
hull-least axes b [] are_boxes = (
  All-head (IsBox axes) b [] are_boxes,
  All-cons (Holds b) b [] (Holds_refl b) (All-nil (Holds b)),
  λ c holds. All-head (Holds c) b [] holds,
)
hull-least axes b (x ∷ xs) are_boxes =
    let rest = hull-least axes x xs (All-tail (IsBox axes) b (x ∷ xs) are_boxes) in
    let inner = hull (x ∷ xs) in
    let is_box : IsBox axes b = All-head (IsBox axes) b (x ∷ xs) are_boxes in
    let same : length b ≡ length inner = omega (arith, is_box.axes_are, rest.0.axes_are) in
    rw (hull-cons b (x ∷ xs) (omega arith)) (
      IsBox-union axes b inner is_box rest.0,
      All-cons (Holds (union_box b inner)) b (x ∷ xs) (Holds-union_left b inner same)
          (λ k d below. Holds_trans (union_box b inner) inner _ (Holds-union_right b inner same) (rest.1 k d below)),
      λ c holds. Holds-union_least c b inner (All-head (Holds c) b (x ∷ xs) holds) (rest.2 c (All-tail (Holds c) b (x ∷ xs) holds)),
    )

pub hull-push : (bs : List (List Interval)) (c : List Interval) → 0 < length bs → hull (bs ++ c ∷ []) ≡ union_box (hull bs) c
hull-push [] c h = absurd (omega arith)
hull-push (b ∷ bs) c h = fold_push union_box b bs c

pub hull_more : (bs : List (List Interval)) (i : ℕ) (d : List Interval) → 0 < i → i < length bs →
    hull (take (i + 1) bs) ≡ union_box (hull (take i bs)) (get_or bs i d)
hull_more bs i d some h =
    ap hull (take_more bs i d h) ∙ hull-push (take i bs) (get_or bs i d) (omega (arith, length-take i bs))
