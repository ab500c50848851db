-- The best cut of sorted cells, of an axis, and of all axes.
use Rattle.std.proofs.Common.{◌≡◌, ◌⊎◌, inl, inr, ℕ, zero, suc, ◌+◌, ◌-◌, ◌*◌, ◌<◌, ◌≤◌, Bool, true, false, List, [], ◌∷◌, ◌++◌, length, get_or, take, drop, sum_by, arith, refl, ap, sym, ◌∙◌, subst}
use Rattle.std.specs.List.{range_with_len}
use Rattle.std.proofs.lemmas.Bool.{cases_eq}
use Rattle.std.proofs.lemmas.List.{get_or_read}
use Rattle.std.proofs.lemmas.List.Sums.{sum_by-cons}
use Rattle.rt_box.specs.declared.interval.Interval.{Interval}
use Rattle.rt_box.specs.Rect.{area, margin, overlap}
use Rattle.rt_box.specs.Capacity.{least_fill, IsCapacity}
use Rattle.rt_tree_choice.specs.declared.split.Cut.{Cut}
use Rattle.rt_tree_choice.specs.declared.split.Quality.{Quality}
use Rattle.rt_tree_choice.specs.declared.split.Parting.{Parting}
use Rattle.rt_tree_choice.specs.declared.split.Judgement.{Judgement}
use Rattle.rt_box.specs.Boxes.{box_at}
use Rattle.rt_box.specs.Hull.{hull}
use Rattle.rt_tree_choice.specs.Hull.{boxes_at, AreFronts, AreBacks}
use Rattle.rt_box.specs.Keys.{Less, IsLeast}
use Rattle.rt_tree_choice.specs.Split.{sorting, first_hull, second_hull, cut_at, cut_key, margins, margin_sum, axis_key, sorting_rank, IsCutOf, IsBestCut}
use Rattle.rt_tree_choice.specs.Judgements.{quality_numbers, AreQualityOf, margins_at, costs_at, IsBestParting, IsJudgedSorting, IsJudgedAxis}
use Rattle.rt_box.proofs.Keys.{ranked, Less-trans, Less-append, Less-between, Less-push_tie, IsLeast-none, IsLeast-takes, IsLeast-keeps}

start : (a : ℕ) → a ≡ a + 0
start a = omega arith

next : (n : ℕ) → suc n + 1 ≡ suc (n + 1)
next n = omega arith

move : (a n : ℕ) → (a + 1) + n ≡ a + suc n
move a n = omega arith

back_to : (a b : ℕ) → a ≤ b → a + (b - a) ≡ b
back_to a b h = omega arith

pub sum-range_more : (f : ℕ → ℕ) (a n : ℕ) → sum_by f (range_with_len a (n + 1)) ≡ sum_by f (range_with_len a n) + f (a + n)
sum-range_more f a zero = ap {B = ℕ} (λ k. 0 + f k) (start a)
sum-range_more f a (suc n) =
    let step : sum_by f (range_with_len a (suc n + 1)) ≡ sum_by f (a ∷ range_with_len (a + 1) (n + 1)) =
    ap (λ k. sum_by f (range_with_len a k)) (next n) in
    let e = sum_by-cons f a (range_with_len (a + 1) (n + 1)) in
    let e' = sum_by-cons f a (range_with_len (a + 1) n) in
    let rec = sum-range_more f (a + 1) n in
    let at : f ((a + 1) + n) ≡ f (a + suc n) = ap f (move a n) in
    omega arith

pub sum-range_agree : (f h : ℕ → ℕ) (a n : ℕ) → ((k : ℕ) → a ≤ k → k < a + n → f k ≡ h k) →
    sum_by f (range_with_len a n) ≡ sum_by h (range_with_len a n)
sum-range_agree f h a zero same = refl
sum-range_agree f h a (suc n) same =
    let e = sum_by-cons f a (range_with_len (a + 1) n) in
    let e' = sum_by-cons h a (range_with_len (a + 1) n) in
    let rec = sum-range_agree f h (a + 1) n (λ k above below. same k (omega arith) (omega arith)) in
    let here : f a ≡ h a = same a (omega arith) (omega arith) in
    omega arith

-- ---- the cuts of sorted cells, one more
quality-costs : (fronts backs : List (List Interval)) (first : ℕ) (q : Quality) →
    AreQualityOf (box_at fronts (first - 1)) (box_at backs first) q → quality_numbers q ≡ costs_at fronts backs first
quality-costs fronts backs first q h =
    ap (λ x. x ∷ q.total ∷ []) h.0
    ∙ ap (λ y. overlap (box_at fronts (first - 1)) (box_at backs first) ∷ y ∷ []) h.1

pub quality-at : (fronts backs : List (List Interval)) (first : ℕ) (front back : List Interval) (q : Quality) →
    first - 1 < length fronts → first < length backs → front ≡ get_or fronts (first - 1) front → back ≡ get_or backs first back →
    AreQualityOf front back q → AreQualityOf (box_at fronts (first - 1)) (box_at backs first) q
quality-at fronts backs first front back q in_fronts in_backs front_is back_is h =
    subst (λ f. AreQualityOf f (box_at backs first) q) (get_or_read fronts (first - 1) front in_fronts front_is _)
    (subst (λ b. AreQualityOf front b q) (get_or_read backs first back in_backs back_is _) h)

pub parting-takes : (fronts backs : List (List Interval)) (least first best : ℕ) (q other : Quality) →
    AreQualityOf (box_at fronts (best - 1)) (box_at backs best) q → AreQualityOf (box_at fronts (first - 1)) (box_at backs first) other →
    IsLeast (ranked (costs_at fronts backs)) least first best → Less (quality_numbers other) (quality_numbers q) →
    IsLeast (ranked (costs_at fronts backs)) least (first + 1) first
parting-takes fronts backs least first best q other q_is other_is so_far less =
    IsLeast-takes (costs_at fronts backs) least first best so_far
    (subst (λ x. Less x (costs_at fronts backs best)) (quality-costs fronts backs first other other_is)
    (subst (λ y. Less (quality_numbers other) y) (quality-costs fronts backs best q q_is) less))

pub parting-keeps : (fronts backs : List (List Interval)) (least first best : ℕ) (q other : Quality) →
    AreQualityOf (box_at fronts (best - 1)) (box_at backs best) q → AreQualityOf (box_at fronts (first - 1)) (box_at backs first) other →
    IsLeast (ranked (costs_at fronts backs)) least first best → ¬ Less (quality_numbers other) (quality_numbers q) →
    IsLeast (ranked (costs_at fronts backs)) least (first + 1) best
parting-keeps fronts backs least first best q other q_is other_is so_far not_less =
    IsLeast-keeps (costs_at fronts backs) least first best so_far refl
    (λ less. not_less (subst (λ x. Less x (quality_numbers q)) (sym (quality-costs fronts backs first other other_is))
    (subst (λ y. Less (costs_at fronts backs first) y) (sym (quality-costs fronts backs best q q_is)) less)))

pub margins-more : (fronts backs : List (List Interval)) (least first m x y : ℕ) (front back : List Interval) → least < first →
    first - 1 < length fronts → first < length backs → front ≡ get_or fronts (first - 1) front → back ≡ get_or backs first back →
    x ≡ margin front → y ≡ margin back →
    m ≡ sum_by (margins_at fronts backs) (range_with_len least (first - least)) →
    m + (x + y) ≡ sum_by (margins_at fronts backs) (range_with_len least (first + 1 - least))
margins-more fronts backs least first m x y front back above in_fronts in_backs front_is back_is x_is y_is m_is =
    let front_at : margin front ≡ margin (box_at fronts (first - 1)) = ap margin (get_or_read fronts (first - 1) front in_fronts front_is _) in
    let back_at : margin back ≡ margin (box_at backs first) = ap margin (get_or_read backs first back in_backs back_is _) in
    let more = sum-range_more (margins_at fronts backs) least (first - least) in
    let count : first + 1 - least ≡ (first - least) + 1 = omega arith in
    let here : margins_at fronts backs (least + (first - least)) ≡ margins_at fronts backs first = ap (margins_at fronts backs) (back_to least first (omega arith)) in
    let sum_is : m + (x + y) ≡ sum_by (margins_at fronts backs) (range_with_len least ((first - least) + 1)) = omega arith in
    sum_is ∙ ap (λ n. sum_by (margins_at fronts backs) (range_with_len least n)) (sym count)

-- ---- from hulls to the cuts of a sorting
-- what a cut's groups are compared by
abbrev cut_costs : List (List Interval) → Cut → List ℕ
cut_costs boxes cut =
    overlap (first_hull boxes cut) (second_hull boxes cut) ∷ (area (first_hull boxes cut) + area (second_hull boxes cut)) ∷ []

module _ (boxes : List (List Interval)) (capacity axis : ℕ) (upper : Bool) (order : List ℕ) (fronts backs : List (List Interval))
    (full : length boxes ≡ capacity + 1) (is_capacity : IsCapacity capacity) (long : length order ≡ length boxes)
    (order_is : order ≡ sorting boxes axis upper) (fronts_are : AreFronts boxes order fronts) (backs_are : AreBacks boxes order backs) where
  front-is : (first : ℕ) → 0 < first → first ≤ capacity + 1 → box_at fronts (first - 1) ≡ first_hull boxes (cut_at axis upper first)
  front-is first some few =
      let count : first - 1 + 1 ≡ first = omega arith in
      fronts_are (first - 1) [] (omega arith) ∙ ap (λ n. hull (boxes_at boxes (take n order))) count
      ∙ ap (λ ps. hull (boxes_at boxes (take first ps))) order_is

  back-is : (first : ℕ) → first < capacity + 1 → box_at backs first ≡ second_hull boxes (cut_at axis upper first)
  back-is first few =
      backs_are first [] (omega arith) ∙ ap (λ ps. hull (boxes_at boxes (drop first ps))) order_is

  least-some : 0 < least_fill capacity
  least-some = omega (arith, is_capacity)

  costs-are : (first : ℕ) → 0 < first → first < capacity + 1 → costs_at fronts backs first ≡ cut_costs boxes (cut_at axis upper first)
  costs-are first some few =
      ap (λ f. overlap f (box_at backs first) ∷ (area f + area (box_at backs first)) ∷ []) (front-is first some (omega arith))
      ∙ ap (λ b. overlap (first_hull boxes (cut_at axis upper first)) b ∷ (area (first_hull boxes (cut_at axis upper first)) + area b) ∷ []) (back-is first few)

  key-less : (p q : ℕ) → 0 < p → p < capacity + 1 → 0 < q → q < capacity + 1 →
      Less (ranked (costs_at fronts backs) p) (ranked (costs_at fronts backs) q) →
      Less (cut_key boxes (cut_at axis upper p)) (cut_key boxes (cut_at axis upper q))
  key-less p q p_some p_few q_some q_few less =
      Less-between (sorting_rank upper) (cut_costs boxes (cut_at axis upper p)) (cut_costs boxes (cut_at axis upper q)) (p ∷ []) (q ∷ []) refl
      (subst (λ xs. Less (xs ++ p ∷ []) (cut_costs boxes (cut_at axis upper q) ++ q ∷ [])) (costs-are p p_some p_few)
      (subst (λ ys. Less (costs_at fronts backs p ++ p ∷ []) (ys ++ q ∷ [])) (costs-are q q_some q_few) less))

  pub judged-sorting : (p : Parting) → IsBestParting fronts backs (least_fill capacity) (length boxes) p →
      IsJudgedSorting boxes capacity axis upper p
  judged-sorting p best =
      let some : 0 < least_fill capacity = least-some in
      let low : least_fill capacity ≤ p.first = best.best.from_low in
      let high : p.first < length boxes + 1 - least_fill capacity = best.best.below_high in
      let count : length boxes + 1 - 2 * least_fill capacity ≡ capacity + 2 - 2 * least_fill capacity = omega arith in
      record {
        margins_are = best.margins_are
            ∙ ap (λ n. sum_by (margins_at fronts backs) (range_with_len (least_fill capacity) n)) count
            ∙ sum-range_agree (margins_at fronts backs) (λ first. margins boxes (cut_at axis upper first)) (least_fill capacity) (capacity + 2 - 2 * least_fill capacity)
            (λ k above below.
            let f = ap margin (front-is k (omega arith) (omega arith)) in
            let b = ap margin (back-is k (omega arith)) in
            omega arith);
        few_margins = best.few_margins;
        quality_is =
            subst (λ f. AreQualityOf f (second_hull boxes (cut_at axis upper p.first)) p.quality) (front-is p.first (omega arith) (omega arith))
            (subst (λ b. AreQualityOf (box_at fronts (p.first - 1)) b p.quality) (back-is p.first (omega arith)) best.quality_is);
        best = record {
          from_low = low;
          below_high = omega arith;
          least = λ k above below other.
              key-less p.first k (omega arith) (omega arith) (omega arith) (omega arith) (best.best.least k above (omega arith) other);
        };
      }

-- ---- the better of the two sortings' cuts
module _ (boxes : List (List Interval)) (capacity axis : ℕ) (lower upper : Parting)
    (l : IsJudgedSorting boxes capacity axis false lower) (u : IsJudgedSorting boxes capacity axis true upper) where
  lower-key : cut_key boxes (cut_at axis false lower.first) ≡ quality_numbers lower.quality ++ 0 ∷ lower.first ∷ []
  lower-key =
      ap (λ x. x ∷ (area (first_hull boxes (cut_at axis false lower.first)) + area (second_hull boxes (cut_at axis false lower.first))) ∷ 0 ∷ lower.first ∷ []) (sym l.quality_is.0)
      ∙ ap (λ y. lower.quality.common ∷ y ∷ 0 ∷ lower.first ∷ []) (sym l.quality_is.1)

  upper-key : cut_key boxes (cut_at axis true upper.first) ≡ quality_numbers upper.quality ++ 1 ∷ upper.first ∷ []
  upper-key =
      ap (λ x. x ∷ (area (first_hull boxes (cut_at axis true upper.first)) + area (second_hull boxes (cut_at axis true upper.first))) ∷ 1 ∷ upper.first ∷ []) (sym u.quality_is.0)
      ∙ ap (λ y. upper.quality.common ∷ y ∷ 1 ∷ upper.first ∷ []) (sym u.quality_is.1)

  upper-less : Less (quality_numbers upper.quality) (quality_numbers lower.quality) →
      Less (cut_key boxes (cut_at axis true upper.first)) (cut_key boxes (cut_at axis false lower.first))
  upper-less less =
      subst (λ x. Less x (cut_key boxes (cut_at axis false lower.first))) (sym upper-key)
      (subst (λ y. Less (quality_numbers upper.quality ++ 1 ∷ upper.first ∷ []) y) (sym lower-key)
      (Less-append (quality_numbers upper.quality) (quality_numbers lower.quality) (1 ∷ upper.first ∷ []) (0 ∷ lower.first ∷ []) less))

  lower-less : ¬ Less (quality_numbers upper.quality) (quality_numbers lower.quality) →
      Less (cut_key boxes (cut_at axis false lower.first)) (cut_key boxes (cut_at axis true upper.first))
  lower-less not_less =
      subst (λ x. Less x (cut_key boxes (cut_at axis true upper.first))) (sym lower-key)
      (subst (λ y. Less (quality_numbers lower.quality ++ 0 ∷ lower.first ∷ []) y) (sym upper-key)
      (Less-append (quality_numbers lower.quality ++ 0 ∷ []) (quality_numbers upper.quality ++ 1 ∷ []) (lower.first ∷ []) (upper.first ∷ [])
      (Less-push_tie (quality_numbers lower.quality) (quality_numbers upper.quality) 0 1 refl not_less (omega arith))))

  cut-of : (by_upper : Bool) (first : ℕ) → least_fill capacity ≤ first → first < capacity + 2 - least_fill capacity →
      IsCutOf capacity axis (cut_at axis by_upper first)
  cut-of by_upper first low high = record { axis_is = refl; first_filled = low; second_filled = omega arith }

  is-cut_at : (other : Cut) → IsCutOf capacity axis other → cut_at axis other.upper other.first ≡ other
  is-cut_at other h = ap (λ a. cut_at a other.upper other.first) (sym h.axis_is)

  -- of the cuts of one sorting, each but the best is worse
  by-lower : (first : ℕ) → least_fill capacity ≤ first → first + least_fill capacity ≤ capacity + 1 →
      (first ≡ lower.first) ⊎ Less (cut_key boxes (cut_at axis false lower.first)) (cut_key boxes (cut_at axis false first))
  by-lower first low high = elim (cases_eq first lower.first) [ inl e ↦ inl e | inr n ↦ inr (l.best.least first low (omega arith) n) ]

  by-upper : (first : ℕ) → least_fill capacity ≤ first → first + least_fill capacity ≤ capacity + 1 →
      (first ≡ upper.first) ⊎ Less (cut_key boxes (cut_at axis true upper.first)) (cut_key boxes (cut_at axis true first))
  by-upper first low high = elim (cases_eq first upper.first) [ inl e ↦ inl e | inr n ↦ inr (u.best.least first low (omega arith) n) ]

  upper-best : Less (quality_numbers upper.quality) (quality_numbers lower.quality) → (by_upper : Bool) (first : ℕ) →
      least_fill capacity ≤ first → first + least_fill capacity ≤ capacity + 1 →
      (cut_at axis by_upper first ≡ cut_at axis true upper.first)
      ⊎ Less (cut_key boxes (cut_at axis true upper.first)) (cut_key boxes (cut_at axis by_upper first))
  upper-best less true first low high = elim (by-upper first low high) [ inl e ↦ inl (ap (cut_at axis true) e) | inr worse ↦ inr worse ]
  upper-best less false first low high = elim (by-lower first low high) [
    | inl e ↦ inr (subst (λ k. Less (cut_key boxes (cut_at axis true upper.first)) (cut_key boxes (cut_at axis false k))) (sym e) (upper-less less))
    | inr worse ↦ inr (Less-trans (cut_key boxes (cut_at axis true upper.first)) (cut_key boxes (cut_at axis false lower.first)) (cut_key boxes (cut_at axis false first)) (upper-less less) worse)
  ]

  lower-best : ¬ Less (quality_numbers upper.quality) (quality_numbers lower.quality) → (by_upper : Bool) (first : ℕ) →
      least_fill capacity ≤ first → first + least_fill capacity ≤ capacity + 1 →
      (cut_at axis by_upper first ≡ cut_at axis false lower.first)
      ⊎ Less (cut_key boxes (cut_at axis false lower.first)) (cut_key boxes (cut_at axis by_upper first))
  lower-best not_less false first low high = elim (by-lower first low high) [ inl e ↦ inl (ap (cut_at axis false) e) | inr worse ↦ inr worse ]
  lower-best not_less true first low high = elim (by-upper first low high) [
    | inl e ↦ inr (subst (λ k. Less (cut_key boxes (cut_at axis false lower.first)) (cut_key boxes (cut_at axis true k))) (sym e) (lower-less not_less))
    | inr worse ↦ inr (Less-trans (cut_key boxes (cut_at axis false lower.first)) (cut_key boxes (cut_at axis true upper.first)) (cut_key boxes (cut_at axis true first)) (lower-less not_less) worse)
  ]

  pub judged-axis_upper : (m : ℕ) → m ≡ lower.margins + upper.margins → Less (quality_numbers upper.quality) (quality_numbers lower.quality) →
      IsJudgedAxis boxes capacity axis record { margins = m; cut = cut_at axis true upper.first }
  judged-axis_upper m m_is less = record {
    margins_are = omega (arith, l.margins_are, u.margins_are);
    is_cut = cut-of true upper.first u.best.from_low u.best.below_high;
    least = λ other h. subst (λ o. (o ≡ cut_at axis true upper.first) ⊎ Less (cut_key boxes (cut_at axis true upper.first)) (cut_key boxes o))
        (is-cut_at other h) (upper-best less other.upper other.first h.first_filled h.second_filled);
  }

  pub judged-axis_lower : (m : ℕ) → m ≡ lower.margins + upper.margins → ¬ Less (quality_numbers upper.quality) (quality_numbers lower.quality) →
      IsJudgedAxis boxes capacity axis record { margins = m; cut = cut_at axis false lower.first }
  judged-axis_lower m m_is not_less = record {
    margins_are = omega (arith, l.margins_are, u.margins_are);
    is_cut = cut-of false lower.first l.best.from_low l.best.below_high;
    least = λ other h. subst (λ o. (o ≡ cut_at axis false lower.first) ⊎ Less (cut_key boxes (cut_at axis false lower.first)) (cut_key boxes o))
        (is-cut_at other h) (lower-best not_less other.upper other.first h.first_filled h.second_filled);
  }

-- ---- the axes, one more
pub axis-first : (boxes : List (List Interval)) (capacity : ℕ) (best : Judgement) → IsJudgedAxis boxes capacity 0 best →
    IsJudgedAxis boxes capacity best.cut.axis best × IsLeast (axis_key boxes capacity) 0 1 best.cut.axis
axis-first boxes capacity best judged = (
  subst (λ a. IsJudgedAxis boxes capacity a best) (sym judged.is_cut.axis_is) judged,
  subst (λ a. IsLeast (axis_key boxes capacity) 0 1 a) (sym judged.is_cut.axis_is) (IsLeast-none (axis_key boxes capacity) 0),
)

pub axis-takes : (boxes : List (List Interval)) (capacity axis : ℕ) (best judged : Judgement) →
    IsJudgedAxis boxes capacity best.cut.axis best → IsJudgedAxis boxes capacity axis judged →
    IsLeast (axis_key boxes capacity) 0 axis best.cut.axis → judged.margins < best.margins →
    IsLeast (axis_key boxes capacity) 0 (axis + 1) judged.cut.axis
axis-takes boxes capacity axis best judged best_is judged_is so_far less =
    subst (λ a. IsLeast (axis_key boxes capacity) 0 (axis + 1) a) (sym judged_is.is_cut.axis_is)
    (IsLeast-takes (λ a. margin_sum boxes capacity a ∷ []) 0 axis best.cut.axis so_far
    (inl (omega (arith, best_is.margins_are, judged_is.margins_are))))

pub axis-keeps : (boxes : List (List Interval)) (capacity axis : ℕ) (best judged : Judgement) →
    IsJudgedAxis boxes capacity best.cut.axis best → IsJudgedAxis boxes capacity axis judged →
    IsLeast (axis_key boxes capacity) 0 axis best.cut.axis → best.margins ≤ judged.margins →
    IsLeast (axis_key boxes capacity) 0 (axis + 1) best.cut.axis
axis-keeps boxes capacity axis best judged best_is judged_is so_far not_less =
    IsLeast-keeps (λ a. margin_sum boxes capacity a ∷ []) 0 axis best.cut.axis so_far refl (λ less. elim less [
      | inl l ↦ omega (arith, best_is.margins_are, judged_is.margins_are)
      | inr e ↦ e.1
    ])

pub own-axis : (boxes : List (List Interval)) (capacity axis : ℕ) (judged : Judgement) → IsJudgedAxis boxes capacity axis judged →
    IsJudgedAxis boxes capacity judged.cut.axis judged
own-axis boxes capacity axis judged is =
    subst (λ a. IsJudgedAxis boxes capacity a judged) (sym is.is_cut.axis_is) is

pub best-cut : (boxes : List (List Interval)) (capacity axes axis : ℕ) (best : Judgement) → axis ≡ axes →
    IsJudgedAxis boxes capacity best.cut.axis best → IsLeast (axis_key boxes capacity) 0 axis best.cut.axis →
    IsBestCut axes boxes capacity best.cut
best-cut boxes capacity axes axis best e judged least = record {
  axis_least = subst (λ n. IsLeast (axis_key boxes capacity) 0 n best.cut.axis) e least;
  is_cut = judged.is_cut;
  least = judged.least;
}
