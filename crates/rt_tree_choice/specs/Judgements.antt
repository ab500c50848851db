-- What is found out of the cuts of a sorting, and of those of an axis.
use Rattle.std.specs.Prelude.{◌≡◌, ◌⊎◌, ℕ, ◌+◌, ◌-◌, ◌*◌, ◌^◌, ◌≤◌, Bool, List, [], ◌∷◌, ◌++◌, sum_by}
use Rattle.std.specs.List.{range_with_len}
use Rattle.rt_box.specs.declared.interval.Interval.{Interval}
use Rattle.rt_box.specs.Rect.{area, margin, overlap}
use Rattle.rt_box.specs.Capacity.{least_fill, most_cells}
use Rattle.rt_tree_choice.specs.declared.split.Cut.{Cut}
use Rattle.rt_tree_choice.specs.declared.split.Quality.{Quality}
use Rattle.rt_tree_choice.specs.declared.split.Judgement.{Judgement}
use Rattle.rt_tree_choice.specs.declared.split.Parting.{Parting}
use Rattle.rt_box.specs.Boxes.{box_at}
use Rattle.rt_box.specs.Keys.{Less, IsLeast}
use Rattle.rt_tree_choice.specs.Split.{first_hull, second_hull, cut_at, cut_key, first_sizes, margins, margin_sum, IsCutOf}

abbrev pub quality_numbers : Quality → List ℕ
quality_numbers q = q.common ∷ q.total ∷ []

-- what two groups are compared by, from the boxes around them
abbrev pub AreQualityOf : List Interval → List Interval → Quality → Type 0
AreQualityOf front back q = (q.common ≡ overlap front back) × (q.total ≡ area front + area back)

-- by the hulls of prefixes and suffixes of sorted cells: the margins of both groups if the first has that many cells,
-- and what these groups are compared by
abbrev pub margins_at : List (List Interval) → List (List Interval) → ℕ → ℕ
margins_at fronts backs first = margin (box_at fronts (first - 1)) + margin (box_at backs first)

abbrev pub costs_at : List (List Interval) → List (List Interval) → ℕ → List ℕ
costs_at fronts backs first =
    overlap (box_at fronts (first - 1)) (box_at backs first)
    ∷ (area (box_at fronts (first - 1)) + area (box_at backs first)) ∷ []

-- the margins of all cuts into groups of at least this many cells, and the best of these cuts
pub record IsBestParting (fronts backs : List (List Interval)) (least cells : ℕ) (p : Parting) : Type 0 where
  pub margins_are : p.margins ≡ sum_by (margins_at fronts backs) (range_with_len least (cells + 1 - 2 * least))
  pub few_margins : p.margins ≤ most_cells * 2 ^ 35
  pub quality_is : AreQualityOf (box_at fronts (p.first - 1)) (box_at backs p.first) p.quality
  pub best : IsLeast (λ first. costs_at fronts backs first ++ first ∷ []) least (cells + 1 - least) p.first

-- the same by the cells and their sorting
pub record IsJudgedSorting (boxes : List (List Interval)) (capacity axis : ℕ) (upper : Bool) (p : Parting) : Type 0 where
  pub margins_are : p.margins ≡ sum_by (λ first. margins boxes (cut_at axis upper first)) (first_sizes capacity)
  pub few_margins : p.margins ≤ most_cells * 2 ^ 35
  pub quality_is : AreQualityOf (first_hull boxes (cut_at axis upper p.first)) (second_hull boxes (cut_at axis upper p.first)) p.quality
  pub best : IsLeast (λ first. cut_key boxes (cut_at axis upper first)) (least_fill capacity) (capacity + 2 - least_fill capacity) p.first

-- the margins of all cuts of an axis, and the best of these cuts
pub record IsJudgedAxis (boxes : List (List Interval)) (capacity axis : ℕ) (j : Judgement) : Type 0 where
  pub margins_are : j.margins ≡ margin_sum boxes capacity axis
  pub is_cut : IsCutOf capacity axis j.cut
  pub least : (other : Cut) → IsCutOf capacity axis other → (other ≡ j.cut) ⊎ Less (cut_key boxes j.cut) (cut_key boxes other)
