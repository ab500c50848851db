-- Two sets of boxes joined by whether boxes touch (Brinkhoff, Kriegel, Seeger 1993, "Efficient processing of spatial joins
-- using R-trees", section 2; that edges count is own, as in SQLite's module).
use Rattle.std.specs.Prelude.{◌≡◌, ℕ, ◌≤◌, ℤ, Bool, true, false, ◌&&◌, ◌↔◌, int_le, int_lt, List, [], ◌∷◌, map, count_by}
use Rattle.std.specs.List.{filter, flat_map}
use Rattle.std.specs.Ordering.{int_eq}
use Rattle.rt_box.specs.declared.interval.Interval.{Interval}
use Rattle.rt_box.specs.Rect.{IsBox}
use Rattle.rt_box.specs.Window.{Admits}
use Rattle.rt_tree_node.specs.declared.arena.Arena.{Arena}
use Rattle.rt_tree_walk.specs.declared.searching.Row.{Row}
use Rattle.rt_tree_walk.specs.Rows.{rows_in}
use Rattle.rt_tree_join.specs.declared.joining.Pair.{Pair}

-- neither interval begins behind the other's end
abbrev pub meet : Interval → Interval → Bool
meet i j = int_le i.lo j.hi && int_le j.lo i.hi

-- two boxes touch: their intervals meet on each axis
abbrev pub touch : List Interval → List Interval → Bool
touch [] [] = true
touch [] (j ∷ b) = false
touch (i ∷ a) [] = false
touch (i ∷ a) (j ∷ b) = meet i j && touch a b

-- the window admits exactly the boxes that touch the box
abbrev pub IsTouching : ℕ → List Interval → List Interval → Type 0
IsTouching axes b window = (other : List Interval) → IsBox axes other → (Admits window other ↔ (touch b other ≡ true))

-- the pair has these ids
abbrev pub has_ids : ℤ → ℤ → Pair → Bool
has_ids left right p = int_eq left p.left && int_eq right p.right

-- the lower id stands on the left
abbrev pub rises : Pair → Bool
rises p = int_lt p.left p.right

module _ {D : ℕ} where
  abbrev pub pair_of : Row D → Row D → Pair
  pair_of r s = record { left = r.id; right = s.id }

  -- a row with each of the others whose box touches its own
  abbrev pub pairs_with : List (Row D) → Row D → List Pair
  pairs_with others r = map (pair_of r) (filter (λ s. touch r.rect s.rect) others)

  -- the pairs of two lists of rows whose boxes touch: each row of the one with each such row of the other
  abbrev pub touching_pairs : List (Row D) → List (Row D) → List Pair
  touching_pairs rows others = flat_map (pairs_with others) rows

  -- they are the pairs of the rows of two trees whose boxes touch: as many pass any test; and no pair of ids comes twice
  pub record Joins (t u : Arena D) (pairs : List Pair) : Type 0 where
    pub each : (test : Pair → Bool) → count_by test pairs ≡ count_by test (touching_pairs (rows_in t) (rows_in u))
    pub once : (left right : ℤ) → count_by (has_ids left right) pairs ≤ 1

  -- the pairs of two different rows of a list whose boxes touch, each with the lower id on the left
  abbrev pub touching_within : List (Row D) → List Pair
  touching_within rows = filter rises (touching_pairs rows rows)

  -- they are the pairs of different rows of a tree whose boxes touch: as many pass any test; and no pair of ids comes twice
  pub record JoinsItself (t : Arena D) (pairs : List Pair) : Type 0 where
    pub each : (test : Pair → Bool) → count_by test pairs ≡ count_by test (touching_within (rows_in t))
    pub once : (left right : ℤ) → count_by (has_ids left right) pairs ≤ 1
