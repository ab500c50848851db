-- The numbers by which a caller has boxes and rows (own).
use Rattle.std.specs.Prelude.{◌≡◌, ℕ, zero, suc, ◌+◌, ◌*◌, ◌<◌, ℤ, ◌≤ℤ◌, List, [], ◌∷◌, ◌++◌, length, map, take, drop, All}
use Rattle.std.specs.List.{AllZip, flat_map}
use Rattle.rt_box.specs.declared.interval.Interval.{Interval}
use Rattle.rt_box.specs.Rect.{IsBox, los, his}
use Rattle.rt_tree_walk.specs.declared.searching.Row.{Row}

-- a box: the least number on each axis, and then the greatest
abbrev pub numbers_of : List Interval → List ℤ
numbers_of rect = los rect ++ his rect

-- the least numbers and the greatest ones, of a list that has one of each for each axis
abbrev pub IsSplit : ℕ → List ℤ → List ℤ → List ℤ → Type 0
IsSplit axes numbers min max = (length numbers ≡ 2 * axes) × (min ≡ take axes numbers) × (max ≡ drop axes numbers)

-- the numbers stand in the buffer from that place on, and what was before them and after them stays
abbrev pub Writes : List ℤ → ℕ → List ℤ → List ℤ → Type 0
Writes numbers at old new = (take (at + length numbers) new ≡ take at old ++ numbers) × (drop (at + length numbers) new ≡ drop (at + length numbers) old)

-- no least number of a box is above the greatest on its axis
abbrev pub AreOrdered : ℕ → List ℤ → Type 0
AreOrdered axes box = AllZip ◌≤ℤ◌ (take axes box) (drop axes box)

-- the piece at that place of a list of pieces, which are so long and stand one after another
abbrev pub piece_at : ℕ → List ℤ → ℕ → List ℤ
piece_at width xs place = take width (drop (place * width) xs)

-- n pieces of it
abbrev pub pieces : ℕ → ℕ → List ℤ → List (List ℤ)
pieces width zero xs = []
pieces width (suc count) xs = take width xs ∷ pieces width count (drop width xs)

-- each of n boxes is such
abbrev pub AreAllOrdered : ℕ → ℕ → List ℤ → Type 0
AreAllOrdered axes count numbers = (place : ℕ) → place < count → AreOrdered axes (piece_at (2 * axes) numbers place)

-- the box at that place is not, and it is the first that isn't
pub record IsFirstBad (axes : ℕ) (numbers : List ℤ) (place : ℕ) : Type 0 where
  pub bad : ¬ AreOrdered axes (piece_at (2 * axes) numbers place)
  pub first : AreAllOrdered axes place numbers

module _ {D : ℕ} where
  abbrev pub ids_of : List (Row D) → List ℤ
  ids_of rows = map (λ r. r.id) rows

  -- the boxes of rows, one after another
  abbrev pub box_numbers : List (Row D) → List ℤ
  box_numbers rows = flat_map (λ r. numbers_of r.rect) rows

  -- the rows have these ids and these numbers: on each axis a least one and a greatest one for each row
  abbrev pub AreRows : List ℤ → List ℤ → List (Row D) → Type 0
  AreRows ids numbers rows = (ids_of rows ≡ ids) × (box_numbers rows ≡ numbers) × All (λ r. IsBox D r.rect) rows
