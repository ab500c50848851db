-- What becomes of the cells of an overfull node (Beckmann, Kriegel, Schneider, Seeger 1990, sections 4.2 and 4.3).
use Rattle.std.specs.Prelude.{◌≡◌, ℕ, ◌<◌, ◌≤◌, List, ◌++◌, length, reverse, slice_index_or, count_by, nat_eq}
use Rattle.std.specs.List.{range_with_len}
use Rattle.std.specs.List.Sorted.{IsPermutation}
use Rattle.rt_tree_choice.specs.declared.split.Cut.{Cut}
use Rattle.rt_tree_choice.specs.Sorting.{positions}
use Rattle.rt_tree_choice.specs.Split.{IsBestCut, first_group, second_group}
use Rattle.rt_tree_choice.specs.Reinsertion.{farthest_positions}
use Rattle.rt_tree_node.specs.declared.cell.Cell.{Cell}
use Rattle.rt_tree_node.specs.declared.cell.Pending.{Pending}
use Rattle.rt_tree_node.specs.Node.{NodeCells}
use Rattle.rt_tree_node.specs.Places.{picked, rects, pending_at}

-- each number is less than those after it
abbrev pub IsRisingList : List ℕ → Type 0
IsRisingList xs = (i j : ℕ) → i < j → j < length xs → slice_index_or xs i 0 < slice_index_or xs j 0

-- the numbers are below the bound, and none is listed twice
abbrev pub AreDistinctBelow : ℕ → List ℕ → Type 0
AreDistinctBelow bound xs = (x : ℕ) → count_by (λ p. nat_eq p x) xs ≤ count_by (λ p. nat_eq p x) (range_with_len 0 bound)

module _ {D : ℕ} where
  -- the cells of a node at some positions as pending ones, the first position last
  abbrev pub given_up : NodeCells D → List ℕ → List (Pending D)
  given_up n positions = pending_at n.level (picked n.cells (reverse positions))

  -- ReInsert: the cells farthest from the centre leave, the nearest of them last, since the last pending cell is placed
  -- first; the others stay, in the order that they had
  pub record ReInserts (capacity : ℕ) (cells near far : List (Cell D)) : Type 0 where
    pub kept : List ℕ
    pub parted : IsPermutation (positions cells) (farthest_positions (rects cells) capacity ++ kept)
    pub rising : IsRisingList kept
    pub stay : near ≡ picked cells kept
    pub leave : far ≡ picked cells (reverse (farthest_positions (rects cells) capacity))

  -- Split: the two groups of the cells by the best cut
  pub record Parts (capacity : ℕ) (cells first second : List (Cell D)) : Type 0 where
    pub cut : Cut
    pub best : IsBestCut D (rects cells) capacity cut
    pub first_is : first ≡ picked cells (first_group (rects cells) cut)
    pub second_is : second ≡ picked cells (second_group (rects cells) cut)
