-- Which rows move where a row comes or goes, and what an insertion takes (Beckmann, Kriegel, Schneider, Seeger 1990,
-- section 4; Guttman 1984, section 3.3; the counts own).
use Rattle.std.specs.Prelude.{◌≡◌, ◌↔◌, ◌⊎◌, ℕ, ◌+◌, ◌*◌, ◌≤◌, ◌<◌, ℤ, pos, List, [], ◌∷◌, ◌++◌, Some, map, length, slice_index_or}
use Rattle.rt_box.specs.declared.interval.Interval.{Interval}
use Rattle.rt_box.specs.Capacity.{least_fill, reinsertion_share}
use Rattle.rt_check.specs.declared.node.RawCell.{RawCell}
use Rattle.rt_check.specs.Shadow.{ShadowLists}
use Rattle.rt_check.specs.Conditions.{entry_of}
use Rattle.rt_tree_choice.specs.declared.split.Cut.{Cut}
use Rattle.rt_tree_choice.specs.Split.{IsBestCut, first_group, second_group}
use Rattle.rt_tree_node.specs.declared.arena.Work.{Work}
use Rattle.rt_tree_outside.specs.InOrder.{cells_of_number}
use Rattle.rt_tree.specs.Lists.{root_level}
use Rattle.rt_tree.specs.Way.{boxes_in, cell_with, LeadsTo, JoinsLeaf, LeavesLeaf}

module _ {D : ℕ} where
  -- the cells at some positions, in the order of the positions; `no_cell` is read past the end alone
  abbrev pub no_cell : RawCell D
  no_cell = record { number = pos 0; lo = []; hi = [] }

  abbrev pub picked : List (RawCell D) → List ℕ → List (RawCell D)
  picked cells positions = map (λ p. slice_index_or cells p no_cell) positions

  -- the cells of a root that is a leaf, with the new one last
  abbrev pub overfull : ShadowLists D → RawCell D → List (RawCell D)
  overfull s cell = cells_of_number s.nodes s.root ++ cell ∷ []

  -- a root that is a full leaf: the best cut's two groups of its cells and the new one are the two leaves of a new
  -- root, in this order
  pub record HalvesRoot (old new : ShadowLists D) (cell : RawCell D) : Type 0 where
    pub cut : Cut
    pub best : IsBestCut D (boxes_in (overfull old cell)) old.capacity cut
    pub height : root_level new ≡ 1
    pub count : length new.nodes ≡ 3
    pub first : cells_of_number new.nodes (pos 2) ≡ picked (overfull old cell) (first_group (boxes_in (overfull old cell)) cut)
    pub second : cells_of_number new.nodes (pos 3) ≡ picked (overfull old cell) (second_group (boxes_in (overfull old cell)) cut)

  -- The row goes to the leaf that best children lead its box to. If the leaf isn't full, the row is its last cell,
  -- and no other row moves; a full root is halved. Each cell that is placed is the row's own or one of those inserted again, a
  -- share of a node's; on each level below the root's this happens once at most. Nothing is inserted again if the leaf isn't
  -- full or is the root, and in no other case; the root alone is then split.
  pub record TakesRow (old new : ShadowLists D) (id : ℤ) (rect : List Interval) (work : Work) : Type 0 where
    pub leaf : ℤ
    pub path : List ℤ
    pub leads : LeadsTo old.nodes (root_level old) old.root rect leaf path
    pub joins : length (cells_of_number old.nodes leaf) < old.capacity → JoinsLeaf old new leaf path (cell_with id rect)
    pub halves : root_level old ≡ 0 → old.capacity ≤ length (cells_of_number old.nodes leaf) → HalvesRoot old new (cell_with id rect)
    pub placements : work.placements ≡ 1 + reinsertion_share old.capacity * work.reinsertions
    pub few : work.reinsertions ≤ root_level new
    pub none : work.reinsertions ≡ 0 ↔ ((length (cells_of_number old.nodes leaf) < old.capacity) ⊎ (root_level old ≡ 0))
    pub plain : work.reinsertions ≡ 0 → root_level new ≡ root_level old + work.splits

  -- if the row's leaf is the root or has cells to spare, the row's cell leaves it, and no other row moves
  pub record DropsRow (old new : ShadowLists D) (id : ℤ) (rect : List Interval) : Type 0 where
    pub leaf : ℤ
    pub entry : entry_of old.rows id ≡ Some record { id = id; leaf = leaf }
    pub leaves : (leaf ≡ old.root) ⊎ (least_fill old.capacity < length (cells_of_number old.nodes leaf)) →
        (at : ℕ) × LeavesLeaf old new leaf at (cell_with id rect)
