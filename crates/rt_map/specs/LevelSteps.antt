-- The steps of restoring. As in packing, the root is there from the start, without cells, and alone out of shape, and the cells
-- that wait for a node are pending.
use Rattle.std.specs.Prelude.{◌≡◌, ℕ, ◌+◌, ◌≤◌, Bool, List, [], ◌++◌, length, count_by}
use Rattle.slab.specs.Slab.{slab_len, HasRoomFor}
use Rattle.rt_box.specs.Capacity.{least_fill}
use Rattle.rt_tree_node.specs.declared.arena.Arena.{Arena}
use Rattle.rt_tree_node.specs.declared.cell.Cell.{Cell}
use Rattle.rt_tree_node.specs.Places.{cells_at, count_rows, pending_at}
use Rattle.rt_tree_node.specs.Homes.{KeepsIds}
use Rattle.rt_tree_node.specs.Open.{IsOpen}
use Rattle.rt_tree_pack.specs.Steps.{is_top, above}

module _ {D : ℕ} where
  -- a node below the root may have that many of the cells that are left, and there is room for it
  pub record FitsNext (t : Arena D) (run left : ℕ) : Type 0 where
    pub least : least_fill t.capacity ≤ run
    pub most : run ≤ t.capacity
    pub within : run ≤ left
    pub room : HasRoomFor t.nodes 1

  -- the root may have that many cells
  pub record FitsRoot (t : Arena D) (count : ℕ) : Type 0 where
    pub most : count ≤ t.capacity
    pub branched : 1 ≤ t.level → 2 ≤ count

  -- of the cells of a level, those that are left are pending, and those that name the nodes made of the others
  pub record RestoresUpTo (old new : Arena D) (level : ℕ) (cells left next : List (Cell D)) : Type 0 where
    pub frame : new ≡ record old { nodes = new.nodes; leaves = new.leaves }
    pub ids : KeepsIds old.leaves new.leaves
    pub len : slab_len new.nodes ≡ slab_len old.nodes + length next
    pub room : new.nodes.capacity ≡ old.nodes.capacity
    pub opened : IsOpen (is_top old.root) new (pending_at level left ++ above level next)
    pub empty : cells_at new.nodes old.root ≡ []
    pub rows : (test : Cell D → Bool) →
        count_rows test new.nodes (pending_at level left ++ above level next) ≡ count_rows test old.nodes (pending_at level cells)

  -- the levels below the root's are made; the cells that name the nodes of the last of them are pending, or the rows if the
  -- root is a leaf
  pub record RestoresBelow (old new : Arena D) (rows cells : List (Cell D)) : Type 0 where
    pub frame : new ≡ record old { nodes = new.nodes; leaves = new.leaves; level = new.level }
    pub ids : KeepsIds old.leaves new.leaves
    pub room : new.nodes.capacity ≡ old.nodes.capacity
    pub opened : IsOpen (is_top new.root) new (pending_at new.level cells)
    pub empty : cells_at new.nodes new.root ≡ []
    pub rows_are : (test : Cell D → Bool) → count_rows test new.nodes (pending_at new.level cells) ≡ count_by test rows
