-- The box around the root's cells. No public clause cites this module.
use Rattle.std.specs.Prelude.{◌≡◌, ℕ, ◌≤◌, List, [], Option, None, Some, length}
use Rattle.rt_box.specs.declared.interval.Interval.{Interval}
use Rattle.rt_box.specs.Window.{AdmitsWithin}
use Rattle.rt_tree_node.specs.declared.arena.Arena.{Arena}
use Rattle.rt_tree_node.specs.Places.{cells_at, hull_at}

module _ {D : ℕ} where
  -- the least box around the root's cells, unless it has none
  abbrev pub IsRootBox : Arena D → Option (List Interval) → Type 0
  IsRootBox t None = cells_at t.nodes t.root ≡ []
  IsRootBox t (Some box) = (1 ≤ length (cells_at t.nodes t.root)) × (box ≡ hull_at t.nodes t.root)

  -- the root has cells, and the window admits each box that lies in the least one around them
  abbrev pub AdmitsRoot : Arena D → List Interval → Type 0
  AdmitsRoot t window = (1 ≤ length (cells_at t.nodes t.root)) × AdmitsWithin D window (hull_at t.nodes t.root)
