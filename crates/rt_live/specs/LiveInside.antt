-- How the rows and the windows are kept: each in a tree. No public clause cites this module.
use Rattle.std.specs.Prelude.{ℕ, ◌-◌, ◌*◌, ◌≤◌, min, vec_capacity}
use Rattle.rt_box.specs.Capacity.{least_fill}
use Rattle.rt_tree.specs.Lists.{rows_of}
use Rattle.rt_live.specs.Rows.{by_id}
use Rattle.rt_live.specs.Finding.{IsNear}
use Rattle.rt_live.specs.Live.{LiveState}
use Rattle.rt_live.specs.declared.live.Live.TheInside.{Inside}

-- the least number of cells in a node of either tree that isn't its root
abbrev pub least_of : {D : _} → Inside D → ℕ
least_of l = min (least_fill l.rows.lists.capacity) (least_fill l.windows.lists.capacity)

-- of fewer than `least_of - 1` rows for each node that may be reached, a tree has no more nodes
abbrev pub state_of : {D : _} → Inside D → LiveState D
state_of l = record {
  lists = record { rows = by_id (rows_of l.rows.lists); windows = by_id (rows_of l.windows.lists); changes = l.changes.items };
  row_room = l.rows.spare;
  window_room = l.windows.spare;
  change_room = min (min (vec_capacity l.changes) (vec_capacity l.planned)) (min (vec_capacity l.scratch.found) (vec_capacity l.scratch.last));
  search_room = vec_capacity l.scratch.reached * (least_of l - 1);
}

-- there are one to three axes; if a box is noted, the windows that touch it were found last
pub record IsLive (D : ℕ) (l : Inside D) : Type 0 where
  pub some : 1 ≤ D
  pub few : D ≤ 3
  pub near : IsNear l.windows.lists l.near l.scratch.last.items
