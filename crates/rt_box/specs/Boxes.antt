-- Lists of boxes.
use Rattle.std.specs.Prelude.{ℕ, List, [], slice_index_or}
use Rattle.rt_box.specs.declared.interval.Interval.{Interval}

-- the box at a position
abbrev pub box_at : List (List Interval) → ℕ → List Interval
box_at boxes position = slice_index_or boxes position []
