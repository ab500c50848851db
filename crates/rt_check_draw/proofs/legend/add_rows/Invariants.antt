use Rattle.std.proofs.Common.{◌≡◌, ◌++◌, take}
use Rattle.std.specs.List.{flat_map}
use Rattle.rt_check_draw.specs.Legend.{row_text}
use Rattle.rt_check_draw.proofs.legend.add_rows.Given as goal

-- the lines so far are added
abbrev pub invariant-loop-row : goal.invariant-loop-row
invariant-loop-row l = l.text.items ≡ l.initial.text.items ++ flat_map (row_text l.top l.capacity) (take l.row-index l.rows)
