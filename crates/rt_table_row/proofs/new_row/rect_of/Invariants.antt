use Rattle.std.proofs.Common.{◌≡◌, length, take}
use Rattle.rt_box.specs.Rect.{los, his}
use Rattle.rt_table_row.specs.NewRows.{box_of}
use Rattle.rt_table_row.proofs.new_row.rect_of.Given as goal

abbrev pub invariant-loop-axis : goal.invariant-loop-axis
invariant-loop-axis g l = record {
  lo_long : length l.lo ≡ g.row.D;
  hi_long : length l.hi ≡ g.row.D;
  lo_is : take l.axis l.lo ≡ take l.axis (los (box_of l.numbers));
  hi_is : take l.axis l.hi ≡ take l.axis (his (box_of l.numbers));
}
