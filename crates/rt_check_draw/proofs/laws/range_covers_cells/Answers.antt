use Rattle.rt_check_draw.proofs.Ranges.{covers-cells}
use Rattle.rt_check_draw.proofs.laws.range_covers_cells.Goals as goal

pub returns : goal.returns
returns c = covers-cells
