use Rattle.std.proofs.Common.{rules, arith, ◌≡◌, length, FitsSigned, w32, to_z-of_z}
use Rattle.std.proofs.lemmas.List.{length-map, length-set}
use Rattle.rt_box.specs.Rect.{los, his}
use Rattle.rt_table_row.specs.NewRows.{box_of}
use Rattle.rt_table_row.proofs.Boxes.{more_lo, more_hi, all_ends, made, length-box_of}
use Rattle.rt_table_row.proofs.new_row.rect_of.Goals as goal

pub loop-axis-preserved : goal.loop-axis-preserved
loop-axis-preserved g c =
    let low : FitsSigned w32 c.coordinate.result = search rules in
    let high : FitsSigned w32 c.coordinate-in-loop-axis.result = search rules in
    rw (to_z-of_z low, to_z-of_z high)
    (record {
      lo_long = rw length-set c.loop-axis.invariant.lo_long;
      hi_long = rw length-set c.loop-axis.invariant.hi_long;
      lo_is = more_lo g.row.D c.args.numbers.now c.loop-axis.lo c.loop-axis.axis c.coordinate.result c.requires.long c.loop-axis.invariant.lo_long (omega arith) c.coordinate.ensures c.loop-axis.invariant.lo_is;
      hi_is = more_hi g.row.D c.args.numbers.now c.loop-axis.hi c.loop-axis.axis c.coordinate-in-loop-axis.result c.requires.long c.loop-axis.invariant.hi_long (omega arith) c.coordinate-in-loop-axis.ensures c.loop-axis.invariant.hi_is;
    })

pub returns : goal.returns
returns g c =
    let b = box_of c.args.numbers.now in
    let lo_long : length (los b) ≡ g.row.D = rw length-map (length-box_of g.row.D c.args.numbers.now c.requires.long) in
    let hi_long : length (his b) ≡ g.row.D = rw length-map (length-box_of g.row.D c.args.numbers.now c.requires.long) in
    let lo : c.loop-axis.lo ≡ los b = all_ends g.row.D c.loop-axis.axis (los b) c.loop-axis.lo lo_long c.loop-axis.invariant.lo_long (omega arith) c.loop-axis.invariant.lo_is in
    let hi : c.loop-axis.hi ≡ his b = all_ends g.row.D c.loop-axis.axis (his b) c.loop-axis.hi hi_long c.loop-axis.invariant.hi_long (omega arith) c.loop-axis.invariant.hi_is in
    made b c.new.result (rw (lo, hi) at c.new.ensures.valid) (rw lo at c.new.ensures.lo) (rw hi at c.new.ensures.hi)
