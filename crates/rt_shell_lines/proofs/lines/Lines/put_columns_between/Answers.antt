use Rattle.std.proofs.Common.{◌≡◌, refl, map}
use Rattle.rt_reply.specs.Rows.{box_values, values_in}
use Rattle.rt_shell_lines.proofs.Columns.{box_columns}
use Rattle.rt_shell_lines.proofs.lines.Lines.put_columns_between.Goals as goal

pub returns-in-One : goal.returns-in-One
returns-in-One c =
    let boxes = c.deref.result.now in
    let same : map box_values boxes ≡ values_in c.args.rows.now = rw (c.in-One.is, c.deref.ensures.value) refl in
    rw (← (box_columns c.args.places.now boxes (values_in c.args.rows.now) c.args.from c.args.to c.requires.some same)) c.put_columns_of_boxes.ensures

pub returns-in-Two : goal.returns-in-Two
returns-in-Two c =
    let boxes = c.deref-in-Two.result.now in
    let same : map box_values boxes ≡ values_in c.args.rows.now = rw (c.in-Two.is, c.deref-in-Two.ensures.value) refl in
    rw (← (box_columns c.args.places.now boxes (values_in c.args.rows.now) c.args.from c.args.to c.requires.some same)) c.put_columns_of_boxes-in-Two.ensures

pub returns-in-Three : goal.returns-in-Three
returns-in-Three c =
    let boxes = c.deref-in-Three.result.now in
    let same : map box_values boxes ≡ values_in c.args.rows.now = rw (c.in-Three.is, c.deref-in-Three.ensures.value) refl in
    rw (← (box_columns c.args.places.now boxes (values_in c.args.rows.now) c.args.from c.args.to c.requires.some same)) c.put_columns_of_boxes-in-Three.ensures
