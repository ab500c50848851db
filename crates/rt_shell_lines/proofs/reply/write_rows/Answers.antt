use Rattle.std.proofs.Common.{◌≡◌, refl, map}
use Rattle.rt_reply.specs.Rows.{box_values, id_values, values_in}
use Rattle.rt_shell_lines.proofs.Numbers.{box_lines, id_lines}
use Rattle.rt_shell_lines.proofs.reply.write_rows.Goals as goal

pub returns-in-One : goal.returns-in-One
returns-in-One g c =
    let same : map box_values c.as_slice.result.now ≡ values_in c.args.rows.now = rw (c.in-One.is, c.as_slice.ensures.value) refl in
    rw (← (box_lines c.as_slice.result.now (values_in c.args.rows.now) same)) c.write_boxes.ensures

pub returns-in-Two : goal.returns-in-Two
returns-in-Two g c =
    let same : map box_values c.as_slice-in-Two.result.now ≡ values_in c.args.rows.now = rw (c.in-Two.is, c.as_slice-in-Two.ensures.value) refl in
    rw (← (box_lines c.as_slice-in-Two.result.now (values_in c.args.rows.now) same)) c.write_boxes-in-Two.ensures

pub returns-in-Three : goal.returns-in-Three
returns-in-Three g c =
    let same : map box_values c.as_slice-in-Three.result.now ≡ values_in c.args.rows.now = rw (c.in-Three.is, c.as_slice-in-Three.ensures.value) refl in
    rw (← (box_lines c.as_slice-in-Three.result.now (values_in c.args.rows.now) same)) c.write_boxes-in-Three.ensures

pub returns-in-Ids : goal.returns-in-Ids
returns-in-Ids g c =
    let same : map id_values c.as_slice-in-Ids.result.now ≡ values_in c.args.rows.now = rw (c.in-Ids.is, c.as_slice-in-Ids.ensures.value) refl in
    rw (← (id_lines c.as_slice-in-Ids.result.now (values_in c.args.rows.now) same)) c.write_ids.ensures
