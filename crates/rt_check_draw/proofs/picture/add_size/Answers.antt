use Rattle.std.proofs.Common.{◌≡◌, ◌∙◌}
use Rattle.std.specs.Fmt.{decimal}
use Rattle.rt_check_draw.proofs.picture.add_size.Goals as goal

pub returns : goal.returns
returns c =
    let rows : c.as_bytes.result.now ≡ decimal c.args.rows = c.as_bytes.ensures.value ∙ c.format.ensures.text in
    let capacity : c.as_bytes-2.result.now ≡ decimal c.args.capacity = c.as_bytes-2.ensures.value ∙ c.format-2.ensures.text in
    let axis : c.as_bytes-3.result.now ≡ decimal c.args.axis = c.as_bytes-3.ensures.value ∙ c.format-3.ensures.text in
    rw (rows, capacity, axis) at c.add.ensures
