use Rattle.std.proofs.Common.{◌≡◌, ◌∙◌}
use Rattle.std.specs.Fmt.{decimal}
use Rattle.rt_check_draw.proofs.legend.add_row_start.Goals as goal

pub returns : goal.returns
returns c =
    let hue : c.as_bytes.result.now ≡ decimal c.args.hue = c.as_bytes.ensures.value ∙ c.format.ensures.text in
    let y : c.as_bytes-2.result.now ≡ decimal c.args.y = c.as_bytes-2.ensures.value ∙ c.format-2.ensures.text in
    rw (hue, y) at c.add.ensures
