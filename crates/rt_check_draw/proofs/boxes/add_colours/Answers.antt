use Rattle.std.proofs.Common.{◌≡◌, ◌∙◌}
use Rattle.std.specs.Fmt.{decimal}
use Rattle.rt_check_draw.specs.Boxes.{opacity_of}
use Rattle.rt_check_draw.proofs.boxes.add_colours.Goals as goal

pub returns : goal.returns
returns c =
    let hue : c.as_bytes.result.now ≡ decimal c.args.hue = c.as_bytes.ensures.value ∙ c.format.ensures.text in
    let opacity : c.as_bytes-2.result.now ≡ opacity_of c.args.level = c.as_bytes-2.ensures.value ∙ c.opacity_of.ensures in
    let width : c.as_bytes-3.result.now ≡ decimal c.args.width = c.as_bytes-3.ensures.value ∙ c.format-2.ensures.text in
    rw (hue, opacity, width) at c.add.ensures
