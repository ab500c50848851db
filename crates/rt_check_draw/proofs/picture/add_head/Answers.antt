use Rattle.std.proofs.Common.{◌≡◌, ◌∙◌}
use Rattle.std.specs.Fmt.{decimal}
use Rattle.rt_check_draw.proofs.picture.add_head.Goals as goal

pub returns : goal.returns
returns c =
    let pixels : c.as_bytes.result.now ≡ decimal c.args.height = c.as_bytes.ensures.value ∙ c.format.ensures.text in
    let hundreds : c.as_bytes-2.result.now ≡ decimal c.args.height = c.as_bytes-2.ensures.value ∙ c.format-2.ensures.text in
    rw (pixels, hundreds) at c.add.ensures
