use Rattle.std.proofs.Common.{◌≡◌, ◌∙◌}
use Rattle.std.specs.Fmt.{decimal}
use Rattle.rt_check_draw.proofs.problems.add_list_head.Goals as goal

pub returns : goal.returns
returns c =
    let y : c.as_bytes.result.now ≡ decimal c.args.start = c.as_bytes.ensures.value ∙ c.format.ensures.text in
    let count : c.as_bytes-2.result.now ≡ decimal c.args.count = c.as_bytes-2.ensures.value ∙ c.format-2.ensures.text in
    rw (y, count) at c.add.ensures
