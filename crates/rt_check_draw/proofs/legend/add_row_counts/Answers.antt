use Rattle.std.proofs.Common.{◌≡◌, ◌∙◌}
use Rattle.std.specs.Fmt.{decimal}
use Rattle.rt_check_draw.proofs.legend.add_row_counts.Goals as goal

pub returns : goal.returns
returns c =
    let level : c.as_bytes.result.now ≡ decimal c.args.row.now.level = c.as_bytes.ensures.value ∙ c.format.ensures.text in
    let nodes : c.as_bytes-2.result.now ≡ decimal c.args.row.now.nodes = c.as_bytes-2.ensures.value ∙ c.format-2.ensures.text in
    let cells : c.as_bytes-3.result.now ≡ decimal c.args.row.now.cells = c.as_bytes-3.ensures.value ∙ c.format-3.ensures.text in
    rw (level, nodes, cells) at c.add.ensures
