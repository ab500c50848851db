use Rattle.std.proofs.Common.{◌∙◌}
use Rattle.rt_check.proofs.Tallies.{tallies-start}
use Rattle.rt_check.proofs.tally.tally.Goals as goal

pub loop-node-init : goal.loop-node-init
loop-node-init g c =
    c.in_ok-counts.ensures.items_if_clones_equal (λ y e. e)
    ∙ tallies-start g.row.D c.args.named c.match-named.numbers.now.keys c.len.result c.len.ensures.len
