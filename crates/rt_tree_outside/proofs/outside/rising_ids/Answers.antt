use Rattle.std.proofs.Common.{ap, ◌∙◌}
use Rattle.rt_tree_outside.specs.Outside.{rising}
use Rattle.rt_tree_outside.proofs.Rising.{rising-sorted}
use Rattle.rt_tree_outside.proofs.outside.rising_ids.Goals as goal

pub returns : goal.returns
returns c = rising-sorted c.in_ok-ids.ids.items c.sort.new.self.items c.in_ok-sort.ensures.permutation c.in_ok-sort.ensures.sorted ∙ ap rising c.in_ok-ids.ensures
