use Rattle.rt_tree_obeys.proofs.Seen.{nodes_seen}
use Rattle.rt_tree_obeys.proofs.nodes_are_seen.Goals as goal

pub returns : goal.returns
returns c = nodes_seen
