use Rattle.std.proofs.Common.{ℕ, ◌<◌, ◌^◌, length, arith, subst}
use Rattle.slab.specs.Slab.{Slab, ContainsKey}
use Rattle.slab.proofs.SlabLemmas.{ContainsKey-within}
use Rattle.rt_tree_node.specs.Node.{NodeCells}
use Rattle.rt_tree_node.proofs.access.slab_facts.Goals as goal

pub returns-clause-keys : goal.returns-clause-keys
returns-clause-keys g c =
    subst (λ (s : Slab (NodeCells g.row.D)). (key : ℕ) → ContainsKey s key → key < s.capacity) c.nodes.view_is
    (λ key there. omega (arith, ContainsKey-within c.nodes.inside.slab key there, c.capacity.ensures.slots, c.capacity.ensures.value))

pub returns-clause-few : goal.returns-clause-few
returns-clause-few g c =
    subst (λ (s : Slab (NodeCells g.row.D)). length s.slots < 2 ^ 64) c.nodes.view_is
    (omega (arith, c.capacity.ensures.slots, c.capacity.type_inv))
