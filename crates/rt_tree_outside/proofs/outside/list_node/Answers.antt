use Rattle.std.proofs.Common.{◌≤◌, Option, None, Some, refl, rules, IsSome}
use Rattle.std.specs.Option.{IsSomeAnd}
use Rattle.slab.specs.Slab.{get, ContainsKey}
use Rattle.rt_tree_outside.proofs.outside.list_node.Goals as goal

held : {X : Type 0} (P : X → Type 0) (o : Option X) → IsSomeAnd o P → IsSome o
held P None h = absurd h
held P (Some x) h = refl

pub node_at-requires : goal.node_at-requires
node_at-requires g c =
    let few : g.row.D ≤ 3 = c.requires.few in
    let there : ContainsKey c.args.tree.now.nodes c.args.key = held _ (get c.args.tree.now.nodes c.args.key) c.requires.known in
    search rules
