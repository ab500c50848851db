use Rattle.std.proofs.Common.{◌≤◌, rules}
use Rattle.slab.specs.Slab.{ContainsKey}
use Rattle.rt_tree_remove.proofs.Climbs.{key-there}
use Rattle.rt_tree_remove.proofs.Taken.{few-axes, leaf-level}
use Rattle.rt_tree_remove.proofs.replace.replace_found.Goals as goal

pub moves_alone-requires : goal.moves_alone-requires
moves_alone-requires g c =
    let t = c.args.tree.now in
    let leaf = c.args.location.now.leaf in
    let home = c.requires.location.home in
    let few : g.row.D ≤ 3 = few-axes t c.args.id.now leaf c.requires.whole c.requires.idle home in
    let here : ContainsKey t.nodes leaf = key-there t.nodes leaf 0 (leaf-level t c.args.id.now leaf c.requires.whole c.requires.idle home) in
    search rules
