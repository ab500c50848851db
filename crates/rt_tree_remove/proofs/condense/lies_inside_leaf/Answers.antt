use Rattle.std.proofs.Common.{◌≡◌, ℕ, suc, ◌<◌, ◌≤◌, ◌∙◌, Some, pos, arith, ap, sym, rules, subst, unsigned_abs}
use Rattle.std.proofs.lemmas.List.{get_or_default}
use Rattle.std.proofs.lemmas.List.Elements.{All-weaker}
use Rattle.slab.specs.Slab.{ContainsKey}
use Rattle.rt_tree_node.specs.declared.arena.Arena.{Arena}
use Rattle.rt_tree_node.specs.Places.{key_of, cells_at, times_named, parent_at, parent_of, no_cell}
use Rattle.rt_tree_node.specs.Sound.{NamesChild}
use Rattle.rt_tree_place.specs.Steps.{IsNamedAt as IsNumberedAt}
use Rattle.rt_tree_remove.specs.Steps.{LiesInside}
use Rattle.rt_tree_place.proofs.Lifted.{named-at}
use Rattle.rt_tree_remove.proofs.Climbs.{key-there, parent-level, named-above}
use Rattle.rt_tree_remove.proofs.condense.lies_inside_leaf.Goals as goal

pub node_at-requires : goal.node_at-requires
node_at-requires g c =
    let but = c.requires.but.1 in
    let few : g.row.D ≤ 3 = but.axes in
    let here : ContainsKey c.args.tree.now.nodes c.args.leaf = key-there c.args.tree.now.nodes c.args.leaf but.level but.here in
    search rules

pub box_above-requires : goal.box_above-requires
box_above-requires g c =
    let t : Arena g.row.D = record c.args.tree.now { leaves = c.requires.but.0.leaves } in
    let but = c.requires.but.1 in
    let parent = c.in-Some.parent in
    let few : g.row.D ≤ 3 = but.axes in
    let keys = c.requires.keys in
    let up : parent_at t.nodes c.args.leaf ≡ Some parent = ap parent_of c.node_at.ensures ∙ sym c.parent.ensures ∙ c.in-Some.is in
    let here : ContainsKey t.nodes c.args.leaf = key-there t.nodes c.args.leaf but.level but.here in
    let level = parent-level t c.args.leaf parent but up in
    let above : ContainsKey t.nodes parent = key-there t.nodes parent (suc but.level) level in
    let once = named-above t c.args.leaf parent but up in
    let counted : 0 < times_named c.args.leaf (cells_at t.nodes parent) = omega arith in
    let named : (at : ℕ) × IsNumberedAt (cells_at t.nodes parent) at c.args.leaf = named-at c.args.leaf (cells_at t.nodes parent)
    (All-weaker (NamesChild t.nodes but.level parent) (λ c. c.number ≡ pos (key_of c)) (λ c is. is.names.number_is) (cells_at t.nodes parent)
    (but.sound.linked.children parent but.level level)) counted in
    search rules

pub returns-in-Some : goal.returns-in-Some
returns-in-Some g c lies =
    let t = c.args.tree.now in
    let parent = c.in-Some.parent in
    let above = c.box_above.ensures in
    record {
      parent = parent;
      at = above.0;
      up = ap parent_of c.node_at.ensures ∙ sym c.parent.ensures ∙ c.in-Some.is;
      named = record {
        within = above.1.0;
        names = λ d. ap key_of (get_or_default (cells_at t.nodes parent) above.0 d no_cell above.1.0) ∙ ap unsigned_abs above.1.1;
      };
      inside = subst (λ b. LiesInside b c.args.rect.now) above.2 (c.lies_inside.ensures lies);
    }
