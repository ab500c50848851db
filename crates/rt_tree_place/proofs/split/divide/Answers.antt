use Rattle.std.proofs.Common.{rules, ◌≡◌, ◌≢◌, suc, ◌<◌, ◌≤◌, IsSome, unsigned_abs, arith, ap, ◌∙◌, sym, subst}
use Rattle.std.specs.Ordering.{int_eq}
use Rattle.std.proofs.lemmas.Option.{same_Some}
use Rattle.indexmap.specs.IndexMap.{get as leaf_of}
use Rattle.slab.specs.Slab.{ContainsKey}
use Rattle.rt_box.specs.Rect.{IsBox}
use Rattle.rt_tree_node.specs.Places.{key_of, level_of}
use Rattle.rt_tree_place.specs.Steps.{Attaches}
use Rattle.rt_tree_place.proofs.Divides.{pair-children, pair-known, sibling-some, sibling-fits, level-above_split, room-above, sibling-apart, divides}
use Rattle.rt_tree_place.proofs.WayDown.{node-from_level, present}
use Rattle.rt_tree_place.proofs.split.divide.Goals as goal

pub split-sibling-requires : goal.split-sibling-requires
split-sibling-requires g c =
    let few = c.requires.few in
    let old = c.args.tree.now in
    let here = present old.nodes c.args.key c.requires.pair.level c.requires.pair.key_level in
    let full = c.requires.full in
    let room = c.requires.room in
    let known = pair-known old c.args.key c.args.parent c.requires.pair in
    let children = pair-children old c.args.key c.args.parent c.requires.pair in
    search rules

pub hull_at-hull-requires : goal.hull_at-hull-requires
hull_at-hull-requires g c =
    let few = c.requires.few in
    let old = c.args.tree.now in
    let mid = c.split-sibling.new.tree in
    let here = node-from_level old.nodes c.args.key c.requires.pair.level c.requires.pair.key_level in
    let done = c.split-sibling.ensures here.0 here.1 in
    let made = sibling-some old c.args.key c.args.parent c.requires.pair mid mid c.split-sibling.result c.requires.full here.0 here.1 done in
    let is = made.0 in
    let some = made.1 in
    search rules

pub cell_for-cell-requires : goal.cell_for-cell-requires
cell_for-cell-requires g c =
    let few = c.requires.few in
    let old = c.args.tree.now in
    let mid = c.split-sibling.new.tree in
    let here = node-from_level old.nodes c.args.key c.requires.pair.level c.requires.pair.key_level in
    let done = c.split-sibling.ensures here.0 here.1 in
    let fits = sibling-fits old c.args.key c.args.parent c.requires.pair mid mid c.split-sibling.result c.requires.full here.0 here.1 done in
    let below : c.split-sibling.result < 9223372036854775808 = omega (arith, fits, c.requires.keys) in
    search rules

pub node_at-requires : goal.node_at-requires
node_at-requires g c =
    let few = c.requires.few in
    let old = c.args.tree.now in
    let mid = c.split-sibling.new.tree in
    let here = node-from_level old.nodes c.args.key c.requires.pair.level c.requires.pair.key_level in
    let done = c.split-sibling.ensures here.0 here.1 in
    let above = level-above_split old c.args.key c.args.parent c.requires.pair mid mid c.split-sibling.result c.requires.full here.0 here.1 done in
    let is = present mid.nodes c.args.parent (suc here.0.level) above in
    search rules

pub attach-requires : goal.attach-requires
attach-requires g c =
    let few = c.requires.few in
    let old = c.args.tree.now in
    let mid = c.split-sibling.new.tree in
    let sibling = c.split-sibling.result in
    let here = node-from_level old.nodes c.args.key c.requires.pair.level c.requires.pair.key_level in
    let done = c.split-sibling.ensures here.0 here.1 in
    let above = level-above_split old c.args.key c.args.parent c.requires.pair mid mid sibling c.requires.full here.0 here.1 done in
    let is = present mid.nodes c.args.parent (suc here.0.level) above in
    let room = room-above old c.args.key c.args.parent c.requires.pair mid mid sibling c.requires.full here.0 here.1 done in
    let level : c.level-level.result ≡ suc here.0.level =
    c.level-level.ensures ∙ same_Some c.node_at.result.now.level (suc here.0.level) (sym (ap level_of c.node_at.ensures) ∙ above) in
    let key_is : key_of c.cell_for-cell.result ≡ sibling = ap unsigned_abs c.cell_for-cell.ensures.number in
    let made = sibling-some old c.args.key c.args.parent c.requires.pair mid mid sibling c.requires.full here.0 here.1 done in
    let row : c.level-level.result ≡ 0 → IsSome (leaf_of int_eq mid.leaves c.cell_for-cell.result.number) = λ e. absurd (omega (arith, level, e)) in
    let child : 1 ≤ c.level-level.result → ContainsKey mid.nodes (key_of c.cell_for-cell.result) = λ e. subst (ContainsKey mid.nodes) (sym key_is) made.0 in
    let apart : 1 ≤ c.level-level.result → key_of c.cell_for-cell.result ≢ c.args.parent =
    λ e same. sibling-apart old c.args.key c.args.parent c.requires.pair mid mid sibling c.requires.full here.0 here.1 done (sym same ∙ key_is) in
    search rules

pub returns : goal.returns
returns g c =
    let old = c.args.tree.now in
    let mid = c.split-sibling.new.tree in
    let sibling = c.split-sibling.result in
    let here = node-from_level old.nodes c.args.key c.requires.pair.level c.requires.pair.key_level in
    let done = c.split-sibling.ensures here.0 here.1 in
    let above = level-above_split old c.args.key c.args.parent c.requires.pair mid mid sibling c.requires.full here.0 here.1 done in
    let level : c.level-level.result ≡ suc here.0.level =
    c.level-level.ensures ∙ same_Some c.node_at.result.now.level (suc here.0.level) (sym (ap level_of c.node_at.ensures) ∙ above) in
    let rect = c.cell_for-cell.ensures.rect in
    divides old c.args.key c.args.parent c.requires.pair mid c.attach.new.tree sibling c.requires.full here.0 here.1 done c.cell_for-cell.result c.cell_for-cell.ensures.number
    (subst (IsBox g.row.D) (sym rect) c.hull_at-hull.ensures.is_box) (rect ∙ c.hull_at-hull.ensures.value)
    (subst (λ l. Attaches mid c.attach.new.tree c.args.parent record { level = l; cell = c.cell_for-cell.result }) level c.attach.ensures)
