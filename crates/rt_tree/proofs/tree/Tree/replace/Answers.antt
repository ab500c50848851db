use Rattle.std.proofs.Common.{◌+◌, ◌-◌, ◌*◌, ◌^◌, ◌≤◌, Some, IsSome, arith, rules, ap, sym, ◌∙◌, subst, vec_capacity}
use Rattle.std.proofs.lemmas.Bool.{true≢false}
use Rattle.std.proofs.lemmas.Option.{same_Some}
use Rattle.indexmap.specs.IndexMap.{spare}
use Rattle.rt_box.specs.Capacity.{least_fill}
use Rattle.rt_box.proofs.Equality.{Decides-box_eq}
use Rattle.rt_tree_node.specs.Below.{HangTogether}
use Rattle.rt_tree_node.specs.Whole.{IsWhole, IsBranched, HasRoom, row_count}
use Rattle.rt_tree_remove.specs.Steps.{IsLocationOf}
use Rattle.rt_tree_outside.specs.Outside.{outside}
use Rattle.rt_tree.specs.Lists.{TreeLists, box_of}
use Rattle.rt_tree.specs.Replacing.{IsReplacement}
use Rattle.rt_tree.proofs.Kept.{settled, joined}
use Rattle.rt_tree.proofs.Changed.{present-leaf, less-room, way-waits}
use Rattle.rt_tree.proofs.Located.{found-box, found-some, found-there}
use Rattle.rt_tree.proofs.Replaced.{replaced-kept, replacement}
use Rattle.rt_tree.proofs.tree.Tree.replace.Goals as goal

pub unwrap-location-requires : goal.unwrap-location-requires
unwrap-location-requires g c =
    let i = c.self.inside in
    let k = c.self.invariant in
    let old : IsSome (box_of (outside i.arena) c.args.id.now) = subst (λ (v : TreeLists g.row.D). IsSome (box_of v.lists c.args.id.now)) (sym c.self.view_is) c.requires.there in
    found-some i.arena (settled i k) c.args.id.now c.find_row.result c.find_row.ensures old

pub returns-then-eq-clause-other : goal.returns-then-eq-clause-other
returns-then-eq-clause-other g c differs =
    let t = c.self.inside.arena in
    let s = settled c.self.inside c.self.invariant in
    let location = c.unwrap-location.result in
    let was = found-box t s c.args.id.now location (found-there t s c.args.id.now c.find_row.result location c.find_row.ensures c.unwrap-location.ensures) in
    let same = (Decides-box_eq location.rect c.args.rect.now c.eq.result c.eq.ensures).0 c.if-eq.true in
    absurd (differs (ap (λ (v : TreeLists g.row.D). box_of v.lists c.args.id.now) (sym c.self.view_is) ∙ was ∙ ap Some same))

pub replace_found-requires : goal.replace_found-requires
replace_found-requires g c =
    let i = c.self.inside in
    let t = c.self.inside.arena in
    let k = c.self.invariant in
    let few : g.row.D ≤ 3 = k.few in
    let whole : IsWhole t = k.whole in
    let branched : IsBranched t = k.branched in
    let location : IsLocationOf t c.args.id.now c.unwrap-location.result =
    found-there t (settled i k) c.args.id.now c.find_row.result c.unwrap-location.result c.find_row.ensures c.unwrap-location.ensures in
    let rows : row_count t ≤ 2 ^ 31 = k.rows in
    let room : HasRoom t (row_count t) = less-room t (row_count t + i.spare) (row_count t) k.room (omega arith) in
    let pending_room : (least_fill t.capacity - 1) * t.level + 512 ≤ vec_capacity t.pending = way-waits i k (c.levels_are_few.ensures.doubles 31 k.rows) in
    let some : 1 ≤ i.spare = subst (λ (v : TreeLists g.row.D). 1 ≤ v.spare) (sym c.self.view_is) c.requires.spare in
    let leaves_room : 1 ≤ spare t.leaves = omega (arith, some, k.leaves_room) in
    let one_more : 513 ≤ vec_capacity t.pending = omega (arith, k.pending_room) in
    search rules

pub learn-requires : goal.learn-requires
learn-requires g c =
    let t = c.replace_found.new.tree in
    let whole : IsWhole t = c.replace_found.ensures.inserts.whole in
    let joins : HangTogether t.nodes = joined t whole c.replace_found.ensures.inserts.none_waits in
    let levels = whole.linked.levels in
    search rules

pub invariant_of-self : goal.invariant_of-self
invariant_of-self g c =
    let i = c.self.inside in
    let some : 1 ≤ i.spare = subst (λ (v : TreeLists g.row.D). 1 ≤ v.spare) (sym c.self.view_is) c.requires.spare in
    let it = c.replace_found.ensures in
    rw c.learn.ensures
    (replaced-kept i c.self.invariant it.between c.replace_found.new.tree c.args.id.now c.unwrap-location.result.rect c.args.rect.now
    it.work it.removes it.inserts some)

pub returns-clause-same : goal.returns-clause-same
returns-clause-same g c same =
    let t = c.self.inside.arena in
    let s = settled c.self.inside c.self.invariant in
    let location = c.unwrap-location.result in
    let was = found-box t s c.args.id.now location (found-there t s c.args.id.now c.find_row.result location c.find_row.ensures c.unwrap-location.ensures) in
    let is = same_Some location.rect c.args.rect.now (sym was ∙ ap (λ (v : TreeLists g.row.D). box_of v.lists c.args.id.now) c.self.view_is ∙ same) in
    absurd (true≢false (sym ((Decides-box_eq location.rect c.args.rect.now c.eq.result c.eq.ensures).1 is) ∙ c.if-eq.false))

pub returns-clause-other : goal.returns-clause-other
returns-clause-other g c differs =
    let i = c.self.inside in
    let k = c.self.invariant in
    let old : IsSome (box_of (outside i.arena) c.args.id.now) = subst (λ (v : TreeLists g.row.D). IsSome (box_of v.lists c.args.id.now)) (sym c.self.view_is) c.requires.there in
    let it = c.replace_found.ensures in
    rw c.learn.ensures
    (subst (λ (v : TreeLists g.row.D). IsReplacement v.lists (outside c.replace_found.new.tree) c.args.id.now c.args.rect.now) c.self.view_is
    (replacement i k it.between c.replace_found.new.tree c.args.id.now c.unwrap-location.result.rect c.args.rect.now it.work
    it.removes it.inserts (present-leaf i.arena (settled i k) c.args.id.now old) it.unique))
