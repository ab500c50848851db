use Rattle.std.proofs.Common.{◌≡◌, ◌+◌, ◌-◌, ◌<◌, ◌≤◌, ◌^◌, length, None, arith, rules, ap, sym, ◌∙◌, subst, vec_capacity}
use Rattle.std.specs.Ordering.{int_eq}
use Rattle.indexmap.specs.IndexMap.{get as leaf_of, spare}
use Rattle.rt_tree_node.specs.Below.{HangTogether}
use Rattle.rt_tree_node.specs.Whole.{IsWhole, IsBranched, HasRoom, row_count}
use Rattle.rt_tree_outside.specs.Outside.{outside}
use Rattle.rt_tree.specs.Lists.{TreeLists, box_of, GainsRow}
use Rattle.rt_tree.specs.Changes.{IsInsertion}
use Rattle.rt_tree.specs.Moving.{TakesRow}
use Rattle.rt_tree.proofs.Kept.{settled, joined}
use Rattle.rt_tree.proofs.Changed.{absent-leaf, less-room, rows-are, inserted-kept, inserted-rows, inserted-ruled, inserted-takes}
use Rattle.rt_tree.proofs.tree.Tree.insert.Goals as goal

pub insert_row-work-requires : goal.insert_row-work-requires
insert_row-work-requires g c =
    let i = c.self.inside in
    let t = c.self.inside.arena in
    let k = c.self.invariant in
    let few : g.row.D ≤ 3 = k.few in
    let whole : IsWhole t = k.whole in
    let branched : IsBranched t = k.branched in
    let old : box_of (outside t) c.args.id.now ≡ None = ap (λ (v : TreeLists g.row.D). box_of v.lists c.args.id.now) c.self.view_is ∙ c.requires.absent in
    let absent : leaf_of int_eq t.leaves c.args.id.now ≡ None = absent-leaf t (settled i k) c.args.id.now old in
    let long = ap (λ (v : TreeLists g.row.D). length v.lists.rows) c.self.view_is in
    let some : 1 ≤ i.spare = subst (λ (v : TreeLists g.row.D). 1 ≤ v.spare) (sym c.self.view_is) c.requires.spare in
    let rows : row_count t < 2 ^ 31 = omega (arith, rows-are i k, long, c.requires.few) in
    let room : HasRoom t (row_count t + 1) = less-room t (row_count t + i.spare) (row_count t + 1) k.room (omega (arith, some)) in
    let leaves_room : 1 ≤ spare t.leaves = omega (arith, some, k.leaves_room) in
    let pending_room : 513 ≤ vec_capacity t.pending = omega (arith, k.pending_room) in
    search rules

pub learn-requires : goal.learn-requires
learn-requires g c =
    let t = c.insert_row-work.new.tree in
    let whole : IsWhole t = c.insert_row-work.ensures.whole in
    let joins : HangTogether t.nodes = joined t whole c.insert_row-work.ensures.none_waits in
    let levels = whole.linked.levels in
    search rules

pub invariant_of-self : goal.invariant_of-self
invariant_of-self g c =
    let i = c.self.inside in
    let k = c.self.invariant in
    let long = ap (λ (v : TreeLists g.row.D). length v.lists.rows) c.self.view_is in
    let some : 1 ≤ i.spare = subst (λ (v : TreeLists g.row.D). 1 ≤ v.spare) (sym c.self.view_is) c.requires.spare in
    rw c.learn.ensures
    (inserted-kept i k c.insert_row-work.new.tree c.args.id.now c.args.rect.now c.insert_row-work.result c.insert_row-work.ensures (i.spare - 1) (omega (arith, some))
    (omega (arith, rows-are i k, long, c.requires.few)))

pub returns-clause-rows : goal.returns-clause-rows
returns-clause-rows g c =
    rw c.learn.ensures
    (subst (λ (v : TreeLists g.row.D). GainsRow v.lists (outside c.insert_row-work.new.tree) c.args.id.now c.args.rect.now) c.self.view_is
    (inserted-rows c.self.inside c.self.invariant c.insert_row-work.new.tree c.args.id.now c.args.rect.now c.insert_row-work.result c.insert_row-work.ensures))

pub returns-clause-insertion : goal.returns-clause-insertion
returns-clause-insertion g c =
    rw c.learn.ensures
    (subst (λ (v : TreeLists g.row.D). IsInsertion v.lists (outside c.insert_row-work.new.tree) c.args.id.now c.args.rect.now c.insert_row-work.result) c.self.view_is
    (inserted-ruled c.self.inside c.self.invariant c.insert_row-work.new.tree c.args.id.now c.args.rect.now c.insert_row-work.result c.insert_row-work.ensures))

pub returns-clause-takes : goal.returns-clause-takes
returns-clause-takes g c =
    rw c.learn.ensures
    (subst (λ (v : TreeLists g.row.D). TakesRow v.lists (outside c.insert_row-work.new.tree) c.args.id.now c.args.rect.now c.insert_row-work.result) c.self.view_is
    (inserted-takes c.self.inside c.self.invariant c.insert_row-work.new.tree c.args.id.now c.args.rect.now c.insert_row-work.result c.insert_row-work.ensures))
