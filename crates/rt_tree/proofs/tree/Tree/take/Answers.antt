use Rattle.std.proofs.Common.{◌≡◌, ◌+◌, ◌-◌, ◌*◌, ◌≤◌, ◌^◌, None, arith, rules, sym, ap, ◌∙◌, subst, vec_capacity}
use Rattle.std.specs.Prelude.{is_some}
use Rattle.rt_box.specs.Capacity.{least_fill}
use Rattle.rt_tree_node.specs.Below.{HangTogether}
use Rattle.rt_tree_node.specs.Whole.{IsWhole, IsBranched, HasRoom, row_count}
use Rattle.rt_tree_remove.specs.Steps.{IsLocationOf}
use Rattle.rt_tree_outside.specs.Outside.{outside}
use Rattle.rt_tree.specs.Lists.{TreeLists, box_of, LosesRow}
use Rattle.rt_tree.specs.Changes.{IsRemoval}
use Rattle.rt_tree.specs.Moving.{DropsRow}
use Rattle.rt_tree.proofs.Kept.{settled, joined}
use Rattle.rt_tree.proofs.Changed.{less-room, way-waits, removed-kept, removed-rows, removed-ruled, removed-drops}
use Rattle.rt_tree.proofs.Rows.{box-none}
use Rattle.rt_tree.proofs.tree.Tree.take.Goals as goal

pub returns-in_err-found-clause-none : goal.returns-in_err-found-clause-none
returns-in_err-found-clause-none g c =
    let none : box_of c.args.self.now.lists c.args.id.now ≡ None =
    sym (ap (λ (v : TreeLists g.row.D). box_of v.lists c.args.id.now) c.self.view_is)
    ∙ box-none c.self.inside.arena (settled c.self.inside c.self.invariant) c.args.id.now c.in_err-found.ensures in
    rw c.from_residual.ensures none

pub remove_found-requires : goal.remove_found-requires
remove_found-requires g c =
    let i = c.self.inside in
    let t = c.self.inside.arena in
    let k = c.self.invariant in
    let few : g.row.D ≤ 3 = k.few in
    let whole : IsWhole t = k.whole in
    let branched : IsBranched t = k.branched in
    let location : IsLocationOf t c.args.id.now c.in_ok-found.found = c.in_ok-found.ensures in
    let rows : row_count t ≤ 2 ^ 31 = k.rows in
    let room : HasRoom t (row_count t) = less-room t (row_count t + i.spare) (row_count t) k.room (omega arith) in
    let pending_room : (least_fill t.capacity - 1) * t.level + 512 ≤ vec_capacity t.pending = way-waits i k (c.levels_are_few.ensures.doubles 31 k.rows) in
    search rules

pub learn-requires : goal.learn-requires
learn-requires g c =
    let t = c.remove_found.new.tree in
    let whole : IsWhole t = c.remove_found.ensures.whole in
    let joins : HangTogether t.nodes = joined t whole c.remove_found.ensures.none_waits in
    let levels = whole.linked.levels in
    search rules

pub invariant_of-self : goal.invariant_of-self
invariant_of-self g c = rw c.learn.ensures (removed-kept c.self.inside c.self.invariant c.remove_found.new.tree c.args.id.now c.in_ok-found.found.rect c.remove_found.ensures)

pub returns-clause-rows : goal.returns-clause-rows
returns-clause-rows g c =
    rw c.learn.ensures
    (subst (λ (v : TreeLists g.row.D). LosesRow v.lists (outside c.remove_found.new.tree) c.args.id.now c.in_ok-found.found.rect) c.self.view_is
    (removed-rows c.self.inside c.self.invariant c.remove_found.new.tree c.args.id.now c.in_ok-found.found.rect c.remove_found.ensures))

pub returns-clause-removal : goal.returns-clause-removal
returns-clause-removal g c =
    rw c.learn.ensures
    (subst (λ (v : TreeLists g.row.D). IsRemoval v.lists (outside c.remove_found.new.tree) c.args.id.now c.in_ok-found.found.rect) c.self.view_is
    (removed-ruled c.self.inside c.self.invariant c.remove_found.new.tree c.args.id.now c.in_ok-found.found.rect c.remove_found.ensures))

pub returns-clause-drops : goal.returns-clause-drops
returns-clause-drops g c =
    let i = c.self.inside in
    let k = c.self.invariant in
    rw c.learn.ensures
    (subst (λ (v : TreeLists g.row.D). DropsRow v.lists (outside c.remove_found.new.tree) c.args.id.now c.in_ok-found.found.rect) c.self.view_is
    (removed-drops i k c.remove_found.new.tree c.args.id.now c.in_ok-found.found.rect c.remove_found.ensures (ap is_some c.in_ok-found.ensures.home)))
