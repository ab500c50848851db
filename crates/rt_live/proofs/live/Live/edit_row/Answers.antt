use Rattle.std.proofs.Common.{◌≡◌, ◌∙◌, ◌≤◌, ◌<◌, length, None, refl, sym, ap, rules, arith, vec_capacity}
use Rattle.rt_check.specs.Shadow.{ShadowLists}
use Rattle.rt_tree.specs.Lists.{box_of, rows_of}
use Rattle.rt_tree_node.specs.Whole.{most_rows_of_a_tree}
use Rattle.rt_live.proofs.Views.{row-box, rows-long, row-stays}
use Rattle.rt_live.specs.Live.{LiveState}
use Rattle.rt_live.specs.LiveInside.{least_of}
use Rattle.rt_live.specs.Room.{around, used}
use Rattle.rt_live.specs.Rows.{by_id}
use Rattle.rt_live.specs.declared.live.Live.TheInside.{Inside}
use Rattle.rt_live.proofs.Room.{err-not-ok, with_box-long, GrowsInside, inside-uses}
use Rattle.rt_live.proofs.live.Live.edit_row.Goals as goal

pub returns-then-does_stay-clause-ok : goal.returns-then-does_stay-clause-ok
returns-then-does_stay-clause-ok g c =
    let i = c.self.inside in
    row-stays i (record i { changes = c.clear.new.self }) c.args.self.now c.self.view_is c.args.id.now c.args.was.now c.args.is.now c.requires.was (sym c.does_stay.ensures ∙ c.if-does_stay.true) refl refl c.clear.ensures.items

pub set_box-requires : goal.set_box-requires
set_box-requires g c =
    let i = c.self.inside in
    let d : g.row.D ≤ 3 = c.self.invariant.few in
    let tree = c.make_room.new.tree.lists in
    let same : tree ≡ i.rows.lists = c.make_room.ensures.lists in
    let was : box_of tree c.args.id.now ≡ c.args.was.now =
    ap (λ (s : ShadowLists g.row.D). box_of s c.args.id.now) same ∙ sym (row-box i i c.args.self.now c.self.view_is c.args.id.now) ∙ c.requires.was in
    let long : length tree.rows ≡ length c.args.self.now.lists.rows =
    ap (λ (s : ShadowLists g.row.D). length s.rows) same ∙ sym (rows-long i i c.args.self.now c.self.view_is c.is_in_shape.ensures) in
    let few : c.args.was.now ≡ None → length tree.rows < most_rows_of_a_tree = λ none. let h = c.requires.few none in omega (arith, long, h) in
    search rules

pub returns-in_err-make_room-clause-succeeds : goal.returns-in_err-make_room-clause-succeeds
returns-in_err-make_room-clause-succeeds g c = λ some room.
    let same = ap (λ (v : LiveState g.row.D). v.row_room) c.self.view_is in
    absurd (err-not-ok c.make_room.result _ c.in_err-make_room.was (c.make_room.ensures.succeeds (λ there. let h = some there in omega (arith, h, same))))

pub returns-in_err-plan_row-clause-succeeds : goal.returns-in_err-plan_row-clause-succeeds
returns-in_err-plan_row-clause-succeeds g c = λ some room.
    let i = c.self.inside in
    let many = ap (λ (v : LiveState g.row.D). around c.args.was.now c.args.is.now v.lists.windows) c.self.view_is in
    let changes = ap (λ (v : LiveState g.row.D). v.change_room) c.self.view_is in
    let long = ap (λ (v : LiveState g.row.D). length v.lists.windows) c.self.view_is in
    let searches = ap (λ (v : LiveState g.row.D). v.search_room) c.self.view_is in
    let fits = room.changes_fit in
    let few = room.windows_reached in
    absurd (err-not-ok c.plan_row.result _ c.in_err-plan_row.was (c.plan_row.ensures.succeeds (record {
      found = omega (arith, many, changes, fits);
      last = omega (arith, many, changes, fits);
      reached = c.few_nodes.ensures (vec_capacity i.scratch.reached) (least_of i) (omega arith) (omega (arith, long, searches, few));
    }) (omega (arith, many, changes, fits))))

-- ---- what was used up
pub returns-then-does_stay-clause-uses : goal.returns-then-does_stay-clause-uses
returns-then-does_stay-clause-uses g c =
    let i = c.self.inside in
    let more : GrowsInside i (record i { changes = c.clear.new.self }) = record {
      changes = omega (arith, c.clear.ensures.capacity);
      scratch = record { found = omega arith; last = omega arith; reached = omega arith };
      rows = refl;
      windows = refl;
    } in
    inside-uses i (record i { changes = c.clear.new.self }) c.args.self.now c.self.view_is (used c.args.is.now) 0 more (omega arith) (omega arith) (omega arith) (omega arith)

pub returns-in_err-make_room-clause-uses : goal.returns-in_err-make_room-clause-uses
returns-in_err-make_room-clause-uses g c =
    let i = c.self.inside in
    let same = c.make_room.ensures.lists in
    let long = ap (λ (s : ShadowLists g.row.D). length (by_id (rows_of s))) same in
    let more : GrowsInside i (record i { rows = c.make_room.new.tree }) = record {
      changes = omega arith;
      scratch = record { found = omega arith; last = omega arith; reached = omega arith };
      rows = ap (λ (s : ShadowLists g.row.D). s.capacity) same;
      windows = refl;
    } in
    inside-uses i (record i { rows = c.make_room.new.tree }) c.args.self.now c.self.view_is (used c.args.is.now) 0 more
    (omega (arith, c.make_room.ensures.keeps)) (omega arith) (omega (arith, long)) (omega arith)

pub returns-in_err-plan_row-clause-uses : goal.returns-in_err-plan_row-clause-uses
returns-in_err-plan_row-clause-uses g c =
    let i = c.self.inside in
    let same = c.make_room.ensures.lists in
    let long = ap (λ (s : ShadowLists g.row.D). length (by_id (rows_of s))) same in
    let j : Inside g.row.D = record i { rows = c.make_room.new.tree; scratch = c.plan_row.new.scratch; planned = c.plan_row.new.changes } in
    let more : GrowsInside i j = record {
      changes = omega (arith, c.plan_row.ensures.capacity);
      scratch = c.plan_row.ensures.grows;
      rows = ap (λ (s : ShadowLists g.row.D). s.capacity) same;
      windows = refl;
    } in
    inside-uses i j c.args.self.now c.self.view_is (used c.args.is.now) 0 more (omega (arith, c.make_room.ensures.keeps)) (omega arith) (omega (arith, long)) (omega arith)

pub returns-clause-uses : goal.returns-clause-uses
returns-clause-uses g c =
    let i = c.self.inside in
    let same = c.make_room.ensures.lists in
    let before = ap (λ (s : ShadowLists g.row.D). length (by_id (rows_of s))) same in
    let after = ap length c.set_box.ensures.rows in
    let long = with_box-long (by_id (rows_of c.make_room.new.tree.lists)) c.args.id.now c.args.is.now in
    let j : Inside g.row.D = record i { rows = c.set_box.new.tree; scratch = c.plan_row.new.scratch; changes = c.swap.new.x; planned = c.swap.new.y } in
    let more : GrowsInside i j = record {
      changes = omega (arith, c.in_ok-plan_row.ensures.capacity, ap (λ v. vec_capacity v) c.swap.ensures.x_after, ap (λ v. vec_capacity v) c.swap.ensures.y_after);
      scratch = c.in_ok-plan_row.ensures.grows;
      rows = c.set_box.ensures.capacity ∙ ap (λ (s : ShadowLists g.row.D). s.capacity) same;
      windows = refl;
    } in
    inside-uses i j c.args.self.now c.self.view_is (used c.args.is.now) 0 more (omega (arith, c.make_room.ensures.keeps, c.set_box.ensures.spare)) (omega arith) (omega (arith, before, after, long)) (omega arith)
