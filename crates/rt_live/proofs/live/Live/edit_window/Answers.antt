use Rattle.std.proofs.Common.{◌≡◌, ◌∙◌, ◌≤◌, ◌<◌, length, None, refl, sym, ap, rules, arith, vec_capacity}
use Rattle.rt_check.specs.Shadow.{ShadowLists}
use Rattle.rt_tree.specs.Lists.{box_of, rows_of}
use Rattle.rt_tree_node.specs.Whole.{most_rows_of_a_tree}
use Rattle.rt_live.proofs.Views.{window-box, windows-long, window-stays}
use Rattle.rt_live.specs.Live.{LiveState}
use Rattle.rt_live.specs.LiveInside.{least_of}
use Rattle.rt_live.specs.Room.{around, used}
use Rattle.rt_live.specs.Rows.{by_id}
use Rattle.rt_live.specs.declared.live.Live.TheInside.{Inside}
use Rattle.rt_live.proofs.Room.{err-not-ok, with_box-long, GrowsInside, inside-uses}
use Rattle.rt_live.proofs.live.Live.edit_window.Goals as goal

pub returns-then-does_stay-clause-ok : goal.returns-then-does_stay-clause-ok
returns-then-does_stay-clause-ok g c =
    let i = c.self.inside in
    window-stays i (record i { changes = c.clear.new.self }) c.args.self.now c.self.view_is c.args.window.now c.args.was.now c.args.is.now c.requires.was (sym c.does_stay.ensures ∙ c.if-does_stay.true) refl refl c.clear.ensures.items

pub set_box-requires : goal.set_box-requires
set_box-requires g c =
    let i = c.self.inside in
    let d : g.row.D ≤ 3 = c.self.invariant.few in
    let tree = c.make_room.new.tree.lists in
    let same : tree ≡ i.windows.lists = c.make_room.ensures.lists in
    let was : box_of tree c.args.window.now ≡ c.args.was.now =
    ap (λ (s : ShadowLists g.row.D). box_of s c.args.window.now) same ∙ sym (window-box i i c.args.self.now c.self.view_is c.args.window.now) ∙ c.requires.was in
    let long : length tree.rows ≡ length c.args.self.now.lists.windows =
    ap (λ (s : ShadowLists g.row.D). length s.rows) same ∙ sym (windows-long i i c.args.self.now c.self.view_is c.is_in_shape.ensures) in
    let few : c.args.was.now ≡ None → length tree.rows < most_rows_of_a_tree = λ none. let h = c.requires.few none in omega (arith, long, h) in
    search rules

pub returns-in_err-make_room-clause-succeeds : goal.returns-in_err-make_room-clause-succeeds
returns-in_err-make_room-clause-succeeds g c = λ some room.
    let same = ap (λ (v : LiveState g.row.D). v.window_room) c.self.view_is in
    absurd (err-not-ok c.make_room.result _ c.in_err-make_room.was (c.make_room.ensures.succeeds (λ there. let h = some there in omega (arith, h, same))))

pub returns-in_err-plan_window-clause-succeeds : goal.returns-in_err-plan_window-clause-succeeds
returns-in_err-plan_window-clause-succeeds g c = λ some room.
    let i = c.self.inside in
    let many = ap (λ (v : LiveState g.row.D). around c.args.was.now c.args.is.now v.lists.rows) c.self.view_is in
    let changes = ap (λ (v : LiveState g.row.D). v.change_room) c.self.view_is in
    let long = ap (λ (v : LiveState g.row.D). length v.lists.rows) c.self.view_is in
    let searches = ap (λ (v : LiveState g.row.D). v.search_room) c.self.view_is in
    let fits = room.changes_fit in
    let few = room.rows_reached in
    absurd (err-not-ok c.plan_window.result _ c.in_err-plan_window.was (c.plan_window.ensures.succeeds (record {
      found = omega (arith, many, changes, fits);
      last = omega (arith, many, changes, fits);
      reached = c.few_nodes.ensures (vec_capacity i.scratch.reached) (least_of i) (omega arith) (omega (arith, long, searches, few));
    }) (omega (arith, many, changes, fits))))

-- ---- what was used up
pub returns-then-does_stay-clause-uses : goal.returns-then-does_stay-clause-uses
returns-then-does_stay-clause-uses g c =
    let i = c.self.inside in
    let more : GrowsInside i (record i { changes = c.clear.new.self }) = record {
      changes = omega (arith, c.clear.ensures.capacity);
      scratch = record { found = omega arith; last = omega arith; reached = omega arith };
      rows = refl;
      windows = refl;
    } in
    inside-uses i (record i { changes = c.clear.new.self }) c.args.self.now c.self.view_is 0 (used c.args.is.now) more (omega arith) (omega arith) (omega arith) (omega arith)

pub returns-in_err-make_room-clause-uses : goal.returns-in_err-make_room-clause-uses
returns-in_err-make_room-clause-uses g c =
    let i = c.self.inside in
    let same = c.make_room.ensures.lists in
    let long = ap (λ (s : ShadowLists g.row.D). length (by_id (rows_of s))) same in
    let more : GrowsInside i (record i { windows = c.make_room.new.tree }) = record {
      changes = omega arith;
      scratch = record { found = omega arith; last = omega arith; reached = omega arith };
      windows = ap (λ (s : ShadowLists g.row.D). s.capacity) same;
      rows = refl;
    } in
    inside-uses i (record i { windows = c.make_room.new.tree }) c.args.self.now c.self.view_is 0 (used c.args.is.now) more
    (omega arith) (omega (arith, c.make_room.ensures.keeps)) (omega arith) (omega (arith, long))

pub returns-in_err-plan_window-clause-uses : goal.returns-in_err-plan_window-clause-uses
returns-in_err-plan_window-clause-uses g c =
    let i = c.self.inside in
    let same = c.make_room.ensures.lists in
    let long = ap (λ (s : ShadowLists g.row.D). length (by_id (rows_of s))) same in
    let j : Inside g.row.D = record i { windows = c.make_room.new.tree; scratch = c.plan_window.new.scratch; planned = c.plan_window.new.changes } in
    let more : GrowsInside i j = record {
      changes = omega (arith, c.plan_window.ensures.capacity);
      scratch = c.plan_window.ensures.grows;
      windows = ap (λ (s : ShadowLists g.row.D). s.capacity) same;
      rows = refl;
    } in
    inside-uses i j c.args.self.now c.self.view_is 0 (used c.args.is.now) more (omega arith) (omega (arith, c.make_room.ensures.keeps)) (omega arith) (omega (arith, long))

pub returns-clause-uses : goal.returns-clause-uses
returns-clause-uses g c =
    let i = c.self.inside in
    let same = c.make_room.ensures.lists in
    let before = ap (λ (s : ShadowLists g.row.D). length (by_id (rows_of s))) same in
    let after = ap length c.set_box.ensures.rows in
    let long = with_box-long (by_id (rows_of c.make_room.new.tree.lists)) c.args.window.now c.args.is.now in
    let j : Inside g.row.D = record i { windows = c.set_box.new.tree; scratch = c.plan_window.new.scratch; least = c.least_side-self-inside.result; changes = c.swap.new.x; planned = c.swap.new.y } in
    let more : GrowsInside i j = record {
      changes = omega (arith, c.in_ok-plan_window.ensures.capacity, ap (λ v. vec_capacity v) c.swap.ensures.x_after, ap (λ v. vec_capacity v) c.swap.ensures.y_after);
      scratch = c.in_ok-plan_window.ensures.grows;
      windows = c.set_box.ensures.capacity ∙ ap (λ (s : ShadowLists g.row.D). s.capacity) same;
      rows = refl;
    } in
    inside-uses i j c.args.self.now c.self.view_is 0 (used c.args.is.now) more (omega arith) (omega (arith, c.make_room.ensures.keeps, c.set_box.ensures.spare)) (omega arith) (omega (arith, before, after, long))
