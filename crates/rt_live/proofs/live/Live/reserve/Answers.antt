use Rattle.std.proofs.Common.{◌≡◌, ◌∙◌, ◌+◌, ◌≤◌, length, arith, ap, refl, le_refl, vec_capacity}
use Rattle.rt_box.specs.Capacity.{least_fill}
use Rattle.rt_check.specs.Shadow.{ShadowLists}
use Rattle.rt_tree.specs.Lists.{rows_of}
use Rattle.rt_live.specs.Rows.{by_id}
use Rattle.rt_live.specs.LiveInside.{least_of}
use Rattle.rt_live.specs.declared.live.Live.TheInside.{Inside}
use Rattle.rt_live.proofs.Room.{more-reached, GrowsInside, inside-uses, inside-keeps}
use Rattle.rt_live.proofs.live.Live.reserve.Goals as goal

pub returns-clause-room : goal.returns-clause-room
returns-clause-room g c =
    let i = c.self.inside in
    let rows = c.reserve.new.self.lists in
    let windows = c.reserve-2.new.self.lists in
    let one : c.least.result ≡ least_fill rows.capacity = c.least.ensures.value ∙ ap least_fill c.capacity-of_rows.ensures in
    let other : c.least-2.result ≡ least_fill windows.capacity = c.least-2.ensures.value ∙ ap least_fill c.capacity-of_windows.ensures in
    let j : Inside g.row.D = record i { rows = c.reserve.new.self; windows = c.reserve-2.new.self } in
    let least : c.min-least.result ≤ least_of j = omega (arith, one, other, c.min-least.ensures) in
    let reached = vec_capacity c.reserve-7.new.self in
    record {
      rows_fit = omega (arith, c.in_ok-reserve.ensures.room);
      windows_fit = omega (arith, c.in_ok-reserve-2.ensures.room);
      changes_fit = omega (arith, c.in_ok-reserve-3.ensures.ok, c.in_ok-reserve-4.ensures.ok, c.in_ok-reserve-5.ensures.ok, c.in_ok-reserve-6.ensures.ok);
      rows_reached = more-reached (length (by_id (rows_of rows)) + c.args.rows) c.in_ok-for_rows.for_rows reached c.min-least.result (least_of j)
          c.in_ok-for_rows.ensures (omega (arith, c.max.ensures, c.in_ok-reserve-7.ensures.ok)) least;
      windows_reached = more-reached (length (by_id (rows_of windows)) + c.args.windows) c.in_ok-for_windows.for_windows reached c.min-least.result (least_of j)
          c.in_ok-for_windows.ensures (omega (arith, c.max.ensures, c.in_ok-reserve-7.ensures.ok)) least;
    }

pub returns-clause-keeps : goal.returns-clause-keeps
returns-clause-keeps g c =
    let i = c.self.inside in
    let rows = c.reserve.ensures.lists in
    let windows = c.reserve-2.ensures.lists in
    let long_rows = ap (λ (s : ShadowLists g.row.D). length (by_id (rows_of s))) rows in
    let long_windows = ap (λ (s : ShadowLists g.row.D). length (by_id (rows_of s))) windows in
    let j : Inside g.row.D = record i {
      rows = c.reserve.new.self;
      windows = c.reserve-2.new.self;
      changes = c.reserve-4.new.self;
      planned = c.reserve-3.new.self;
      scratch = record { found = c.reserve-5.new.self; last = c.reserve-6.new.self; reached = c.reserve-7.new.self };
    } in
    let more : GrowsInside i j = record {
      changes = omega (arith, c.reserve-3.ensures.capacity, c.reserve-4.ensures.capacity);
      scratch = record {
        found = c.reserve-5.ensures.capacity;
        last = c.reserve-6.ensures.capacity;
        reached = c.reserve-7.ensures.capacity;
      };
      rows = ap (λ (s : ShadowLists g.row.D). s.capacity) rows;
      windows = ap (λ (s : ShadowLists g.row.D). s.capacity) windows;
    } in
    inside-uses i j c.args.self.now c.self.view_is 0 0 more (omega (arith, c.reserve.ensures.keeps)) (omega (arith, c.reserve-2.ensures.keeps))
    (omega (arith, long_rows)) (omega (arith, long_windows))

-- ---- where a list gets no room, what there was room for stays
pub returns-in_err-reserve-clause-keeps : goal.returns-in_err-reserve-clause-keeps
returns-in_err-reserve-clause-keeps g c =
    let j : Inside g.row.D = record c.self.inside { rows = c.reserve.new.self } in
    inside-keeps c.self.inside j c.args.self.now c.self.view_is c.reserve.ensures.lists refl c.reserve.ensures.keeps (le_refl _)
    (le_refl _) (le_refl _) (le_refl _) (le_refl _) (le_refl _)

pub returns-in_err-reserve-2-clause-keeps : goal.returns-in_err-reserve-2-clause-keeps
returns-in_err-reserve-2-clause-keeps g c =
    let j : Inside g.row.D = record c.self.inside { rows = c.reserve.new.self; windows = c.reserve-2.new.self } in
    inside-keeps c.self.inside j c.args.self.now c.self.view_is c.reserve.ensures.lists c.reserve-2.ensures.lists c.reserve.ensures.keeps c.reserve-2.ensures.keeps
    (le_refl _) (le_refl _) (le_refl _) (le_refl _) (le_refl _)

pub returns-in_err-reserve-3-clause-keeps : goal.returns-in_err-reserve-3-clause-keeps
returns-in_err-reserve-3-clause-keeps g c =
    let j : Inside g.row.D = record c.self.inside { rows = c.reserve.new.self; windows = c.reserve-2.new.self; planned = c.reserve-3.new.self } in
    inside-keeps c.self.inside j c.args.self.now c.self.view_is c.reserve.ensures.lists c.reserve-2.ensures.lists c.reserve.ensures.keeps c.reserve-2.ensures.keeps
    (le_refl _) c.reserve-3.ensures.capacity (le_refl _) (le_refl _) (le_refl _)

pub returns-in_err-reserve-4-clause-keeps : goal.returns-in_err-reserve-4-clause-keeps
returns-in_err-reserve-4-clause-keeps g c =
    let j : Inside g.row.D = record c.self.inside { rows = c.reserve.new.self; windows = c.reserve-2.new.self; planned = c.reserve-3.new.self; changes = c.reserve-4.new.self } in
    inside-keeps c.self.inside j c.args.self.now c.self.view_is c.reserve.ensures.lists c.reserve-2.ensures.lists c.reserve.ensures.keeps c.reserve-2.ensures.keeps
    c.reserve-4.ensures.capacity c.reserve-3.ensures.capacity (le_refl _) (le_refl _) (le_refl _)

pub returns-in_err-reserve-5-clause-keeps : goal.returns-in_err-reserve-5-clause-keeps
returns-in_err-reserve-5-clause-keeps g c =
    let j : Inside g.row.D = record c.self.inside { rows = c.reserve.new.self; windows = c.reserve-2.new.self; planned = c.reserve-3.new.self; changes = c.reserve-4.new.self; scratch = record c.self.inside.scratch { found = c.reserve-5.new.self } } in
    inside-keeps c.self.inside j c.args.self.now c.self.view_is c.reserve.ensures.lists c.reserve-2.ensures.lists c.reserve.ensures.keeps c.reserve-2.ensures.keeps
    c.reserve-4.ensures.capacity c.reserve-3.ensures.capacity c.reserve-5.ensures.capacity (le_refl _) (le_refl _)

pub returns-in_err-reserve-6-clause-keeps : goal.returns-in_err-reserve-6-clause-keeps
returns-in_err-reserve-6-clause-keeps g c =
    let j : Inside g.row.D = record c.self.inside { rows = c.reserve.new.self; windows = c.reserve-2.new.self; planned = c.reserve-3.new.self; changes = c.reserve-4.new.self; scratch = record c.self.inside.scratch { found = c.reserve-5.new.self; last = c.reserve-6.new.self } } in
    inside-keeps c.self.inside j c.args.self.now c.self.view_is c.reserve.ensures.lists c.reserve-2.ensures.lists c.reserve.ensures.keeps c.reserve-2.ensures.keeps
    c.reserve-4.ensures.capacity c.reserve-3.ensures.capacity c.reserve-5.ensures.capacity c.reserve-6.ensures.capacity (le_refl _)

pub returns-in_err-for_rows-clause-keeps : goal.returns-in_err-for_rows-clause-keeps
returns-in_err-for_rows-clause-keeps g c =
    let j : Inside g.row.D = record c.self.inside { rows = c.reserve.new.self; windows = c.reserve-2.new.self; planned = c.reserve-3.new.self; changes = c.reserve-4.new.self; scratch = record c.self.inside.scratch { found = c.reserve-5.new.self; last = c.reserve-6.new.self } } in
    inside-keeps c.self.inside j c.args.self.now c.self.view_is c.reserve.ensures.lists c.reserve-2.ensures.lists c.reserve.ensures.keeps c.reserve-2.ensures.keeps
    c.reserve-4.ensures.capacity c.reserve-3.ensures.capacity c.reserve-5.ensures.capacity c.reserve-6.ensures.capacity (le_refl _)

pub returns-in_err-for_windows-clause-keeps : goal.returns-in_err-for_windows-clause-keeps
returns-in_err-for_windows-clause-keeps g c =
    let j : Inside g.row.D = record c.self.inside { rows = c.reserve.new.self; windows = c.reserve-2.new.self; planned = c.reserve-3.new.self; changes = c.reserve-4.new.self; scratch = record c.self.inside.scratch { found = c.reserve-5.new.self; last = c.reserve-6.new.self } } in
    inside-keeps c.self.inside j c.args.self.now c.self.view_is c.reserve.ensures.lists c.reserve-2.ensures.lists c.reserve.ensures.keeps c.reserve-2.ensures.keeps
    c.reserve-4.ensures.capacity c.reserve-3.ensures.capacity c.reserve-5.ensures.capacity c.reserve-6.ensures.capacity (le_refl _)

pub returns-in_err-reserve-7-clause-keeps : goal.returns-in_err-reserve-7-clause-keeps
returns-in_err-reserve-7-clause-keeps g c =
    let j : Inside g.row.D = record c.self.inside { rows = c.reserve.new.self; windows = c.reserve-2.new.self; planned = c.reserve-3.new.self; changes = c.reserve-4.new.self; scratch = record c.self.inside.scratch { found = c.reserve-5.new.self; last = c.reserve-6.new.self; reached = c.reserve-7.new.self } } in
    inside-keeps c.self.inside j c.args.self.now c.self.view_is c.reserve.ensures.lists c.reserve-2.ensures.lists c.reserve.ensures.keeps c.reserve-2.ensures.keeps
    c.reserve-4.ensures.capacity c.reserve-3.ensures.capacity c.reserve-5.ensures.capacity c.reserve-6.ensures.capacity c.reserve-7.ensures.capacity
