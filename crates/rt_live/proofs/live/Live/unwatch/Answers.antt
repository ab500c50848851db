use Rattle.std.proofs.Common.{◌≡◌, ◌∙◌, ◌≤◌, ◌<◌, length, None, sym, rules, arith, List, Option, subst}
use Rattle.rt_tree_node.specs.Whole.{most_rows_of_a_tree}
use Rattle.rt_live.specs.Rows.{box_at}
use Rattle.rt_live.proofs.Views.{window-box}
use Rattle.rt_box.specs.declared.interval.Interval.{Interval}
use Rattle.rt_live.specs.Room.{around}
use Rattle.rt_live.proofs.Room.{err-not-ok}
use Rattle.rt_live.proofs.live.Live.unwatch.Goals as goal

pub returns-then-is_none-clause-fault : goal.returns-then-is_none-clause-fault
returns-then-is_none-clause-fault g c =
    let none : c.get-was.result ≡ None = search rules in
    window-box c.self.inside c.self.inside c.args.self.now c.self.view_is c.args.window.now ∙ sym c.get-was.ensures ∙ none

pub edit_window-requires : goal.edit_window-requires
edit_window-requires g c =
    let d : g.row.D ≤ 3 = c.self.invariant.few in
    let some : c.get-was.result ≡ None → ⊥ = search rules in
    let was : box_at c.args.self.now.lists.windows c.args.window.now ≡ c.get-was.result = window-box c.self.inside c.self.inside c.args.self.now c.self.view_is c.args.window.now ∙ sym c.get-was.ensures in
    let few : c.get-was.result ≡ None → length c.args.self.now.lists.windows < most_rows_of_a_tree = λ none. absurd (some none) in
    search rules

pub returns-in_err-edit_window-clause-no_window : goal.returns-in_err-edit_window-clause-no_window
returns-in_err-edit_window-clause-no_window g c = λ none.
    let some : c.get-was.result ≡ None → ⊥ = search rules in
    absurd (some (c.get-was.ensures ∙ sym (window-box c.self.inside c.self.inside c.args.self.now c.self.view_is c.args.window.now) ∙ none))

pub returns-clause-no_window : goal.returns-clause-no_window
returns-clause-no_window g c = λ none.
    let some : c.get-was.result ≡ None → ⊥ = search rules in
    absurd (some (c.get-was.ensures ∙ sym (window-box c.self.inside c.self.inside c.args.self.now c.self.view_is c.args.window.now) ∙ none))

pub returns-in_err-edit_window-clause-fits : goal.returns-in_err-edit_window-clause-fits
returns-in_err-edit_window-clause-fits g c = λ room _.
    err-not-ok c.edit_window.result _ c.in_err-edit_window.was (c.edit_window.ensures.succeeds (λ some. absurd (let none : ⊥ = cc in none)) (record {
      rows_fit = omega arith;
      windows_fit = omega arith;
      changes_fit = subst (λ (o : Option (List Interval)). around o None c.args.self.now.lists.rows ≤ c.args.self.now.change_room) (window-box c.self.inside c.self.inside c.args.self.now c.self.view_is c.args.window.now ∙ sym c.get-was.ensures) room.changes_fit;
      rows_reached = omega (arith, room.rows_reached);
      windows_reached = omega (arith, room.windows_reached);
    }))
