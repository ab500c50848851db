use Rattle.std.proofs.Common.{◌≡◌, ◌∙◌, ◌≤◌, ◌<◌, length, None, sym, rules, arith, List, Option, subst}
use Rattle.rt_tree_node.specs.Whole.{most_rows_of_a_tree}
use Rattle.rt_live.specs.Rows.{box_at}
use Rattle.rt_live.proofs.Views.{row-box}
use Rattle.rt_box.specs.declared.interval.Interval.{Interval}
use Rattle.rt_live.specs.Room.{around}
use Rattle.rt_live.proofs.Room.{err-not-ok}
use Rattle.rt_live.proofs.live.Live.remove.Goals as goal

pub returns-then-is_none-clause-fault : goal.returns-then-is_none-clause-fault
returns-then-is_none-clause-fault g c =
    let none : c.get-was.result ≡ None = search rules in
    row-box c.self.inside c.self.inside c.args.self.now c.self.view_is c.args.id.now ∙ sym c.get-was.ensures ∙ none

pub edit_row-requires : goal.edit_row-requires
edit_row-requires g c =
    let d : g.row.D ≤ 3 = c.self.invariant.few in
    let some : c.get-was.result ≡ None → ⊥ = search rules in
    let was : box_at c.args.self.now.lists.rows c.args.id.now ≡ c.get-was.result = row-box c.self.inside c.self.inside c.args.self.now c.self.view_is c.args.id.now ∙ sym c.get-was.ensures in
    let few : c.get-was.result ≡ None → length c.args.self.now.lists.rows < most_rows_of_a_tree = λ none. absurd (some none) in
    search rules

pub returns-in_err-edit_row-clause-missing : goal.returns-in_err-edit_row-clause-missing
returns-in_err-edit_row-clause-missing g c = λ none.
    let some : c.get-was.result ≡ None → ⊥ = search rules in
    absurd (some (c.get-was.ensures ∙ sym (row-box c.self.inside c.self.inside c.args.self.now c.self.view_is c.args.id.now) ∙ none))

pub returns-clause-missing : goal.returns-clause-missing
returns-clause-missing g c = λ none.
    let some : c.get-was.result ≡ None → ⊥ = search rules in
    absurd (some (c.get-was.ensures ∙ sym (row-box c.self.inside c.self.inside c.args.self.now c.self.view_is c.args.id.now) ∙ none))

pub returns-in_err-edit_row-clause-fits : goal.returns-in_err-edit_row-clause-fits
returns-in_err-edit_row-clause-fits g c = λ room _.
    err-not-ok c.edit_row.result _ c.in_err-edit_row.was (c.edit_row.ensures.succeeds (λ some. absurd (let none : ⊥ = cc in none)) (record {
      rows_fit = omega arith;
      windows_fit = omega arith;
      changes_fit = subst (λ (o : Option (List Interval)). around o None c.args.self.now.lists.windows ≤ c.args.self.now.change_room) (row-box c.self.inside c.self.inside c.args.self.now c.self.view_is c.args.id.now ∙ sym c.get-was.ensures) room.changes_fit;
      rows_reached = omega (arith, room.rows_reached);
      windows_reached = omega (arith, room.windows_reached);
    }))
