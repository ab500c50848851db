use Rattle.std.proofs.Common.{◌≡◌, ◌∙◌, List, map, None, sym, ap, rules}
use Rattle.rt_tree_walk.specs.declared.searching.Row.{Row}
use Rattle.rt_live.proofs.Views.{window-box, seen-found}
use Rattle.rt_live.proofs.live.Live.rows.Goals as goal

pub returns-then-is_none-clause-fault : goal.returns-then-is_none-clause-fault
returns-then-is_none-clause-fault g c =
    let none : c.get-rect.result ≡ None = search rules in
    window-box c.self.inside c.self.inside c.args.self.now c.self.view_is c.args.window.now ∙ sym c.get-rect.ensures ∙ none

pub returns-in_err-find_either-clause-no_window : goal.returns-in_err-find_either-clause-no_window
returns-in_err-find_either-clause-no_window g c = λ none.
    let some : c.get-rect.result ≡ None → ⊥ = search rules in
    absurd (some (c.get-rect.ensures ∙ sym (window-box c.self.inside c.self.inside c.args.self.now c.self.view_is c.args.window.now) ∙ none))

pub returns-in_err-ids-clause-no_window : goal.returns-in_err-ids-clause-no_window
returns-in_err-ids-clause-no_window g c = λ none.
    let some : c.get-rect.result ≡ None → ⊥ = search rules in
    absurd (some (c.get-rect.ensures ∙ sym (window-box c.self.inside c.self.inside c.args.self.now c.self.view_is c.args.window.now) ∙ none))

pub returns-clause-no_window : goal.returns-clause-no_window
returns-clause-no_window g c = λ none.
    let some : c.get-rect.result ≡ None → ⊥ = search rules in
    absurd (some (c.get-rect.ensures ∙ sym (window-box c.self.inside c.self.inside c.args.self.now c.self.view_is c.args.window.now) ∙ none))

pub returns-clause-ids : goal.returns-clause-ids
returns-clause-ids g c =
    c.in_ok-ids.ensures
    ∙ ap (λ (rows : List (Row g.row.D)). map (λ r. r.id) rows) (c.as_slice.ensures.value ∙ c.in_ok-find_either.ensures.rows)
    ∙ seen-found c.self.inside c.self.inside c.args.self.now c.self.view_is c.args.window.now c.get-rect.result (window-box c.self.inside c.self.inside c.args.self.now c.self.view_is c.args.window.now ∙ sym c.get-rect.ensures)
