use Rattle.std.proofs.Common.{◌≡◌, ◌≤◌, ℕ, List, Option, map, length, get_or, refl, sym, ap, subst, ◌∙◌}
use Rattle.rt_sql_statement.specs.declared.value.Value.TheVariants.{Null}
use Rattle.rt_table_row.specs.Arrangements.{value_at, own_places}
use Rattle.rt_table_row.specs.NewRows.{id_in}
use Rattle.rt_table_row.proofs.Arranging.{length-own_places, first_own}
use Rattle.rt_table_row.proofs.arrangement.Arrangement.given_id.Goals as goal

pub returns-in-Own : goal.returns-in-Own
returns-in-Own c =
    let count = c.in-Own.field-0 in
    let places : c.args.self.now.places ≡ own_places count = rw (← c.self.view_is, c.in-Own.is) refl in
    let long : 1 ≤ length (own_places count) = rw places at c.requires in
    let some : 1 ≤ count = subst (λ (n : ℕ). 1 ≤ n) (length-own_places count) long in
    c.id_at.ensures ∙ ap id_in (sym (first_own c.args.list.now count some))
    ∙ ap (λ (ps : List (Option ℕ)). id_in (get_or (map (value_at c.args.list.now) ps) 0 Null)) (sym places)
