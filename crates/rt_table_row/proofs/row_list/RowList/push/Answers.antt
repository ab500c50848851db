use Rattle.std.proofs.Common.{rules, FitsSigned, w64, to_z-of_z, ◌≡◌, ℤ, List, [], ◌∷◌, ◌++◌, map, length, ap, ◌∙◌}
use Rattle.rt_box.specs.Rect.{coordinates}
use Rattle.rt_sql_statement.specs.declared.value.Value.{Value}
use Rattle.rt_sql_statement.specs.declared.value.Value.TheVariants.{Int}
use Rattle.rt_table_row.specs.declared.row_list.Place.{Place}
use Rattle.rt_table_row.specs.RowLists.{row_in}
use Rattle.rt_table_row.proofs.RowLists.{rows-push, rows-kept, on_err}
use Rattle.rt_table_row.proofs.row_list.RowList.push.Goals as goal

pub returns-clause-ok : goal.returns-clause-ok
returns-clause-ok g c =
    let numbers = c.self.inside.numbers.items in
    let values = c.self.inside.values.items in
    let places = c.self.inside.places.items in
    let ns = c.args.row.now.id ∷ coordinates c.args.row.now.rect in
    let vs = c.args.row.now.auxiliary.now in
    let place : Place = record { numbers = record { start = c.len-first.result; end = c.len.result }; auxiliary = record { start = c.len-start.result; end = c.len-2.result } } in
    let fits : FitsSigned w64 c.args.row.now.id = search rules in
    let all_numbers : c.push_numbers.new.numbers.items ≡ numbers ++ ns = rw (to_z-of_z fits) at c.in_ok-push_numbers.ensures.ok in
    let all_values : c.push_copies.new.values.items ≡ values ++ vs = c.in_ok-push_copies.ensures.ok in
    let all_places : c.push.new.self.items ≡ places ++ place ∷ [] = c.in_ok-push.ensures.items in
    let first : c.len-first.result ≡ length numbers = search rules in
    let last : c.len.result ≡ length c.push_numbers.new.numbers.items = search rules in
    let start : c.len-start.result ≡ length values = search rules in
    let end : c.len-2.result ≡ length c.push_copies.new.values.items = search rules in
    ap (λ (ps : List Place). map (row_in c.push_numbers.new.numbers.items c.push_copies.new.values.items) ps) all_places
    ∙ ap (λ (xs : List ℤ). map (row_in xs c.push_copies.new.values.items) (places ++ place ∷ [])) all_numbers
    ∙ ap (λ (xs : List Value). map (row_in (numbers ++ ns) xs) (places ++ place ∷ [])) all_values
    ∙ rows-push numbers ns values vs places place c.self.invariant first (last ∙ ap length all_numbers) start (end ∙ ap length all_values)
    ∙ ap (λ (rows : List (List Value)). rows ++ (map Int ns ++ vs) ∷ []) c.self.view_is

pub returns-in_err-push_copies-clause-refused : goal.returns-in_err-push_copies-clause-refused
returns-in_err-push_copies-clause-refused g c =
    let numbers = c.self.inside.numbers.items in
    let values = c.self.inside.values.items in
    let places = c.self.inside.places.items in
    let ns = c.args.row.now.id ∷ coordinates c.args.row.now.rect in
    let fits : FitsSigned w64 c.args.row.now.id = search rules in
    let all_numbers : c.push_numbers.new.numbers.items ≡ numbers ++ ns = rw (to_z-of_z fits) at c.in_ok-push_numbers.ensures.ok in
    on_err c.from_residual-in_err-push_copies.result (ap (λ (xs : List ℤ). map (row_in xs c.push_copies.new.values.items) places) all_numbers
    ∙ rows-kept numbers ns values c.push_copies.new.values.items places c.self.invariant c.push_copies.ensures.kept
    ∙ c.self.view_is)

pub returns-in_err-push-clause-refused : goal.returns-in_err-push-clause-refused
returns-in_err-push-clause-refused g c =
    let numbers = c.self.inside.numbers.items in
    let values = c.self.inside.values.items in
    let places = c.self.inside.places.items in
    let ns = c.args.row.now.id ∷ coordinates c.args.row.now.rect in
    let fits : FitsSigned w64 c.args.row.now.id = search rules in
    let all_numbers : c.push_numbers.new.numbers.items ≡ numbers ++ ns = rw (to_z-of_z fits) at c.in_ok-push_numbers.ensures.ok in
    let all_places : c.push.new.self.items ≡ places = c.in_err-push.ensures.items in
    on_err c.from_residual-in_err-push.result (ap (λ (ps : List Place). map (row_in c.push_numbers.new.numbers.items c.push_copies.new.values.items) ps) all_places
    ∙ ap (λ (xs : List ℤ). map (row_in xs c.push_copies.new.values.items) places) all_numbers
    ∙ rows-kept numbers ns values c.push_copies.new.values.items places c.self.invariant c.push_copies.ensures.kept
    ∙ c.self.view_is)
