use Rattle.std.proofs.Common.{◌≡◌, Bool, true, false, cond, [], ◌∷◌, map, None, Some, FitsSigned, w64, to_z-of_z, rules, sym, ap, ◌∙◌}
use Rattle.rt_table_row.specs.Rows.{row_at}
use Rattle.rt_table_row.specs.Entries.{view_row}
use Rattle.rt_table_row.specs.Filters.{admits}
use Rattle.rt_table_store.specs.Trees.{leaf_row}
use Rattle.rt_table_store.proofs.Sorted.{rises}
use Rattle.rt_table_store.proofs.Picked.{none_left, one_left}
use Rattle.rt_table_store.proofs.store.Store.passing_row.Goals as goal

pub returns-in_default : goal.returns-in_default
returns-in_default g c =
    let missing : row_at c.args.self.now.rows c.args.id.now ≡ None = search rules in
    sym (ap (map leaf_row) (none_left (λ r. r.id) (admits c.args.condition.now) c.args.id.now c.requires c.args.self.now.rows missing))

pub returns-then-not-holds : goal.returns-then-not-holds
returns-then-not-holds g c =
    let found : row_at c.args.self.now.rows c.args.id.now ≡ Some (view_row c.in-Some.view) = search rules in
    let fails : admits c.args.condition.now (view_row c.in-Some.view) ≡ false = search rules in
    sym (ap (map leaf_row)
    (one_left (λ r. r.id) (admits c.args.condition.now) c.args.id.now c.requires c.args.self.now.rows (view_row c.in-Some.view) (rises (λ r. r.id) c.args.self.now.rows c.facts.ensures.rising) found
    ∙ ap (λ (b : Bool). cond b (view_row c.in-Some.view ∷ []) []) fails))

pub returns : goal.returns
returns g c =
    let found : row_at c.args.self.now.rows c.args.id.now ≡ Some (view_row c.in-Some.view) = search rules in
    let passes : admits c.args.condition.now (view_row c.in-Some.view) ≡ true = search rules in
    let fits : FitsSigned w64 c.in-Some.view.id = search rules in
    rw (to_z-of_z fits)
    (sym (ap (map leaf_row)
    (one_left (λ r. r.id) (admits c.args.condition.now) c.args.id.now c.requires c.args.self.now.rows (view_row c.in-Some.view) (rises (λ r. r.id) c.args.self.now.rows c.facts.ensures.rising) found
    ∙ ap (λ (b : Bool). cond b (view_row c.in-Some.view ∷ []) []) passes)))
