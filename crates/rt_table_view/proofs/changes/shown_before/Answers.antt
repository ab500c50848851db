use Rattle.std.proofs.Common.{◌≡◌, true, false, sym, rules, ◌∙◌}
use Rattle.std.specs.List.{list_any}
use Rattle.std.specs.Ordering.{int_eq}
use Rattle.rt_table_row.specs.Rows.{row_at}
use Rattle.rt_table_row.specs.Filters.{admits}
use Rattle.rt_table_view.proofs.Touching.{shown_in, shown_out}
use Rattle.rt_table_view.proofs.changes.shown_before.Goals as goal

pub returns-then-not-contains : goal.returns-then-not-contains
returns-then-not-contains g c =
    let out : list_any (int_eq c.args.id.now) c.args.view.now.ids.keys ≡ false = search rules in
    sym (shown_out (admits c.args.view.now.filter) (row_at c.args.store.now.rows c.args.id.now) (sym (c.requires c.args.id.now) ∙ out))

pub returns : goal.returns
returns g c =
    let within : list_any (int_eq c.args.id.now) c.args.view.now.ids.keys ≡ true = search rules in
    c.get.ensures ∙ sym (shown_in (admits c.args.view.now.filter) (row_at c.args.store.now.rows c.args.id.now) (sym (c.requires c.args.id.now) ∙ within))
