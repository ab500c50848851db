use Rattle.std.proofs.Common.{◌≡◌, sym, ap, subst, ◌∙◌}
use Rattle.rt_table_row.specs.Answers.{GivesAs}
use Rattle.rt_table_row.specs.Arrangements.{row_values}
use Rattle.rt_table_row.specs.NewRows.{given_id}
use Rattle.rt_table_row.specs.Edits.{Steps, id_or_new}
use Rattle.rt_table_row.specs.Entries.{row_of}
use Rattle.rt_table_plan.specs.Counts.{id_or_after}
use Rattle.rt_table_plan.specs.Drafts.{one_step}
use Rattle.rt_table_plan.proofs.Counting.{id_counted}
use Rattle.rt_table_plan.proofs.Putting.{values_made}
use Rattle.rt_table_plan.proofs.insert.put_values.Goals as goal

pub returns : goal.returns
returns g c = λ now knows counts.
    let values = row_values c.args.arrangement.now c.args.values.now in
    let id : c.id_or_new-id.result ≡ id_or_new now (given_id values) =
    c.id_or_new-id.ensures ∙ ap (id_or_after c.args.count.now.largest) c.given_id.ensures ∙ id_counted now c.args.count.now.largest c.args.count.now.room (given_id values) counts in
    subst (λ (steps : Steps). GivesAs one_step steps c.put_row.result)
    (sym (values_made g.row.D c.args.rule now values c.id_or_new-id.result (row_of c.in_ok-row.row) id c.in_ok-row.ensures)) (c.put_row.ensures now knows counts)
