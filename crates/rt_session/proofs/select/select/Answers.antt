use Rattle.std.proofs.Common.{◌≡◌, ◌∙◌, true, [], ◌∷◌, Some, sym, ap, subst, rules}
use Rattle.rt_table_row.specs.Columns.{Columns}
use Rattle.rt_reply.specs.Rows.{values_in}
use Rattle.rt_session.specs.Session.{is_by_id}
use Rattle.rt_session.specs.Selecting.{ArePlaces}
use Rattle.rt_session.proofs.Columns.{selected_columns, selected_ids}
use Rattle.rt_session.proofs.select.select.Goals as goal

pub returns-then-is_id_alone : goal.returns-then-is_id_alone
returns-then-is_id_alone c =
    let t = c.args.table.now.lists in
    let names = c.as_slice.result.now in
    let by_id : is_by_id t.columns c.args.order.now ≡ true =
    ap (λ (s : Columns). is_by_id s c.args.order.now) (sym c.schema.ensures) ∙ sym c.is_by_id.ensures ∙ c.if-not-is_by_id.false in
    let placed : ArePlaces t.columns.names names c.in_ok-places.places.items =
    subst (λ (s : Columns). ArePlaces s.names names c.in_ok-places.places.items) c.schema-2.ensures c.in_ok-places.ensures.ok in
    let alone : c.in_ok-places.places.items ≡ 0 ∷ [] = sym c.as_slice-2.ensures.value ∙ c.is_id_alone.ensures c.if-is_id_alone.true in
    let listed : c.args.columns.now ≡ Some names = search (rules, c.in-Some.is, c.as_slice.ensures) in
    rw listed
    (selected_ids t names c.args.cond c.args.order.now c.in_ok-places.places.items c.in_ok-ids.ids.items placed alone by_id c.in_ok-ids.ensures.ok)

pub returns : goal.returns
returns c =
    let t = c.args.table.now.lists in
    let names = c.as_slice.result.now in
    let by_id : is_by_id t.columns c.args.order.now ≡ true =
    ap (λ (s : Columns). is_by_id s c.args.order.now) (sym c.schema.ensures) ∙ sym c.is_by_id.ensures ∙ c.if-not-is_by_id.false in
    let placed : ArePlaces t.columns.names names c.in_ok-places.places.items =
    subst (λ (s : Columns). ArePlaces s.names names c.in_ok-places.places.items) c.schema-2.ensures c.in_ok-places.ensures.ok in
    let listed : c.args.columns.now ≡ Some names = search (rules, c.in-Some.is, c.as_slice.ensures) in
    rw listed
    (selected_columns t names c.args.cond c.args.order.now c.in_ok-places.places.items (values_in c.in_ok-found-2.found.rows) placed by_id c.in_ok-found-2.ensures.ok)
