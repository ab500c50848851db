use Rattle.std.proofs.Common.{◌≡◌, ◌≢◌, ◌≤◌, ◌<◌, ◌⊎◌, inl, inr, false, List, [], length, arith, rules, sym, ap, subst}
use Rattle.rt_table_row.specs.Rows.{TableRow, has_id, without_id}
use Rattle.rt_table_row.specs.Edits.{most_rows}
use Rattle.rt_table_row.specs.Entries.{row_of}
use Rattle.rt_table_store.specs.Trees.{IsTreeOf}
use Rattle.rt_table_store.proofs.Sorted.{rises}
use Rattle.rt_table_store.proofs.Counted.{shorter}
use Rattle.rt_table_store.proofs.Staying.{stays-id}
use Rattle.rt_table_store.proofs.store.Store.replace.Goals as goal

pub insert-requires : goal.insert-requires
insert-requires g c =
    let rows = c.args.self.now.rows in
    let new = c.remove.new.self in
    let d : g.row.D ≤ 3 = c.facts.ensures.few in
    let absent : has_id new.rows c.args.row.id ≡ false = subst (λ (rs : List TableRow). has_id rs c.args.row.id ≡ false) (sym c.remove.ensures.rows) c.requires.absent in
    let fewer = shorter rows c.args.id.now (row_of c.remove.result) (rises (λ (r : TableRow). r.id) rows c.facts.ensures.rising) (sym c.remove.ensures.row) in
    let long = ap (λ (rs : List TableRow). length rs) c.remove.ensures.rows in
    let few : length new.rows < most_rows = omega (arith, fewer, long, c.facts.ensures.most) in
    let room : 1 ≤ new.room = omega (arith, c.requires.room, c.remove.ensures.room) in
    let auxiliary_room : (c.args.row.auxiliary ≡ []) ⊎ (1 ≤ new.auxiliary_room) = elim c.requires.auxiliary_room [ inl none ↦ inl none | inr some ↦ inr (omega (arith, some, c.remove.ensures.auxiliary_room)) ] in
    search rules

pub returns-clause-tree : goal.returns-clause-tree
returns-clause-tree g c =
    let rows = c.args.self.now.rows in
    let row = row_of c.args.row in
    let between = c.remove.new.self.tree in
    let tree : IsTreeOf (without_id rows c.args.id.now) between = subst (λ (rs : List TableRow). IsTreeOf rs between) c.remove.ensures.rows c.facts-2.ensures.stands in
    let differs : c.args.id.now ≢ row.id = search rules in
    ((λ holds. absurd (differs (sym (stays-id rows c.args.id.now row holds)))), (λ fails. (between, (c.remove.result.rect, c.remove.ensures.tree), tree, c.insert.ensures.tree)))
