use Rattle.std.proofs.Common.{◌≡◌, length, rules}
use Rattle.rt_table_row.specs.Entries.{view_row}
use Rattle.rt_table_row.proofs.Same.{same_row-parts}
use Rattle.rt_table_row.proofs.entry.RowView.is_same.Goals as goal
use Rattle.rt_table_row.proofs.entry.RowView.is_same.Goals.{then-self-other, else-self-other}

pub returns-then-eq : goal.returns-then-eq
returns-then-eq g c =
    let long : length c.args.self.now.rect ≡ length c.args.other.now.rect = c.have_as_many_axes.ensures in
    let parts = same_row-parts (view_row c.args.self.now) (view_row c.args.other.now) long in
    elim c.if-self-other.branch [
      | then-self-other w ↦ search (rules, parts, w.if-self-other, w.eq.ensures, w.value-is, c.if-eq.true, c.eq-then-eq.ensures)
      | else-self-other w ↦ search (rules, parts, w.if-self-other, w.value-is, c.if-eq.true, c.eq-then-eq.ensures)
    ]

pub returns-else-eq : goal.returns-else-eq
returns-else-eq g c =
    let long : length c.args.self.now.rect ≡ length c.args.other.now.rect = c.have_as_many_axes.ensures in
    let parts = same_row-parts (view_row c.args.self.now) (view_row c.args.other.now) long in
    elim c.if-self-other.branch [
      | then-self-other w ↦ search (rules, parts, w.if-self-other, w.eq.ensures, w.value-is, c.if-eq.false)
      | else-self-other w ↦ search (rules, parts, w.if-self-other, w.value-is, c.if-eq.false)
    ]
