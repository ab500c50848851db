use Rattle.std.proofs.Common.{◌≡◌, List, sym, subst, ◌∙◌}
use Rattle.rt_box.specs.declared.interval.Interval.{Interval}
use Rattle.rt_box.specs.Window.{IsUnlimited}
use Rattle.rt_box.proofs.Narrowing.{Admits-unlimited}
use Rattle.rt_table_store.proofs.Windows.{same_windows}
use Rattle.rt_table_store.proofs.select.picks_all.Goals as goal

pub returns-then-is_said : goal.returns-then-is_said
returns-then-is_said g c = λ yes. λ row box.
    let same : c.window.result ≡ c.all.result =
    same_windows g.row.D c.window.result c.all.result c.window.ensures.long c.all.ensures.long (sym c.eq.ensures ∙ yes) in
    let free : IsUnlimited g.row.D c.window.result = subst (λ (w : List Interval). IsUnlimited g.row.D w) (sym same) c.all.ensures in
    c.is_said.ensures.all c.if-is_said.true c.window.result row c.window.ensures (Admits-unlimited g.row.D c.window.result row.box free box)
