use Rattle.std.proofs.Common.{◌≡◌, List, sym, subst, ◌∙◌}
use Rattle.rt_box.specs.declared.interval.Interval.{Interval}
use Rattle.rt_box.specs.Window.{IsUnlimited}
use Rattle.rt_table_store.proofs.Windows.{same_windows}
use Rattle.rt_table_store.proofs.select.looked_up_id.Goals as goal

pub returns-then-eq-clause-window : goal.returns-then-eq-clause-window
returns-then-eq-clause-window g c = λ counted.
    let same : c.window.result ≡ c.all.result =
    same_windows g.row.D c.window.result c.all.result c.window.ensures.long c.all.ensures.long (sym c.eq.ensures ∙ c.if-eq.true) in
    let free : IsUnlimited g.row.D c.window.result = subst (λ (w : List Interval). IsUnlimited g.row.D w) (sym same) c.all.ensures in
    (c.window.result, c.window.ensures, free)
