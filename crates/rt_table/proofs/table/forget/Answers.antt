use Rattle.std.proofs.Common.{◌≡◌, Some, None, sym, ◌∙◌}
use Rattle.std.specs.Prelude.{position}
use Rattle.std.proofs.lemmas.List.Quantifiers.{position-Some}
use Rattle.rt_sql_statement.specs.Name.{same_name}
use Rattle.rt_table_view.specs.declared.view.Watched.{Watched}
use Rattle.rt_table.proofs.Viewing.{sifted_out, none_sifted, not_placed}
use Rattle.rt_table.proofs.table.forget.Goals as goal

pub loop-at-preserved : goal.loop-at-preserved
loop-at-preserved c =
    let at : position (λ (w : Watched). same_name c.args.name.now w.name) c.loop-at.views.items ≡ Some c.in-Some.at = rw c.as_slice.ensures.value at (sym c.in-Some.ensures) in
    let found = position-Some (λ (w : Watched). same_name c.args.name.now w.name) c.loop-at.views.items c.in-Some.at c.remove.result at in
    rw c.remove.ensures.items (sifted_out (λ (w : Watched). same_name c.args.name.now w.name) c.loop-at.views.items c.in-Some.at c.remove.result found.0 found.1 ∙ c.loop-at.invariant)

pub returns : goal.returns
returns c =
    let none : position (λ (w : Watched). same_name c.args.name.now w.name) c.loop-at.views.items ≡ None = rw c.as_slice.ensures.value at (sym c.in_default.ensures) in
    sym (none_sifted (λ (w : Watched). same_name c.args.name.now w.name) c.loop-at.views.items (not_placed (λ (w : Watched). same_name c.args.name.now w.name) c.loop-at.views.items none))
    ∙ c.loop-at.invariant
