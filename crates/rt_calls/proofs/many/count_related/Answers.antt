use Rattle.std.proofs.Common.{◌≡◌, ℕ, ◌*◌, ℤ, List, length, arith, sym, ap, subst, ◌∙◌}
use Rattle.std.specs.List.{AllZip}
use Rattle.rt_box.specs.declared.interval.Interval.{Interval}
use Rattle.rt_calls.specs.Many.{IsRelatedCount}
use Rattle.rt_calls.specs.Numbers.{pieces}
use Rattle.rt_calls.specs.Windows.{AdmitsPiece}
use Rattle.rt_calls.proofs.Searching.{are_counted, counts-fit, copied_all}
use Rattle.rt_calls.proofs.many.count_related.Goals as goal

pub write_counts-requires : goal.write_counts-requires
write_counts-requires g c =
    let counts = c.args.counts.now in
    let boxes : List (List ℤ) = pieces (2 * g.row.D) (length counts) c.args.windows.now in
    let admits = subst (λ (ws : List (List Interval)). AllZip (AdmitsPiece g.row.D c.args.relation) boxes ws) (sym c.deref.ensures.value) c.in-Ok.ensures in
    let fit : length c.in-Ok-count_many.numbers.items ≡ length counts =
    counts-fit c.args.tree.now.lists c.args.relation (length counts) c.args.windows.now c.deref.result.now c.in-Ok-count_many.numbers.items admits c.in-Ok-count_many.ensures in
    omega (arith, ap length c.deref-in-Ok-count_many.ensures.value)

pub returns-in-Ok-count_many-clause-counted : goal.returns-in-Ok-count_many-clause-counted
returns-in-Ok-count_many-clause-counted g c =
    let counts = c.args.counts.now in
    let numbers = c.in-Ok-count_many.numbers.items in
    let boxes : List (List ℤ) = pieces (2 * g.row.D) (length counts) c.args.windows.now in
    let admits = subst (λ (ws : List (List Interval)). AllZip (AdmitsPiece g.row.D c.args.relation) boxes ws) (sym c.deref.ensures.value) c.in-Ok.ensures in
    let fit : length numbers ≡ length counts =
    counts-fit c.args.tree.now.lists c.args.relation (length counts) c.args.windows.now c.deref.result.now numbers admits c.in-Ok-count_many.ensures in
    let value = c.deref-in-Ok-count_many.ensures.value in
    subst (λ (told : List ℕ). AllZip (IsRelatedCount c.args.relation c.args.tree.now.lists) boxes told)
    (sym (copied_all c.deref-in-Ok-count_many.result.now counts c.write_counts.new.buffer c.write_counts.ensures (ap length value ∙ fit) ∙ value))
    (are_counted c.args.relation c.args.tree.now.lists c.has_boxes.ensures boxes c.deref.result.now numbers admits c.in-Ok-count_many.ensures)
