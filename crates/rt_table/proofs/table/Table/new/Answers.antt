use Rattle.std.proofs.Common.{rules}
use Rattle.std.proofs.lemmas.List.Elements.{All-nil}
use Rattle.rt_table_view.specs.Watching.{IsKept}
use Rattle.rt_table.proofs.table.Table.new.Goals as goal

pub invariant_of-result : goal.invariant_of-result
invariant_of-result g c = record {
  some = search rules;
  few = search rules;
  axes_are = search rules;
  rising = search rules;
  kept = rw c.new-2.ensures.items (All-nil (IsKept c.args.columns c.in_ok-store.store.rows));
}
