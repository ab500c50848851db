use Rattle.std.proofs.Common.{◌≡◌, List, [], sym, ap, subst}
use Rattle.std.proofs.lemmas.List.Elements.{All-from_recursion}
use Rattle.rt_table_row.specs.Entries.{row_of}
use Rattle.rt_table_row.specs.Rows.{TableRow}
use Rattle.rt_table_view.specs.Watching.{IsKept, view_of}
use Rattle.rt_table.specs.Held.{Held}
use Rattle.rt_table.specs.TableInside.{contents}
use Rattle.rt_table.proofs.Leaving.{none_mapped, left-rows, left-tree}
use Rattle.rt_table.proofs.table.Table.take.Goals as goal

pub invariant_of-self : goal.invariant_of-self
invariant_of-self g c =
    let i = c.self.inside in
    let none : i.views.items ≡ [] =
    none_mapped view_of i.views.items (subst (λ (h : Held g.row.D). h.lists.views ≡ []) (sym c.self.view_is) c.requires) in
    record {
      some = c.self.invariant.some;
      few = c.self.invariant.few;
      axes_are = c.self.invariant.axes_are;
      rising = c.facts-2.ensures.rising;
      kept = rw none (All-from_recursion (IsKept i.columns c.take.new.self.rows) [] tt);
    }

pub returns-clause-lists : goal.returns-clause-lists
returns-clause-lists g c =
    let i = c.self.inside in
    rw (← c.self.view_is) (
    ap (λ (rows : List TableRow). record (contents i).lists { rows = rows })
    (left-rows row_of c.args.id.now i.store c.take.new.self c.take.result c.take.ensures.row c.take.ensures.none c.take.ensures.rows)
    )

pub returns-clause-tree : goal.returns-clause-tree
returns-clause-tree g c =
    let i = c.self.inside in
    rw (← c.self.view_is) (
    left-tree row_of c.args.id.now i.store c.take.new.self (λ r. r.rect) c.take.result c.take.ensures.row c.take.ensures.none c.take.ensures.rows
    c.take.ensures.tree c.take.ensures.capacity c.facts-2.ensures.stands
    )
