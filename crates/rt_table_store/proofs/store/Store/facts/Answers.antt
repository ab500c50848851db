use Rattle.std.proofs.Common.{◌≤◌, length, subst}
use Rattle.std.proofs.lemmas.List.{length-map}
use Rattle.rt_table_row.specs.Rows.{AreRising}
use Rattle.rt_table_row.specs.Edits.{most_rows}
use Rattle.rt_table_store.specs.StoreLists.{StoreLists}
use Rattle.rt_table_store.specs.StoreInside.{rows_in}
use Rattle.rt_table_store.specs.Trees.{IsTreeOf}
use Rattle.rt_table_store.proofs.Joined.{are-rising}
use Rattle.rt_table_store.proofs.Counted.{is-tree}
use Rattle.rt_table_store.proofs.store.Store.facts.Goals as goal

pub returns-clause-rising : goal.returns-clause-rising
returns-clause-rising g c =
    subst (λ (v : StoreLists g.row.D). AreRising v.rows) c.self.view_is (are-rising c.self.inside.tree.lists c.is_in_shape.ensures c.self.inside.auxiliary)

pub returns-clause-stands : goal.returns-clause-stands
returns-clause-stands g c =
    subst (λ (v : StoreLists g.row.D). IsTreeOf v.rows v.tree) c.self.view_is (is-tree c.self.inside.tree.lists c.is_in_shape.ensures c.self.inside.auxiliary)

pub returns-clause-most : goal.returns-clause-most
returns-clause-most g c =
    let most : length (rows_in c.self.inside.tree.lists c.self.inside.auxiliary) ≤ most_rows = simp length-map c.self.invariant.most in
    subst (λ (v : StoreLists g.row.D). length v.rows ≤ most_rows) c.self.view_is most
