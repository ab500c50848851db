use Rattle.std.proofs.Common.{◌≡◌, IfSome, Ok, sym, subst}
use Rattle.rt_table_row.specs.Edits.{delete, leaving}
use Rattle.rt_table.specs.Held.{Held}
use Rattle.rt_table.proofs.Leaving.{alone, unwatched, each-way}
use Rattle.rt_table.proofs.table.Table.leaving_id.Goals as goal

pub returns-clause-unwatched : goal.returns-clause-unwatched
returns-clause-unwatched g c = each-way c.lone_id.result (unwatched c.args.self.now.lists.views (sym c.if-watched.ensures))

pub returns-clause-steps : goal.returns-clause-steps
returns-clause-steps g c =
    let i = c.self.inside in
    let cond = c.in-Delete.cond in
    rw c.in-Delete.is (
    subst (λ (h : Held g.row.D). IfSome c.lone_id.result (λ id. delete h.lists.columns h.lists.rows cond ≡ Ok (leaving h.lists.rows id))) c.self.view_is
    (alone i.columns i.store.rows cond c.lone_id.result c.self.invariant.rising c.lone_id.ensures.known c.lone_id.ensures.exact)
    )
