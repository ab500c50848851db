use Rattle.std.proofs.Common.{◌≡◌, None, sym}
use Rattle.rt_table_plan.specs.Drafts.{known_of}
use Rattle.rt_table_plan.proofs.Ids.{untouched}
use Rattle.rt_table_plan.proofs.draft.Draft.is_there.Goals as goal

pub returns-in-None : goal.returns-in-None
returns-in-None g c =
    let none : known_of c.args.self.now c.args.id.now ≡ None = sym c.in-None.ensures in
    untouched c.args.store.now.rows (known_of c.args.self.now) c.args.id.now c.contains.result none c.contains.ensures
