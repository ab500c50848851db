use Rattle.std.proofs.Common.{◌≡◌, ◌*◌, true, zip, rules}
use Rattle.std.specs.List.{list_all}
use Rattle.rt_table_row.specs.Windows.{is_said}
use Rattle.rt_table_row.proofs.Windows.{says-all}
use Rattle.rt_table_row.proofs.filter.Filter.is_said.Goals as goal

pub returns-clause-all : goal.returns-clause-all
returns-clause-all g c is =
    let said : list_all (is_said (2 * g.row.D)) (zip c.args.self.now.cond c.args.self.now.places) ≡ true = search rules in
    says-all g.row.D c.args.self.now said
