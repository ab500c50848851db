use Rattle.std.proofs.Common.{rules}
use borrow.Author.Tests.{tests}
use Rattle.std.proofs.lemmas.Iterator.{YieldsList-from_slice, YieldsList-from_zip}
use Rattle.std.proofs.lemmas.Iterator.Search.{all_from_yields_List}
use Rattle.rt_table_row.specs.Filters.{passes_at}
use Rattle.rt_table_row.specs.Entries.{view_row}
use Rattle.rt_table_row.proofs.filter.passes_all.Goals as goal

pub returns : goal.returns
returns g c =
    all_from_yields_List (passes_at (view_row c.args.row.now)) c.all.new.self _ _ c.all.ensures.ran
    (YieldsList-from_zip (YieldsList-from_slice c.args.tests.now cc) (YieldsList-from_slice c.args.places.now cc)) (λ x b q k. search (rules, tests))
