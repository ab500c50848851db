use Rattle.rt_sql_cut.proofs.CutterLaws.{cut_one_way}
use Rattle.rt_sql_cut.proofs.laws.cutting_is_determined.Goals as goal

pub returns : goal.returns
returns c = cut_one_way
