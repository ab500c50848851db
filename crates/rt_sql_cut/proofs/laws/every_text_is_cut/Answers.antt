use Rattle.rt_sql_cut.proofs.CutterLaws.{cut_somehow}
use Rattle.rt_sql_cut.proofs.laws.every_text_is_cut.Goals as goal

pub returns : goal.returns
returns c = cut_somehow
