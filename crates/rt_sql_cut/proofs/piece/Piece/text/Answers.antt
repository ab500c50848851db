use Rattle.std.proofs.Common.{rules}
use Rattle.rt_sql_cut.proofs.piece.Piece.text.Goals as goal

pub returns : goal.returns
returns c = search rules
