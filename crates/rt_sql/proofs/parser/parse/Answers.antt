use Rattle.std.proofs.Common.{inr}
use Rattle.rt_sql.proofs.Parses.{parses_no_text}
use Rattle.rt_sql.proofs.parser.parse.Goals as goal

pub returns-in-None : goal.returns-in-None
returns-in-None c = inr (parses_no_text c.args.piece.now c.in-Whole.ensures (λ t. c.in-None.ensures (rw c.text.ensures t)))
