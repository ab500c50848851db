use Rattle.rt_sql.proofs.QuoteAtoms.{quotes_atoms}
use Rattle.rt_sql.proofs.laws.quotes_are_atoms.Goals as goal

pub returns : goal.returns
returns c = quotes_atoms
