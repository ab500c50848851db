use Rattle.rt_check_dump.proofs.Cuts.{length-pieces}
use Rattle.rt_check_dump.proofs.pieces.Pieces.new.Goals as goal

pub returns-clause-few : goal.returns-clause-few
returns-clause-few c = (length-pieces c.args.separator c.args.text.now).1
