use Rattle.rt_check_dump.proofs.WrittenText.{written-read}
use Rattle.rt_check_dump.proofs.laws.written_is_read.Goals as goal

pub returns : goal.returns
returns c = written-read c.args.shadow.now c.look_at.ensures c.requires
