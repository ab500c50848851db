use Rattle.rt_check_dump.proofs.ReasonsText.{dump-or-faulty, one-answer}
use Rattle.rt_check_dump.proofs.laws.texts_have_one_answer.Goals as goal

pub returns : goal.returns
returns c = record { some = dump-or-faulty; one = one-answer }
