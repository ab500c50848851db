use Rattle.std.proofs.Common.{lit<}
use Rattle.rt_sql.proofs.Cuts.{cut_after_second}
use Rattle.rt_sql.proofs.lexer.blob.Goals as goal

pub range_from-rest-requires : goal.range_from-rest-requires
range_from-rest-requires c = λ _. cut_after_second c.args.text.now c.utf8.text c.requires.some (rw c.requires.quote (lit< tt))
