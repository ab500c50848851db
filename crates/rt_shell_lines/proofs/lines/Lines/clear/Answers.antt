use Rattle.std.proofs.Common.{arith}
use Rattle.std.proofs.lemmas.List.{drop_all}
use Rattle.rt_shell_lines.proofs.lines.Lines.clear.Goals as goal

pub returns : goal.returns
returns c = drop_all 2048 c.self.inside.bytes (omega (arith, c.self.invariant.1))
