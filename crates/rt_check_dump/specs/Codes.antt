-- The faults of a dump's line, as they are printed (own).
use Rattle.std.specs.Prelude.{ℕ, List, codes}
use Rattle.rt_check_dump.specs.declared.fault.LineFault.{LineFault}
use Rattle.rt_check_dump.specs.declared.fault.LineFault.TheVariants.{Truncated, BadLine, CountWrong, OutOfRange, ListedTwice}

abbrev pub code_of : LineFault → ℕ
code_of BadLine = 1
code_of ListedTwice = 2
code_of CountWrong = 3
code_of OutOfRange = 4
code_of Truncated = 5

abbrev pub fault_text : LineFault → List ℕ
fault_text BadLine = codes "bad line"
fault_text ListedTwice = codes "listed twice"
fault_text CountWrong = codes "count wrong"
fault_text OutOfRange = codes "out of range"
fault_text Truncated = codes "truncated"
