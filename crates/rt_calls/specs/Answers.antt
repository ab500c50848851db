-- What a call that reads answers (own).
use Rattle.std.specs.Prelude.{◌≡◌}
use Rattle.rt_handle.specs.Passes.{IsClosed}
use Rattle.rt_handle.specs.declared.pass.Lease.{Lease}
use Rattle.rt_calls.specs.Codes.{number_of}
use Rattle.rt_calls.specs.declared.answer.Answer.{Answer}
use Rattle.rt_calls.specs.declared.answer.PairAnswer.{PairAnswer}
use Rattle.rt_calls.specs.declared.code.Code.{Code}

-- the code's number, and the pass that the lease was
abbrev pub Returns : Code → Lease → Answer → Type 0
Returns code lease answer = (answer.code ≡ number_of code) × IsClosed lease answer.pass

-- the code's number, and both passes
abbrev pub ReturnsBoth : Code → Lease → Lease → PairAnswer → Type 0
ReturnsBoth code one other answer = (answer.code ≡ number_of code) × IsClosed one answer.one × IsClosed other answer.other
