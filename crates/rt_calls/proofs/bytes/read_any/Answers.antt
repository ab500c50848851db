use Rattle.std.proofs.Common.{◌≡◌, ℕ, List, Result, Ok, Err, sym, subst}
use Rattle.std.specs.Result.{IsErrAnd}
use Rattle.rt_handle.specs.declared.object.Object.{Object}
use Rattle.rt_calls.specs.declared.code.Code.{Code}
use Rattle.rt_calls.specs.Bytes.{OpensNoBytes, ReadsAnyBytes}
use Rattle.rt_calls.proofs.bytes.read_any.Goals as goal

-- why there is no tree of the one number of axes, there is none of the other, which is the same
refused : (axes one : ℕ) (bytes : List ℕ) (r : Result Object Code) (code : Code) → axes ≡ one → IsErrAnd r (λ c. c ≡ code) → OpensNoBytes one bytes code → ReadsAnyBytes axes bytes r
refused axes one bytes (Ok object) code same is why = absurd is
refused axes one bytes (Err c) code same is why = subst (λ n. OpensNoBytes n bytes c) (sym same) (subst (OpensNoBytes one bytes) (sym is) why)

pub returns-in_err-read_bytes-in-1 : goal.returns-in_err-read_bytes-in-1
returns-in_err-read_bytes-in-1 c =
    refused c.args.axes 1 c.args.bytes.now c.from_residual.result c.in_err-read_bytes-in-1.field-0.0 c.in-1.is c.from_residual.ensures.1 c.in_err-read_bytes-in-1.ensures

pub returns-in_err-read_bytes-in-2 : goal.returns-in_err-read_bytes-in-2
returns-in_err-read_bytes-in-2 c =
    refused c.args.axes 2 c.args.bytes.now c.from_residual-in_err-read_bytes-in-2.result c.in_err-read_bytes-in-2.field-0.0 c.in-2.is c.from_residual-in_err-read_bytes-in-2.ensures.1
    c.in_err-read_bytes-in-2.ensures

pub returns-in_err-read_bytes-in-3 : goal.returns-in_err-read_bytes-in-3
returns-in_err-read_bytes-in-3 c =
    refused c.args.axes 3 c.args.bytes.now c.from_residual-in_err-read_bytes-in-3.result c.in_err-read_bytes-in-3.field-0.0 c.in-3.is c.from_residual-in_err-read_bytes-in-3.ensures.1
    c.in_err-read_bytes-in-3.ensures
