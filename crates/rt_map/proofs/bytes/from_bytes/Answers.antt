use Rattle.std.proofs.lemmas.Result.{IfOk-from_err}
use Rattle.rt_map.specs.declared.bytes_fault.BytesFault.TheVariants.{Bad}
use Rattle.rt_map.proofs.Faults.{err-is}
use Rattle.rt_map.proofs.bytes.from_bytes.Goals as goal

pub returns-in_err-arena-clause-tree : goal.returns-in_err-arena-clause-tree
returns-in_err-arena-clause-tree g c = IfOk-from_err _ _ c.from_residual.ensures.0

pub returns-in_err-arena-clause-spare : goal.returns-in_err-arena-clause-spare
returns-in_err-arena-clause-spare g c = IfOk-from_err _ _ c.from_residual.ensures.0

pub returns-in_err-arena-clause-head : goal.returns-in_err-arena-clause-head
returns-in_err-arena-clause-head g c = λ none.
    err-is c.from_residual.result c.in_err-arena.field-0.0 Bad c.from_residual.ensures.1 (c.in_err-arena.ensures.head none)

pub returns-clause-head : goal.returns-clause-head
returns-clause-head g c = λ none. let read = c.in_ok-arena.ensures.head none in cc
