use Rattle.std.proofs.lemmas.Result.{IfOk-from_err}
use Rattle.rt_map.proofs.shadows.from_shadow.Goals as goal

pub returns-in_err-arena-clause-tree : goal.returns-in_err-arena-clause-tree
returns-in_err-arena-clause-tree g c = IfOk-from_err _ _ c.from_residual.ensures.0

pub returns-in_err-arena-clause-spare : goal.returns-in_err-arena-clause-spare
returns-in_err-arena-clause-spare g c = IfOk-from_err _ _ c.from_residual.ensures.0

pub returns-in_err-arena-clause-again : goal.returns-in_err-arena-clause-again
returns-in_err-arena-clause-again g c = λ shape. IfOk-from_err _ _ c.from_residual.ensures.0
