use Rattle.std.proofs.Common.{ℕ, ℤ, Some, rules, sym, ap, ◌∙◌, FitsSigned, w32, to_z-of_z}
use Rattle.rt_tree.specs.Lists.{TreeLists}
use Rattle.rt_handle.specs.declared.object.HeldTree.{HeldTree}
use Rattle.rt_calls.specs.Trees.{Removes}
use Rattle.rt_calls.specs.declared.code.Code.{Code}
use Rattle.capi.proofs.OnTrees.{on_tree_by_id}
use Rattle.capi.proofs.tree.juicedelta_tree_remove.Goals as goal

abbrev says : ℤ → (D : ℕ) → HeldTree D → TreeLists D → Code → Type 0
says id D old = Removes id old.tree

pub returns : goal.returns
returns c =
    let fits : FitsSigned w32 c.number-2.result = search rules in
    on_tree_by_id says c.args.id _ _ _ _ _ _ _ (sym (ap Some c.deref_mut.ensures.value ∙ c.in-Some.ensures.object)) c.put.ensures
    (to_z-of_z fits ∙ c.number-2.ensures) (sym (to_z-of_z c.ranges.id)) c.remove_from-code.ensures
