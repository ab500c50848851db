-- A removal has one answer, and so has a replacement.
use Rattle.std.proofs.Common.{sym, ◌∙◌, subst}
use Rattle.rt_check.specs.Shadow.{ShadowLists}
use Rattle.rt_tree.specs.Changes.{IsInsertion}
use Rattle.rt_tree_rules.specs.Nested.{Tree}
use Rattle.rt_tree_rules.specs.Removing.{IsRemoval as RemovesByRules}
use Rattle.rt_tree_rules.specs.Shadow.{Shows}
use Rattle.rt_tree_rules.proofs.Uniqueness.{removal}
use Rattle.rt_tree_one.specs.Laws.{RemovalIsDetermined, ReplacementIsDetermined}
use Rattle.rt_tree_one.proofs.Inserted.{same_lists, one_shown, one_answer as insertion_answer}

pub one_answer : RemovalIsDetermined
one_answer axes old one other id rect said shape shape_too step step_too =
    let begin = one_shown old step_too.before step.before step_too.shows_before step.shows_before in
    let ruled = subst (λ (x : Tree). RemovesByRules axes old.capacity x id step_too.after) begin step_too.removal in
    let same = removal axes old.capacity step.before step.after step_too.after id step.removal ruled in
    same_lists one other step_too.after shape shape_too (step.capacity ∙ sym step_too.capacity) (subst (Shows one) same step.shows_after) step_too.shows_after

pub replacement_answer : ReplacementIsDetermined
replacement_answer axes old one other id rect shape shape_too step step_too =
    let between = one_answer axes old step.between step_too.between id step.was step_too.was step.shape step_too.shape step.removal step_too.removal in
    (insertion_answer axes step_too.between one other id rect step.work step_too.work shape shape_too
    (subst (λ (s : ShadowLists axes). IsInsertion s one id rect step.work) between step.insertion) step_too.insertion).0
