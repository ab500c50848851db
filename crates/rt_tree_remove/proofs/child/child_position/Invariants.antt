use Rattle.std.proofs.Common.{◌≡◌, take, count_by, nat_eq}
use Rattle.std.specs.Prelude.{unsigned_abs}
use Rattle.rt_tree_remove.proofs.child.child_position.Given as goal

abbrev pub invariant-loop-place : goal.invariant-loop-place
invariant-loop-place l = count_by (λ n. nat_eq (unsigned_abs n) l.key) (take l.place l.numbers) ≡ 0
