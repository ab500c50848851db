-- What holds of the fault that a call returns.
use Rattle.std.proofs.Common.{◌≡◌, ℕ, ◌≤◌, ℤ, List, length, Result, Ok, Err, arith, refl, sym, subst}
use Rattle.std.specs.Result.{IfErr, IsErrAnd, MatchResult}
use Rattle.rt_tree_node.specs.Whole.{most_rows_of_a_tree}
use Rattle.rt_tree_pack.specs.Packing.{IsFirstRepeated, IsFaultOf}
use Rattle.rt_tree_pack.specs.declared.fault.PackFault.{PackFault}
use Rattle.rt_tree_pack.specs.declared.fault.PackFault.TheVariants.{TooMany, Repeated, Memory}

-- what holds of a fault holds of an `Err` of it
pub err-of : {A E : Type 0} (r : Result A E) (e : E) (P : E → Type 0) → IsErrAnd r (λ f. f ≡ e) → P e → IfErr r P
err-of (Ok x) e P is holds = absurd is
err-of (Err f) e P is holds = subst P (sym is) holds

-- want of memory says nothing of the rows
pub no-memory : {A : Type 0} (r : Result A PackFault) (ids : List ℤ) → IsErrAnd r (λ f. f ≡ Memory) → IfErr r (IsFaultOf ids)
no-memory r ids is = err-of r Memory (IsFaultOf ids) is tt

-- no other fault than want of memory is left
pub only-memory : (ids : List ℤ) (fault : PackFault) → length ids ≤ most_rows_of_a_tree → ((at : ℕ) → ¬ IsFirstRepeated ids at) → IsFaultOf ids fault → fault ≡ Memory
only-memory ids TooMany few once is = absurd (omega arith)
only-memory ids (Repeated at) few once is = absurd (once at is)
only-memory ids Memory few once is = refl

-- what holds of a fault holds of an `Err` of it
pub err-matches : {A E : Type 0} (r : Result A E) (e : E) (P : A → Type 0) (Q : E → Type 0) → IsErrAnd r (λ f. f ≡ e) → Q e → MatchResult r P Q
err-matches (Ok x) e P Q is holds = absurd is
err-matches (Err f) e P Q is holds = subst Q (sym is) holds

-- an `Err` that is passed on is the same `Err`
pub err-is : {A B E : Type 0} (r : Result A E) (e f : E) → IsErrAnd r (λ x. x ≡ e) → ◌≡◌ {A = Result B E} (Err e) (Err f) → r ≡ Err f
err-is (Ok x) e f is same = absurd is
err-is (Err x) e f is same = cc
