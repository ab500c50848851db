-- What a call did to the object of a handle, said of the handle.
use Rattle.std.proofs.Common.{◌≡◌, ℕ, ℤ, Some, None, sym, subst}
use Rattle.std.specs.Prelude.{Option}
use Rattle.rt_tree.specs.Lists.{TreeLists}
use Rattle.rt_handle.specs.declared.object.HeldTree.{HeldTree}
use Rattle.rt_handle.specs.declared.object.Object.{Object}
use Rattle.rt_calls.specs.Calls.{OnTree, Fills, Opens}
use Rattle.rt_calls.specs.Codes.{number_of}
use Rattle.rt_calls.specs.declared.code.Code.{Code}
use Rattle.rt_calls.specs.declared.code.Code.TheVariants.{Done, Closed, OtherKind, AlreadyOpen, BadCapacity, BadBox, IdTaken, IdMissing, BufferTooSmall, OutOfMemory, TreeFull, Ended, TooLong, BadDump, BadLength, BadAxes, BadRelation, Empty, BadBytes}

pub on_tree_by_id : (says : ℤ → (D : ℕ) → HeldTree D → TreeLists D → Code → Type 0) (id given : ℤ) (held new : Option Object) (object after : Object)
    (number told : ℤ) → held ≡ Some object → new ≡ Some after → number ≡ told → id ≡ given →
    OnTree (Some object) (Some after) (says given) told → OnTree held new (says id) number
on_tree_by_id says id given held new object after number told was is same one so =
    subst (λ h. OnTree h new (says id) number) (sym was)
    (subst (λ n. OnTree (Some object) n (says id) number) (sym is)
    (subst (λ z. OnTree (Some object) (Some after) (says id) z) (sym same) (subst (λ i. OnTree (Some object) (Some after) (says i) told) (sym one) so)))

pub filled : (made : Object → Type 0) (refused : Code → Type 0) (new : Option Object) (object : Object) (code : Code) (number : ℤ) →
    Fills object new code → made object → refused OutOfMemory → number ≡ number_of code → Opens None new made refused number
filled made refused new object Done number is so none same = subst (λ n. Opens None n made refused number) (sym is) (same, so)
filled made refused new object OutOfMemory number is so none same = subst (λ n. Opens None n made refused number) (sym is) (OutOfMemory, same, none)
filled made refused new object Closed number is so none same = absurd is
filled made refused new object OtherKind number is so none same = absurd is
filled made refused new object AlreadyOpen number is so none same = absurd is
filled made refused new object BadCapacity number is so none same = absurd is
filled made refused new object BadBox number is so none same = absurd is
filled made refused new object IdTaken number is so none same = absurd is
filled made refused new object IdMissing number is so none same = absurd is
filled made refused new object BufferTooSmall number is so none same = absurd is
filled made refused new object TreeFull number is so none same = absurd is
filled made refused new object Ended number is so none same = absurd is
filled made refused new object TooLong number is so none same = absurd is
filled made refused new object BadDump number is so none same = absurd is
filled made refused new object BadLength number is so none same = absurd is
filled made refused new object BadAxes number is so none same = absurd is
filled made refused new object BadRelation number is so none same = absurd is
filled made refused new object Empty number is so none same = absurd is
filled made refused new object BadBytes number is so none same = absurd is

pub opened : (made : Object → Type 0) (refused : Code → Type 0) (old new : Option Object) (object : Object) (code : Code) (number : ℤ) →
    old ≡ None → Fills object new code → made object → refused OutOfMemory → number ≡ number_of code → Opens old new made refused number
opened made refused old new object code number closed is so none same =
    subst (λ o. Opens o new made refused number) (sym closed) (filled made refused new object code number is so none same)
