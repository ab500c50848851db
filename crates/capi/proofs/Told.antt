-- What a call told of the object of a handle, said of the handle.
use Rattle.std.proofs.Common.{◌≡◌, ℕ, ℤ, sym, subst}
use Rattle.std.specs.Prelude.{Option}
use Rattle.rt_live.specs.Live.{LiveLists}
use Rattle.rt_tree.specs.Lists.{TreeLists}
use Rattle.rt_handle.specs.declared.object.Object.{Object}
use Rattle.rt_calls.specs.Calls.{OfTree}
use Rattle.rt_calls.specs.Codes.{number_of}
use Rattle.rt_calls.specs.Live.{OfLive}
use Rattle.rt_calls.specs.Pairs.{OfTrees}
use Rattle.rt_calls.specs.declared.code.Code.{Code}

pub told_of : (says : (D : ℕ) → TreeLists D → Code → Type 0) (seen held : Option Object) (code : Code) (number : ℤ) → seen ≡ held →
    number ≡ number_of code → OfTree seen says (number_of code) → OfTree held says number
told_of says seen held code number is same told = subst (λ h. OfTree h says number) is (subst (λ n. OfTree seen says n) (sym same) told)

pub told_of_both : (says : (D : ℕ) → TreeLists D → TreeLists D → Code → Type 0) (one one_held other other_held : Option Object) (code : Code) (number : ℤ) →
    one ≡ one_held → other ≡ other_held → number ≡ number_of code → OfTrees one other says (number_of code) → OfTrees one_held other_held says number
told_of_both says one one_held other other_held code number is other_is same told =
    subst (λ h. OfTrees h other_held says number) is (subst (λ h. OfTrees one h says number) other_is (subst (λ n. OfTrees one other says n) (sym same) told))

pub told_of_live : (says : (D : ℕ) → LiveLists D → Code → Type 0) (seen held : Option Object) (code : Code) (number : ℤ) → seen ≡ held →
    number ≡ number_of code → OfLive seen says (number_of code) → OfLive held says number
told_of_live says seen held code number is same told = subst (λ h. OfLive h says number) is (subst (λ n. OfLive seen says n) (sym same) told)

pub told_of_live_by_id : (says : ℤ → (D : ℕ) → LiveLists D → Code → Type 0) (given id : ℤ) (seen held : Option Object) (code : Code) (number : ℤ) →
    given ≡ id → seen ≡ held → number ≡ number_of code → OfLive seen (says given) (number_of code) → OfLive held (says id) number
told_of_live_by_id says given id seen held code number one is same told =
    subst (λ i. OfLive held (says i) number) one (told_of_live (says given) seen held code number is same told)
