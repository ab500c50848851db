-- Cases on an option and on a test.
use Rattle.std.proofs.Common.{◌≡◌, Bool, true, false, Option, Some, None, refl}

pub cases : {X C : Type 0} (o : Option X) → (o ≡ None → C) → ((x : X) → o ≡ Some x → C) → C
cases None f g = f refl
cases (Some x) f g = g x refl

pub test : {C : Type 0} (b : Bool) → (b ≡ true → C) → (b ≡ false → C) → C
test true f g = f refl
test false f g = g refl

pub none : {C X : Type 0} {x : X} → None ≡ Some x → C
none e = absurd (cc)

pub some_same : {A : Type 0} {a b : A} → Some a ≡ Some b → a ≡ b
some_same e = cc
