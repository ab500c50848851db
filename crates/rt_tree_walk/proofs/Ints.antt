-- What a test of two whole numbers says.
use Rattle.std.proofs.Common.{◌≡◌, Bool, true, false, ℤ, ◌<ℤ◌, ◌≤ℤ◌, arith, refl, sym, ◌∙◌, subst}
use Rattle.std.specs.Prelude.{int_le}
use Rattle.std.specs.Ordering.{int_cmp, MatchOrdering}
use Rattle.std.specs.Cmp.{int_ranks}
use Rattle.std.specs.declared.cmp.Ordering.{Ordering}
use Rattle.std.specs.declared.cmp.Ordering.TheVariants.{Less, Equal, Greater}
use Rattle.std.proofs.lemmas.Bool.{true≢false}
use Rattle.std.proofs.lemmas.Int.{ints}
use lib.Signed.{le_z_yes}
use lib.Dec.{T}

holds : (b : Bool) → T b → b ≡ true
holds true h = refl
holds false h = absurd h

pub int_le-true : (x y : ℤ) → int_le x y ≡ true → x ≤ℤ y
int_le-true x y e = le_z_yes (subst T (sym e) tt)

pub int_le-from : (x y : ℤ) → x ≤ℤ y → int_le x y ≡ true
int_le-from x y h = holds (int_le x y) h.le

refused : (x y : ℤ) (r : Ordering) → MatchOrdering r (x <ℤ y) (x ≡ y) (y <ℤ x) → int_le x y ≡ false → y ≤ℤ x
refused x y Less h e = let le : x ≤ℤ y = omega (arith, ints, h) in absurd (true≢false (sym (int_le-from x y le) ∙ e))
refused x y Equal h e = omega (arith, ints)
refused x y Greater h e = omega (arith, ints)

pub int_le-false : (x y : ℤ) → int_le x y ≡ false → y ≤ℤ x
int_le-false x y e = refused x y (int_cmp x y) (int_ranks x y) e
