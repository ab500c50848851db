-- Being the same value is being equal, and so an equivalence.
use Rattle.std.specs.Prelude.{◌≡◌, refl}
use Rattle.std.proofs.Common.{sym, ap}
use Rattle.std.proofs.lemmas.Slice.Eq.{bytes_eq-Decides}
use Rattle.std.specs.Bool.{Decides}
use Rattle.std.specs.Cmp.{IsEquivalence, both_ways, signed_Decides}
use Rattle.rt_sql_statement.specs.declared.value.Value.{Value}
use Rattle.rt_sql_statement.specs.declared.value.Value.TheVariants.{Null, Int, Text, Blob}
use Rattle.rt_sql_statement.specs.Value.{same_value}

pub same_value-Decides : (a b : Value) → Decides (same_value a b) (a ≡ b)
same_value-Decides Null Null = (λ h. refl, λ h. refl)
same_value-Decides (Int a) (Int b) = let d = signed_Decides a b in (λ h. ap (λ x. Int x) (d.0 h), λ h. d.1 (cc))
same_value-Decides (Text a) (Text b) = let d = bytes_eq-Decides a b in (λ h. ap (λ x. Text x) (d.0 h), λ h. d.1 (cc))
same_value-Decides (Blob a) (Blob b) = let d = bytes_eq-Decides a b in (λ h. ap (λ x. Blob x) (d.0 h), λ h. d.1 (cc))
same_value-Decides _ _ = (λ h. cc, λ h. cc)

pub same_value-equiv : IsEquivalence same_value
same_value-equiv = record {
  refl = λ a. (same_value-Decides a a).1 refl;
  symm = λ a b. both_ways (same_value a b) (same_value b a)
      (λ h. (same_value-Decides b a).1 (sym ((same_value-Decides a b).0 h)))
      (λ h. (same_value-Decides a b).1 (sym ((same_value-Decides b a).0 h)));
  congr = λ a b c h. ap (λ x. same_value x c) ((same_value-Decides a b).0 h);
}
