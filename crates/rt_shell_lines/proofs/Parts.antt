-- Lists of which a front part and a later part are left.
use Rattle.std.proofs.Common.{◌≡◌, ℕ, true, ◌==◌, List, [], ◌∷◌, ◌++◌, length, refl, ap, sym, ◌∙◌, append_assoc, arith}
use Rattle.std.specs.List.{flat_map}
use Rattle.std.proofs.lemmas.Bool.Decides.{nat_tests}
use Rattle.std.proofs.lemmas.Grind.{flat_map-append}

module _ {X : Type 0} where
  pub goes_on : (all done rest front later : List X) → done ++ rest ≡ all → front ++ later ≡ rest → (done ++ front) ++ later ≡ all
  goes_on all done rest front later is joined = append_assoc done front later ∙ ap (λ l. done ++ l) joined ∙ is

  pub three_parts : (bytes_of : X → List ℕ) (all done front later : List X) → (done ++ front) ++ later ≡ all
      → flat_map bytes_of done ++ flat_map bytes_of front ++ flat_map bytes_of later ≡ flat_map bytes_of all
  three_parts bytes_of all done front later e =
      ap (λ l. l ++ flat_map bytes_of later) (sym (flat_map-append bytes_of done front))
      ∙ sym (flat_map-append bytes_of (done ++ front) later) ∙ ap (flat_map bytes_of) e

  pub is_nil : (l : List X) → true ≡ (length l == 0) → l ≡ []
  is_nil [] e = refl
  is_nil (x ∷ l) e = absurd (let none : length (x ∷ l) ≡ 0 = grind (arith, nat_tests, e) in omega arith)
