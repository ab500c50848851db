-- Quotes as the cutting of a script sees them: each doubled one parts two atoms.
use Rattle.std.proofs.Common.{◌≡◌, ◌≢◌, ℕ, false, ◌==◌, List, [], ◌∷◌, ◌++◌, IsTrue, ap, ◌∙◌, append_assoc, append-nil, arith}
use Rattle.std.proofs.lemmas.Bool.Decides.{nat_tests}
use Rattle.std.proofs.lemmas.List.Elements.{All-nil, All-push}
use Rattle.rt_sql_cut.specs.Pieces.{Atom, Quoted, atoms_text, AreAtoms}
use Rattle.rt_sql_cut.specs.Text.{is_quote, Lacks}
use Rattle.rt_sql.specs.Parse.{QuotesAreAtoms}
use Rattle.rt_sql.specs.Token.{Text, double}
use Rattle.rt_sql.proofs.Basics.{test}
use Rattle.rt_sql.proofs.Quotes.{byte_is, double-twice, double-once}

other : (b q : ℕ) → (b == q) ≡ false → b ≢ q
other b q h = grind (arith, nat_tests)

-- behind a quote and bytes that aren't quotes
abbrev Open : ℕ → Text → Text → Text → Type 0
Open q begun s after = (atoms : List Atom) × (atoms_text atoms ≡ q ∷ (begun ++ (double q s ++ q ∷ []))) × AreAtoms atoms after

from_open : (q : ℕ) (begun s after : Text) → IsTrue (is_quote q) → Lacks q begun → Open q begun s after
from_open q begun [] after is lacks = (Quoted q begun ∷ [], append-nil (q ∷ (begun ++ q ∷ [])), ((is, lacks), tt))
from_open q begun (b ∷ s) after is lacks =
    test (b == q)
    (λ e.
    let k = from_open q [] s after is (All-nil (λ c. c ≢ q)) in
    let is_b = byte_is b q e in (
      Quoted q begun ∷ k.0,
      rw (double-twice q b s e, is_b)
          (ap (λ x. (q ∷ (begun ++ q ∷ [])) ++ x) k.1 ∙ ap (λ x. q ∷ x) (append_assoc begun (q ∷ []) (q ∷ (double q s ++ q ∷ [])))),
      ((is, lacks), k.2),
    ))
    (λ e.
    let k = from_open q (begun ++ b ∷ []) s after is (All-push (λ c. c ≢ q) begun b lacks (other b q e)) in (
      k.0,
      rw (double-once q b s e) (k.1 ∙ ap (λ x. q ∷ x) (append_assoc begun (b ∷ []) (double q s ++ q ∷ []))),
      k.2,
    ))

pub quotes_atoms : QuotesAreAtoms
quotes_atoms q inside after is = from_open q [] inside after is (All-nil (λ c. c ≢ q))
