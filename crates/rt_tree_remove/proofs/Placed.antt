-- Pending cells, placed by a removal.
use Rattle.std.proofs.Common.{◌≡◌, ℕ, ◌<◌, Bool, false, nat_eq, eq-eqb, arith, refl, ◌∙◌, sym, inl, inr}
use Rattle.std.proofs.lemmas.Bool.{true≢false, cases_lt}
use Rattle.rt_tree_node.specs.declared.arena.Arena.{Arena}
use Rattle.rt_tree_node.specs.Whole.{IsWhole}
use Rattle.rt_tree_remove.specs.Steps.{SettlesInTurn, Places}

-- a list that isn't empty has an element
pub some-wait : (n : ℕ) (b : Bool) → b ≡ nat_eq n 0 → b ≡ false → 0 < n
some-wait n b is off = elim (cases_lt 0 n) [
  | inl some ↦ some
  | inr none ↦ absurd (true≢false (sym (eq-eqb n 0 (omega arith)) ∙ sym is ∙ off))
]

module _ {D : ℕ} where
  -- where none waits, none is placed
  pub placed-none : (t : Arena D) → IsWhole t → Places t t
  placed-none t whole = record {
    whole = whole;
    rows = λ test. refl;
    ids = record { ids = refl; len = refl; room = refl };
    capacity = refl;
    room = refl;
    pending_room = refl;
    fewer = omega arith;
    branched = λ h. h;
    still = λ none. refl;
    turns = SettlesInTurn.none;
  }
