-- Items with commas between: one turn, and that the number of tokens bounds the turns.
use Rattle.std.proofs.Common.{◌≡◌, ℕ, zero, suc, ◌-◌, ◌<◌, ◌≤◌, ◌⊎◌, inl, inr, ⊎_elim, Bool, true, false, List, [], ◌∷◌, ◌++◌, length, Option, Some, None, if◌then◌else◌, refl, ap, ◌∙◌, sym, arith}
use Rattle.rt_sql.specs.declared.token.Token.{Token}
use Rattle.rt_sql.specs.Reading.{Outcome, Parser, TakesTokens, rest, sequence_from}

pub option_cases : {X : Type 0} (o : Option X) → (o ≡ None) ⊎ ((x : X) × (o ≡ Some x))
option_cases None = inl refl
option_cases (Some x) = inr (x, refl)

pub bool_cases : (b : Bool) → (b ≡ true) ⊎ (b ≡ false)
bool_cases true = inl refl
bool_cases false = inr refl

pub rest_shorter : (ts : List Token) → length (rest ts) ≤ length ts
unfolding rest
rest_shorter [] = omega arith
rest_shorter (t ∷ ts) = omega arith

module _ {A : Type 0} (sees : List Token → Bool) (item : Parser A) where
  pub turn_none : (n : ℕ) (found : List A) (ts : List Token) → item ts ≡ None → sequence_from sees item n found ts ≡ None
  unfolding sequence_from
  turn_none zero found ts h = refl
  turn_none (suc n) found ts h = rw h refl

  pub turn_last : (n : ℕ) (found : List A) (ts mid : List Token) (a : A) → item ts ≡ Some (a, mid) → sees mid ≡ false → sequence_from sees item (suc n) found ts ≡ Some (found ++ a ∷ [], mid)
  unfolding sequence_from
  turn_last n found ts mid a h e = rw (h, e) refl

  pub turn_more : (n : ℕ) (found : List A) (ts mid : List Token) (a : A) → item ts ≡ Some (a, mid) → sees mid ≡ true → sequence_from sees item (suc n) found ts ≡ sequence_from sees item n (found ++ a ∷ []) (rest mid)
  unfolding sequence_from
  turn_more n found ts mid a h e = rw (h, e) refl

module _ {A : Type 0} (sees : List Token → Bool) (item : Parser A) (takes : TakesTokens item) where
  pub turns_enough : (n m : ℕ) (found : List A) (ts : List Token) → length ts ≤ n → length ts ≤ m → sequence_from sees item n found ts ≡ sequence_from sees item m found ts
  turns_enough zero zero found ts h k = refl
  turns_enough zero (suc m) found ts h k =
      ⊎_elim
      (λ (e : item ts ≡ None). turn_none sees item zero found ts e ∙ sym (turn_none sees item (suc m) found ts e))
      (λ s. absurd (omega (arith, takes ts s.0.0 s.0.1 s.1)))
      (option_cases (item ts))
  turns_enough (suc n) zero found ts h k =
      ⊎_elim
      (λ (e : item ts ≡ None). turn_none sees item (suc n) found ts e ∙ sym (turn_none sees item zero found ts e))
      (λ s. absurd (omega (arith, takes ts s.0.0 s.0.1 s.1)))
      (option_cases (item ts))
  turns_enough (suc n) (suc m) found ts h k =
      ⊎_elim
      (λ (e : item ts ≡ None). turn_none sees item (suc n) found ts e ∙ sym (turn_none sees item (suc m) found ts e))
      (λ (s : (x : A × List Token) × (item ts ≡ Some x)).
      let shorter = takes ts s.0.0 s.0.1 s.1 in
      ⊎_elim
      (λ (more : sees s.0.1 ≡ true).
      turn_more sees item n found ts s.0.1 s.0.0 s.1 more
      ∙ turns_enough n m (found ++ s.0.0 ∷ []) (rest s.0.1) (omega (arith, rest_shorter s.0.1)) (omega (arith, rest_shorter s.0.1))
      ∙ sym (turn_more sees item m found ts s.0.1 s.0.0 s.1 more))
      (λ (last : sees s.0.1 ≡ false).
      turn_last sees item n found ts s.0.1 s.0.0 s.1 last ∙ sym (turn_last sees item m found ts s.0.1 s.0.0 s.1 last))
      (bool_cases (sees s.0.1)))
      (option_cases (item ts))

  pub loop_none : (found : List A) (ts : List Token) → item ts ≡ None → sequence_from sees item (length ts) found ts ≡ None
  loop_none found ts h = turn_none sees item (length ts) found ts h

  some_turns : (ts mid : List Token) (a : A) → item ts ≡ Some (a, mid) → length ts ≡ suc (length ts - 1)
  some_turns ts mid a h = omega (arith, takes ts a mid h)

  pub loop_last : (found : List A) (ts mid : List Token) (a : A) → item ts ≡ Some (a, mid) → sees mid ≡ false → sequence_from sees item (length ts) found ts ≡ Some (found ++ a ∷ [], mid)
  loop_last found ts mid a h e =
      ap (λ n. sequence_from sees item n found ts) (some_turns ts mid a h) ∙ turn_last sees item (length ts - 1) found ts mid a h e

  pub loop_more : (found : List A) (ts mid : List Token) (a : A) → item ts ≡ Some (a, mid) → sees mid ≡ true → sequence_from sees item (length ts) found ts ≡ sequence_from sees item (length (rest mid)) (found ++ a ∷ []) (rest mid)
  loop_more found ts mid a h e =
      ap (λ n. sequence_from sees item n found ts) (some_turns ts mid a h)
      ∙ turn_more sees item (length ts - 1) found ts mid a h e
      ∙ turns_enough (length ts - 1) (length (rest mid)) (found ++ a ∷ []) (rest mid) (omega (arith, takes ts a mid h, rest_shorter mid)) (omega arith)

  pub loop_smaller : (ts mid : List Token) (a : A) → item ts ≡ Some (a, mid) → length (rest mid) < length ts
  loop_smaller ts mid a h = omega (arith, takes ts a mid h, rest_shorter mid)

-- the same for a loop in code, which has read `found` so far, and `next` and what follows it in this turn
module _ {A : Type 0} (sees : List Token → Bool) (item : Parser A) (takes : TakesTokens item) (found next : List A) (ts mid ts' : List Token) (a : A) where
  pub goes_on : {whole : Outcome (List A)} → whole ≡ sequence_from sees item (length ts) found ts → item ts ≡ Some (a, mid) → next ≡ found ++ a ∷ [] → ts' ≡ (if sees mid then rest mid else mid) → sees mid ≡ true → whole ≡ sequence_from sees item (length ts') next ts'
  goes_on w h n e more =
      let is_rest : ts' ≡ rest mid = e ∙ ap (λ b. if b then rest mid else mid) more in
      rw (is_rest, n) (w ∙ loop_more sees item takes found ts mid a h more)

  pub ends : {whole : Outcome (List A)} → whole ≡ sequence_from sees item (length ts) found ts → item ts ≡ Some (a, mid) → next ≡ found ++ a ∷ [] → ts' ≡ (if sees mid then rest mid else mid) → sees mid ≡ false → whole ≡ Some (next, ts')
  ends w h n e last =
      let is_mid : ts' ≡ mid = e ∙ ap (λ b. if b then rest mid else mid) last in
      rw (is_mid, n) (w ∙ loop_last sees item takes found ts mid a h last)

  pub comes_nearer : item ts ≡ Some (a, mid) → ts' ≡ (if sees mid then rest mid else mid) → sees mid ≡ true → length ts' < length ts
  comes_nearer h e more =
      let is_rest : ts' ≡ rest mid = e ∙ ap (λ b. if b then rest mid else mid) more in
      rw is_rest (loop_smaller sees item takes ts mid a h)
