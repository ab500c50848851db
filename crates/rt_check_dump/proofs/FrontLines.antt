-- Lemmas on the first lines of a text.
use Rattle.std.proofs.Common.{◌≡◌, ◌⊎◌, inl, inr, ℕ, zero, suc, ◌+◌, ◌<◌, ◌≤◌, List, [], ◌∷◌, ◌++◌, Bool, true, false, not, ◌&&◌, cond, refl, sym, subst, ◌∙◌, ap, arith, append_assoc}
use Rattle.std.specs.Prelude.{◌==◌, nat_lt}
use Rattle.rt_check_dump.specs.Pieces.{pieces, onto_first}
use Rattle.rt_check_dump.specs.Faults.{first_lines, line_ends}
use Rattle.rt_check_dump.proofs.AcceptedWords.{joined}
use Rattle.rt_check_dump.proofs.WrittenPieces.{lacks, pieces-front, pieces-alone}
use Rattle.rt_check_dump.specs.declared.fault.LineFault.{LineFault}
use Rattle.rt_check_dump.specs.declared.fault.LineFault.TheVariants.{Truncated}

-- lines without a byte 10
abbrev pub AreUnbroken : List (List ℕ) → Type 0
AreUnbroken [] = Unit {0}
AreUnbroken (l ∷ ls) = (lacks 10 l ≡ true) × AreUnbroken ls

onto-unbroken : (b : ℕ) (ps : List (List ℕ)) → (b == 10) ≡ false → AreUnbroken ps → AreUnbroken (onto_first b ps)
onto-unbroken b [] other each = (ap (λ c. not c && true) other, tt)
onto-unbroken b (p ∷ ps) other each = (ap (λ c. not c && lacks 10 p) other ∙ each.0, each.1)

pub pieces-unbroken : (text : List ℕ) → AreUnbroken (pieces 10 text)
pieces-unbroken [] = (refl, tt)
pieces-unbroken (b ∷ bs) =
    let by_case : (c : Bool) → (b == 10) ≡ c → AreUnbroken (cond c ([] ∷ pieces 10 bs) (onto_first b (pieces 10 bs))) = elim [
      | true ↦ λ e. (refl, pieces-unbroken bs)
      | false ↦ λ e. onto-unbroken b (pieces 10 bs) e (pieces-unbroken bs)
    ] in
    by_case (b == 10) refl

-- unbroken lines are the pieces of the text that they make
pub pieces-joined : (l : List ℕ) (ls : List (List ℕ)) → AreUnbroken (l ∷ ls) → pieces 10 (joined (l ∷ ls)) ≡ l ∷ ls
pieces-joined l [] each = pieces-alone 10 l each.0
pieces-joined l (m ∷ ms) each = pieces-front 10 l (joined (m ∷ ms)) each.0 ∙ ap (λ ls. l ∷ ls) (pieces-joined m ms each.1)

-- the first line, and then the others
pub first_lines-line : (n : ℕ) (l rest : List ℕ) → lacks 10 l ≡ true → first_lines (suc n) (l ++ 10 ∷ rest) ≡ l ++ 10 ∷ first_lines n rest
first_lines-line n [] rest whole = refl
first_lines-line n (b ∷ bs) rest whole =
    let by_case : (c : Bool) → (not c && lacks 10 bs) ≡ true
    → b ∷ first_lines (cond c n (suc n)) (bs ++ 10 ∷ rest) ≡ b ∷ (bs ++ 10 ∷ first_lines n rest) = elim [
      | true ↦ λ h. let no : ⊥ = cc in absurd no
      | false ↦ λ h. ap (λ l. b ∷ l) (first_lines-line n bs rest h)
    ] in
    by_case (b == 10) whole

pub line_ends-line : (l rest : List ℕ) → lacks 10 l ≡ true → line_ends (l ++ 10 ∷ rest) ≡ suc (line_ends rest)
line_ends-line [] rest whole = refl
line_ends-line (b ∷ bs) rest whole =
    let by_case : (c : Bool) → (not c && lacks 10 bs) ≡ true
    → cond c (suc (line_ends (bs ++ 10 ∷ rest))) (line_ends (bs ++ 10 ∷ rest)) ≡ suc (line_ends rest) = elim [
      | true ↦ λ h. let no : ⊥ = cc in absurd no
      | false ↦ λ h. line_ends-line bs rest h
    ] in
    by_case (b == 10) whole

pub line_ends-alone : (l : List ℕ) → lacks 10 l ≡ true → line_ends l ≡ 0
line_ends-alone [] whole = refl
line_ends-alone (b ∷ bs) whole =
    let by_case : (c : Bool) → (not c && lacks 10 bs) ≡ true → cond c (suc (line_ends bs)) (line_ends bs) ≡ 0 = elim [
      | true ↦ λ h. let no : ⊥ = cc in absurd no
      | false ↦ λ h. line_ends-alone bs h
    ] in
    by_case (b == 10) whole

-- more lines begin with fewer
pub first_lines-front : (k n : ℕ) (text : List ℕ) → k ≤ n → (rest : List ℕ) × (first_lines n text ≡ first_lines k text ++ rest)
first_lines-front zero n text less = (first_lines n text, refl)
first_lines-front (suc k) zero text less = let no : ⊥ = omega (arith, less) in absurd no
first_lines-front (suc k) (suc n) [] less = ([], refl)
first_lines-front (suc k) (suc n) (b ∷ bs) less =
    let by_case : (c : Bool) → (rest : List ℕ) × (b ∷ first_lines (cond c n (suc n)) bs ≡ b ∷ (first_lines (cond c k (suc k)) bs ++ rest)) = elim [
      | true ↦ let r = first_lines-front k n bs (omega (arith, less)) in (r.0, ap (λ l. b ∷ l) r.1)
      | false ↦ let r = first_lines-front (suc k) (suc n) bs less in (r.0, ap (λ l. b ∷ l) r.1)
    ] in
    by_case (b == 10)

-- beyond the last line's end all of the text is taken
pub first_lines-all : (n : ℕ) (text : List ℕ) → line_ends text < n → first_lines n text ≡ text
first_lines-all zero text beyond = let no : ⊥ = omega (arith, beyond) in absurd no
first_lines-all (suc n) [] beyond = refl
first_lines-all (suc n) (b ∷ bs) beyond =
    let by_case : (c : Bool) → cond c (suc (line_ends bs)) (line_ends bs) < suc n → b ∷ first_lines (cond c n (suc n)) bs ≡ b ∷ bs = elim [
      | true ↦ λ h. ap (λ l. b ∷ l) (first_lines-all n bs (omega (arith, h)))
      | false ↦ λ h. ap (λ l. b ∷ l) (first_lines-all (suc n) bs h)
    ] in
    by_case (b == 10) beyond

-- all lines of a text that ends with byte 10 are the text
pub first_lines-ended : (n : ℕ) (bs : List ℕ) → line_ends (bs ++ 10 ∷ []) ≤ n → first_lines n (bs ++ 10 ∷ []) ≡ bs ++ 10 ∷ []
first_lines-ended zero [] few = let no : ⊥ = omega (arith, few) in absurd no
first_lines-ended (suc zero) [] few = refl
first_lines-ended (suc (suc n)) [] few = refl
first_lines-ended zero (b ∷ bs) few =
    let by_case : (c : Bool) → (b == 10) ≡ c → cond c (suc (line_ends (bs ++ 10 ∷ []))) (line_ends (bs ++ 10 ∷ [])) ≤ 0 → [] ≡ b ∷ (bs ++ 10 ∷ []) = elim [
      | true ↦ λ e h. let no : ⊥ = omega (arith, h) in absurd no
      | false ↦ λ e h. let rest : [] ≡ bs ++ 10 ∷ [] = first_lines-ended zero bs h in absurd (ended-some bs rest)
    ] in
    by_case (b == 10) refl few
  where
    ended-some : (bs : List ℕ) → [] ≡ bs ++ 10 ∷ [] → ⊥
    ended-some [] e = let no : ⊥ = cc in no
    ended-some (b ∷ bs) e = let no : ⊥ = cc in no
first_lines-ended (suc n) (b ∷ bs) few =
    let by_case : (c : Bool) → cond c (suc (line_ends (bs ++ 10 ∷ []))) (line_ends (bs ++ 10 ∷ [])) ≤ suc n
    → b ∷ first_lines (cond c n (suc n)) (bs ++ 10 ∷ []) ≡ b ∷ (bs ++ 10 ∷ []) = elim [
      | true ↦ λ h. ap (λ l. b ∷ l) (first_lines-ended n bs (omega (arith, h)))
      | false ↦ λ h. ap (λ l. b ∷ l) (first_lines-ended (suc n) bs h)
    ] in
    by_case (b == 10) few

-- any number of lines is a front of the text
pub lines-of : (n : ℕ) (text : List ℕ) → (rest : List ℕ) × (text ≡ first_lines n text ++ rest)
lines-of n text =
    let more = first_lines-front n (suc (line_ends text + n)) text (omega arith) in
    (more.0, sym (first_lines-all (suc (line_ends text + n)) text (omega arith)) ∙ more.1)

-- faults of a text, for any notion of a whole text: after n lines comes one that fits none, or the text's end
module _ (Whole : List ℕ → Type 0) where
  abbrev pub Begins : List ℕ → Type 0
  Begins front = (rest : List ℕ) × Whole (front ++ rest)

  pub record IsBadAfter (text : List ℕ) (n : ℕ) : Type 0 where
    pub before : Begins (first_lines n text)
    pub with_it : Begins (first_lines (suc n) text) → ⊥
    pub seen : (suc n ≤ line_ends text) ⊎ Whole (first_lines n text)

  pub record IsCutAfter (text : List ℕ) (n : ℕ) : Type 0 where
    pub last : line_ends text ≡ n
    pub before : Begins (first_lines n text)
    pub unended : Whole (first_lines n text) → ⊥

  Begins-front : (front more : List ℕ) → Begins (front ++ more) → Begins front
  Begins-front front more b = (more ++ b.0, subst Whole (append_assoc front more b.0) b.1)

  bad-before : (text : List ℕ) (m n : ℕ) → IsBadAfter text m → Begins (first_lines n text) → m < n → ⊥
  bad-before text m n bad begun less =
      let front = first_lines-front (suc m) n text (omega (arith, less)) in
      bad.with_it (Begins-front (first_lines (suc m) text) front.0 (subst Begins front.1 begun))

  bad-within : (text : List ℕ) (m : ℕ) → IsBadAfter text m → line_ends text < m → ⊥
  bad-within text m bad beyond =
      bad.with_it (subst Begins (first_lines-all m text beyond ∙ sym (first_lines-all (suc m) text (omega (arith, beyond)))) bad.before)

  pub bad-cut : (text : List ℕ) (m n : ℕ) → IsBadAfter text m → IsCutAfter text n → ⊥
  bad-cut text m n bad short =
      let by_order : (b : Bool) → nat_lt m n ≡ b → ⊥ = elim [
        | true ↦ λ e. bad-before text m n bad short.before (grind (arith, e))
        | false ↦ λ e.
            let high : n ≤ m = grind (arith, e) in
            let by_seen : (suc m ≤ line_ends text) ⊎ Whole (first_lines m text) → ⊥ = elim [
              | inl some ↦ let no : ⊥ = omega (arith, some, short.last, high) in no
              | inr whole ↦
                  let by_same : (b : Bool) → nat_lt n m ≡ b → ⊥ = elim [
                    | true ↦ λ less. bad-within text m bad (let under : n < m = grind (arith, less) in omega (arith, under, short.last))
                    | false ↦ λ less.
                        let low : m ≤ n = grind (arith, less) in
                        let same : m ≡ n = omega (arith, low, high) in
                        short.unended (subst (λ k. Whole (first_lines k text)) same whole)
                  ] in
                  by_same (nat_lt n m) refl
            ] in
            by_seen bad.seen
      ] in
      by_order (nat_lt m n) refl

  pub bad-once : (text : List ℕ) (m n : ℕ) → IsBadAfter text m → IsBadAfter text n → m ≡ n
  bad-once text m n one other =
      let low : (b : Bool) → nat_lt m n ≡ b → n ≤ m = elim [
        | true ↦ λ e. absurd (bad-before text m n one other.before (grind (arith, e)))
        | false ↦ λ e. grind (arith, e)
      ] in
      let high : (b : Bool) → nat_lt n m ≡ b → m ≤ n = elim [
        | true ↦ λ e. absurd (bad-before text n m other one.before (grind (arith, e)))
        | false ↦ λ e. grind (arith, e)
      ] in
      let a = low (nat_lt m n) refl in
      let b = high (nat_lt n m) refl in
      omega (arith, a, b)

  pub bad-whole : (text : List ℕ) (m : ℕ) → Whole text → IsBadAfter text m → ⊥
  bad-whole text m whole bad = let front = lines-of (suc m) text in bad.with_it (front.0, subst Whole front.1 whole)

  -- a fault: the text is cut, or a line is bad
  pub record IsFaultAfter (text : List ℕ) (n : ℕ) (fault : LineFault) : Type 0 where
    pub bad : (fault ≡ Truncated → ⊥) → IsBadAfter text n
    pub short : fault ≡ Truncated → IsCutAfter text n

-- what is known of a text after its first line is known of the text
module _ (Whole After : List ℕ → Type 0) (l : List ℕ) (one : lacks 10 l ≡ true) (onto : (t : List ℕ) → After t → Whole (l ++ 10 ∷ t))
    (off : (t : List ℕ) → Whole (l ++ 10 ∷ t) → After t) where
  begins-onto : (front : List ℕ) → Begins After front → Begins Whole (l ++ 10 ∷ front)
  begins-onto front b = (b.0, subst Whole (sym (append_assoc l (10 ∷ front) b.0)) (onto (front ++ b.0) b.1))

  begins-off : (front : List ℕ) → Begins Whole (l ++ 10 ∷ front) → Begins After front
  begins-off front b = (b.0, off (front ++ b.0) (subst Whole (append_assoc l (10 ∷ front) b.0) b.1))

  bad-later : (text : List ℕ) (n : ℕ) → IsBadAfter After text n → IsBadAfter Whole (l ++ 10 ∷ text) (suc n)
  bad-later text n bad =
      let lines = first_lines-line n l text one in
      let ends = line_ends-line l text one in
      record {
        before = subst (Begins Whole) (sym lines) (begins-onto (first_lines n text) bad.before);
        with_it = λ b. bad.with_it (begins-off (first_lines (suc n) text) (subst (Begins Whole) (first_lines-line (suc n) l text one) b));
        seen = elim bad.seen as (λ s. (suc (suc n) ≤ line_ends (l ++ 10 ∷ text)) ⊎ Whole (first_lines (suc n) (l ++ 10 ∷ text))) [
          | inl some ↦ inl (omega (arith, some, ends))
          | inr whole ↦ inr (subst Whole (sym lines) (onto (first_lines n text) whole))
        ];
      }

  cut-later : (text : List ℕ) (n : ℕ) → IsCutAfter After text n → IsCutAfter Whole (l ++ 10 ∷ text) (suc n)
  cut-later text n short =
      let lines = first_lines-line n l text one in
      record {
        last = line_ends-line l text one ∙ ap suc short.last;
        before = subst (Begins Whole) (sym lines) (begins-onto (first_lines n text) short.before);
        unended = λ whole. short.unended (off (first_lines n text) (subst Whole lines whole));
      }

  pub fault-later : (text : List ℕ) (n : ℕ) (what : LineFault) → IsFaultAfter After text n what → IsFaultAfter Whole (l ++ 10 ∷ text) (suc n) what
  fault-later text n what fault = record {
    bad = λ other. bad-later text n (fault.bad other);
    short = λ cut. cut-later text n (fault.short cut);
  }
