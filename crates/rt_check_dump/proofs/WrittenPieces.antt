-- Lemmas on the pieces of lines that are written.
use Rattle.std.proofs.Common.{◌≡◌, ℕ, List, [], ◌∷◌, ◌++◌, Bool, true, false, not, ◌&&◌, cond, refl, sym, ◌∙◌, ap, append_assoc, append-nil, arith}
use Rattle.std.specs.Prelude.{◌==◌}
use Rattle.std.specs.List.{list_all}
use Rattle.rt_check_dump.specs.Pieces.{pieces, onto_first}
use Rattle.rt_check_dump.specs.Dump.{line_rest, line}
use Rattle.rt_check_dump.specs.Lines.{words}

-- the byte isn't in the text
abbrev pub lacks : ℕ → List ℕ → Bool
lacks b bs = list_all (λ c. not (c == b)) bs

pub lacks-append : (b : ℕ) (xs ys : List ℕ) → lacks b xs ≡ true → lacks b ys ≡ true → lacks b (xs ++ ys) ≡ true
lacks-append b [] ys p q = q
lacks-append b (x ∷ xs) ys p q =
    let by_case : (c : Bool) → (c && lacks b xs) ≡ true → (c && lacks b (xs ++ ys)) ≡ true = elim [
      | true ↦ λ h. lacks-append b xs ys h q
      | false ↦ λ h. h
    ] in
    by_case (not (x == b)) p

-- up to a separator there is one piece
pub pieces-front : (separator : ℕ) (bs rest : List ℕ) → lacks separator bs ≡ true
    → pieces separator (bs ++ separator ∷ rest) ≡ bs ∷ pieces separator rest
pieces-front separator [] rest none =
    let same : (separator == separator) ≡ true = grind arith in
    ap (λ c. cond c ([] ∷ pieces separator rest) (onto_first separator (pieces separator rest))) same
pieces-front separator (b ∷ bs) rest none =
    let by_case : (c : Bool) → (not c && lacks separator bs) ≡ true
    → cond c ([] ∷ pieces separator (bs ++ separator ∷ rest)) (onto_first b (pieces separator (bs ++ separator ∷ rest))) ≡ (b ∷ bs) ∷ pieces separator rest = elim [
      | true ↦ λ h. let no : ⊥ = cc in absurd no
      | false ↦ λ h. ap (onto_first b) (pieces-front separator bs rest h)
    ] in
    by_case (b == separator) none

-- without a separator the text is its piece
pub pieces-alone : (separator : ℕ) (bs : List ℕ) → lacks separator bs ≡ true → pieces separator bs ≡ bs ∷ []
pieces-alone separator [] none = refl
pieces-alone separator (b ∷ bs) none =
    let by_case : (c : Bool) → (not c && lacks separator bs) ≡ true
    → cond c ([] ∷ pieces separator bs) (onto_first b (pieces separator bs)) ≡ (b ∷ bs) ∷ [] = elim [
      | true ↦ λ h. let no : ⊥ = cc in absurd no
      | false ↦ λ h. ap (onto_first b) (pieces-alone separator bs h)
    ] in
    by_case (b == separator) none

-- a word has neither a space nor a line's end
pub record IsWord (w : List ℕ) : Type 0 where
  pub one_word : lacks 32 w ≡ true
  pub one_line : lacks 10 w ≡ true

abbrev pub AreWords : List (List ℕ) → Type 0
AreWords [] = Unit {0}
AreWords (w ∷ ws) = IsWord w × AreWords ws

-- the further words of a line, without its end
abbrev pub spaced : List (List ℕ) → List ℕ
spaced [] = []
spaced (w ∷ ws) = 32 ∷ w ++ spaced ws

pub words-spaced : (w : List ℕ) (ws : List (List ℕ)) → IsWord w → AreWords ws → words (w ++ spaced ws) ≡ w ∷ ws
words-spaced w [] first others = ap words (append-nil w) ∙ pieces-alone 32 w first.one_word
words-spaced w (v ∷ vs) first others =
    pieces-front 32 w (v ++ spaced vs) first.one_word ∙ ap (λ l. w ∷ l) (words-spaced v vs others.0 others.1)

lacks-spaced : (ws : List (List ℕ)) → AreWords ws → lacks 10 (spaced ws) ≡ true
lacks-spaced [] all = refl
lacks-spaced (w ∷ ws) all = lacks-append 10 w (spaced ws) all.0.one_line (lacks-spaced ws all.1)

line_rest-spaced : (ws : List (List ℕ)) (rest : List ℕ) → line_rest ws ++ rest ≡ spaced ws ++ 10 ∷ rest
line_rest-spaced [] rest = refl
line_rest-spaced (w ∷ ws) rest =
    ap (λ l. 32 ∷ l) (append_assoc w (line_rest ws) rest ∙ ap (λ l. w ++ l) (line_rest-spaced ws rest) ∙ sym (append_assoc w (spaced ws) (10 ∷ rest)))

-- the first line of a text
pub pieces-line : (kind : List ℕ) (ws : List (List ℕ)) (rest : List ℕ) → IsWord kind → AreWords ws
    → pieces 10 (line kind ws ++ rest) ≡ (kind ++ spaced ws) ∷ pieces 10 rest
pieces-line kind ws rest first others =
    ap (pieces 10) (append_assoc kind (line_rest ws) rest ∙ ap (λ l. kind ++ l) (line_rest-spaced ws rest) ∙ sym (append_assoc kind (spaced ws) (10 ∷ rest)))
    ∙ pieces-front 10 (kind ++ spaced ws) rest (lacks-append 10 kind (spaced ws) first.one_line (lacks-spaced ws others))
