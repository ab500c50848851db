-- Atoms, comments, and what is held of a piece.
use Rattle.std.proofs.Common.{◌≡◌, ◌≢◌, ℕ, ◌<◌, ◌≤◌, List, [], ◌∷◌, ◌++◌, length, Some, None, inl, inr, sym, refl, ap, ◌∙◌, subst, ⊎_elim, arith, append_assoc, append-nil}
use Rattle.std.proofs.lemmas.Bool.{cases_lt, cases_eq, lt-ltb, le-ltb, le-leb, lt-leb, cond-true, cond-false}
use Rattle.std.proofs.lemmas.List.{length_push}
use Rattle.std.proofs.lemmas.List.Elements.{All-push}
use Rattle.rt_sql_cut.specs.Pieces.{Atom, Byte, Line, Block, Quoted, atom_text, atoms_text, IsComment, IsGapAtom, IsClosedGap, IsAtom, AreAtoms, holding}
use Rattle.rt_sql_cut.specs.Text.{HasClose, BeginsComment}
use Rattle.rt_sql_cut.specs.Cutter.{IsOpen}
use Rattle.rt_sql_cut.specs.CutterStep.{with_byte}
use Rattle.rt_sql_cut.specs.declared.cutter.Spot.TheVariants.{LineComment, BlockComment, AfterStar}

-- the bytes of atoms and one more
pub atoms_text-push : (atoms : List Atom) (atom : Atom) → atoms_text (atoms ++ atom ∷ []) ≡ atoms_text atoms ++ atom_text atom
atoms_text-push [] atom = append-nil (atom_text atom)
atoms_text-push (a ∷ atoms) atom = ap (λ l. atom_text a ++ l) (atoms_text-push atoms atom) ∙ sym (append_assoc (atom_text a) (atoms_text atoms) (atom_text atom))

-- atoms and one more
pub AreAtoms-push : (atoms : List Atom) (atom : Atom) (rest : List ℕ) → AreAtoms atoms (atom_text atom ++ rest) → IsAtom atom rest → AreAtoms (atoms ++ atom ∷ []) rest
AreAtoms-push [] atom rest are is = (is, tt)
AreAtoms-push (a ∷ atoms) atom rest are is =
    (subst (IsAtom a) (sym (ap (λ l. l ++ rest) (atoms_text-push atoms atom) ∙ append_assoc (atoms_text atoms) (atom_text atom) rest)) are.0, AreAtoms-push atoms atom rest are.1 is)

-- a gap and one more atom
pub IsClosedGap-push : (x : List ℕ) (atom : Atom) → IsClosedGap x → IsGapAtom atom → IsClosedGap (x ++ atom_text atom)
IsClosedGap-push x atom gap is =
    (gap.0 ++ atom ∷ [], ap (λ l. l ++ atom_text atom) gap.1 ∙ sym (atoms_text-push gap.0 atom), All-push IsGapAtom gap.0 atom gap.2 is)

-- a comment may stand in a gap, and in a statement
pub comment_in_gap : (atom : Atom) → IsComment atom → IsGapAtom atom
comment_in_gap (Byte b) is = absurd is
comment_in_gap (Line text) is = is
comment_in_gap (Block text) is = is
comment_in_gap (Quoted quote text) is = absurd is

pub comment_in_statement : (atom : Atom) (rest : List ℕ) → IsComment atom → IsAtom atom rest
comment_in_statement (Byte b) rest is = absurd is
comment_in_statement (Line text) rest is = is
comment_in_statement (Block text) rest is = is
comment_in_statement (Quoted quote text) rest is = absurd is

-- other bytes begin no comment
pub no_comment : (b : ℕ) (rest : List ℕ) → b ≢ 45 → b ≢ 47 → ¬ BeginsComment (b ∷ rest)
no_comment b [] no_dash no_slash is = is
no_comment b (c ∷ rest) no_dash no_slash (inl is) = no_dash is.0
no_comment b (c ∷ rest) no_dash no_slash (inr is) = no_slash is.0

-- nor does a `-` before another byte, nor a `/`
pub dash_alone : (b : ℕ) (rest : List ℕ) → b ≢ 45 → ¬ BeginsComment (45 ∷ b ∷ rest)
dash_alone b rest other (inl is) = other is.1
dash_alone b rest other (inr is) = let e : ◌≡◌ {A = ℕ} 45 47 = is.0 in omega arith

pub slash_alone : (b : ℕ) (rest : List ℕ) → b ≢ 42 → ¬ BeginsComment (47 ∷ b ∷ rest)
slash_alone b rest other (inl is) = let e : ◌≡◌ {A = ℕ} 47 45 = is.0 in omega arith
slash_alone b rest other (inr is) = other is.1

-- no `*/` among these bytes, read from their start
abbrev pub IsUnclosed : List ℕ → Type 0
IsUnclosed [] = Unit {0}
IsUnclosed (a ∷ []) = Unit {0}
IsUnclosed (a ∷ b ∷ rest) = ¬ ((a ≡ 42) × (b ≡ 47)) × IsUnclosed (b ∷ rest)

pub IsUnclosed-from : (text : List ℕ) → ¬ HasClose text → IsUnclosed text
IsUnclosed-from [] h = tt
IsUnclosed-from (a ∷ []) h = tt
IsUnclosed-from (a ∷ b ∷ rest) h =
    (λ is. h ([], rest, λ i. is.0 i ∷ is.1 i ∷ rest), IsUnclosed-from (b ∷ rest) (λ has. h (a ∷ has.0, has.1, ap (λ l. a ∷ l) has.2)))

closed_there : (front rest : List ℕ) → IsUnclosed (front ++ 42 ∷ 47 ∷ rest) → ⊥
closed_there [] rest u = u.0 (refl, refl)
closed_there (a ∷ []) rest u = u.1.0 (refl, refl)
closed_there (a ∷ b ∷ front) rest u = closed_there (b ∷ front) rest u.1

no_close : (text : List ℕ) → IsUnclosed text → ¬ HasClose text
no_close text u has = closed_there has.0 has.1 (subst IsUnclosed has.2 u)

unclosed_front : (x y : List ℕ) → IsUnclosed (x ++ y) → IsUnclosed x
unclosed_front [] y u = tt
unclosed_front (a ∷ []) y u = tt
unclosed_front (a ∷ b ∷ x) y u = (u.0, unclosed_front (b ∷ x) y u.1)

unclosed_push : (text : List ℕ) (c : ℕ) → IsUnclosed text → c ≢ 47 → IsUnclosed (text ++ c ∷ [])
unclosed_push [] c u other = tt
unclosed_push (a ∷ []) c u other = (λ is. other is.1, tt)
unclosed_push (a ∷ b ∷ text) c u other = (u.0, unclosed_push (b ∷ text) c u.1 other)

unclosed_more : (text : List ℕ) (c d : ℕ) → IsUnclosed (text ++ c ∷ []) → ¬ ((c ≡ 42) × (d ≡ 47)) → IsUnclosed (text ++ c ∷ d ∷ [])
unclosed_more [] c d u other = (other, tt)
unclosed_more (a ∷ []) c d u other = (u.0, (other, tt))
unclosed_more (a ∷ b ∷ text) c d u other = (u.0, unclosed_more (b ∷ text) c d u.1 other)

pub no_close_in_front : (x y : List ℕ) → ¬ HasClose (x ++ y) → ¬ HasClose x
no_close_in_front x y h = no_close x (unclosed_front x y (IsUnclosed-from (x ++ y) h))

-- a `/` alone closes nothing
pub nothing_closes : ¬ HasClose (47 ∷ [])
nothing_closes = no_close (47 ∷ []) tt

-- the bytes of an open `/*` comment, by the next byte
block_before_star : (text : List ℕ) → ¬ HasClose (text ++ 47 ∷ []) → ¬ HasClose (text ++ 42 ∷ [])
block_before_star text h =
    no_close _ (unclosed_push text 42 (unclosed_front text (47 ∷ []) (IsUnclosed-from _ h)) (λ e. omega arith))

block_before_other : (text : List ℕ) (b : ℕ) → ¬ HasClose (text ++ 47 ∷ []) → b ≢ 42 → ¬ HasClose (text ++ b ∷ [] ++ 47 ∷ [])
block_before_other text b h other =
    let u = IsUnclosed-from _ h in
    let pushed : IsUnclosed (text ++ b ∷ []) = ⊎_elim
    (λ (e : b ≡ 47). subst (λ c. IsUnclosed (text ++ c ∷ [])) (sym e) u)
    (λ (ne : b ≡ 47 → ⊥). unclosed_push text b (unclosed_front text (47 ∷ []) u) ne)
    (cases_eq b 47) in
    no_close _ (subst IsUnclosed (sym (append_assoc text (b ∷ []) (47 ∷ []))) (unclosed_more text b 47 pushed (λ is. other is.0)))

star_before_star : (text : List ℕ) → ¬ HasClose (text ++ 42 ∷ []) → ¬ HasClose (text ++ 42 ∷ [] ++ 42 ∷ [])
star_before_star text h =
    no_close _ (subst IsUnclosed (sym (append_assoc text (42 ∷ []) (42 ∷ []))) (unclosed_more text 42 42 (IsUnclosed-from _ h) (λ is. let e : ◌≡◌ {A = ℕ} 42 47 = is.1 in omega arith)))

star_before_other : (text : List ℕ) (b : ℕ) → ¬ HasClose (text ++ 42 ∷ []) → b ≢ 47 → b ≢ 42 → ¬ HasClose (text ++ 42 ∷ [] ++ b ∷ [] ++ 47 ∷ [])
star_before_other text b h no_slash no_star =
    let u : IsUnclosed (text ++ 42 ∷ [] ++ b ∷ []) = subst IsUnclosed (sym (append_assoc text (42 ∷ []) (b ∷ []))) (unclosed_more text 42 b (IsUnclosed-from _ h) (λ is. no_slash is.1)) in
    no_close _ (subst IsUnclosed (sym (append_assoc (text ++ 42 ∷ []) (b ∷ []) (47 ∷ []))) (unclosed_more (text ++ 42 ∷ []) b 47 u (λ is. no_star is.0)))

-- an open comment and one more byte
pub line_grows : (b : ℕ) → b ≢ 10 → (tail : List ℕ) → IsOpen LineComment tail → IsOpen LineComment (tail ++ b ∷ [])
line_grows b other tail h =
    (h.0 ++ b ∷ [], ap (λ l. l ++ b ∷ []) h.1, All-push (λ c. c ≢ 10) h.0 b h.2 other)

pub block_grows : (b : ℕ) → b ≢ 42 → (tail : List ℕ) → IsOpen BlockComment tail → IsOpen BlockComment (tail ++ b ∷ [])
block_grows b other tail h =
    (h.0 ++ b ∷ [], ap (λ l. l ++ b ∷ []) h.1, block_before_other h.0 b h.2 other)

pub block_to_star : (b : ℕ) → b ≡ 42 → (tail : List ℕ) → IsOpen BlockComment tail → IsOpen AfterStar (tail ++ b ∷ [])
block_to_star b is tail h =
    (h.0, ap (λ l. l ++ b ∷ []) h.1 ∙ ap (λ c. 47 ∷ 42 ∷ (h.0 ++ c ∷ [])) is, block_before_star h.0 h.2)

pub star_to_star : (b : ℕ) → b ≡ 42 → (tail : List ℕ) → IsOpen AfterStar tail → IsOpen AfterStar (tail ++ b ∷ [])
star_to_star b is tail h =
    (h.0 ++ 42 ∷ [], ap (λ l. l ++ b ∷ []) h.1 ∙ ap (λ c. 47 ∷ 42 ∷ (h.0 ++ 42 ∷ [] ++ c ∷ [])) is, star_before_star h.0 h.2)

pub star_to_block : (b : ℕ) → b ≢ 47 → b ≢ 42 → (tail : List ℕ) → IsOpen AfterStar tail → IsOpen BlockComment (tail ++ b ∷ [])
star_to_block b no_slash no_star tail h =
    (h.0 ++ 42 ∷ [] ++ b ∷ [], ap (λ l. l ++ b ∷ []) h.1, star_before_other h.0 b h.2 no_slash no_star)

-- these bytes and one more are a comment
abbrev pub IsClosedBy : ℕ → List ℕ → Type 0
IsClosedBy b tail = (atom : Atom) × (tail ++ b ∷ [] ≡ atom_text atom) × IsComment atom

pub line_closes : (b : ℕ) → b ≡ 10 → (tail : List ℕ) → IsOpen LineComment tail → IsClosedBy b tail
line_closes b is tail h =
    (Line h.0, ap (λ l. l ++ b ∷ []) h.1 ∙ ap (λ c. 45 ∷ 45 ∷ (h.0 ++ c ∷ [])) is, h.2)

pub star_closes : (b : ℕ) → b ≡ 47 → (tail : List ℕ) → IsOpen AfterStar tail → IsClosedBy b tail
star_closes b is tail h =
    (Block h.0, ap (λ l. l ++ b ∷ []) h.1 ∙ ap (λ l. 47 ∷ 42 ∷ l) (append_assoc h.0 (42 ∷ []) (b ∷ [])) ∙ ap (λ c. 47 ∷ 42 ∷ (h.0 ++ 42 ∷ c ∷ [])) is, h.2)

-- what is held, by how many bytes there are
holding-short : (body : List ℕ) → length body ≤ 65536 → holding body ≡ Some body
holding-short body h = cond-true _ _ _ (le-leb _ _ h)

holding-long : (body : List ℕ) → 65536 < length body → holding body ≡ None
holding-long body h = cond-false _ _ _ (lt-leb _ _ h)

-- no more bytes are held where there is no room
holding-full : (body : List ℕ) (b : ℕ) → 65536 ≤ length body → with_byte (holding body) b ≡ None
holding-full body b full =
    ⊎_elim
    (λ (longer : 65536 < length body). ap (λ held. with_byte held b) (holding-long body longer))
    (λ (same : length body ≤ 65536).
    ap (λ held. with_byte held b) (holding-short body same) ∙ cond-false _ _ _ (le-ltb _ _ full))
    (cases_lt 65536 (length body))

-- what is held of one more byte
pub holding-push : (body : List ℕ) (b : ℕ) → with_byte (holding body) b ≡ holding (body ++ b ∷ [])
holding-push body b =
    let one_more = length_push body b in
    ⊎_elim
    (λ (short : length body < 65536).
    ap (λ held. with_byte held b) (holding-short body (omega arith)) ∙ cond-true _ _ _ (lt-ltb _ _ short) ∙ sym (holding-short (body ++ b ∷ []) (omega arith)))
    (λ (full : 65536 ≤ length body).
    holding-full body b full ∙ sym (holding-long (body ++ b ∷ []) (omega arith)))
    (cases_lt (length body) 65536)
