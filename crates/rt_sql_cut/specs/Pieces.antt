-- How a script's bytes are cut into pieces (own; comments and quotes are those of SQLite's SQL, dot
-- lines are like its shell's). Everything here speaks of whole texts. Bytes are their codes: 10 is a
-- line feed, 34 `"`, 39 `'`, 42 `*`, 45 `-`, 46 `.`, 47 `/` and 59 `;`.
use Rattle.std.specs.Prelude.{ℕ, List, ◌≡◌, ◌≢◌, Bool, false, ◌||◌, ◌==◌, nat_le, if◌then◌else◌, IsTrue, [], ◌∷◌, ◌++◌, length, ◌⊎◌, All, Option, Some, None}
use Rattle.rt_sql_cut.specs.declared.piece.Ending.{Ending}
use Rattle.rt_sql_cut.specs.Text.{is_white, is_quote, Lacks, BeginsComment, IsLineText, IsBlockText, IsOpenBlockText}
use Rattle.rt_sql_cut.specs.declared.piece.Ending.TheVariants.{Whole, Incomplete, TooLong}

-- a piece: its bytes, with the `;` of a statement, and how it ended
pub record PieceText : Type 0 where
  pub text : List ℕ
  pub ending : Ending

-- a byte that may stand between pieces: white, or `;`
abbrev pub is_gap_byte : ℕ → Bool
is_gap_byte b = is_white b || b == 59

-- a part of a text that is read as one: a byte, a `--` comment with the line feed that ends it, a
-- `/*` comment, or what stands in quotes
pub data Atom : Type 0 where
  Byte : ℕ → Atom
  Line : List ℕ → Atom
  Block : List ℕ → Atom
  Quoted : ℕ → List ℕ → Atom

-- the bytes of an atom
abbrev pub atom_text : Atom → List ℕ
atom_text (Byte b) = b ∷ []
atom_text (Line text) = 45 ∷ 45 ∷ (text ++ 10 ∷ [])
atom_text (Block text) = 47 ∷ 42 ∷ (text ++ 42 ∷ 47 ∷ [])
atom_text (Quoted quote text) = quote ∷ (text ++ quote ∷ [])

-- the bytes of atoms, one after another
abbrev pub atoms_text : List Atom → List ℕ
atoms_text [] = []
atoms_text (atom ∷ atoms) = atom_text atom ++ atoms_text atoms

-- a comment, which ends at the first line feed, or at the first `*/` after its `/*`
abbrev pub IsComment : Atom → Type 0
IsComment (Byte b) = ⊥
IsComment (Line text) = IsLineText text
IsComment (Block text) = IsBlockText text
IsComment (Quoted quote text) = ⊥

-- a comment that doesn't end
abbrev pub IsOpenComment : List ℕ → Type 0
IsOpenComment x =
    ((text : List ℕ) × (x ≡ 45 ∷ 45 ∷ text) × IsLineText text)
    ⊎ ((text : List ℕ) × (x ≡ 47 ∷ 42 ∷ text) × IsOpenBlockText text)

-- an atom that may stand between pieces
abbrev pub IsGapAtom : Atom → Type 0
IsGapAtom (Byte b) = IsTrue (is_gap_byte b)
IsGapAtom (Line text) = IsComment (Line text)
IsGapAtom (Block text) = IsComment (Block text)
IsGapAtom (Quoted quote text) = ⊥

-- what stands before a piece
abbrev pub IsClosedGap : List ℕ → Type 0
IsClosedGap x = (atoms : List Atom) × (x ≡ atoms_text atoms) × All IsGapAtom atoms

-- nothing but what may stand between pieces, to the end of the text
abbrev pub IsGap : List ℕ → Type 0
IsGap x = (gap tail : List ℕ) × (x ≡ gap ++ tail) × IsClosedGap gap × ((tail ≡ []) ⊎ IsOpenComment tail)

-- an atom that may stand in a statement, before these bytes: a byte that is no `;`, no quote and no
-- beginning of a comment, a comment, or quotes with none of their own kind between them
abbrev pub IsAtom : Atom → List ℕ → Type 0
IsAtom (Byte b) rest = (b ≢ 59) × (is_quote b ≡ false) × ¬ BeginsComment (b ∷ rest)
IsAtom (Line text) rest = IsComment (Line text)
IsAtom (Block text) rest = IsComment (Block text)
IsAtom (Quoted quote text) rest = IsTrue (is_quote quote) × Lacks quote text

-- atoms of a statement, before these bytes
abbrev pub AreAtoms : List Atom → List ℕ → Type 0
AreAtoms [] rest = Unit {0}
AreAtoms (atom ∷ atoms) rest = IsAtom atom (atoms_text atoms ++ rest) × AreAtoms atoms rest

-- a quote that isn't closed, and what follows it
abbrev pub IsOpenQuote : ℕ → List ℕ → Type 0
IsOpenQuote quote x = (text : List ℕ) × (x ≡ quote ∷ text) × IsTrue (is_quote quote) × Lacks quote text

-- a statement begins if neither a gap nor a dot line goes on
abbrev pub BeginsStatement : List ℕ → Type 0
BeginsStatement [] = ⊥
BeginsStatement (b ∷ rest) = (is_gap_byte b ≡ false) × (b ≢ 46) × ¬ BeginsComment (b ∷ rest)

-- a statement up to and with its `;`
abbrev pub IsStatement : List ℕ → Type 0
IsStatement x =
    (atoms : List Atom) × (x ≡ atoms_text atoms ++ 59 ∷ []) × AreAtoms atoms (59 ∷ [])
    × BeginsStatement x

-- a statement whose `;` doesn't come
abbrev pub IsOpenStatement : List ℕ → Type 0
IsOpenStatement x =
    (atoms : List Atom) × (tail : List ℕ) × (x ≡ atoms_text atoms ++ tail) × AreAtoms atoms tail
    × BeginsStatement x
    × ((tail ≡ []) ⊎ (IsOpenComment tail ⊎ ((quote : ℕ) × IsOpenQuote quote tail)))

-- a line that begins with `.`, without its line feed
abbrev pub IsDotLine : List ℕ → Type 0
IsDotLine x = (words : List ℕ) × (x ≡ 46 ∷ words) × Lacks 10 words

-- what is held of the bytes of a piece: all of them, or nothing of more than 65,536
abbrev pub holding : List ℕ → Option (List ℕ)
holding bytes = if nat_le (length bytes) 65536 then Some bytes else None

-- a piece as what is held of it shows it
abbrev pub piece_of : Option (List ℕ) → Ending → PieceText
piece_of (Some bytes) ending = record { text = bytes; ending = ending }
piece_of None ending = record { text = []; ending = TooLong }

-- a piece of these bytes, as it is handed out
abbrev pub piece_from : List ℕ → Ending → PieceText
piece_from bytes ending = piece_of (holding bytes) ending

-- a gap and then one piece, which ends where the text ends
abbrev pub IsWholePiece : List ℕ → PieceText → Type 0
IsWholePiece x p =
    (gap body : List ℕ) × (x ≡ gap ++ body) × IsClosedGap gap
    × ((IsStatement body × (p ≡ piece_from body Whole))
    ⊎ ((line : List ℕ) × (body ≡ line ++ 10 ∷ []) × IsDotLine line × (p ≡ piece_from line Whole)))

-- a gap and then a piece that has begun, which only the end of the input ends
abbrev pub IsLastPiece : List ℕ → PieceText → Type 0
IsLastPiece x p =
    (gap body : List ℕ) × (x ≡ gap ++ body) × IsClosedGap gap
    × ((IsOpenStatement body × (p ≡ piece_from body Incomplete)) ⊎ (IsDotLine body × (p ≡ piece_from body Whole)))

-- the pieces of a whole text
abbrev pub Pieces : List ℕ → List PieceText → Type 0
Pieces x [] = IsGap x
Pieces x (p ∷ ps) =
    (IsLastPiece x p × (ps ≡ []))
    ⊎ ((front rest : List ℕ) × (x ≡ front ++ rest) × IsWholePiece front p × Pieces rest ps)

-- the pieces that have ended in a text that may go on
abbrev pub EndedPieces : List ℕ → List PieceText → Type 0
EndedPieces x [] = IsGap x ⊎ ((p : PieceText) × IsLastPiece x p)
EndedPieces x (p ∷ ps) =
    (front rest : List ℕ) × (x ≡ front ++ rest) × IsWholePiece front p × EndedPieces rest ps

-- no text is cut in two ways
abbrev pub CuttingIsDetermined : Type 0
CuttingIsDetermined = (x : List ℕ) (ps qs : List PieceText) → Pieces x ps → Pieces x qs → ps ≡ qs

-- each text is cut in some way
abbrev pub EveryTextIsCut : Type 0
EveryTextIsCut = (x : List ℕ) → (ps : List PieceText) × Pieces x ps
