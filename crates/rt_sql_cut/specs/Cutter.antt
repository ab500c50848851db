-- Where a cutter stands: the kind of place at which the bytes since the last piece's end stop, and
-- what is held of a piece there.
use Rattle.std.specs.Prelude.{◌≡◌, ℕ, Bool, true, false, List, [], ◌∷◌, ◌++◌, Option, Some, None}
use Rattle.std.specs.Option.{option_map}
use Rattle.rt_sql_cut.specs.Pieces.{PieceText, Atom, atoms_text, IsClosedGap, AreAtoms, IsOpenQuote, BeginsStatement, IsDotLine, holding, piece_of, IsWholePiece}
use Rattle.rt_sql_cut.specs.Text.{HasClose, IsLineText, IsBlockText}
use Rattle.rt_sql_cut.specs.declared.piece.Ending.{Ending}
use Rattle.rt_sql_cut.specs.declared.piece.Ending.TheVariants.{Whole, Incomplete}
use Rattle.rt_sql_cut.specs.declared.cutter.Part.TheVariants.{Gap, Statement}
use Rattle.rt_sql_cut.specs.declared.cutter.Spot.{Spot}
use Rattle.rt_sql_cut.specs.declared.cutter.Spot.TheVariants.{Between, AfterDash, AfterSlash, LineComment, BlockComment, AfterStar}
use Rattle.rt_sql_cut.specs.declared.cutter.Place.{Place}
use Rattle.rt_sql_cut.specs.declared.cutter.Place.TheVariants.{In, Quoted, DotLine, End}

-- the kind of place, what is held of the piece there, and whether the input has ended
pub record Front : Type 0 where
  pub place : Place
  pub held : Option (List ℕ)
  pub finished : Bool

-- the bytes after the last whole atom, by the spot at which they stop: `BlockComment` is where not
-- even a `/` would end the comment
abbrev pub IsOpen : Spot → List ℕ → Type 0
IsOpen Between tail = tail ≡ []
IsOpen AfterDash tail = tail ≡ 45 ∷ []
IsOpen AfterSlash tail = tail ≡ 47 ∷ []
IsOpen LineComment tail = (text : List ℕ) × (tail ≡ 45 ∷ 45 ∷ text) × IsLineText text
IsOpen BlockComment tail = (text : List ℕ) × (tail ≡ 47 ∷ 42 ∷ text) × ¬ HasClose (text ++ 47 ∷ [])
IsOpen AfterStar tail =
    (text : List ℕ) × (tail ≡ 47 ∷ 42 ∷ (text ++ 42 ∷ [])) × IsBlockText text

-- the bytes in a gap that may turn out to begin a statement
abbrev pub possible_start : Spot → List ℕ
possible_start Between = []
possible_start AfterDash = 45 ∷ []
possible_start AfterSlash = 47 ∷ []
possible_start LineComment = []
possible_start BlockComment = []
possible_start AfterStar = []

-- the bytes since the last piece's end stop in a gap, at this spot
pub record StopsInGap (spot : Spot) (held : Option (List ℕ)) (x : List ℕ) : Type 0 where
  pub gap : List ℕ
  pub tail : List ℕ
  pub split : x ≡ gap ++ tail
  pub closed : IsClosedGap gap
  pub open_tail : IsOpen spot tail
  pub holds : held ≡ Some (possible_start spot)

-- the bytes since the last piece's end stop in a statement, behind atoms and such a tail, whatever
-- comes after them
pub record StopsInStatement (Tail : List ℕ → Type 0) (held : Option (List ℕ)) (x : List ℕ) : Type 0 where
  pub gap : List ℕ
  pub body : List ℕ
  pub split : x ≡ gap ++ body
  pub closed : IsClosedGap gap
  pub begins : (rest : List ℕ) → BeginsStatement (body ++ rest)
  pub holds : held ≡ holding body
  pub atoms : List Atom
  pub tail : List ℕ
  pub parts : body ≡ atoms_text atoms ++ tail
  pub are_atoms : (rest : List ℕ) → AreAtoms atoms (tail ++ rest)
  pub open_tail : Tail tail

-- the bytes since the last piece's end stop in a dot line
pub record StopsInDotLine (held : Option (List ℕ)) (x : List ℕ) : Type 0 where
  pub gap : List ℕ
  pub line : List ℕ
  pub split : x ≡ gap ++ line
  pub closed : IsClosedGap gap
  pub is_line : IsDotLine line
  pub holds : held ≡ holding line

-- the bytes since the last piece's end stop at this kind of place
abbrev pub StopsAt : Place → Option (List ℕ) → List ℕ → Type 0
StopsAt (In Gap spot) held x = StopsInGap spot held x
StopsAt (In Statement spot) held x = StopsInStatement (IsOpen spot) held x
StopsAt (Quoted quote) held x = StopsInStatement (IsOpenQuote quote) held x
StopsAt DotLine held x = StopsInDotLine held x
StopsAt End held x = IsWholePiece x (piece_of held Whole)

-- the place after these bytes, taken since the last piece's end, in an input that may go on
abbrev pub StandsAt : Front → List ℕ → Type 0
StandsAt f x = (f.finished ≡ false) × StopsAt f.place f.held x

-- the same, if the input has ended
abbrev pub StandsAtEnd : Front → List ℕ → Type 0
StandsAtEnd f x = (f.finished ≡ true) × StopsAt f.place f.held x

-- how the end of the input ends a piece at a kind of place
abbrev pub last_ending : Place → Option Ending
last_ending (In Gap Between) = None
last_ending (In Gap AfterDash) = Some Incomplete
last_ending (In Gap AfterSlash) = Some Incomplete
last_ending (In Gap LineComment) = None
last_ending (In Gap BlockComment) = None
last_ending (In Gap AfterStar) = None
last_ending (In Statement spot) = Some Incomplete
last_ending (Quoted quote) = Some Incomplete
last_ending DotLine = Some Whole
last_ending End = Some Whole

-- how a piece ended at a kind of place, if one has
abbrev pub ending_at : Place → Bool → Option Ending
ending_at place true = last_ending place
ending_at (In part spot) false = None
ending_at (Quoted quote) false = None
ending_at DotLine false = None
ending_at End false = Some Whole

-- the piece that is ready
abbrev pub ready_piece : Front → Option PieceText
ready_piece f = option_map (λ ending. piece_of f.held ending) (ending_at f.place f.finished)
