-- What a piece of a script asks for, or why it is refused. Source: own.
use Rattle.std.specs.Prelude.{◌≡◌, ◌⊎◌, ℕ, Bool, false, not, List, [], ◌∷◌, ◌++◌, Result, Ok, Err, Contains, IsTrue}
use Rattle.std.specs.Str.{IsUtf8}
use Rattle.rt_sql_cut.specs.declared.piece.Ending.{Ending}
use Rattle.rt_sql_cut.specs.declared.piece.Ending.TheVariants.{Whole, Incomplete, TooLong}
use Rattle.rt_sql_statement.specs.declared.refusal.Refusal.{Refusal}
use Rattle.rt_sql_statement.specs.declared.refusal.Refusal.TheVariants.{SyntaxError, IncompleteInput, StatementTooLong, NotUtf8, IntegerOutOfRange, OutOfMemory, UnknownCommand}
use Rattle.rt_sql_request.specs.declared.request.Stmt.{Stmt}
use Rattle.rt_sql.specs.declared.token.Token.{Token}
use Rattle.rt_sql.specs.declared.token.Token.TheVariants as token
use Rattle.rt_sql.specs.Grammar.{Spells, is_command}
use Rattle.rt_sql.specs.Number.{WritesAnySize, WritesWithin64Bits}
use Rattle.rt_sql_cut.specs.Pieces.{PieceText, Atom, atoms_text, AreAtoms}
use Rattle.rt_sql_cut.specs.Text.{is_quote}
use Rattle.rt_sql.specs.Token.{Text, double}
use Rattle.rt_sql.specs.Tokens.{PieceTokens}

-- UTF-8 with no zero byte
abbrev pub IsText : Text → Type 0
IsText text = IsUtf8 text × ¬ Contains text 0

-- a dot line whose word is none of the grammar's
abbrev pub is_unknown : List Token → Bool
is_unknown [] = false
is_unknown (token.Dot w ∷ ts) = not (is_command w)
is_unknown (t ∷ ts) = false

-- The statement that the tokens spell, all of its integers within 64 bits. An unknown command comes before a syntax error,
-- which is due if they spell none with integers of any size.
abbrev pub ParsesText : Text → Result Stmt Refusal → Type 0
ParsesText text (Ok asked) = (tokens : List Token) × PieceTokens text tokens × Spells WritesWithin64Bits tokens asked
ParsesText text (Err UnknownCommand) = (tokens : List Token) × PieceTokens text tokens × IsTrue (is_unknown tokens)
ParsesText text (Err SyntaxError) =
    (tokens : List Token) × PieceTokens text tokens × (is_unknown tokens ≡ false) × ((asked : Stmt) → ¬ Spells WritesAnySize tokens asked)
ParsesText text (Err IntegerOutOfRange) =
    (tokens : List Token) × PieceTokens text tokens × ((asked : Stmt) × Spells WritesAnySize tokens asked) × ((asked : Stmt) → ¬ Spells WritesWithin64Bits tokens asked)
ParsesText text (Err _) = ⊥

abbrev pub ParsesAs : Ending → Text → Result Stmt Refusal → Type 0
ParsesAs TooLong text result = result ≡ Err StatementTooLong
ParsesAs Incomplete text result = result ≡ Err IncompleteInput
ParsesAs Whole text result = (IsText text × ParsesText text result) ⊎ (¬ IsText text × (result ≡ Err NotUtf8))

abbrev pub Parses : PieceText → Result Stmt Refusal → Type 0
Parses piece result = ParsesAs piece.ending piece.text result

-- memory may run out in place of any answer
abbrev pub ParsesUnlessMemory : PieceText → Result Stmt Refusal → Type 0
ParsesUnlessMemory piece result = (result ≡ Err OutOfMemory) ⊎ Parses piece result

-- ---- laws

abbrev pub OneStatement : Type 0
OneStatement = (tokens : List Token) (one other : Stmt) → Spells WritesAnySize tokens one → Spells WritesAnySize tokens other → one ≡ other

abbrev pub OneTokenList : Type 0
OneTokenList = (text : Text) (one other : List Token) → PieceTokens text one → PieceTokens text other → one ≡ other

abbrev pub EveryTextHasTokens : Type 0
EveryTextHasTokens = (text : Text) → (tokens : List Token) × PieceTokens text tokens

abbrev pub OneAnswer : Type 0
OneAnswer = (piece : PieceText) (one other : Result Stmt Refusal) → Parses piece one → Parses piece other → one ≡ other

-- what the tokens see as one quoted name or text the cutting sees as atoms, so no `;` in it ends a statement
abbrev pub QuotesAreAtoms : Type 0
QuotesAreAtoms =
    (quote : ℕ) (inside after : Text) → IsTrue (is_quote quote)
    → (atoms : List Atom) × (atoms_text atoms ≡ (quote ∷ double quote inside) ++ quote ∷ []) × AreAtoms atoms after

abbrev pub EveryPieceHasAnAnswer : Type 0
EveryPieceHasAnAnswer = (piece : PieceText) → (answer : Result Stmt Refusal) × Parses piece answer
