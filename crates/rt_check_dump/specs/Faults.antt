-- Dumps, texts that begin one, and what is wrong with a text that isn't one (own). Only the laws at the end
-- speak of how a text is read.
use Rattle.std.specs.Prelude.{◌≡◌, ◌⊎◌, ◌↔◌, ℕ, zero, suc, ◌+◌, ◌-◌, ◌<◌, ◌≤◌, nat_le, List, [], ◌∷◌, ◌++◌, get_or, Option, None, Some, Ok, Err, ◌==◌, if◌then◌else◌}
use Rattle.rt_check_dump.specs.declared.dump.AnyShadow.{AnyShadow}
use Rattle.rt_check_dump.specs.declared.lines.LineKind.{LineKind}
use Rattle.rt_check_dump.specs.declared.lines.LineKind.TheVariants.{Header, Node, Cell, Row, End}
use Rattle.rt_check_dump.specs.Pieces.{pieces}
use Rattle.rt_check_dump.specs.Lines.{words, kind_of, node_head, row_entry, raw_cell, axes_of, header_of}
use Rattle.rt_check_dump.specs.Dump.{any_text}
use Rattle.rt_check_dump.specs.InRange.{IsAnyInRange, IsAnyNumbered}
use Rattle.rt_check_dump.specs.Reading.{read_text}
use Rattle.rt_check_dump.specs.declared.fault.LineFault.{LineFault}
use Rattle.rt_check_dump.specs.declared.fault.LineFault.TheVariants.{Truncated, BadLine, CountWrong, OutOfRange, ListedTwice}

-- the text of a shadow whose numbers fit their types and count from 1
pub record IsTextOf (shadow : AnyShadow) (text : List ℕ) : Type 0 where
  pub in_range : IsAnyInRange shadow
  pub numbered : IsAnyNumbered shadow
  pub same : any_text shadow ≡ text

abbrev pub IsDump : List ℕ → Type 0
IsDump text = (shadow : AnyShadow) × IsTextOf shadow text

-- some dump begins with these bytes
abbrev pub BeginsDump : List ℕ → Type 0
BeginsDump front = (rest : List ℕ) × IsDump (front ++ rest)

-- the first n lines of a text, each with its byte 10; all of a text that has no more
abbrev pub first_lines : ℕ → List ℕ → List ℕ
first_lines zero text = []
first_lines (suc n) [] = []
first_lines (suc n) (b ∷ bs) = b ∷ first_lines (if b == 10 then n else suc n) bs

-- how many lines of a text are ended
abbrev pub line_ends : List ℕ → ℕ
line_ends [] = 0
line_ends (b ∷ bs) = if b == 10 then suc (line_ends bs) else line_ends bs

-- the lines before line n
abbrev pub lines_before : List ℕ → ℕ → List ℕ
lines_before text n = first_lines (n - 1) text

-- line n is the first that fits no dump: the lines before it begin some dump, with it they begin none, and its
-- byte 10 is there, or a whole dump stands before it
pub record IsMisfit (text : List ℕ) (n : ℕ) : Type 0 where
  pub before : BeginsDump (lines_before text n)
  pub with_it : BeginsDump (first_lines n text) → ⊥
  pub seen : (n ≤ line_ends text) ⊎ IsDump (lines_before text n)

-- the text ends within line n: the lines before it begin some dump, and are none
pub record IsTruncated (text : List ℕ) (n : ℕ) : Type 0 where
  pub last : n ≡ line_ends text + 1
  pub before : BeginsDump (lines_before text n)
  pub unended : IsDump (lines_before text n) → ⊥

-- the words of line n, without its byte 10
abbrev pub words_at : List ℕ → ℕ → List (List ℕ)
words_at text n = words (get_or (pieces 10 text) (n - 1) [])

-- the second word of line n: a header's number of axes, a node's number, a row's id
abbrev pub second_word : List ℕ → ℕ → List ℕ
second_word text n = get_or (words_at text n) 1 []

-- the number of axes, which the header tells to the lines after it
abbrev pub axes_at : List ℕ → ℕ → Option ℕ
axes_at text n = if nat_le n 1 then None else axes_of (second_word text 1)

-- the kind of line n by its spelling
abbrev pub kind_at : List ℕ → ℕ → Option LineKind
kind_at text n = kind_of (axes_at text n) (words_at text n)

-- some dump begins with these lines, and its line n, the next one, is of this kind
abbrev pub CanFollow : List ℕ → ℕ → LineKind → Type 0
CanFollow front n kind = (rest : List ℕ) × IsDump (front ++ rest) × (kind_at (front ++ rest) n ≡ Some kind)

-- a line of this kind that says nothing: one of its numbers is outside its range
abbrev pub SaysNothing : LineKind → Option ℕ → List (List ℕ) → Type 0
SaysNothing Header axes ws = header_of ws ≡ None
SaysNothing Node axes ws = node_head ws ≡ None
SaysNothing Cell (Some axes) ws = raw_cell axes ws ≡ None
SaysNothing Cell None ws = ⊥
SaysNothing Row axes ws = row_entry ws ≡ None
SaysNothing End axes ws = ⊥

-- a misfit that is spelled as none of the five kinds, or stands after a whole dump
pub record IsBadLine (text : List ℕ) (n : ℕ) : Type 0 where
  pub misfit : IsMisfit text n
  pub no_line : (kind_at text n ≡ None) ⊎ IsDump (lines_before text n)

-- a misfit that is spelled as this kind, and stands after no whole dump
pub record IsMisfitOf (kind : LineKind) (text : List ℕ) (n : ℕ) : Type 0 where
  pub misfit : IsMisfit text n
  pub spelled : kind_at text n ≡ Some kind
  pub unended : IsDump (lines_before text n) → ⊥

-- a misfit of a kind that can't stand there
pub record IsCountWrong (text : List ℕ) (n : ℕ) : Type 0 where
  pub kind : LineKind
  pub line : IsMisfitOf kind text n
  pub not_due : CanFollow (lines_before text n) n kind → ⊥

-- a misfit of a kind that can stand there, with a number outside its range
pub record IsOutOfRange (text : List ℕ) (n : ℕ) : Type 0 where
  pub kind : LineKind
  pub line : IsMisfitOf kind text n
  pub due : CanFollow (lines_before text n) n kind
  pub outside : SaysNothing kind (axes_at text n) (words_at text n)

-- a misfit of a kind that can stand there, a node's or a row's, with its numbers in range: the node's number or the
-- row's id is that of a line of its kind before it
pub record IsListedTwice (text : List ℕ) (n : ℕ) : Type 0 where
  pub kind : LineKind
  pub line : IsMisfitOf kind text n
  pub due : CanFollow (lines_before text n) n kind
  pub listing : (kind ≡ Node) ⊎ (kind ≡ Row)
  pub in_range : SaysNothing kind (axes_at text n) (words_at text n) → ⊥
  pub first : ℕ
  pub earlier : (1 ≤ first) × (first < n)
  pub same_kind : kind_at text first ≡ Some kind
  pub same_name : second_word text first ≡ second_word text n

-- line n has this fault
abbrev pub HasFault : LineFault → List ℕ → ℕ → Type 0
HasFault Truncated text n = IsTruncated text n
HasFault BadLine text n = IsBadLine text n
HasFault CountWrong text n = IsCountWrong text n
HasFault OutOfRange text n = IsOutOfRange text n
HasFault ListedTwice text n = IsListedTwice text n

-- reading finds exactly the dumps, the misfits, and the fault of each
abbrev pub DumpsAreRead : Type 0
DumpsAreRead = (text : List ℕ) (shadow : AnyShadow) → (read_text text ≡ Ok shadow) ↔ IsTextOf shadow text

abbrev pub MisfitsAreFound : Type 0
MisfitsAreFound = (text : List ℕ) (n : ℕ) → ((fault : LineFault) × (fault ≡ Truncated → ⊥) × (read_text text ≡ Err (n, fault))) ↔ IsMisfit text n

abbrev pub FaultsAreFound : Type 0
FaultsAreFound = (text : List ℕ) (n : ℕ) (fault : LineFault) → (read_text text ≡ Err (n, fault)) ↔ HasFault fault text n

-- a text is a dump or has a fault, and not both, nor two
abbrev pub IsDumpOrFaulty : Type 0
IsDumpOrFaulty = (text : List ℕ) → IsDump text ⊎ ((n : ℕ) × (fault : LineFault) × HasFault fault text n)

abbrev pub OneAnswer : Type 0
OneAnswer = (text : List ℕ) (n : ℕ) (fault : LineFault) → HasFault fault text n
    → (IsDump text → ⊥) × ((m : ℕ) (other : LineFault) → HasFault other text m → (m ≡ n) × (other ≡ fault))
