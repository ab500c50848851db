-- A dump read line by line (own): the shadow that it is the text of, or its first faulty line and
-- the first fault that applies to it.
use Rattle.std.specs.Prelude.{◌≡◌, ℕ, ◌+◌, ◌-◌, Bool, true, false, ◌&&◌, List, [], ◌∷◌, ◌++◌, Option, None, Some, Result, Ok, Err, MatchResult, length, nat_lt, ◌==◌, if◌then◌else◌}
use Rattle.std.specs.List.{list_any}
use Rattle.std.specs.Ordering.{int_eq}
use Rattle.rt_check.specs.declared.node.NodeRow.{NodeRow}
use Rattle.rt_check.specs.declared.node.RawCell.{RawCell}
use Rattle.rt_check.specs.declared.node.RowEntry.{RowEntry}
use Rattle.rt_check_dump.specs.declared.lines.LineKind.{LineKind}
use Rattle.rt_check_dump.specs.declared.lines.LineKind.TheVariants.{Header, Node, Cell, Row, End}
use Rattle.rt_check_dump.specs.declared.lines.NodeHead.{NodeHead}
use Rattle.rt_check_dump.specs.declared.dump.AnyShadow.{AnyShadow}
use Rattle.rt_check_dump.specs.declared.dump.AnyShadow.TheVariants.{One, Two, Three}
use Rattle.rt_check_dump.specs.declared.reading.Heading.{Heading}
use Rattle.rt_check_dump.specs.Pieces.{pieces}
use Rattle.rt_check_dump.specs.declared.reading.Progress.{Progress}
use Rattle.rt_check_dump.specs.declared.reading.StepFault.{StepFault}
use Rattle.rt_check_dump.specs.declared.reading.StepFault.TheVariants.{Line, Memory as NoMemory}
use Rattle.rt_check_dump.specs.declared.fault.DumpFault.{DumpFault}
use Rattle.rt_check_dump.specs.declared.fault.DumpFault.TheVariants.{At, Memory}
use Rattle.rt_check.specs.Shadow.{ShadowLists, numbers_of, ids_of, with_cell}
use Rattle.rt_check_dump.specs.Lines.{words, kind_of, header_of, node_head, row_entry, raw_cell}
use Rattle.rt_check_dump.specs.declared.fault.LineFault.{LineFault}
use Rattle.rt_check_dump.specs.declared.fault.LineFault.TheVariants.{Truncated, BadLine, CountWrong, OutOfRange, ListedTwice}

module _ {D : ℕ} where
  -- the kind of line that is due
  abbrev pub due : Progress D → LineKind
  due p = if nat_lt 0 p.cells then Cell else if nat_lt 0 p.nodes then Node else if nat_lt 0 p.rows then Row else End

  -- the node of a line, still without cells
  abbrev pub empty_node : NodeHead → NodeRow D
  empty_node h = record { number = h.number; level = h.level; parent = h.parent; cells = [] }

  abbrev pub with_head : Progress D → NodeHead → Progress D
  with_head p h = record p {
    shadow = record p.shadow { nodes = p.shadow.nodes ++ empty_node h ∷ [] };
    nodes = p.nodes - 1;
    cells = h.cells;
  }

  -- a node's line
  abbrev pub after_head : Progress D → Option NodeHead → Result (Progress D) LineFault
  after_head p None = Err OutOfRange
  after_head p (Some h) = if list_any (int_eq h.number) (numbers_of p.shadow.nodes) then Err ListedTwice else Ok (with_head p h)

  -- a cell's line
  abbrev pub after_cell : Progress D → Option (RawCell D) → Result (Progress D) LineFault
  after_cell p None = Err OutOfRange
  after_cell p (Some c) = Ok (record p { shadow = with_cell p.shadow c; cells = p.cells - 1 })

  -- a row's line
  abbrev pub after_row : Progress D → Option RowEntry → Result (Progress D) LineFault
  after_row p None = Err OutOfRange
  after_row p (Some r) =
      if list_any (int_eq r.id) (ids_of p.shadow.rows) then Err ListedTwice
      else Ok (record p { shadow = record p.shadow { rows = p.shadow.rows ++ r ∷ [] }; rows = p.rows - 1 })

  -- a line of the second kind, when the first one is due
  abbrev pub after_kind : Progress D → List (List ℕ) → LineKind → LineKind → Result (Progress D) LineFault
  after_kind p ws Header kind = Err CountWrong
  after_kind p ws Node Node = after_head p (node_head ws)
  after_kind p ws Node kind = Err CountWrong
  after_kind p ws Cell Cell = after_cell p (raw_cell D ws)
  after_kind p ws Cell kind = Err CountWrong
  after_kind p ws Row Row = after_row p (row_entry ws)
  after_kind p ws Row kind = Err CountWrong
  after_kind p ws End End = Ok p
  after_kind p ws End kind = Err CountWrong

  -- a line by its spelling
  abbrev pub after_spelling : Progress D → List (List ℕ) → Option LineKind → Result (Progress D) LineFault
  after_spelling p ws None = Err BadLine
  after_spelling p ws (Some kind) = after_kind p ws (due p) kind

  -- a line after the header
  abbrev pub after_line : Progress D → List ℕ → Result (Progress D) LineFault
  after_line p line = after_spelling p (words line) (kind_of (Some D) (words line))

-- what a step gives is what was wanted, or memory was missing
abbrev pub IsFaultOf : {P : Type 0} → Result P LineFault → StepFault → Type 0
IsFaultOf wanted (Line fault) = wanted ≡ Err fault
IsFaultOf wanted NoMemory = Unit {0}

abbrev pub Gives : {P T : Type 0} → Result P LineFault → Result T StepFault → P → Type 0
Gives wanted result new = MatchResult result (λ _. wanted ≡ Ok new) (λ fault. IsFaultOf wanted fault)

-- the last of the pieces is empty and no other is left: the text's end
abbrev pub is_nothing : List (List ℕ) → Bool
is_nothing [] = false
is_nothing (l ∷ ls) = (length l == 0) && (length ls == 0)

abbrev pub is_end : LineKind → Bool
is_end End = true
is_end kind = false

-- a fault of a line becomes one of the text
abbrev pub at_line : {P S : Type 0} → ℕ → Result P LineFault → (P → Result S (ℕ × LineFault)) → Result S (ℕ × LineFault)
at_line n (Err fault) next = Err (n, fault)
at_line n (Ok p) next = next p

-- what the last line gives: the shadow, if only the text's end is left; else a fault of the next line, which is line n
abbrev pub after_last : {S : Type 0} → S → ℕ → List (List ℕ) → Result S (ℕ × LineFault)
after_last shadow n ls = if is_nothing ls then Ok shadow else Err (n, BadLine)

-- the lines after the header, the first of them line n; the last piece isn't a line
abbrev pub read_rest : {D : ℕ} → List (List ℕ) → Progress D → ℕ → Result (ShadowLists D) (ℕ × LineFault)
read_rest [] p n = Err (n, Truncated)
read_rest (l ∷ []) p n = Err (n, Truncated)
read_rest (l ∷ m ∷ ms) p n =
    at_line n (after_line p l) (λ q.
    if is_end (due p) then after_last q.shadow (n + 1) (m ∷ ms) else read_rest (m ∷ ms) q (n + 1))

-- the last line was read: what reading gives is decided by the shadow so far and by the lines left, the first of them line n
abbrev pub ReadsUpTo : {D : ℕ} → List (List ℕ) → Progress D → List (List ℕ) → Progress D → ℕ → Type 0
ReadsUpTo lines start left end n = read_rest lines start 2 ≡ after_last end.shadow n left

-- the fault of a text of which that line isn't taken
abbrev pub fault_at : ℕ → StepFault → DumpFault
fault_at line (Line fault) = At line fault
fault_at line NoMemory = Memory

-- what reading gives is what was wanted, or memory was missing
abbrev pub IsDumpFaultOf : {S : Type 0} → Result S (ℕ × LineFault) → DumpFault → Type 0
IsDumpFaultOf wanted (At line fault) = wanted ≡ Err (line, fault)
IsDumpFaultOf wanted Memory = Unit {0}

abbrev pub Reads : {S : Type 0} → Result S (ℕ × LineFault) → Result S DumpFault → Type 0
Reads wanted result = MatchResult result (λ s. wanted ≡ Ok s) (λ fault. IsDumpFaultOf wanted fault)

-- nothing is read after the header
abbrev pub start : (D : ℕ) → Heading → Progress D
start D h = record {
  shadow = record { capacity = h.capacity; root = h.root; nodes = []; rows = [] };
  nodes = h.nodes;
  rows = h.rows;
  cells = 0;
}

abbrev pub any_shadow : {S E : Type 0} → (S → AnyShadow) → Result S E → Result AnyShadow E
any_shadow make (Ok s) = Ok (make s)
any_shadow make (Err e) = Err e

-- the lines after a header
abbrev pub read_body : Heading → List (List ℕ) → Result AnyShadow (ℕ × LineFault)
read_body h ls =
    if h.axes == 1 then any_shadow One (read_rest ls (start 1 h) 2)
    else if h.axes == 2 then any_shadow Two (read_rest ls (start 2 h) 2)
    else any_shadow Three (read_rest ls (start 3 h) 2)

abbrev pub read_heading : Option Heading → List (List ℕ) → Result AnyShadow (ℕ × LineFault)
read_heading None ls = Err (1, OutOfRange)
read_heading (Some h) ls = read_body h ls

-- a first line of that kind
abbrev pub read_kind : Option LineKind → Option Heading → List (List ℕ) → Result AnyShadow (ℕ × LineFault)
read_kind None h ls = Err (1, BadLine)
read_kind (Some Header) h ls = read_heading h ls
read_kind (Some Node) h ls = Err (1, CountWrong)
read_kind (Some Cell) h ls = Err (1, CountWrong)
read_kind (Some Row) h ls = Err (1, CountWrong)
read_kind (Some End) h ls = Err (1, CountWrong)

abbrev pub read_lines : List (List ℕ) → Result AnyShadow (ℕ × LineFault)
read_lines [] = Err (1, Truncated)
read_lines (l ∷ []) = Err (1, Truncated)
read_lines (l ∷ m ∷ ms) = read_kind (kind_of None (words l)) (header_of (words l)) (m ∷ ms)

-- the shadow that the text is the dump of, or the first faulty line and what is wrong there
abbrev pub read_text : List ℕ → Result AnyShadow (ℕ × LineFault)
read_text text = read_lines (pieces 10 text)
