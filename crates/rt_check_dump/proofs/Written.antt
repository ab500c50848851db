-- What is written of a shadow is read as that shadow.
use Rattle.std.proofs.Common.{◌≡◌, ℕ, ◌+◌, ◌-◌, ◌<◌, ◌≤◌, ℤ, List, [], ◌∷◌, ◌++◌, Bool, true, false, ◌||◌, cond, refl, sym, ◌∙◌, ap, length, map, arith, Option, Some, Result, Ok, Err, append_assoc, append-nil}
use Rattle.std.specs.Prelude.{codes, nat_lt, slice_get, slice_set}
use Rattle.std.specs.List.{All, flat_map, list_any, IsDistinct, AllByRecursion}
use Rattle.std.specs.Ordering.{int_eq}
use Rattle.std.specs.Option.{option_map_or}
use Rattle.std.proofs.lemmas.Bool.{or_from}
use Rattle.std.proofs.lemmas.List.Elements.{All-head, All-tail}
use Rattle.rt_check.specs.declared.node.RawCell.{RawCell}
use Rattle.rt_check.specs.declared.node.NodeRow.{NodeRow}
use Rattle.rt_check.specs.declared.node.RowEntry.{RowEntry}
use Rattle.rt_check_dump.specs.declared.lines.LineKind.{LineKind}
use Rattle.rt_check_dump.specs.declared.lines.LineKind.TheVariants.{Node, Cell, Row, End}
use Rattle.rt_check_dump.specs.declared.reading.Progress.{Progress}
use Rattle.rt_check.specs.Shadow.{ShadowLists, numbers_of, ids_of, with_last}
use Rattle.rt_check_dump.specs.Pieces.{pieces}
use Rattle.rt_check_dump.specs.Lines.{kind_of}
use Rattle.rt_check_dump.specs.Dump.{line, cell_line, node_line, node_text, row_line, end_line}
use Rattle.rt_check_dump.specs.Reading.{due, after_spelling, after_kind, after_head, after_cell, after_row, after_line, is_end, is_nothing, at_line, read_rest}
use Rattle.rt_check_dump.specs.InRange.{IsCellInRange, IsRowInRange, IsPositive, IsNodeInRange, IsNodeNumbered}
use Rattle.rt_check_dump.proofs.Cuts.{pieces-some}
use Rattle.rt_check.proofs.Known.{same_number}
use Rattle.rt_check_dump.proofs.WrittenPieces.{IsWord, AreWords, spaced, words-spaced, pieces-line}
use Rattle.rt_check_dump.proofs.WrittenLines.{cell_words, row_words, node_words, cell-words, cell-kind, cell-read, row-words, row-kind, row-read, node-words, node-kind, node-read}
use Rattle.rt_check_dump.specs.declared.fault.LineFault.{LineFault}
use Rattle.rt_check_dump.specs.declared.fault.LineFault.TheVariants.{BadLine, ListedTwice}

-- a text that is read as a shadow once some lines are read
abbrev pub ReadsTo : {D : ℕ} → Progress D → List ℕ → ShadowLists D → Type 0
ReadsTo p text s = (n : ℕ) → read_rest (pieces 10 text) p n ≡ Ok s

module _ {D : ℕ} (p q : Progress D) (s : ShadowLists D) (n : ℕ) where
  next-line : (l : List ℕ) (ls : List (List ℕ)) → (ls ≡ [] → ⊥) → after_line p l ≡ Ok q → is_end (due p) ≡ false
      → read_rest ls q (n + 1) ≡ Ok s → read_rest (l ∷ ls) p n ≡ Ok s
  next-line l [] some after more reads = absurd (some refl)
  next-line l (m ∷ ms) some after more reads =
      let ended : Progress D → Result (ShadowLists D) (ℕ × LineFault) = λ q. cond (is_nothing (m ∷ ms)) (Ok q.shadow) (Err (n + 1, BadLine)) in
      ap (λ (r : Result (Progress D) LineFault). at_line n r (λ q. cond (is_end (due p)) (ended q) (read_rest (m ∷ ms) q (n + 1)))) after
      ∙ ap (λ b. cond b (ended q) (read_rest (m ∷ ms) q (n + 1))) more ∙ reads

-- a line is read, and then the rest
pub line-read : {D : ℕ} (p q : Progress D) (kind : List ℕ) (ws : List (List ℕ)) (rest : List ℕ) (s : ShadowLists D) → IsWord kind → AreWords ws
    → after_spelling p (kind ∷ ws) (kind_of (Some D) (kind ∷ ws)) ≡ Ok q → is_end (due p) ≡ false → ReadsTo q rest s → ReadsTo p (line kind ws ++ rest) s
line-read {D} p q kind ws rest s first others after more reads = λ n.
    ap (λ ls. read_rest ls p n) (pieces-line kind ws rest first others)
    ∙ next-line p q s n (kind ++ spaced ws) (pieces 10 rest) (pieces-some 10 rest)
    (ap (λ ws. after_spelling p ws (kind_of (Some D) ws)) (words-spaced kind ws first others) ∙ after) more (reads (n + 1))

-- the end
end-kind : (D : ℕ) → kind_of (Some D) (codes "end" ∷ []) ≡ Some End
end-kind D =
    refl

pub end-read : {D : ℕ} (s : ShadowLists D) → ReadsTo (record { shadow = s; nodes = 0; rows = 0; cells = 0 }) end_line s
end-read {D} s = λ n.
    let p : Progress D = record { shadow = s; nodes = 0; rows = 0; cells = 0 } in
    ap (λ (k : Option LineKind). at_line {S = ShadowLists D} n (after_spelling p (codes "end" ∷ []) k) (λ q. Ok q.shadow)) (end-kind D)

-- distinct keys: none of those before is the same
pub apart : (x y : ℤ) → int_eq y x ≡ false → int_eq x y ≡ false
apart x y other =
    let by_case : (b : Bool) → int_eq x y ≡ b → b ≡ false = elim [
      | true ↦ λ same.
          let e : x ≡ y = same_number x y same in
          let back : int_eq y x ≡ true = ap (λ z. int_eq z x) (sym e) ∙ ap (λ z. int_eq x z) e ∙ same in
          sym back ∙ other
      | false ↦ λ h. refl
    ] in
    by_case (int_eq x y) refl

module _ {X : Type 0} (key : X → ℤ) where
  holds-of : (P : ℤ → Type 0) (xs : List X) (x : X) (rest : List X) → AllByRecursion P (map key (xs ++ x ∷ rest)) → P (key x)
  holds-of P [] x rest all = all.0
  holds-of P (y ∷ xs) x rest all = holds-of P xs x rest all.1

  pub absent : (done : List X) (x : X) (rest : List X) → IsDistinct int_eq (map key (done ++ x ∷ rest)) → list_any (int_eq (key x)) (map key done) ≡ false
  unfolding IsDistinct
  absent [] x rest distinct = refl
  absent (y ∷ ys) x rest distinct =
      or_from (int_eq (key x) (key y)) _ (apart (key x) (key y) (holds-of (λ z. int_eq (key y) z ≡ false) ys x rest distinct.0)) (absent ys x rest distinct.1)

-- the last of a list's elements
module _ {X : Type 0} where
  get-end : (xs : List X) (x : X) → slice_get (xs ++ x ∷ []) (length xs) ≡ Some x
  get-end [] x = refl
  get-end (y ∷ xs) x = get-end xs x

  set-end : (xs : List X) (x y : X) → slice_set (xs ++ x ∷ []) (length xs) y ≡ xs ++ y ∷ []
  set-end [] x y = refl
  set-end (z ∷ xs) x y = ap (λ l. z ∷ l) (set-end xs x y)

  length-end : (xs : List X) (x : X) → length (xs ++ x ∷ []) ≡ length xs + 1
  length-end [] x = refl
  length-end (y ∷ xs) x = let rest = length-end xs x in omega (arith, rest)

  pub with_last-end : (change : X → X) (xs : List X) (x : X) → with_last change (xs ++ x ∷ []) ≡ xs ++ change x ∷ []
  with_last-end change xs x =
      let at : length (xs ++ x ∷ []) - 1 ≡ length xs = omega (arith, length-end xs x) in
      ap (λ k. option_map_or (λ x'. slice_set (xs ++ x ∷ []) k (change x')) (slice_get (xs ++ x ∷ []) k) (xs ++ x ∷ [])) at
      ∙ ap (λ (o : Option X). option_map_or (λ x'. slice_set (xs ++ x ∷ []) (length xs) (change x')) o (xs ++ x ∷ [])) (get-end xs x)
      ∙ set-end xs x (change x)

module _ {D : ℕ} (capacity : ℕ) (root : ℤ) where
  abbrev pub shadow_with : List (NodeRow D) → List RowEntry → ShadowLists D
  shadow_with nodes rows = record { capacity = capacity; root = root; nodes = nodes; rows = rows }

  -- k rows are to come
  abbrev pub at_row : List (NodeRow D) → List RowEntry → ℕ → Progress D
  at_row nodes done k = record { shadow = shadow_with nodes done; nodes = 0; rows = k; cells = 0 }

  due-row : (nodes : List (NodeRow D)) (done : List RowEntry) (k : ℕ) → 0 < k → due (at_row nodes done k) ≡ Row
  due-row nodes done k some =
      let more : nat_lt 0 k ≡ true = grind (arith, some) in
      ap (λ b. cond b Row End) more

  row-taken : (nodes : List (NodeRow D)) (done : List RowEntry) (row : RowEntry) (rest : List RowEntry)
      → IsRowInRange row → IsPositive row.leaf → IsDistinct int_eq (ids_of (done ++ row ∷ rest))
      → after_spelling (at_row nodes done (length (row ∷ rest))) (codes "row" ∷ row_words row) (kind_of (Some D) (codes "row" ∷ row_words row))
      ≡ Ok (at_row nodes (done ++ row ∷ []) (length rest))
  row-taken nodes done row rest fits positive distinct =
      let k = length (row ∷ rest) in
      let ws = codes "row" ∷ row_words row in
      let p = at_row nodes done k in
      let less : k - 1 ≡ length rest = omega arith in
      ap (after_spelling p ws) (row-kind D row fits)
      ∙ ap (λ kind. after_kind p ws kind Row) (due-row nodes done k (omega arith))
      ∙ ap (after_row p) (row-read row fits positive)
      ∙ ap (λ b. cond b (Err ListedTwice) (Ok (at_row nodes (done ++ row ∷ []) (k - 1)))) (absent (λ (r : RowEntry). r.id) done row rest distinct)
      ∙ ap (λ j. Ok (at_row nodes (done ++ row ∷ []) j)) less

  -- the rows' lines and the end
  pub rows-read : (nodes : List (NodeRow D)) (done rows : List RowEntry) → All IsRowInRange rows → All (λ r. IsPositive r.leaf) rows
      → IsDistinct int_eq (ids_of (done ++ rows))
      → ReadsTo (at_row nodes done (length rows)) (flat_map row_line rows ++ end_line) (shadow_with nodes (done ++ rows))
  rows-read nodes done [] fits positive distinct = λ n.
      end-read (shadow_with nodes done) n ∙ ap (λ l. Ok (shadow_with nodes l)) (sym (append-nil done))
  rows-read nodes done (row ∷ rows) fits positive distinct =
      let same : (done ++ row ∷ []) ++ rows ≡ done ++ row ∷ rows = append_assoc done (row ∷ []) rows in
      let still : IsDistinct int_eq (ids_of ((done ++ row ∷ []) ++ rows)) = rw same distinct in
      let rest = rows-read nodes (done ++ row ∷ []) rows (All-tail IsRowInRange row rows fits) (All-tail (λ r. IsPositive r.leaf) row rows positive) still in
      let in_range = All-head IsRowInRange row rows fits in
      let more : is_end (due (at_row nodes done (length (row ∷ rows)))) ≡ false = ap is_end (due-row nodes done (length (row ∷ rows)) (omega arith)) in
      λ n. ap (λ text. read_rest (pieces 10 text) (at_row nodes done (length (row ∷ rows))) n) (append_assoc (row_line row) (flat_map row_line rows) end_line)
      ∙ line-read (at_row nodes done (length (row ∷ rows))) (at_row nodes (done ++ row ∷ []) (length rows)) (codes "row") (row_words row) (flat_map row_line rows ++ end_line)
      (shadow_with nodes ((done ++ row ∷ []) ++ rows)) (record { one_word = refl; one_line = refl }) (row-words row in_range)
      (row-taken nodes done row rows in_range (All-head (λ r. IsPositive r.leaf) row rows positive) distinct) more rest n
      ∙ ap (λ l. Ok (shadow_with nodes l)) same

  -- the node is open, k of its cells are to come
  abbrev pub at_cell : List (NodeRow D) → NodeRow D → List (RawCell D) → ℕ → ℕ → ℕ → Progress D
  at_cell done node cells k nodes rows =
      record { shadow = shadow_with (done ++ record node { cells = cells } ∷ []) []; nodes = nodes; rows = rows; cells = k }

  due-cell : (done : List (NodeRow D)) (node : NodeRow D) (cells : List (RawCell D)) (k nodes rows : ℕ) → 0 < k → due (at_cell done node cells k nodes rows) ≡ Cell
  due-cell done node cells k nodes rows some =
      let more : nat_lt 0 k ≡ true = grind (arith, some) in
      ap (λ b. cond b Cell (cond (nat_lt 0 nodes) Node (cond (nat_lt 0 rows) Row End))) more

  cell-taken : (done : List (NodeRow D)) (node : NodeRow D) (before : List (RawCell D)) (cell : RawCell D) (rest : List (RawCell D)) (nodes rows : ℕ)
      → 1 ≤ D → IsCellInRange cell
      → after_spelling (at_cell done node before (length (cell ∷ rest)) nodes rows) (codes "cell" ∷ cell_words cell) (kind_of (Some D) (codes "cell" ∷ cell_words cell))
      ≡ Ok (at_cell done node (before ++ cell ∷ []) (length rest) nodes rows)
  cell-taken done node before cell rest nodes rows some fits =
      let k = length (cell ∷ rest) in
      let ws = codes "cell" ∷ cell_words cell in
      let p = at_cell done node before k nodes rows in
      let less : k - 1 ≡ length rest = omega arith in
      ap (after_spelling p ws) (cell-kind cell some fits)
      ∙ ap (λ kind. after_kind p ws kind Cell) (due-cell done node before k nodes rows (omega arith))
      ∙ ap (after_cell p) (cell-read cell fits)
      ∙ ap (λ (l : List (NodeRow D)). Ok (record { shadow = shadow_with l []; nodes = nodes; rows = rows; cells = k - 1 }))
      (with_last-end (λ n. record n { cells = n.cells ++ cell ∷ [] }) done (record node { cells = before }))
      ∙ ap (λ j. Ok (at_cell done node (before ++ cell ∷ []) j nodes rows)) less

  -- the cells' lines
  pub cells-read : (done : List (NodeRow D)) (node : NodeRow D) (nodes rows : ℕ) (rest : List ℕ) (s : ShadowLists D) (before cells : List (RawCell D))
      → 1 ≤ D → All IsCellInRange cells → ReadsTo (at_cell done node (before ++ cells) 0 nodes rows) rest s
      → ReadsTo (at_cell done node before (length cells) nodes rows) (flat_map cell_line cells ++ rest) s
  cells-read done node nodes rows rest s before [] some fits reads = λ n.
      ap (λ l. read_rest (pieces 10 rest) (at_cell done node l 0 nodes rows) n) (sym (append-nil before)) ∙ reads n
  cells-read done node nodes rows rest s before (cell ∷ cells) some fits reads =
      let same : (before ++ cell ∷ []) ++ cells ≡ before ++ cell ∷ cells = append_assoc before (cell ∷ []) cells in
      let in_range = All-head IsCellInRange cell cells fits in
      let later = cells-read done node nodes rows rest s (before ++ cell ∷ []) cells some (All-tail IsCellInRange cell cells fits)
      (λ n. ap (λ l. read_rest (pieces 10 rest) (at_cell done node l 0 nodes rows) n) same ∙ reads n) in
      let k = length (cell ∷ cells) in
      let more : is_end (due (at_cell done node before k nodes rows)) ≡ false = ap is_end (due-cell done node before k nodes rows (omega arith)) in
      λ n. ap (λ text. read_rest (pieces 10 text) (at_cell done node before k nodes rows) n) (append_assoc (cell_line cell) (flat_map cell_line cells) rest)
      ∙ line-read (at_cell done node before k nodes rows) (at_cell done node (before ++ cell ∷ []) (length cells) nodes rows) (codes "cell") (cell_words cell)
      (flat_map cell_line cells ++ rest) s (record { one_word = refl; one_line = refl }) (cell-words cell in_range)
      (cell-taken done node before cell cells nodes rows some in_range) more later n

  -- k nodes are to come
  abbrev pub at_node : List (NodeRow D) → ℕ → ℕ → Progress D
  at_node done k rows = record { shadow = shadow_with done []; nodes = k; rows = rows; cells = 0 }

  due-node : (done : List (NodeRow D)) (k rows : ℕ) → 0 < k → due (at_node done k rows) ≡ Node
  due-node done k rows some =
      let more : nat_lt 0 k ≡ true = grind (arith, some) in
      ap (λ b. cond b Node (cond (nat_lt 0 rows) Row End)) more

  node-taken : (done : List (NodeRow D)) (node : NodeRow D) (rest : List (NodeRow D)) (rows : ℕ)
      → IsNodeInRange node → IsNodeNumbered node → IsDistinct int_eq (numbers_of (done ++ node ∷ rest))
      → after_spelling (at_node done (length (node ∷ rest)) rows) (codes "node" ∷ node_words node) (kind_of (Some D) (codes "node" ∷ node_words node))
      ≡ Ok (at_cell done node [] (length node.cells) (length rest) rows)
  node-taken done node rest rows fits numbered distinct =
      let k = length (node ∷ rest) in
      let ws = codes "node" ∷ node_words node in
      let p = at_node done k rows in
      let less : k - 1 ≡ length rest = omega arith in
      ap (after_spelling p ws) (node-kind node fits numbered)
      ∙ ap (λ kind. after_kind p ws kind Node) (due-node done k rows (omega arith))
      ∙ ap (after_head p) (node-read node fits numbered)
      ∙ ap (λ b. cond b (Err ListedTwice) (Ok (at_cell done node [] (length node.cells) (k - 1) rows))) (absent (λ (m : NodeRow D). m.number) done node rest distinct)
      ∙ ap (λ j. Ok (at_cell done node [] (length node.cells) j rows)) less

  -- the nodes' lines
  pub nodes-read : (rows : ℕ) (rest : List ℕ) (s : ShadowLists D) (done nodes : List (NodeRow D)) → 1 ≤ D
      → All IsNodeInRange nodes → All IsNodeNumbered nodes → IsDistinct int_eq (numbers_of (done ++ nodes))
      → ReadsTo (at_node (done ++ nodes) 0 rows) rest s → ReadsTo (at_node done (length nodes) rows) (flat_map node_text nodes ++ rest) s
  nodes-read rows rest s done [] some fits numbered distinct reads = λ n.
      ap (λ l. read_rest (pieces 10 rest) (at_node l 0 rows) n) (sym (append-nil done)) ∙ reads n
  nodes-read rows rest s done (node ∷ nodes) some fits numbered distinct reads =
      let same : (done ++ node ∷ []) ++ nodes ≡ done ++ node ∷ nodes = append_assoc done (node ∷ []) nodes in
      let still : IsDistinct int_eq (numbers_of ((done ++ node ∷ []) ++ nodes)) = rw same distinct in
      let in_range = All-head IsNodeInRange node nodes fits in
      let from_one = All-head IsNodeNumbered node nodes numbered in
      let later : ReadsTo (at_node (done ++ node ∷ []) (length nodes) rows) (flat_map node_text nodes ++ rest) s =
      nodes-read rows rest s (done ++ node ∷ []) nodes some (All-tail IsNodeInRange node nodes fits) (All-tail IsNodeNumbered node nodes numbered) still
      (λ n. ap (λ l. read_rest (pieces 10 rest) (at_node l 0 rows) n) same ∙ reads n) in
      let inside = cells-read done node (length nodes) rows (flat_map node_text nodes ++ rest) s [] node.cells some in_range.cells later in
      let k = length (node ∷ nodes) in
      let more : is_end (due (at_node done k rows)) ≡ false = ap is_end (due-node done k rows (omega arith)) in
      λ n. ap (λ text. read_rest (pieces 10 text) (at_node done k rows) n)
      (append_assoc (node_text node) (flat_map node_text nodes) rest ∙ append_assoc (node_line node) (flat_map cell_line node.cells) (flat_map node_text nodes ++ rest))
      ∙ line-read (at_node done k rows) (at_cell done node [] (length node.cells) (length nodes) rows) (codes "node") (node_words node)
      (flat_map cell_line node.cells ++ (flat_map node_text nodes ++ rest)) s (record { one_word = refl; one_line = refl }) (node-words node in_range from_one)
      (node-taken done node nodes rows in_range from_one distinct) more inside n
