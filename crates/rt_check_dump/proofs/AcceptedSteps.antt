-- Lemmas on a dump that is read line by line: a shadow and the counts of what is to come stand for a
-- beginning of a text, and each line that is accepted adds itself to it.
use Rattle.std.proofs.Common.{◌≡◌, ℕ, suc, ◌+◌, ◌-◌, ◌<◌, List, [], ◌∷◌, ◌++◌, Bool, true, false, cond, Option, Some, None, refl, sym, ◌∙◌, ap, length, arith, codes, flat_map, append_assoc, append-nil, length-append}
use Rattle.std.specs.Prelude.{nat_lt, slice_get, slice_set}
use Rattle.std.specs.Option.{option_map_or}
use Rattle.std.specs.Fmt.{decimal, signed_decimal}
use Rattle.std.proofs.lemmas.List.{flat_map_more}
use Rattle.rt_check.specs.declared.node.NodeRow.{NodeRow}
use Rattle.rt_check.specs.declared.node.RawCell.{RawCell}
use Rattle.rt_check.specs.declared.node.RowEntry.{RowEntry}
use Rattle.rt_check_dump.specs.declared.lines.LineKind.{LineKind}
use Rattle.rt_check_dump.specs.declared.lines.LineKind.TheVariants.{Header, Node, Cell, Row, End}
use Rattle.rt_check_dump.specs.declared.lines.NodeHead.{NodeHead}
use Rattle.rt_check_dump.specs.declared.reading.Progress.{Progress}
use Rattle.rt_check.specs.Shadow.{ShadowLists, with_last, with_cell}
use Rattle.rt_check_dump.specs.Reading.{due, empty_node, with_head}
use Rattle.rt_check_dump.specs.Dump.{line, parent_word, row_line, end_line, cell_line, node_text, header_line, shadow_text}

module _ {X : Type 0} (change : X → X) where
  onto_kept : (x : X) (put : X → List X) (o : Option X) (xs : List X) → option_map_or (λ v. x ∷ put v) o (x ∷ xs) ≡ x ∷ option_map_or put o xs
  onto_kept x put None xs = refl
  onto_kept x put (Some v) xs = refl

  -- the first of several elements isn't the last
  pub with_last-next : (x y : X) (ys : List X) → with_last change (x ∷ y ∷ ys) ≡ x ∷ with_last change (y ∷ ys)
  with_last-next x y ys =
      let all = x ∷ y ∷ ys in
      let next : length all - 1 ≡ suc (length (y ∷ ys) - 1) = omega arith in
      ap (λ i. option_map_or (λ v. slice_set all i (change v)) (slice_get all i) all) next
      ∙ onto_kept x (λ v. slice_set (y ∷ ys) (length (y ∷ ys) - 1) (change v)) (slice_get (y ∷ ys) (length (y ∷ ys) - 1)) (y ∷ ys)

  length-with_last : (xs : List X) → length (with_last change xs) ≡ length xs
  length-with_last [] = refl
  length-with_last (x ∷ []) = refl
  length-with_last (x ∷ y ∷ ys) = ap length (with_last-next x y ys) ∙ ap suc (length-with_last (y ∷ ys))

-- bytes that come behind others, before nothing
behind : (header nodes line rows : List ℕ) → rows ≡ [] → header ++ ((nodes ++ line) ++ rows) ≡ (header ++ (nodes ++ rows)) ++ line
behind header nodes line rows none =
    ap (λ r. header ++ ((nodes ++ line) ++ r)) none ∙ ap (λ l. header ++ l) (append-nil (nodes ++ line))
    ∙ sym (append_assoc header nodes line) ∙ ap (λ n. (header ++ n) ++ line) (sym (append-nil nodes))
    ∙ ap (λ r. (header ++ (nodes ++ r)) ++ line) (sym none)

-- the counts where a line of that kind is due
abbrev pub Due : ℕ → ℕ → ℕ → LineKind → Type 0
Due cells nodes rows Header = Unit {0}
Due cells nodes rows Cell = 0 < cells
Due cells nodes rows Node = (cells ≡ 0) × (0 < nodes)
Due cells nodes rows Row = (cells ≡ 0) × (nodes ≡ 0) × (0 < rows)
Due cells nodes rows End = (cells ≡ 0) × (nodes ≡ 0) × (rows ≡ 0)

module _ {D : ℕ} where
  -- a node's line with that count of cells
  abbrev pub counted_line : ℕ → NodeRow D → List ℕ
  counted_line count node =
      line (codes "node") (signed_decimal node.number ∷ decimal node.level ∷ parent_word node.parent ∷ decimal count ∷ [])

  -- the text of nodes of which the last one still misses that many cells
  abbrev pub open_text : ℕ → List (NodeRow D) → List ℕ
  open_text missing [] = []
  open_text missing (x ∷ []) = counted_line (length x.cells + missing) x ++ flat_map cell_line x.cells
  open_text missing (x ∷ y ∷ ys) = node_text x ++ open_text missing (y ∷ ys)

  -- a header's line with those counts of nodes and rows
  abbrev pub counted_header : ShadowLists D → ℕ → ℕ → List ℕ
  counted_header s nodes rows =
      line (codes "rtree") (decimal D ∷ decimal s.capacity ∷ signed_decimal s.root ∷ decimal nodes ∷ decimal rows ∷ [])

  -- the beginning of a text, which is read so far
  abbrev pub so_far : Progress D → List ℕ
  so_far p =
      counted_header p.shadow (length p.shadow.nodes + p.nodes) (length p.shadow.rows + p.rows)
      ++ (open_text p.cells p.shadow.nodes ++ flat_map row_line p.shadow.rows)

  -- cells come to a node, and rows after all nodes and cells
  abbrev pub IsOpen : Progress D → Type 0
  IsOpen p = (0 < p.cells → 0 < length p.shadow.nodes) × (0 < p.cells + p.nodes → p.shadow.rows ≡ [])

  open_text-closed : (xs : List (NodeRow D)) → open_text 0 xs ≡ flat_map node_text xs
  open_text-closed [] = refl
  open_text-closed (x ∷ []) =
      let whole : length x.cells + 0 ≡ length x.cells = omega arith in
      ap (λ n. counted_line n x ++ flat_map cell_line x.cells) whole ∙ sym (append-nil (node_text x))
  open_text-closed (x ∷ y ∷ ys) = ap (λ l. node_text x ++ l) (open_text-closed (y ∷ ys))

  open_text-next : (missing : ℕ) (x : NodeRow D) (ys : List (NodeRow D)) → 0 < length ys → open_text missing (x ∷ ys) ≡ node_text x ++ open_text missing ys
  open_text-next missing x [] some = let no : ⊥ = omega (arith, some) in absurd no
  open_text-next missing x (y ∷ ys) some = refl

  -- a node's line opens the node
  open_text-node : (xs : List (NodeRow D)) (h : NodeHead) (n : ℕ) → open_text n (xs ++ empty_node h ∷ []) ≡ flat_map node_text xs ++ counted_line n (empty_node h)
  open_text-node [] h n =
      let first : 0 + n ≡ n = omega arith in
      ap (λ k. counted_line k (empty_node h) ++ []) first ∙ append-nil (counted_line n (empty_node h))
  open_text-node (x ∷ []) h n =
      ap (λ l. node_text x ++ l) (open_text-node [] h n) ∙ ap (λ l. l ++ counted_line n (empty_node h)) (sym (append-nil (node_text x)))
  open_text-node (x ∷ y ∷ ys) h n =
      ap (λ l. node_text x ++ l) (open_text-node (y ∷ ys) h n)
      ∙ sym (append_assoc (node_text x) (flat_map node_text (y ∷ ys)) (counted_line n (empty_node h)))

  -- the node with one cell more
  abbrev pub with_added : RawCell D → NodeRow D → NodeRow D
  with_added c n = record n { cells = n.cells ++ c ∷ [] }

  -- a cell's line adds the cell to the last node
  open_text-cell : (xs : List (NodeRow D)) (c : RawCell D) (n : ℕ) → 0 < length xs
      → open_text n (with_last (with_added c) xs) ≡ open_text (suc n) xs ++ cell_line c
  open_text-cell [] c n some = let no : ⊥ = omega (arith, some) in absurd no
  open_text-cell (x ∷ []) c n some =
      let same : length (x.cells ++ c ∷ []) + n ≡ length x.cells + suc n = omega (arith, length-append x.cells (c ∷ [])) in
      ap (λ k. counted_line k x ++ flat_map cell_line (x.cells ++ c ∷ [])) same
      ∙ sym (flat_map_more cell_line (counted_line (length x.cells + suc n) x) x.cells c)
  open_text-cell (x ∷ y ∷ ys) c n some =
      let more : 0 < length (with_last (with_added c) (y ∷ ys)) = omega (arith, length-with_last (with_added c) (y ∷ ys)) in
      ap (open_text n) (with_last-next (with_added c) x y ys)
      ∙ open_text-next n x (with_last (with_added c) (y ∷ ys)) more
      ∙ ap (λ l. node_text x ++ l) (open_text-cell (y ∷ ys) c n (omega arith))
      ∙ sym (append_assoc (node_text x) (open_text (suc n) (y ∷ ys)) (cell_line c))

  pub due-counts : (p : Progress D) → Due p.cells p.nodes p.rows (due p)
  due-counts p =
      let c = p.cells in
      let n = p.nodes in
      let r = p.rows in
      let by_rows : (b : Bool) → nat_lt 0 r ≡ b → c ≡ 0 → n ≡ 0 → Due c n r (cond b Row End) = elim [
        | true ↦ λ e none last. (none, last, grind (arith, e))
        | false ↦ λ e none last. (none, last, grind (arith, e))
      ] in
      let by_nodes : (b : Bool) → nat_lt 0 n ≡ b → c ≡ 0 → Due c n r (cond b Node (cond (nat_lt 0 r) Row End)) = elim [
        | true ↦ λ e none. (none, grind (arith, e))
        | false ↦ λ e none. by_rows (nat_lt 0 r) refl none (grind (arith, e))
      ] in
      let by_cells : (b : Bool) → nat_lt 0 c ≡ b → Due c n r (cond b Cell (cond (nat_lt 0 n) Node (cond (nat_lt 0 r) Row End))) = elim [
        | true ↦ λ e. grind (arith, e)
        | false ↦ λ e. by_nodes (nat_lt 0 n) refl (grind (arith, e))
      ] in
      by_cells (nat_lt 0 c) refl

  -- what a line's bytes do to what is read
  abbrev pub Adds : Progress D → List ℕ → Progress D → Type 0
  Adds p text q = IsOpen q × (so_far q ≡ so_far p ++ text)

  pub node-adds : (p : Progress D) (h : NodeHead) → IsOpen p → p.cells ≡ 0 → 0 < p.nodes → Adds p (counted_line h.cells (empty_node h)) (with_head p h)
  node-adds p h is_open none some =
      let ns = p.shadow.nodes in
      let rows = p.shadow.rows in
      let new = empty_node {D = D} h in
      let R = flat_map row_line rows in
      let no_rows : rows ≡ [] = is_open.1 (omega (arith, some)) in
      let longer = length-append ns (new ∷ []) in
      let more : 0 < length (ns ++ new ∷ []) = omega (arith, longer) in
      let count : length (ns ++ new ∷ []) + (p.nodes - 1) ≡ length ns + p.nodes = omega (arith, longer, some) in
      let header = counted_header p.shadow (length ns + p.nodes) (length rows + p.rows) in (
        ((λ _. more), (λ _. no_rows)),
        ap (λ k. counted_header p.shadow k (length rows + p.rows) ++ (open_text h.cells (ns ++ new ∷ []) ++ R)) count
            ∙ ap (λ l. header ++ (l ++ R)) (open_text-node ns h h.cells)
            ∙ behind header (flat_map node_text ns) (counted_line h.cells new) R (ap (flat_map row_line) no_rows)
            ∙ ap (λ l. (header ++ (l ++ R)) ++ counted_line h.cells new) (sym (open_text-closed ns))
            ∙ ap (λ c. (header ++ (open_text c ns ++ R)) ++ counted_line h.cells new) (sym none),
      )

  pub cell-adds : (p : Progress D) (c : RawCell D) → IsOpen p → 0 < p.cells → Adds p (cell_line c) (record p { shadow = with_cell p.shadow c; cells = p.cells - 1 })
  cell-adds p c is_open some =
      let ns = p.shadow.nodes in
      let rows = p.shadow.rows in
      let new = with_last (with_added c) ns in
      let R = flat_map row_line rows in
      let no_rows : rows ≡ [] = is_open.1 (omega (arith, some)) in
      let same = length-with_last (with_added c) ns in
      let old : 0 < length ns = is_open.0 some in
      let more : 0 < length new = omega (arith, same, old) in
      let next : suc (p.cells - 1) ≡ p.cells = omega (arith, some) in
      let header = counted_header p.shadow (length ns + p.nodes) (length rows + p.rows) in (
        ((λ _. more), (λ _. no_rows)),
        ap (λ k. counted_header p.shadow (k + p.nodes) (length rows + p.rows) ++ (open_text (p.cells - 1) new ++ R)) same
            ∙ ap (λ l. header ++ (l ++ R)) (open_text-cell ns c (p.cells - 1) old)
            ∙ behind header (open_text (suc (p.cells - 1)) ns) (cell_line c) R (ap (flat_map row_line) no_rows)
            ∙ ap (λ n. (header ++ (open_text n ns ++ R)) ++ cell_line c) next,
      )

  pub row-adds : (p : Progress D) (r : RowEntry) → p.cells ≡ 0 → p.nodes ≡ 0 → 0 < p.rows
      → Adds p (row_line r) (record p { shadow = record p.shadow { rows = p.shadow.rows ++ r ∷ [] }; rows = p.rows - 1 })
  row-adds p r none last some =
      let ns = p.shadow.nodes in
      let rows = p.shadow.rows in
      let N = open_text p.cells ns in
      let longer = length-append rows (r ∷ []) in
      let count : length (rows ++ r ∷ []) + (p.rows - 1) ≡ length rows + p.rows = omega (arith, longer, some) in
      let header = counted_header p.shadow (length ns + p.nodes) (length rows + p.rows) in (
        ((λ more. let no : ⊥ = omega (arith, more, none) in absurd no), (λ more. let no : ⊥ = omega (arith, more, none, last) in absurd no)),
        ap (λ k. counted_header p.shadow (length ns + p.nodes) k ++ (N ++ flat_map row_line (rows ++ r ∷ []))) count
            ∙ ap (λ l. header ++ l) (sym (flat_map_more row_line N rows r))
            ∙ sym (append_assoc header (N ++ flat_map row_line rows) (row_line r)),
      )

  -- with nothing to come the end's line makes the text whole
  pub end-adds : (p : Progress D) → Due p.cells p.nodes p.rows End → so_far p ++ end_line ≡ shadow_text p.shadow
  end-adds p none =
      let s = p.shadow in
      let R = flat_map row_line s.rows in
      let nodes : length s.nodes + p.nodes ≡ length s.nodes = omega (arith, none.1) in
      let rows : length s.rows + p.rows ≡ length s.rows = omega (arith, none.2) in
      ap (λ n. (counted_header s n (length s.rows + p.rows) ++ (open_text p.cells s.nodes ++ R)) ++ end_line) nodes
      ∙ ap (λ n. (counted_header s (length s.nodes) n ++ (open_text p.cells s.nodes ++ R)) ++ end_line) rows
      ∙ ap (λ n. (header_line s ++ (open_text n s.nodes ++ R)) ++ end_line) none.0
      ∙ ap (λ l. (header_line s ++ (l ++ R)) ++ end_line) (open_text-closed s.nodes)
      ∙ append_assoc (header_line s) (flat_map node_text s.nodes ++ R) end_line
      ∙ ap (λ l. header_line s ++ l) (append_assoc (flat_map node_text s.nodes) R end_line)

  -- what an accepted line of the kind that is due does
  abbrev pub Follows : Progress D → List ℕ → Progress D → LineKind → Type 0
  Follows p text q Header = Adds p text q
  Follows p text q Node = Adds p text q
  Follows p text q Cell = Adds p text q
  Follows p text q Row = Adds p text q
  Follows p text q End = (p ≡ q) × (text ≡ end_line)
