-- Why a line isn't taken after others: another kind is due, a number is out of range, or it was listed before.
use Rattle.std.proofs.Common.{◌≡◌, ◌⊎◌, inl, inr, ℕ, suc, ◌+◌, ◌-◌, ℤ, List, [], ◌∷◌, ◌++◌, Bool, true, false, ◌&&◌, ◌||◌, cond, Option, Some, None, Result, Ok, Err, refl, sym, subst, ◌∙◌, ap, length, get_or, arith, codes, bytes_eq}
use Rattle.std.specs.Prelude.{nat_lt}
use Rattle.std.specs.List.{list_any}
use Rattle.std.specs.Ordering.{int_eq}
use Rattle.std.specs.Fmt.{signed_decimal}
use Rattle.std.proofs.lemmas.Bool.{and_parts}
use Rattle.rt_check.specs.declared.node.NodeRow.{NodeRow}
use Rattle.rt_check.specs.declared.node.RawCell.{RawCell}
use Rattle.rt_check.specs.declared.node.RowEntry.{RowEntry}
use Rattle.rt_check.specs.Shadow.{ShadowLists, numbers_of, ids_of, with_last, with_cell}
use Rattle.rt_check.proofs.Known.{same_number}
use Rattle.rt_check_dump.specs.declared.lines.LineKind.{LineKind}
use Rattle.rt_check_dump.specs.declared.lines.LineKind.TheVariants.{Header, Node, Cell, Row, End}
use Rattle.rt_check_dump.specs.declared.lines.NodeHead.{NodeHead}
use Rattle.rt_check_dump.specs.declared.reading.Progress.{Progress}
use Rattle.rt_check_dump.specs.Numbers.{is_number, number_of, positive_of, count_of, byte_of, parent_of}
use Rattle.rt_check_dump.specs.Lines.{words, kind_of, are_numbers, is_parent, is_node, is_plain, node_head, row_entry, raw_cell}
use Rattle.rt_check_dump.specs.Reading.{due, empty_node, with_head, after_head, after_cell, after_row, after_kind, after_spelling, after_line, at_line, is_nothing, is_end, read_rest}
use Rattle.rt_check_dump.specs.Faults.{SaysNothing}
use Rattle.rt_check_dump.proofs.AcceptedWords.{text-positive}
use Rattle.rt_check_dump.proofs.Spelled.{text-number}
use Rattle.rt_check_dump.proofs.AcceptedLines.{spelled, kind_spelled, head-parts, row-parts}
use Rattle.rt_check_dump.proofs.AcceptedSteps.{with_last-next, with_added}
use Rattle.rt_check_dump.proofs.Fits.{Fits, line-step, map-push}
use Rattle.rt_check_dump.proofs.Faulty.{fault-parts, taken-onto}
use Rattle.rt_check_dump.specs.declared.fault.LineFault.{LineFault}
use Rattle.rt_check_dump.specs.declared.fault.LineFault.TheVariants.{Truncated, BadLine, CountWrong, OutOfRange, ListedTwice}

-- the second word of a node's or a row's line is the text of what is listed
abbrev pub name_of : List (List ℕ) → List ℕ
name_of ws = get_or ws 1 []

node-name : (ws : List (List ℕ)) (h : NodeHead) → is_node ws ≡ true → node_head ws ≡ Some h → name_of ws ≡ signed_decimal h.number
node-name [] h kind e = let no : ⊥ = cc in absurd no
node-name (k ∷ []) h kind e = let no : ⊥ = cc in absurd no
node-name (k ∷ a ∷ []) h kind e = let no : ⊥ = cc in absurd no
node-name (k ∷ a ∷ b ∷ []) h kind e = let no : ⊥ = cc in absurd no
node-name (k ∷ a ∷ b ∷ p ∷ []) h kind e = let no : ⊥ = cc in absurd no
node-name (k ∷ a ∷ b ∷ p ∷ c ∷ ws) h kind e =
    let parts = head-parts (positive_of a) (byte_of b) (parent_of p) (count_of c) h e in
    let first = and_parts (bytes_eq k (codes "node")) (is_number a && (is_number b && (is_parent p && are_numbers 1 (c ∷ ws)))) kind in
    let second = and_parts (is_number a) (is_number b && (is_parent p && are_numbers 1 (c ∷ ws))) first.1 in
    text-positive a h.number second.0 parts.0

row-name : (ws : List (List ℕ)) (r : RowEntry) → is_plain (codes "row") 2 ws ≡ true → row_entry ws ≡ Some r → name_of ws ≡ signed_decimal r.id
row-name [] r kind e = let no : ⊥ = cc in absurd no
row-name (k ∷ []) r kind e = let no : ⊥ = cc in absurd no
row-name (k ∷ a ∷ []) r kind e = let no : ⊥ = cc in absurd no
row-name (k ∷ a ∷ b ∷ ws) r kind e =
    let parts = row-parts (number_of a) (positive_of b) r e in
    let first = and_parts (bytes_eq k (codes "row")) (is_number a && (is_number b && are_numbers 0 ws)) kind in
    let second = and_parts (is_number a) (is_number b && are_numbers 0 ws) first.1 in
    text-number a r.id second.0 parts.0

-- a number among others and one more
any-push : (z y : ℤ) (xs : List ℤ) → list_any (int_eq z) (xs ++ y ∷ []) ≡ true → (list_any (int_eq z) xs ≡ true) ⊎ (z ≡ y)
any-push z y [] e =
    let by_case : (b : Bool) → int_eq z y ≡ b → (b || false) ≡ true → (list_any (int_eq z) [] ≡ true) ⊎ (z ≡ y) = elim [
      | true ↦ λ is e. inr (same_number z y is)
      | false ↦ λ is e. let no : ⊥ = cc in absurd no
    ] in
    by_case (int_eq z y) refl e
any-push z y (x ∷ xs) e =
    let by_case : (b : Bool) → (b || list_any (int_eq z) (xs ++ y ∷ [])) ≡ true → ((b || list_any (int_eq z) xs) ≡ true) ⊎ (z ≡ y) = elim [
      | true ↦ λ e. inl refl
      | false ↦ λ e. any-push z y xs e
    ] in
    by_case (int_eq z x) e

pub some-more : (ls : List (List ℕ)) (m : List ℕ) (ms : List (List ℕ)) → ls ++ m ∷ ms ≡ [] → ⊥
some-more [] m ms e = let no : ⊥ = cc in no
some-more (l ∷ ls) m ms e = let no : ⊥ = cc in no

-- a line of that kind and name is among these
pub record IsAmong (D : ℕ) (which : LineKind) (z : ℤ) (ls : List (List ℕ)) : Type 0 where
  pub first : List (List ℕ)
  pub line : List ℕ
  pub others : List (List ℕ)
  pub is : ls ≡ first ++ line ∷ others
  pub kind : kind_of (Some D) (words line) ≡ Some which
  pub name : name_of (words line) ≡ signed_decimal z

module _ {D : ℕ} where
  numbers-same : (c : RawCell D) (xs : List (NodeRow D)) → numbers_of (with_last (with_added c) xs) ≡ numbers_of xs
  numbers-same c [] = refl
  numbers-same c (x ∷ []) = refl
  numbers-same c (x ∷ y ∷ ys) = ap numbers_of (with_last-next (with_added c) x y ys) ∙ ap (λ l. x.number ∷ l) (numbers-same c (y ∷ ys))

  -- the numbers that lines of a kind have listed
  abbrev pub listed : LineKind → Progress D → List ℤ
  listed Header p = []
  listed Node p = numbers_of p.shadow.nodes
  listed Cell p = []
  listed Row p = ids_of p.shadow.rows
  listed End p = []

  -- a line lists a number once more
  pub record IsRepeated (p : Progress D) (kind : LineKind) (ws : List (List ℕ)) : Type 0 where
    pub listing : (kind ≡ Node) ⊎ (kind ≡ Row)
    pub in_range : SaysNothing kind (Some D) ws → ⊥
    pub number : ℤ
    pub name : name_of ws ≡ signed_decimal number
    pub known : list_any (int_eq number) (listed kind p) ≡ true

  -- what a fault says of a line of a kind where another may be due
  abbrev pub Cause : Progress D → List (List ℕ) → LineKind → LineKind → LineFault → Type 0
  Cause p ws wanted kind Truncated = ⊥
  Cause p ws wanted kind BadLine = ⊥
  Cause p ws wanted kind CountWrong = kind ≡ wanted → ⊥
  Cause p ws wanted kind OutOfRange = (kind ≡ wanted) × SaysNothing kind (Some D) ws
  Cause p ws wanted kind ListedTwice = (kind ≡ wanted) × IsRepeated p kind ws

  kind-cause : (p : Progress D) (ws : List (List ℕ)) (wanted kind : LineKind) (code : LineFault) → (wanted ≡ Header → ⊥) → spelled (Some D) ws kind ≡ true
      → after_kind p ws wanted kind ≡ Err code → Cause p ws wanted kind code
  kind-cause p ws Header kind code some spelling e = absurd (some refl)
  kind-cause p ws Node Node code some spelling e =
      let by_head : (o : Option NodeHead) → node_head ws ≡ o → after_head p o ≡ Err code → Cause p ws Node Node code = elim [
        | None ↦ λ is e. let same : OutOfRange ≡ code = cc in subst (Cause p ws Node Node) same (refl, is)
        | Some h ↦ λ is e.
            let by_case : (b : Bool) → list_any (int_eq h.number) (numbers_of p.shadow.nodes) ≡ b
            → cond {A = Result (Progress D) LineFault} b (Err ListedTwice) (Ok (with_head p h)) ≡ Err code → Cause p ws Node Node code = elim [
              | true ↦ λ known e.
                  let same : ListedTwice ≡ code = cc in
                  subst (Cause p ws Node Node) same (
                    refl,
                    record {
                      listing = inl refl;
                      in_range = λ nothing. let no : ⊥ = cc in no;
                      number = h.number;
                      name = node-name ws h spelling is;
                      known = known;
                    },
                  )
              | false ↦ λ known e. let no : ⊥ = cc in absurd no
            ] in
            by_case (list_any (int_eq h.number) (numbers_of p.shadow.nodes)) refl e
      ] in
      by_head (node_head ws) refl e
  kind-cause p ws Cell Cell code some spelling e =
      let by_cell : (o : Option (RawCell D)) → raw_cell D ws ≡ o → after_cell p o ≡ Err code → Cause p ws Cell Cell code = elim [
        | None ↦ λ is e. let same : OutOfRange ≡ code = cc in subst (Cause p ws Cell Cell) same (refl, is)
        | Some c ↦ λ is e. let no : ⊥ = cc in absurd no
      ] in
      by_cell (raw_cell D ws) refl e
  kind-cause p ws Row Row code some spelling e =
      let by_row : (o : Option RowEntry) → row_entry ws ≡ o → after_row p o ≡ Err code → Cause p ws Row Row code = elim [
        | None ↦ λ is e. let same : OutOfRange ≡ code = cc in subst (Cause p ws Row Row) same (refl, is)
        | Some r ↦ λ is e.
            let by_case : (b : Bool) → list_any (int_eq r.id) (ids_of p.shadow.rows) ≡ b
            → cond {A = Result (Progress D) LineFault} b (Err ListedTwice) (Ok (record p { shadow = record p.shadow { rows = p.shadow.rows ++ r ∷ [] }; rows = p.rows - 1 })) ≡ Err code
            → Cause p ws Row Row code = elim [
              | true ↦ λ known e.
                  let same : ListedTwice ≡ code = cc in
                  subst (Cause p ws Row Row) same (
                    refl,
                    record {
                      listing = inr refl;
                      in_range = λ nothing. let no : ⊥ = cc in no;
                      number = r.id;
                      name = row-name ws r spelling is;
                      known = known;
                    },
                  )
              | false ↦ λ known e. let no : ⊥ = cc in absurd no
            ] in
            by_case (list_any (int_eq r.id) (ids_of p.shadow.rows)) refl e
      ] in
      by_row (row_entry ws) refl e
  kind-cause p ws End End code some spelling e = let no : ⊥ = cc in absurd no
  kind-cause p ws wanted kind code some spelling e =
      let same : CountWrong ≡ code = cc in subst (Cause p ws wanted kind) same (λ is. let no : ⊥ = cc in no)

  -- no header is due after the header
  due-some : (p : Progress D) → due p ≡ Header → ⊥
  due-some p = by_counts (nat_lt 0 p.cells) (nat_lt 0 p.nodes) (nat_lt 0 p.rows)
    where
      by_counts : (cells nodes rows : Bool) → cond cells Cell (cond nodes Node (cond rows Row End)) ≡ Header → ⊥
      by_counts true nodes rows e = let no : ⊥ = cc in no
      by_counts false true rows e = let no : ⊥ = cc in no
      by_counts false false true e = let no : ⊥ = cc in no
      by_counts false false false e = let no : ⊥ = cc in no

  -- what a fault says of a line by its spelling
  abbrev pub Reason : Progress D → List (List ℕ) → Option LineKind → LineFault → Type 0
  Reason p ws None code = code ≡ BadLine
  Reason p ws (Some kind) code = Cause p ws (due p) kind code

  pub line-reason : (p : Progress D) (l : List ℕ) (code : LineFault) → after_line p l ≡ Err code
      → (o : Option LineKind) × (kind_of (Some D) (words l) ≡ o) × Reason p (words l) o code
  line-reason p l code e =
      let by_kind : (o : Option LineKind) → kind_of (Some D) (words l) ≡ o → after_spelling p (words l) o ≡ Err code
      → (o : Option LineKind) × (kind_of (Some D) (words l) ≡ o) × Reason p (words l) o code = elim [
        | None ↦ λ is e. let same : BadLine ≡ code = cc in (None, is, sym same)
        | Some kind ↦ λ is e. (Some kind, is, kind-cause p (words l) (due p) kind code (due-some p) (kind_spelled (Some D) (words l) kind is) e)
      ] in
      by_kind (kind_of (Some D) (words l)) refl e

  -- a line that is taken is of the kind that is due
  kind-due : (p q : Progress D) (ws : List (List ℕ)) (wanted kind : LineKind) → after_kind p ws wanted kind ≡ Ok q → kind ≡ wanted
  kind-due p q ws Node Node e = refl
  kind-due p q ws Cell Cell e = refl
  kind-due p q ws Row Row e = refl
  kind-due p q ws End End e = refl
  kind-due p q ws wanted kind e = let no : ⊥ = cc in absurd no

  line-due : (p q : Progress D) (l : List ℕ) → after_line p l ≡ Ok q → kind_of (Some D) (words l) ≡ Some (due p)
  line-due p q l e =
      let by_kind : (o : Option LineKind) → kind_of (Some D) (words l) ≡ o → after_spelling p (words l) o ≡ Ok q → kind_of (Some D) (words l) ≡ Some (due p) = elim [
        | None ↦ λ is e. let no : ⊥ = cc in absurd no
        | Some kind ↦ λ is e. is ∙ ap (λ k. Some k) (kind-due p q (words l) (due p) kind e)
      ] in
      by_kind (kind_of (Some D) (words l)) refl e

  pub first-due : (ls : List (List ℕ)) (p : Progress D) (n : ℕ) (s : ShadowLists D) → read_rest ls p n ≡ Ok s
      → kind_of (Some D) (words (get_or ls 0 [])) ≡ Some (due p)
  first-due [] p n s e = let no : ⊥ = cc in absurd no
  first-due (l ∷ []) p n s e = let no : ⊥ = cc in absurd no
  first-due (l ∷ m ∷ ms) p n s e =
      let by_line : (r : Result (Progress D) LineFault) → after_line p l ≡ r
      → at_line n r (λ q. cond (is_end (due p)) (cond {A = Result (ShadowLists D) (ℕ × LineFault)} (is_nothing (m ∷ ms)) (Ok q.shadow) (Err (n + 1, BadLine))) (read_rest (m ∷ ms) q (n + 1))) ≡ Ok s
      → kind_of (Some D) (words l) ≡ Some (due p) = elim [
        | Err code ↦ λ is e. let no : ⊥ = cc in absurd no
        | Ok q ↦ λ is e. line-due p q l is
      ] in
      by_line (after_line p l) refl e

  -- what is listed after a line was listed before it, or is the line's
  kind-lists : (p q : Progress D) (ws : List (List ℕ)) (wanted kind which : LineKind) (z : ℤ) → spelled (Some D) ws kind ≡ true → after_kind p ws wanted kind ≡ Ok q
      → list_any (int_eq z) (listed which q) ≡ true → (list_any (int_eq z) (listed which p) ≡ true) ⊎ ((kind ≡ which) × (name_of ws ≡ signed_decimal z))
  kind-lists p q ws Node Node which z spelling e known =
      let Lists : LineKind → Type 0 = λ which. (list_any (int_eq z) (listed which p) ≡ true) ⊎ ((Node ≡ which) × (name_of ws ≡ signed_decimal z)) in
      let by_which : (h : NodeHead) → node_head ws ≡ Some h → (which : LineKind) → list_any (int_eq z) (listed which (with_head p h)) ≡ true → Lists which = λ h is. elim [
        | Header ↦ λ known. inl known
        | Node ↦ λ known.
            let ns = p.shadow.nodes in
            let among : list_any (int_eq z) (numbers_of ns ++ h.number ∷ []) ≡ true =
            ap (list_any (int_eq z)) (sym (map-push (λ (n : NodeRow D). n.number) ns (empty_node h))) ∙ known in
            elim (any-push z h.number (numbers_of ns) among) as (λ s. Lists Node) [
              | inl before ↦ inl before
              | inr same ↦ inr (refl, node-name ws h spelling is ∙ ap signed_decimal (sym same))
            ]
        | Cell ↦ λ known. inl known
        | Row ↦ λ known. inl known
        | End ↦ λ known. inl known
      ] in
      let by_head : (o : Option NodeHead) → node_head ws ≡ o → after_head p o ≡ Ok q → Lists which = elim [
        | None ↦ λ is e. let no : ⊥ = cc in absurd no
        | Some h ↦ λ is e.
            let by_case : (b : Bool) → cond {A = Result (Progress D) LineFault} b (Err ListedTwice) (Ok (with_head p h)) ≡ Ok q → with_head p h ≡ q = elim [
              | true ↦ λ e. let no : ⊥ = cc in absurd no
              | false ↦ λ e. cc
            ] in
            let same = by_case (list_any (int_eq h.number) (numbers_of p.shadow.nodes)) e in
            by_which h is which (subst (λ q. list_any (int_eq z) (listed which q) ≡ true) (sym same) known)
      ] in
      by_head (node_head ws) refl e
  kind-lists p q ws Cell Cell which z spelling e known =
      let Lists : LineKind → Type 0 = λ which. (list_any (int_eq z) (listed which p) ≡ true) ⊎ ((Cell ≡ which) × (name_of ws ≡ signed_decimal z)) in
      let by_which : (c : RawCell D) (which : LineKind) → list_any (int_eq z) (listed which (record p { shadow = with_cell p.shadow c; cells = p.cells - 1 })) ≡ true → Lists which = λ c. elim [
        | Header ↦ λ known. inl known
        | Node ↦ λ known. inl (ap (list_any (int_eq z)) (sym (numbers-same c p.shadow.nodes)) ∙ known)
        | Cell ↦ λ known. inl known
        | Row ↦ λ known. inl known
        | End ↦ λ known. inl known
      ] in
      let by_cell : (o : Option (RawCell D)) → after_cell p o ≡ Ok q → Lists which = elim [
        | None ↦ λ e. let no : ⊥ = cc in absurd no
        | Some c ↦ λ e.
            let new : Progress D = record p { shadow = with_cell p.shadow c; cells = p.cells - 1 } in
            let same : new ≡ q = cc in
            by_which c which (subst (λ q. list_any (int_eq z) (listed which q) ≡ true) (sym same) known)
      ] in
      by_cell (raw_cell D ws) e
  kind-lists p q ws Row Row which z spelling e known =
      let Lists : LineKind → Type 0 = λ which. (list_any (int_eq z) (listed which p) ≡ true) ⊎ ((Row ≡ which) × (name_of ws ≡ signed_decimal z)) in
      let by_which : (r : RowEntry) → row_entry ws ≡ Some r → (which : LineKind)
      → list_any (int_eq z) (listed which (record p { shadow = record p.shadow { rows = p.shadow.rows ++ r ∷ [] }; rows = p.rows - 1 })) ≡ true → Lists which = λ r is. elim [
        | Header ↦ λ known. inl known
        | Node ↦ λ known. inl known
        | Cell ↦ λ known. inl known
        | Row ↦ λ known.
            let rs = p.shadow.rows in
            let among : list_any (int_eq z) (ids_of rs ++ r.id ∷ []) ≡ true =
            ap (list_any (int_eq z)) (sym (map-push (λ (r : RowEntry). r.id) rs r)) ∙ known in
            elim (any-push z r.id (ids_of rs) among) as (λ s. Lists Row) [
              | inl before ↦ inl before
              | inr same ↦ inr (refl, row-name ws r spelling is ∙ ap signed_decimal (sym same))
            ]
        | End ↦ λ known. inl known
      ] in
      let by_row : (o : Option RowEntry) → row_entry ws ≡ o → after_row p o ≡ Ok q → Lists which = elim [
        | None ↦ λ is e. let no : ⊥ = cc in absurd no
        | Some r ↦ λ is e.
            let new : Progress D = record p { shadow = record p.shadow { rows = p.shadow.rows ++ r ∷ [] }; rows = p.rows - 1 } in
            let by_case : (b : Bool) → cond {A = Result (Progress D) LineFault} b (Err ListedTwice) (Ok new) ≡ Ok q → new ≡ q = elim [
              | true ↦ λ e. let no : ⊥ = cc in absurd no
              | false ↦ λ e. cc
            ] in
            let same = by_case (list_any (int_eq r.id) (ids_of p.shadow.rows)) e in
            by_which r is which (subst (λ q. list_any (int_eq z) (listed which q) ≡ true) (sym same) known)
      ] in
      by_row (row_entry ws) refl e
  kind-lists p q ws End End which z spelling e known =
      let same : p ≡ q = cc in inl (subst (λ q. list_any (int_eq z) (listed which q) ≡ true) (sym same) known)
  kind-lists p q ws wanted kind which z spelling e known = let no : ⊥ = cc in absurd no

  line-lists : (p q : Progress D) (l : List ℕ) (which : LineKind) (z : ℤ) → after_line p l ≡ Ok q → list_any (int_eq z) (listed which q) ≡ true
      → (list_any (int_eq z) (listed which p) ≡ true) ⊎ ((kind_of (Some D) (words l) ≡ Some which) × (name_of (words l) ≡ signed_decimal z))
  line-lists p q l which z e known =
      let Lists : Type 0 = (list_any (int_eq z) (listed which p) ≡ true) ⊎ ((kind_of (Some D) (words l) ≡ Some which) × (name_of (words l) ≡ signed_decimal z)) in
      let by_kind : (o : Option LineKind) → kind_of (Some D) (words l) ≡ o → after_spelling p (words l) o ≡ Ok q → Lists = elim [
        | None ↦ λ is e. let no : ⊥ = cc in absurd no
        | Some kind ↦ λ is e.
            elim (kind-lists p q (words l) (due p) kind which z (kind_spelled (Some D) (words l) kind is) e known) as (λ s. Lists) [
              | inl before ↦ inl before
              | inr here ↦ inr (is ∙ ap (λ k. Some k) here.0, here.1)
            ]
      ] in
      by_kind (kind_of (Some D) (words l)) refl e

  -- these lines lead from one state to another, and more are due
  abbrev pub Leads : Progress D → List (List ℕ) → Progress D → Type 0
  Leads p [] q = p ≡ q
  Leads p (l ∷ ls) q = (r : Progress D) × (after_line p l ≡ Ok r) × (is_end (due p) ≡ false) × Leads r ls q

  pub leads-fit : (ls : List (List ℕ)) (p q : Progress D) → Leads p ls q → Fits p → Fits q
  leads-fit [] p q leads fits = subst Fits leads fits
  leads-fit (l ∷ ls) p q leads fits = leads-fit ls leads.0 q leads.3 (line-step p leads.0 l fits leads.1)

  pub leads-read : (ls : List (List ℕ)) (p q : Progress D) (n : ℕ) (m : List ℕ) (ms : List (List ℕ)) → Leads p ls q
      → read_rest (ls ++ m ∷ ms) p n ≡ read_rest (m ∷ ms) q (n + length ls)
  leads-read [] p q n m ms leads =
      let none : n ≡ n + 0 = omega arith in
      ap (λ p. read_rest (m ∷ ms) p n) leads ∙ ap (read_rest (m ∷ ms) q) none
  leads-read (l ∷ ls) p q n m ms leads =
      let next : (n + 1) + length ls ≡ n + length (l ∷ ls) = omega arith in
      taken-onto p leads.0 l (ls ++ m ∷ ms) n (some-more ls m ms) leads.1 leads.2
      ∙ leads-read ls leads.0 q (n + 1) m ms leads.3 ∙ ap (read_rest (m ∷ ms) q) next

  pub leads-list : (ls : List (List ℕ)) (p q : Progress D) (which : LineKind) (z : ℤ) → Leads p ls q → list_any (int_eq z) (listed which q) ≡ true
      → (list_any (int_eq z) (listed which p) ≡ true) ⊎ IsAmong D which z ls
  leads-list [] p q which z leads known = inl (subst (λ q. list_any (int_eq z) (listed which q) ≡ true) (sym leads) known)
  leads-list (l ∷ ls) p q which z leads known =
      elim (leads-list ls leads.0 q which z leads.3 known) as (λ s. (list_any (int_eq z) (listed which p) ≡ true) ⊎ IsAmong D which z (l ∷ ls)) [
        | inl now ↦
            elim (line-lists p leads.0 l which z leads.1 now) as (λ s. (list_any (int_eq z) (listed which p) ≡ true) ⊎ IsAmong D which z (l ∷ ls)) [
              | inl before ↦ inl before
              | inr here ↦ inr (record { first = []; line = l; others = ls; is = refl; kind = here.0; name = here.1 })
            ]
        | inr later ↦
            inr (record { first = l ∷ later.first; line = later.line; others = later.others; is = ap (λ k. l ∷ k) later.is; kind = later.kind; name = later.name })
      ]

  -- after m lines comes one that isn't taken
  pub record IsStopped (p : Progress D) (ls : List (List ℕ)) (m : ℕ) (code : LineFault) : Type 0 where
    pub before : List (List ℕ)
    pub line : List ℕ
    pub others : List (List ℕ)
    pub is : ls ≡ before ++ line ∷ others
    pub count : length before ≡ m
    pub state : Progress D
    pub leads : Leads p before state
    pub fails : after_line state line ≡ Err code

  -- after m lines, the last of them the end's, comes one more
  pub record IsOver (p : Progress D) (ls : List (List ℕ)) (m : ℕ) : Type 0 where
    pub before : List (List ℕ)
    pub line : List ℕ
    pub next : List ℕ
    pub others : List (List ℕ)
    pub is : ls ≡ before ++ line ∷ next ∷ others
    pub count : suc (length before) ≡ m
    pub state : Progress D
    pub new : Progress D
    pub leads : Leads p before state
    pub taken : after_line state line ≡ Ok new
    pub last : is_end (due state) ≡ true

  abbrev pub IsHalted : Progress D → List (List ℕ) → ℕ → LineFault → Type 0
  IsHalted p ls m code = IsStopped p ls m code ⊎ ((BadLine ≡ code) × IsOver p ls m)

  pub halts : (ls : List (List ℕ)) (p : Progress D) (n k : ℕ) (code : LineFault) → (code ≡ Truncated → ⊥) → read_rest ls p n ≡ Err (k, code)
      → (m : ℕ) × (k ≡ n + m) × IsHalted p ls m code
  halts [] p n k code other e = absurd (other (sym (fault-parts {S = ShadowLists D} n Truncated k code e).1))
  halts (l ∷ []) p n k code other e = absurd (other (sym (fault-parts {S = ShadowLists D} n Truncated k code e).1))
  halts (l ∷ m ∷ ms) p n k code other e =
      let Halt : Type 0 = (j : ℕ) × (k ≡ n + j) × IsHalted p (l ∷ m ∷ ms) j code in
      let goes_on : (q : Progress D) → after_line p l ≡ Ok q → is_end (due p) ≡ false → read_rest (m ∷ ms) q (n + 1) ≡ Err (k, code) → Halt = λ q taken more e.
      let rest = halts (m ∷ ms) q (n + 1) k code other e in
      let line : k ≡ (n + 1) + rest.0 = rest.1 in (
        suc rest.0,
        omega (arith, line),
        elim rest.2 as (λ s. IsHalted p (l ∷ m ∷ ms) (suc rest.0) code) [
          | inl stop ↦ inl (record {
            before = l ∷ stop.before;
            line = stop.line;
            others = stop.others;
            is = ap (λ k. l ∷ k) stop.is;
            count = ap suc stop.count;
            state = stop.state;
            leads = (q, taken, more, stop.leads);
            fails = stop.fails;
          })
          | inr over ↦ inr (
            over.0,
            record {
              before = l ∷ over.1.before;
              line = over.1.line;
              next = over.1.next;
              others = over.1.others;
              is = ap (λ k. l ∷ k) over.1.is;
              count = ap suc over.1.count;
              state = over.1.state;
              new = over.1.new;
              leads = (q, taken, more, over.1.leads);
              taken = over.1.taken;
              last = over.1.last;
            },
          )
        ],
      ) in
      let ends : (q : Progress D) → after_line p l ≡ Ok q → is_end (due p) ≡ true
      → cond {A = Result (ShadowLists D) (ℕ × LineFault)} (is_nothing (m ∷ ms)) (Ok q.shadow) (Err (n + 1, BadLine)) ≡ Err (k, code) → Halt = λ q taken last e.
      let by_case : (b : Bool) → cond {A = Result (ShadowLists D) (ℕ × LineFault)} b (Ok q.shadow) (Err (n + 1, BadLine)) ≡ Err (k, code) → Halt = elim [
        | true ↦ λ e. let no : ⊥ = cc in absurd no
        | false ↦ λ e.
            let parts = fault-parts {S = ShadowLists D} (n + 1) BadLine k code e in (
              1,
              sym parts.0,
              inr (parts.1, record { before = []; line = l; next = m; others = ms; is = refl; count = refl; state = p; new = q; leads = refl; taken = taken; last = last }),
            )
      ] in
      by_case (is_nothing (m ∷ ms)) e in
      let by_line : (r : Result (Progress D) LineFault) → after_line p l ≡ r
      → at_line n r (λ q. cond (is_end (due p)) (cond {A = Result (ShadowLists D) (ℕ × LineFault)} (is_nothing (m ∷ ms)) (Ok q.shadow) (Err (n + 1, BadLine))) (read_rest (m ∷ ms) q (n + 1))) ≡ Err (k, code)
      → Halt = elim [
        | Err c ↦ λ is e.
            let parts = fault-parts {S = ShadowLists D} n c k code e in
            let line = parts.0 in (
              0,
              omega (arith, line),
              inl (record { before = []; line = l; others = m ∷ ms; is = refl; count = refl; state = p; leads = refl; fails = is ∙ ap (λ c. Err c) parts.1 }),
            )
        | Ok q ↦ λ is e.
            let by_end : (b : Bool) → is_end (due p) ≡ b
            → cond b (cond {A = Result (ShadowLists D) (ℕ × LineFault)} (is_nothing (m ∷ ms)) (Ok q.shadow) (Err (n + 1, BadLine))) (read_rest (m ∷ ms) q (n + 1)) ≡ Err (k, code) → Halt = elim [
              | true ↦ λ last e. ends q is last e
              | false ↦ λ more e. goes_on q is more e
            ] in
            by_end (is_end (due p)) refl e
      ] in
      by_line (after_line p l) refl e
