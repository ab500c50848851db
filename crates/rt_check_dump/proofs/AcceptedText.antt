-- A text that is read is the text of the shadow that was read.
use Rattle.std.proofs.Common.{◌≡◌, ℕ, ◌+◌, ◌-◌, ◌<◌, List, [], ◌∷◌, ◌++◌, Bool, true, false, ◌&&◌, cond, Option, Some, None, Result, Ok, Err, refl, sym, subst, ◌∙◌, ap, length, arith, codes, append_assoc, append-nil}
use Rattle.std.specs.Prelude.{nat_le, ◌==◌}
use Rattle.std.specs.List.{list_any}
use Rattle.std.specs.Ordering.{int_eq}
use Rattle.std.specs.Fmt.{decimal, signed_decimal}
use Rattle.std.proofs.lemmas.List.{nil_from_length}
use Rattle.std.proofs.lemmas.Bool.{and_parts}
use Rattle.rt_check.specs.declared.node.RawCell.{RawCell}
use Rattle.rt_check.specs.declared.node.RowEntry.{RowEntry}
use Rattle.rt_check_dump.specs.declared.lines.LineKind.{LineKind}
use Rattle.rt_check_dump.specs.declared.lines.LineKind.TheVariants.{Header, Node, Cell, Row, End}
use Rattle.rt_check_dump.specs.declared.lines.NodeHead.{NodeHead}
use Rattle.rt_check_dump.specs.declared.dump.AnyShadow.{AnyShadow}
use Rattle.rt_check_dump.specs.declared.dump.AnyShadow.TheVariants.{One, Two, Three}
use Rattle.rt_check_dump.specs.declared.reading.Heading.{Heading}
use Rattle.rt_check_dump.specs.declared.reading.Progress.{Progress}
use Rattle.rt_check.specs.Shadow.{ShadowLists, numbers_of, ids_of, with_cell}
use Rattle.rt_check_dump.specs.Pieces.{pieces}
use Rattle.rt_check_dump.specs.Lines.{words, kind_of, node_head, row_entry, raw_cell, is_plain, is_node, is_cell, header_of}
use Rattle.rt_check_dump.specs.Reading.{due, with_head, after_head, after_cell, after_row, after_kind, after_spelling, after_line, at_line, is_nothing, is_end, read_rest, start, any_shadow, read_body, read_heading, read_kind, read_lines, read_text}
use Rattle.rt_check_dump.specs.Dump.{line, end_line, shadow_text, any_text}
use Rattle.rt_check_dump.proofs.AcceptedWords.{ended, ended-words, joined, joined-pieces}
use Rattle.rt_check_dump.proofs.AcceptedLines.{spelled, kind_spelled, node-text, row-text, end-text, cell-text, header-text}
use Rattle.rt_check_dump.proofs.AcceptedSteps.{so_far, IsOpen, Due, due-counts, Adds, node-adds, cell-adds, row-adds, end-adds, Follows}
use Rattle.rt_check_dump.specs.declared.fault.LineFault.{LineFault}
use Rattle.rt_check_dump.specs.declared.fault.LineFault.TheVariants.{BadLine, ListedTwice}

module _ {D : ℕ} where
  node-follows : (p q : Progress D) (ws : List (List ℕ)) → IsOpen p → p.cells ≡ 0 → 0 < p.nodes → is_node ws ≡ true
      → after_head p (node_head ws) ≡ Ok q → Adds p (ended ws) q
  node-follows p q ws is_open none some kind e =
      let by_head : (o : Option NodeHead) → node_head ws ≡ o → after_head p o ≡ Ok q → Adds p (ended ws) q = elim [
        | None ↦ λ is e. let no : ⊥ = cc in absurd no
        | Some h ↦ λ is e.
            let by_case : (b : Bool) → cond {A = Result (Progress D) LineFault} b (Err ListedTwice) (Ok (with_head p h)) ≡ Ok q → with_head p h ≡ q = elim [
              | true ↦ λ e. let no : ⊥ = cc in absurd no
              | false ↦ λ e. cc
            ] in
            let same = by_case (list_any (int_eq h.number) (numbers_of p.shadow.nodes)) e in
            subst (Adds p (ended ws)) same (subst (λ l. Adds p l (with_head p h)) (sym (node-text ws h kind is)) (node-adds p h is_open none some))
      ] in
      by_head (node_head ws) refl e

  row-follows : (p q : Progress D) (ws : List (List ℕ)) → p.cells ≡ 0 → p.nodes ≡ 0 → 0 < p.rows → is_plain (codes "row") 2 ws ≡ true
      → after_row p (row_entry ws) ≡ Ok q → Adds p (ended ws) q
  row-follows p q ws none last some kind e =
      let by_row : (o : Option RowEntry) → row_entry ws ≡ o → after_row p o ≡ Ok q → Adds p (ended ws) q = elim [
        | None ↦ λ is e. let no : ⊥ = cc in absurd no
        | Some r ↦ λ is e.
            let new : Progress D = record p { shadow = record p.shadow { rows = p.shadow.rows ++ r ∷ [] }; rows = p.rows - 1 } in
            let by_case : (b : Bool) → cond {A = Result (Progress D) LineFault} b (Err ListedTwice) (Ok new) ≡ Ok q → new ≡ q = elim [
              | true ↦ λ e. let no : ⊥ = cc in absurd no
              | false ↦ λ e. cc
            ] in
            let same = by_case (list_any (int_eq r.id) (ids_of p.shadow.rows)) e in
            subst (Adds p (ended ws)) same (subst (λ l. Adds p l new) (sym (row-text ws r kind is)) (row-adds p r none last some))
      ] in
      by_row (row_entry ws) refl e

  cell-follows : (p q : Progress D) (ws : List (List ℕ)) → 0 < D → IsOpen p → 0 < p.cells → is_cell (Some D) ws ≡ true
      → after_cell p (raw_cell D ws) ≡ Ok q → Adds p (ended ws) q
  cell-follows p q ws axes is_open some kind e =
      let by_cell : (o : Option (RawCell D)) → raw_cell D ws ≡ o → after_cell p o ≡ Ok q → Adds p (ended ws) q = elim [
        | None ↦ λ is e. let no : ⊥ = cc in absurd no
        | Some c ↦ λ is e.
            let new : Progress D = record p { shadow = with_cell p.shadow c; cells = p.cells - 1 } in
            let same : new ≡ q = cc in
            subst (Adds p (ended ws)) same (subst (λ l. Adds p l new) (sym (cell-text D ws c axes kind is)) (cell-adds p c is_open some))
      ] in
      by_cell (raw_cell D ws) refl e

  kind-follows : (p q : Progress D) (ws : List (List ℕ)) (wanted kind : LineKind) → 0 < D → IsOpen p → Due p.cells p.nodes p.rows wanted
      → spelled (Some D) ws kind ≡ true → after_kind p ws wanted kind ≡ Ok q → Follows p (ended ws) q wanted
  kind-follows p q ws Node Node axes is_open counts kind e = node-follows p q ws is_open counts.0 counts.1 kind e
  kind-follows p q ws Cell Cell axes is_open counts kind e = cell-follows p q ws axes is_open counts kind e
  kind-follows p q ws Row Row axes is_open counts kind e = row-follows p q ws counts.0 counts.1 counts.2 kind e
  kind-follows p q ws End End axes is_open counts kind e = let same : p ≡ q = cc in (same, end-text ws kind)
  kind-follows p q ws wanted kind axes is_open counts spelled e = let no : ⊥ = cc in absurd no

  -- an accepted line adds its bytes, or is the end's
  line-follows : (p q : Progress D) (l : List ℕ) → 0 < D → IsOpen p → after_line p l ≡ Ok q → Follows p (l ++ 10 ∷ []) q (due p)
  line-follows p q l axes is_open e =
      let by_kind : (o : Option LineKind) → kind_of (Some D) (words l) ≡ o → after_spelling p (words l) o ≡ Ok q → Follows p (ended (words l)) q (due p) = elim [
        | None ↦ λ is e. let no : ⊥ = cc in absurd no
        | Some kind ↦ λ is e. kind-follows p q (words l) (due p) kind axes is_open (due-counts p) (kind_spelled (Some D) (words l) kind is) e
      ] in
      subst (λ l. Follows p l q (due p)) (ended-words l) (by_kind (kind_of (Some D) (words l)) refl e)

-- a line and what follows it, behind what stands before
between : (before l after : List ℕ) → before ++ (l ++ 10 ∷ after) ≡ (before ++ (l ++ 10 ∷ [])) ++ after
between before l after =
    ap (λ k. before ++ k) (sym (append_assoc l (10 ∷ []) after)) ∙ sym (append_assoc before (l ++ 10 ∷ []) after)

pub nothing : (l : List ℕ) (ls : List (List ℕ)) → is_nothing (l ∷ ls) ≡ true → joined (l ∷ ls) ≡ []
nothing l ls e =
    let parts = and_parts (length l == 0) (length ls == 0) e in
    let first : length l ≡ 0 = grind (arith, parts.0) in
    let others : length ls ≡ 0 = grind (arith, parts.1) in
    ap (λ ls. joined (l ∷ ls)) (nil_from_length ls others) ∙ nil_from_length l first

module _ {D : ℕ} where
  -- what is read and the lines that are left are the text of the shadow that comes of them
  pub rest-accepted : (ls : List (List ℕ)) (p : Progress D) (n : ℕ) (s : ShadowLists D) → 0 < D → IsOpen p → read_rest ls p n ≡ Ok s
      → so_far p ++ joined ls ≡ shadow_text s
  rest-accepted [] p n s axes is_open e = let no : ⊥ = cc in absurd no
  rest-accepted (l ∷ []) p n s axes is_open e = let no : ⊥ = cc in absurd no
  rest-accepted (l ∷ m ∷ ms) p n s axes is_open e =
      let after = joined (m ∷ ms) in
      let Read : Progress D → Bool → Type 0 = λ q b. cond b (cond {A = Result (ShadowLists D) (ℕ × LineFault)} (is_nothing (m ∷ ms)) (Ok q.shadow) (Err (n + 1, BadLine))) (read_rest (m ∷ ms) q (n + 1)) ≡ Ok s in
      let goes_on : (q : Progress D) → Adds p (l ++ 10 ∷ []) q → Read q false → so_far p ++ (l ++ 10 ∷ after) ≡ shadow_text s = λ q adds e.
      between (so_far p) l after ∙ ap (λ k. k ++ after) (sym adds.1) ∙ rest-accepted (m ∷ ms) q (n + 1) s axes adds.0 e in
      let ends : (q : Progress D) → Due p.cells p.nodes p.rows End → p ≡ q → l ++ 10 ∷ [] ≡ end_line → Read q true → so_far p ++ (l ++ 10 ∷ after) ≡ shadow_text s =
      λ q counts same last e.
      let by_case : (b : Bool) → is_nothing (m ∷ ms) ≡ b → cond {A = Result (ShadowLists D) (ℕ × LineFault)} b (Ok q.shadow) (Err (n + 1, BadLine)) ≡ Ok s → so_far p ++ (l ++ 10 ∷ after) ≡ shadow_text s = elim [
        | true ↦ λ is e.
            let shadow : q.shadow ≡ s = cc in
            ap (λ k. so_far p ++ (l ++ 10 ∷ k)) (nothing m ms is) ∙ ap (λ k. so_far p ++ k) last ∙ end-adds p counts
            ∙ ap (λ (p : Progress D). shadow_text p.shadow) same ∙ ap shadow_text shadow
        | false ↦ λ is e. let no : ⊥ = cc in absurd no
      ] in
      by_case (is_nothing (m ∷ ms)) refl e in
      let by_due : (k : LineKind) (q : Progress D) → Due p.cells p.nodes p.rows k → Follows p (l ++ 10 ∷ []) q k → Read q (is_end k)
      → so_far p ++ (l ++ 10 ∷ after) ≡ shadow_text s = elim [
        | Header ↦ λ q counts follows e. goes_on q follows e
        | Node ↦ λ q counts follows e. goes_on q follows e
        | Cell ↦ λ q counts follows e. goes_on q follows e
        | Row ↦ λ q counts follows e. goes_on q follows e
        | End ↦ λ q counts follows e. ends q counts follows.0 follows.1 e
      ] in
      let by_line : (r : Result (Progress D) LineFault) → after_line p l ≡ r
      → at_line n r (λ q. cond (is_end (due p)) (cond {A = Result (ShadowLists D) (ℕ × LineFault)} (is_nothing (m ∷ ms)) (Ok q.shadow) (Err (n + 1, BadLine))) (read_rest (m ∷ ms) q (n + 1))) ≡ Ok s
      → so_far p ++ (l ++ 10 ∷ after) ≡ shadow_text s = elim [
        | Err code ↦ λ is e. let no : ⊥ = cc in absurd no
        | Ok q ↦ λ is e. by_due (due p) q (due-counts p) (line-follows p q l axes is_open is) e
      ] in
      by_line (after_line p l) refl e

-- a header's line
abbrev pub heading_line : Heading → List ℕ
heading_line h = line (codes "rtree") (decimal h.axes ∷ decimal h.capacity ∷ signed_decimal h.root ∷ decimal h.nodes ∷ decimal h.rows ∷ [])

-- a header and the lines after it
body-accepted : (D : ℕ) (h : Heading) (ls : List (List ℕ)) (s : ShadowLists D) → 0 < D → D ≡ h.axes → read_rest ls (start D h) 2 ≡ Ok s
    → shadow_text s ≡ heading_line h ++ joined ls
body-accepted D h ls s some axes e =
    let counted : ℕ → ℕ → ℕ → List ℕ =
    λ axes nodes rows. line (codes "rtree") (decimal axes ∷ decimal h.capacity ∷ signed_decimal h.root ∷ decimal nodes ∷ decimal rows ∷ []) in
    let nodes : 0 + h.nodes ≡ h.nodes = omega arith in
    let rows : 0 + h.rows ≡ h.rows = omega arith in
    let is_open : IsOpen (start D h) = ((λ more. let no : ⊥ = omega (arith, more) in absurd no), (λ _. refl)) in
    sym (rest-accepted ls (start D h) 2 s some is_open e)
    ∙ ap (λ l. l ++ joined ls) (append-nil (counted D (0 + h.nodes) (0 + h.rows)))
    ∙ ap (λ n. counted D n (0 + h.rows) ++ joined ls) nodes
    ∙ ap (λ n. counted D h.nodes n ++ joined ls) rows
    ∙ ap (λ n. counted n h.nodes h.rows ++ joined ls) axes

shadow-accepted : (D : ℕ) (make : ShadowLists D → AnyShadow) (h : Heading) (ls : List (List ℕ)) (a : AnyShadow) → 0 < D → D ≡ h.axes
    → ((s : ShadowLists D) → any_text (make s) ≡ shadow_text s)
    → any_shadow make (read_rest ls (start D h) 2) ≡ Ok a → any_text a ≡ heading_line h ++ joined ls
shadow-accepted D make h ls a some axes text e =
    let by_case : (r : Result (ShadowLists D) (ℕ × LineFault)) → read_rest ls (start D h) 2 ≡ r → any_shadow make r ≡ Ok a → any_text a ≡ heading_line h ++ joined ls = elim [
      | Err fault ↦ λ is e. let no : ⊥ = cc in absurd no
      | Ok s ↦ λ is e.
          let same : make s ≡ a = cc in
          ap any_text (sym same) ∙ text s ∙ body-accepted D h ls s some axes is
    ] in
    by_case (read_rest ls (start D h) 2) refl e

axes-accepted : (h : Heading) (ls : List (List ℕ)) (a : AnyShadow) → (nat_le 1 h.axes && nat_le h.axes 3) ≡ true
    → read_body h ls ≡ Ok a → any_text a ≡ heading_line h ++ joined ls
axes-accepted h ls a range e =
    let parts = and_parts (nat_le 1 h.axes) (nat_le h.axes 3) range in
    let by_two : (b : Bool) → (h.axes == 1) ≡ false → (h.axes == 2) ≡ b
    → cond b (any_shadow Two (read_rest ls (start 2 h) 2)) (any_shadow Three (read_rest ls (start 3 h) 2)) ≡ Ok a → any_text a ≡ heading_line h ++ joined ls = elim [
      | true ↦ λ one two e. shadow-accepted 2 Two h ls a (omega arith) (grind (arith, two)) (λ s. refl) e
      | false ↦ λ one two e. shadow-accepted 3 Three h ls a (omega arith) (grind (arith, one, two, parts.0, parts.1)) (λ s. refl) e
    ] in
    let by_one : (b : Bool) → (h.axes == 1) ≡ b
    → cond b (any_shadow One (read_rest ls (start 1 h) 2))
    (cond (h.axes == 2) (any_shadow Two (read_rest ls (start 2 h) 2)) (any_shadow Three (read_rest ls (start 3 h) 2))) ≡ Ok a
    → any_text a ≡ heading_line h ++ joined ls = elim [
      | true ↦ λ one e. shadow-accepted 1 One h ls a (omega arith) (grind (arith, one)) (λ s. refl) e
      | false ↦ λ one e. by_two (h.axes == 2) one refl e
    ] in
    by_one (h.axes == 1) refl e

-- a first line of a kind
first-accepted : (ws : List (List ℕ)) (ls : List (List ℕ)) (a : AnyShadow) (o : Option LineKind) → kind_of None ws ≡ o
    → read_kind o (header_of ws) ls ≡ Ok a → any_text a ≡ ended ws ++ joined ls
first-accepted ws ls a (Some Header) is e =
    let kind = kind_spelled None ws Header is in
    let by_heading : (o : Option Heading) → header_of ws ≡ o → read_heading o ls ≡ Ok a → any_text a ≡ ended ws ++ joined ls = elim [
      | None ↦ λ says e. let no : ⊥ = cc in absurd no
      | Some h ↦ λ says e.
          let text = header-text ws h kind says in
          axes-accepted h ls a text.1 e ∙ ap (λ l. l ++ joined ls) (sym text.0)
    ] in
    by_heading (header_of ws) refl e
first-accepted ws ls a o is e = let no : ⊥ = cc in absurd no

lines-accepted : (ls : List (List ℕ)) (a : AnyShadow) → read_lines ls ≡ Ok a → any_text a ≡ joined ls
lines-accepted [] a e = let no : ⊥ = cc in absurd no
lines-accepted (l ∷ []) a e = let no : ⊥ = cc in absurd no
lines-accepted (l ∷ m ∷ ms) a e =
    first-accepted (words l) (m ∷ ms) a (kind_of None (words l)) refl e
    ∙ ap (λ k. k ++ joined (m ∷ ms)) (ended-words l) ∙ append_assoc l (10 ∷ []) (joined (m ∷ ms))

-- what is read is the text's shadow
pub text-accepted : (text : List ℕ) (a : AnyShadow) → read_text text ≡ Ok a → any_text a ≡ text
text-accepted text a e = lines-accepted (pieces 10 text) a e ∙ joined-pieces text
