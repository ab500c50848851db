-- Where a text goes wrong: the first faulty line that is read is the first that fits no dump.
use Rattle.std.proofs.Common.{◌≡◌, inl, inr, ℕ, suc, ◌+◌, ◌-◌, List, [], ◌∷◌, ◌++◌, Bool, true, false, cond, Option, Some, None, Result, Ok, Err, refl, sym, subst, ◌∙◌, ap, arith, append_assoc, append-nil}
use Rattle.std.specs.List.{list_any}
use Rattle.std.specs.Ordering.{int_eq}
use Rattle.rt_check.specs.declared.node.RawCell.{RawCell}
use Rattle.rt_check.specs.declared.node.RowEntry.{RowEntry}
use Rattle.rt_check.specs.Shadow.{ShadowLists, numbers_of, ids_of}
use Rattle.rt_check_dump.specs.declared.lines.LineKind.{LineKind}
use Rattle.rt_check_dump.specs.declared.lines.LineKind.TheVariants.{Node, Cell, Row, End}
use Rattle.rt_check_dump.specs.declared.lines.NodeHead.{NodeHead}
use Rattle.rt_check_dump.specs.declared.reading.Progress.{Progress}
use Rattle.rt_check_dump.specs.Pieces.{pieces}
use Rattle.rt_check_dump.specs.Lines.{words, kind_of, node_head, row_entry, raw_cell}
use Rattle.rt_check_dump.specs.InRange.{IsInRange, IsNumbered}
use Rattle.rt_check_dump.specs.Reading.{due, with_head, after_head, after_cell, after_row, after_kind, after_spelling, after_line, at_line, is_nothing, is_end, read_rest}
use Rattle.rt_check_dump.specs.Faults.{first_lines}
use Rattle.rt_check_dump.proofs.Cuts.{pieces-some}
use Rattle.rt_check_dump.proofs.AcceptedWords.{joined, joined-pieces}
use Rattle.rt_check_dump.proofs.AcceptedSteps.{Due, due-counts}
use Rattle.rt_check_dump.proofs.AcceptedText.{nothing}
use Rattle.rt_check_dump.proofs.WrittenPieces.{lacks, pieces-front}
use Rattle.rt_check_dump.proofs.FrontLines.{AreUnbroken, pieces-joined, first_lines-line, line_ends-line, line_ends-alone, IsFaultAfter, fault-later}
use Rattle.rt_check_dump.proofs.Fits.{Fits, line-step, kind-end, whole-fits}
use Rattle.rt_check_dump.proofs.Completing.{completes}
use Rattle.rt_check_dump.specs.declared.fault.LineFault.{LineFault}
use Rattle.rt_check_dump.specs.declared.fault.LineFault.TheVariants.{Truncated, BadLine, CountWrong, OutOfRange, ListedTwice}

-- the line and the code of a fault
abbrev fault_of : {S : Type 0} → Result S (ℕ × LineFault) → ℕ × LineFault
fault_of (Ok s) = (0, Truncated)
fault_of (Err fault) = fault

-- a fault at a line
abbrev pub failure : (S : Type 0) → ℕ → LineFault → Result S (ℕ × LineFault)
failure S n c = Err (n, c)

pub fault-parts : {S : Type 0} (n : ℕ) (c : LineFault) (k : ℕ) (d : LineFault) → failure S n c ≡ failure S k d → (n ≡ k) × (c ≡ d)
fault-parts {S} n c k d e = (ap (λ (r : Result S (ℕ × LineFault)). (fault_of r).0) e, ap (λ (r : Result S (ℕ × LineFault)). (fault_of r).1) e)

module _ {D : ℕ} where
  -- a line before the end's is read, and then the lines that follow it
  pub taken-onto : (p q : Progress D) (l : List ℕ) (ls : List (List ℕ)) (n : ℕ) → (ls ≡ [] → ⊥) → after_line p l ≡ Ok q → is_end (due p) ≡ false
      → read_rest (l ∷ ls) p n ≡ read_rest ls q (n + 1)
  taken-onto p q l [] n some after more = absurd (some refl)
  taken-onto p q l (m ∷ ms) n some after more =
      ap (λ (r : Result (Progress D) LineFault). at_line n r (λ q. cond (is_end (due p)) (cond {A = Result (ShadowLists D) (ℕ × LineFault)} (is_nothing (m ∷ ms)) (Ok q.shadow) (Err (n + 1, BadLine))) (read_rest (m ∷ ms) q (n + 1)))) after
      ∙ ap (λ b. cond b (cond {A = Result (ShadowLists D) (ℕ × LineFault)} (is_nothing (m ∷ ms)) (Ok q.shadow) (Err (n + 1, BadLine))) (read_rest (m ∷ ms) q (n + 1))) more

  line-onto : (p q : Progress D) (l rest : List ℕ) (n : ℕ) → lacks 10 l ≡ true → after_line p l ≡ Ok q → is_end (due p) ≡ false
      → read_rest (pieces 10 (l ++ 10 ∷ rest)) p n ≡ read_rest (pieces 10 rest) q (n + 1)
  line-onto p q l rest n whole after more =
      ap (λ ls. read_rest ls p n) (pieces-front 10 l rest whole) ∙ taken-onto p q l (pieces 10 rest) n (pieces-some 10 rest) after more

  -- a line that isn't taken
  line-fails : (p : Progress D) (l rest : List ℕ) (n : ℕ) (code : LineFault) → lacks 10 l ≡ true → after_line p l ≡ Err code
      → read_rest (pieces 10 (l ++ 10 ∷ rest)) p n ≡ Err (n, code)
  line-fails p l rest n code whole fails =
      ap (λ ls. read_rest ls p n) (pieces-front 10 l rest whole) ∙ onto (pieces 10 rest) (pieces-some 10 rest)
    where
      onto : (ls : List (List ℕ)) → (ls ≡ [] → ⊥) → read_rest (l ∷ ls) p n ≡ Err (n, code)
      onto [] some = absurd (some refl)
      onto (m ∷ ms) some =
          ap (λ (r : Result (Progress D) LineFault). at_line n r (λ q. cond (is_end (due p)) (cond {A = Result (ShadowLists D) (ℕ × LineFault)} (is_nothing (m ∷ ms)) (Ok q.shadow) (Err (n + 1, BadLine))) (read_rest (m ∷ ms) q (n + 1)))) fails

  -- the end's line, and what follows it
  pub ended-onto : (p q : Progress D) (l : List ℕ) (ls : List (List ℕ)) (n : ℕ) → (ls ≡ [] → ⊥) → after_line p l ≡ Ok q → is_end (due p) ≡ true
      → read_rest (l ∷ ls) p n ≡ cond (is_nothing ls) (Ok q.shadow) (Err (n + 1, BadLine))
  ended-onto p q l [] n some after more = absurd (some refl)
  ended-onto p q l (m ∷ ms) n some after more =
      ap (λ (r : Result (Progress D) LineFault). at_line n r (λ q. cond (is_end (due p)) (cond {A = Result (ShadowLists D) (ℕ × LineFault)} (is_nothing (m ∷ ms)) (Ok q.shadow) (Err (n + 1, BadLine))) (read_rest (m ∷ ms) q (n + 1)))) after
      ∙ ap (λ b. cond b (cond {A = Result (ShadowLists D) (ℕ × LineFault)} (is_nothing (m ∷ ms)) (Ok q.shadow) (Err (n + 1, BadLine))) (read_rest (m ∷ ms) q (n + 1))) more

  end-onto : (p q : Progress D) (l rest : List ℕ) (n : ℕ) → lacks 10 l ≡ true → after_line p l ≡ Ok q → is_end (due p) ≡ true
      → read_rest (pieces 10 (l ++ 10 ∷ rest)) p n ≡ cond (is_nothing (pieces 10 rest)) (Ok q.shadow) (Err (n + 1, BadLine))
  end-onto p q l rest n whole after more =
      ap (λ ls. read_rest ls p n) (pieces-front 10 l rest whole) ∙ ended-onto p q l (pieces 10 rest) n (pieces-some 10 rest) after more

  -- a line that is there isn't truncated
  kind-code : (p : Progress D) (ws : List (List ℕ)) (wanted kind : LineKind) (code : LineFault) → after_kind p ws wanted kind ≡ Err code → code ≡ Truncated → ⊥
  kind-code p ws Node Node code e five =
      let by_head : (o : Option NodeHead) → after_head p o ≡ Err code → ⊥ = elim [
        | None ↦ λ e. let same : OutOfRange ≡ code = cc in let no : ⊥ = cc in no
        | Some h ↦ λ e.
            let by_case : (b : Bool) → cond {A = Result (Progress D) LineFault} b (Err ListedTwice) (Ok (with_head p h)) ≡ Err code → ⊥ = elim [
              | true ↦ λ e. let same : ListedTwice ≡ code = cc in let no : ⊥ = cc in no
              | false ↦ λ e. let no : ⊥ = cc in no
            ] in
            by_case (list_any (int_eq h.number) (numbers_of p.shadow.nodes)) e
      ] in
      by_head (node_head ws) e
  kind-code p ws Cell Cell code e five =
      let by_cell : (o : Option (RawCell D)) → after_cell p o ≡ Err code → ⊥ = elim [
        | None ↦ λ e. let same : OutOfRange ≡ code = cc in let no : ⊥ = cc in no
        | Some c ↦ λ e. let no : ⊥ = cc in no
      ] in
      by_cell (raw_cell D ws) e
  kind-code p ws Row Row code e five =
      let by_row : (o : Option RowEntry) → after_row p o ≡ Err code → ⊥ = elim [
        | None ↦ λ e. let same : OutOfRange ≡ code = cc in let no : ⊥ = cc in no
        | Some r ↦ λ e.
            let by_case : (b : Bool) → cond {A = Result (Progress D) LineFault} b (Err ListedTwice) (Ok (record p { shadow = record p.shadow { rows = p.shadow.rows ++ r ∷ [] }; rows = p.rows - 1 })) ≡ Err code → ⊥ = elim [
              | true ↦ λ e. let same : ListedTwice ≡ code = cc in let no : ⊥ = cc in no
              | false ↦ λ e. let no : ⊥ = cc in no
            ] in
            by_case (list_any (int_eq r.id) (ids_of p.shadow.rows)) e
      ] in
      by_row (row_entry ws) e
  kind-code p ws End End code e five = let no : ⊥ = cc in no
  kind-code p ws wanted kind code e five = let same : CountWrong ≡ code = cc in let no : ⊥ = cc in no

  line-code : (p : Progress D) (l : List ℕ) (code : LineFault) → after_line p l ≡ Err code → code ≡ Truncated → ⊥
  line-code p l code e five =
      let by_kind : (o : Option LineKind) → after_spelling p (words l) o ≡ Err code → ⊥ = elim [
        | None ↦ λ e. let same : BadLine ≡ code = cc in let no : ⊥ = cc in no
        | Some kind ↦ λ e. kind-code p (words l) (due p) kind code e five
      ] in
      by_kind (kind_of (Some D) (words l)) e

  -- a text that is read as a shadow from line n on
  abbrev pub Ends : Progress D → ℕ → List ℕ → Type 0
  Ends p n text = (s : ShadowLists D) × (read_rest (pieces 10 text) p n ≡ Ok s)

  begun : (p : Progress D) (n : ℕ) → Fits p → (rest : List ℕ) × Ends p n rest
  begun p n fits = let c = completes p fits in (c.rest, (c.shadow, c.reads n))

  cut-here : (p : Progress D) (n : ℕ) (l : List ℕ) → Fits p → lacks 10 l ≡ true → IsFaultAfter (Ends p n) l 0 Truncated
  cut-here p n l fits whole = record {
    bad = λ other. absurd (other refl);
    short = λ _. record {
      last = line_ends-alone l whole;
      before = begun p n fits;
      unended = λ ends. let e : failure (ShadowLists D) n Truncated ≡ Ok ends.0 = ends.1 in let no : ⊥ = cc in no;
    };
  }

  bad-here : (p : Progress D) (n : ℕ) (code : LineFault) (l rest : List ℕ) → Fits p → lacks 10 l ≡ true → after_line p l ≡ Err code
      → IsFaultAfter (Ends p n) (l ++ 10 ∷ rest) 0 code
  bad-here p n code l rest fits whole fails = record {
    short = λ five. absurd (line-code p l code fails five);
    bad = λ _. record {
      before = begun p n fits;
      with_it = λ b.
          let e : read_rest (pieces 10 (l ++ 10 ∷ b.0)) p n ≡ Ok (b.1).0 =
          ap (λ t. read_rest (pieces 10 t) p n) (sym (append_assoc l (10 ∷ []) b.0) ∙ ap (λ t. t ++ b.0) (sym (first_lines-line 0 l rest whole))) ∙ (b.1).1 in
          let f = line-fails p l b.0 n code whole fails in
          let no : ⊥ = cc in
          no;
      seen = inl (omega (arith, line_ends-line l rest whole));
    };
  }

  -- something after the end
  after-end : (p q : Progress D) (n : ℕ) (l rest : List ℕ) → Fits p → lacks 10 l ≡ true → after_line p l ≡ Ok q → is_end (due p) ≡ true
      → (rest ≡ [] → ⊥) → IsFaultAfter (Ends p n) (l ++ 10 ∷ rest) 1 BadLine
  after-end p q n l rest fits whole after last some =
      let lines : first_lines 1 (l ++ 10 ∷ rest) ≡ l ++ 10 ∷ [] = first_lines-line 0 l rest whole in
      let whole_here : Ends p n (l ++ 10 ∷ []) = (q.shadow, end-onto p q l [] n whole after last) in
      record {
        short = λ five. let no : ⊥ = cc in absurd no;
        bad = λ _. record {
          before = ([], subst (Ends p n) (sym (append-nil (first_lines 1 (l ++ 10 ∷ rest)) ∙ lines)) whole_here);
          with_it = λ b.
              let text = first_lines 1 rest ++ b.0 in
              let e : read_rest (pieces 10 (l ++ 10 ∷ text)) p n ≡ Ok (b.1).0 =
              ap (λ t. read_rest (pieces 10 t) p n) (sym (append_assoc l (10 ∷ first_lines 1 rest) b.0) ∙ ap (λ t. t ++ b.0) (sym (first_lines-line 1 l rest whole))) ∙ (b.1).1 in
              let f = sym (end-onto p q l text n whole after last) ∙ e in
              let by_case : (c : Bool) → is_nothing (pieces 10 text) ≡ c → cond {A = Result (ShadowLists D) (ℕ × LineFault)} c (Ok q.shadow) (Err (n + 1, BadLine)) ≡ Ok (b.1).0 → ⊥ = elim [
                | true ↦ λ is f. first-some rest b.0 some (sym (joined-pieces text) ∙ no-text (pieces 10 text) is)
                | false ↦ λ is f. let no : ⊥ = cc in no
              ] in
              by_case (is_nothing (pieces 10 text)) refl f;
          seen = inr (subst (Ends p n) (sym lines) whole_here);
        };
      }
    where
      no-text : (ls : List (List ℕ)) → is_nothing ls ≡ true → joined ls ≡ []
      no-text [] is = refl
      no-text (m ∷ ms) is = nothing m ms is

      first-some : (rest more : List ℕ) → (rest ≡ [] → ⊥) → first_lines 1 rest ++ more ≡ [] → ⊥
      first-some [] more some e = some refl
      first-some (b ∷ bs) more some e = let no : ⊥ = cc in no

  -- the first fault of the lines after the header
  pub rest-fault : (ls : List (List ℕ)) (p : Progress D) (n k : ℕ) (code : LineFault) → Fits p → AreUnbroken ls → read_rest ls p n ≡ Err (k, code)
      → (m : ℕ) × (k ≡ n + m) × IsFaultAfter (Ends p n) (joined ls) m code
  rest-fault [] p n k code fits each e =
      let parts = fault-parts {S = ShadowLists D} n Truncated k code e in
      let line = parts.0 in
      let five = parts.1 in
      (0, omega (arith, line), subst (IsFaultAfter (Ends p n) [] 0) five (cut-here p n [] fits refl))
  rest-fault (l ∷ []) p n k code fits each e =
      let parts = fault-parts {S = ShadowLists D} n Truncated k code e in
      let line = parts.0 in
      let five = parts.1 in
      (0, omega (arith, line), subst (IsFaultAfter (Ends p n) l 0) five (cut-here p n l fits each.0))
  rest-fault (l ∷ m ∷ ms) p n k code fits each e =
      let after = joined (m ∷ ms) in
      let Fault : Type 0 = (j : ℕ) × (k ≡ n + j) × IsFaultAfter (Ends p n) (l ++ 10 ∷ after) j code in
      let goes_on : (q : Progress D) → after_line p l ≡ Ok q → is_end (due p) ≡ false → read_rest (m ∷ ms) q (n + 1) ≡ Err (k, code) → Fault = λ q taken more e.
      let rest = rest-fault (m ∷ ms) q (n + 1) k code (line-step p q l fits taken) each.1 e in
      let line : k ≡ (n + 1) + rest.0 = rest.1 in (
        suc rest.0,
        omega (arith, line),
        fault-later (Ends p n) (Ends q (n + 1)) l each.0 (λ t ends. (ends.0, line-onto p q l t n each.0 taken more ∙ ends.1))
            (λ t ends. (ends.0, sym (line-onto p q l t n each.0 taken more) ∙ ends.1)) after rest.0 code rest.2,
      ) in
      let ends : (q : Progress D) → after_line p l ≡ Ok q → is_end (due p) ≡ true
      → cond {A = Result (ShadowLists D) (ℕ × LineFault)} (is_nothing (m ∷ ms)) (Ok q.shadow) (Err (n + 1, BadLine)) ≡ Err (k, code) → Fault = λ q taken last e.
      let by_case : (b : Bool) → is_nothing (m ∷ ms) ≡ b → cond {A = Result (ShadowLists D) (ℕ × LineFault)} b (Ok q.shadow) (Err (n + 1, BadLine)) ≡ Err (k, code) → Fault = elim [
        | true ↦ λ is e. let no : ⊥ = cc in absurd no
        | false ↦ λ is e.
            let parts = fault-parts {S = ShadowLists D} (n + 1) BadLine k code e in
            let line = parts.0 in
            let one = parts.1 in
            let some : after ≡ [] → ⊥ = λ none.
            let again : pieces 10 [] ≡ m ∷ ms = ap (pieces 10) (sym none) ∙ pieces-joined m ms each.1 in
            let is_so : true ≡ false = ap is_nothing again ∙ is in
            let no : ⊥ = cc in
            no in
            (1, sym line, subst (IsFaultAfter (Ends p n) (l ++ 10 ∷ after) 1) one (after-end p q n l after fits each.0 taken last some))
      ] in
      by_case (is_nothing (m ∷ ms)) refl e in
      let by_line : (r : Result (Progress D) LineFault) → after_line p l ≡ r
      → at_line n r (λ q. cond (is_end (due p)) (cond {A = Result (ShadowLists D) (ℕ × LineFault)} (is_nothing (m ∷ ms)) (Ok q.shadow) (Err (n + 1, BadLine))) (read_rest (m ∷ ms) q (n + 1))) ≡ Err (k, code)
      → Fault = elim [
        | Err c ↦ λ is e.
            let parts = fault-parts {S = ShadowLists D} n c k code e in
            let line = parts.0 in
            let same = parts.1 in
            (0, omega (arith, line), subst (IsFaultAfter (Ends p n) (l ++ 10 ∷ after) 0) same (bad-here p n c l after fits each.0 is))
        | Ok q ↦ λ is e.
            let by_end : (b : Bool) → is_end (due p) ≡ b
            → cond b (cond {A = Result (ShadowLists D) (ℕ × LineFault)} (is_nothing (m ∷ ms)) (Ok q.shadow) (Err (n + 1, BadLine))) (read_rest (m ∷ ms) q (n + 1)) ≡ Err (k, code) → Fault = elim [
              | true ↦ λ last e. ends q is last e
              | false ↦ λ more e. goes_on q is more e
            ] in
            by_end (is_end (due p)) refl e
      ] in
      by_line (after_line p l) refl e

  due-end : (k : LineKind) (p q : Progress D) (ws : List (List ℕ)) (o : Option LineKind) → Due p.cells p.nodes p.rows k → due p ≡ k → is_end k ≡ true
      → after_spelling p ws o ≡ Ok q → (p ≡ q) × (p.cells ≡ 0) × (p.nodes ≡ 0) × (p.rows ≡ 0)
  due-end End p q ws None counts is last e = let no : ⊥ = cc in absurd no
  due-end End p q ws (Some kind) counts is last e =
      (kind-end p q ws kind (ap (λ wanted. after_kind p ws wanted kind) (sym is) ∙ e), counts.0, counts.1, counts.2)
  due-end k p q ws o counts is last e = let no : ⊥ = cc in absurd no

  -- a shadow that is read fits
  pub rest-fits : (ls : List (List ℕ)) (p : Progress D) (n : ℕ) (s : ShadowLists D) → Fits p → read_rest ls p n ≡ Ok s → IsInRange s × IsNumbered s
  rest-fits [] p n s fits e = let no : ⊥ = cc in absurd no
  rest-fits (l ∷ []) p n s fits e = let no : ⊥ = cc in absurd no
  rest-fits (l ∷ m ∷ ms) p n s fits e =
      let ends : (q : Progress D) → after_line p l ≡ Ok q → is_end (due p) ≡ true
      → cond {A = Result (ShadowLists D) (ℕ × LineFault)} (is_nothing (m ∷ ms)) (Ok q.shadow) (Err (n + 1, BadLine)) ≡ Ok s → IsInRange s × IsNumbered s = λ q taken last e.
      let by_case : (b : Bool) → cond {A = Result (ShadowLists D) (ℕ × LineFault)} b (Ok q.shadow) (Err (n + 1, BadLine)) ≡ Ok s → IsInRange s × IsNumbered s = elim [
        | true ↦ λ e.
            let shadow : q.shadow ≡ s = cc in
            let parts = due-end (due p) p q (words l) (kind_of (Some D) (words l)) (due-counts p) refl last taken in
            let same : p.shadow ≡ s = ap (λ (p : Progress D). p.shadow) parts.0 ∙ shadow in
            subst (λ s. IsInRange s × IsNumbered s) same (whole-fits p fits parts.1 parts.2 parts.3)
        | false ↦ λ e. let no : ⊥ = cc in absurd no
      ] in
      by_case (is_nothing (m ∷ ms)) e in
      let by_line : (r : Result (Progress D) LineFault) → after_line p l ≡ r
      → at_line n r (λ q. cond (is_end (due p)) (cond {A = Result (ShadowLists D) (ℕ × LineFault)} (is_nothing (m ∷ ms)) (Ok q.shadow) (Err (n + 1, BadLine))) (read_rest (m ∷ ms) q (n + 1))) ≡ Ok s
      → IsInRange s × IsNumbered s = elim [
        | Err c ↦ λ is e. let no : ⊥ = cc in absurd no
        | Ok q ↦ λ is e.
            let by_end : (b : Bool) → is_end (due p) ≡ b
            → cond b (cond {A = Result (ShadowLists D) (ℕ × LineFault)} (is_nothing (m ∷ ms)) (Ok q.shadow) (Err (n + 1, BadLine))) (read_rest (m ∷ ms) q (n + 1)) ≡ Ok s → IsInRange s × IsNumbered s = elim [
              | true ↦ λ last e. ends q is last e
              | false ↦ λ more e. rest-fits (m ∷ ms) q (n + 1) s (line-step p q l fits is) e
            ] in
            by_end (is_end (due p)) refl e
      ] in
      by_line (after_line p l) refl e
