-- The laws of faults: each fault is read exactly where the definition of its own says that it is.
use Rattle.std.proofs.Common.{◌≡◌, ◌⊎◌, inl, inr, ℕ, suc, ◌+◌, ◌-◌, ◌<◌, ◌≤◌, ℤ, List, [], ◌∷◌, ◌++◌, true, false, cond, Option, Some, None, Result, Ok, Err, refl, sym, subst, ◌∙◌, ap, length, get_or, drop, arith, append_assoc, append-nil, length-append}
use Rattle.std.specs.Prelude.{nat_le}
use Rattle.std.specs.List.{list_any}
use Rattle.std.specs.Ordering.{int_eq}
use Rattle.std.specs.Fmt.{signed_decimal}
use Rattle.std.proofs.lemmas.List.{length_push}
use Rattle.rt_check_dump.specs.declared.lines.LineKind.{LineKind}
use Rattle.rt_check_dump.specs.declared.lines.LineKind.TheVariants.{Header, Node, Cell, Row, End}
use Rattle.rt_check_dump.specs.declared.dump.AnyShadow.{AnyShadow}
use Rattle.rt_check_dump.specs.declared.reading.Heading.{Heading}
use Rattle.rt_check_dump.specs.declared.reading.Progress.{Progress}
use Rattle.rt_check_dump.specs.Pieces.{pieces}
use Rattle.rt_check_dump.specs.Numbers.{positive_of, count_of}
use Rattle.rt_check_dump.specs.Lines.{words, kind_of, axes_of, capacity_of, header_of}
use Rattle.rt_check_dump.specs.Reading.{due, after_line, is_end, read_rest, start, any_shadow, read_heading, read_kind, read_lines, read_text}
use Rattle.rt_check_dump.specs.Faults.{IsDump, first_lines, lines_before, words_at, axes_at, kind_at, CanFollow, SaysNothing, IsMisfit, IsBadLine, IsMisfitOf, IsCountWrong, IsOutOfRange, IsListedTwice, HasFault, FaultsAreFound, IsDumpOrFaulty, OneAnswer}
use Rattle.rt_check_dump.proofs.Cuts.{pieces-some, read_lines-first}
use Rattle.rt_check_dump.proofs.AcceptedWords.{joined, joined-pieces}
use Rattle.rt_check_dump.proofs.AcceptedLines.{heading-parts}
use Rattle.rt_check_dump.proofs.WrittenPieces.{pieces-front}
use Rattle.rt_check_dump.proofs.FrontLines.{AreUnbroken, pieces-unbroken, first_lines-line}
use Rattle.rt_check_dump.proofs.Fits.{Fits, header-fits, start-fits}
use Rattle.rt_check_dump.proofs.Completing.{completes}
use Rattle.rt_check_dump.proofs.Faulty.{failure, fault-parts, ended-onto}
use Rattle.rt_check_dump.proofs.FaultyText.{Body, body-of, made, failed, Reads, some-dump, nothing-unread, dump-of, read-of, is-cut, truncated-found, misfits-found}
use Rattle.rt_check_dump.proofs.Reasons.{name_of, listed, Reason, line-reason, first-due, Leads, leads-fit, leads-read, leads-list, some-more, IsStopped, IsOver, halts}
use Rattle.rt_check_dump.specs.declared.fault.LineFault.{LineFault}
use Rattle.rt_check_dump.specs.declared.fault.LineFault.TheVariants.{Truncated, BadLine, CountWrong, OutOfRange, ListedTwice}

-- lines, each with its byte 10
abbrev ended_lines : List (List ℕ) → List ℕ
ended_lines [] = []
ended_lines (l ∷ ls) = l ++ 10 ∷ ended_lines ls

pieces-lines : (ls : List (List ℕ)) (rest : List ℕ) → AreUnbroken ls → pieces 10 (ended_lines ls ++ rest) ≡ ls ++ pieces 10 rest
pieces-lines [] rest each = refl
pieces-lines (l ∷ ls) rest each =
    ap (pieces 10) (append_assoc l (10 ∷ ended_lines ls) rest) ∙ pieces-front 10 l (ended_lines ls ++ rest) each.0
    ∙ ap (λ k. l ∷ k) (pieces-lines ls rest each.1)

joined-next : (l : List ℕ) (ls : List (List ℕ)) → (ls ≡ [] → ⊥) → joined (l ∷ ls) ≡ l ++ 10 ∷ joined ls
joined-next l [] some = absurd (some refl)
joined-next l (m ∷ ms) some = refl

unbroken-front : (ls ms : List (List ℕ)) → AreUnbroken (ls ++ ms) → AreUnbroken ls
unbroken-front [] ms each = tt
unbroken-front (l ∷ ls) ms each = (each.0, unbroken-front ls ms each.1)

lines-front : (ls : List (List ℕ)) (m : List ℕ) (ms : List (List ℕ)) → AreUnbroken ls → first_lines (length ls) (joined (ls ++ m ∷ ms)) ≡ ended_lines ls
lines-front [] m ms each = refl
lines-front (l ∷ ls) m ms each =
    ap (first_lines (suc (length ls))) (joined-next l (ls ++ m ∷ ms) (some-more ls m ms))
    ∙ first_lines-line (length ls) l (joined (ls ++ m ∷ ms)) each.0 ∙ ap (λ t. l ++ 10 ∷ t) (lines-front ls m ms each.1)

get-at : (ls : List (List ℕ)) (l : List ℕ) (ms : List (List ℕ)) → get_or (ls ++ l ∷ ms) (length ls) [] ≡ l
get-at [] l ms = refl
get-at (k ∷ ls) l ms = get-at ls l ms

first-and-others : (ls : List (List ℕ)) → (ls ≡ [] → ⊥) → ls ≡ get_or ls 0 [] ∷ drop 1 ls
first-and-others [] some = absurd (some refl)
first-and-others (l ∷ ls) some = refl

-- line n of a text, and the lines before it
record IsLineAt (text : List ℕ) (n : ℕ) (before : List (List ℕ)) (line : List ℕ) : Type 0 where
  others : List (List ℕ)
  is : pieces 10 text ≡ before ++ line ∷ others
  count : n ≡ suc (length before)

module _ (text : List ℕ) (n : ℕ) (before : List (List ℕ)) (line : List ℕ) (at : IsLineAt text n before line) where
  words-are : words_at text n ≡ words line
  words-are =
      let place : n - 1 ≡ length before = omega (arith, at.count) in
      ap (λ k. words (get_or (pieces 10 text) k [])) place ∙ ap (λ ls. words (get_or ls (length before) [])) at.is ∙ ap words (get-at before line at.others)

  before-unbroken : AreUnbroken before
  before-unbroken = unbroken-front before (line ∷ at.others) (subst AreUnbroken at.is (pieces-unbroken text))

  before-are : lines_before text n ≡ ended_lines before
  before-are =
      let place : n - 1 ≡ length before = omega (arith, at.count) in
      ap (λ k. first_lines k text) place ∙ ap (first_lines (length before)) (sym (joined-pieces text) ∙ ap joined at.is)
      ∙ lines-front before line at.others before-unbroken

-- a line after the header, which tells the number of axes
module _ (text : List ℕ) (n : ℕ) (header : List ℕ) (before : List (List ℕ)) (line : List ℕ) (at : IsLineAt text n (header ∷ before) line)
    (D : ℕ) (axes : axes_of (name_of (words header)) ≡ Some D) where
  later-axes : axes_at text n ≡ Some D
  later-axes =
      let low : 2 ≤ n = omega (arith, at.count) in
      let later : nat_le n 1 ≡ false = grind (arith, low) in
      ap (λ b. cond b None (axes_of (name_of (words_at text 1)))) later
      ∙ ap (λ ls. axes_of (name_of (words (get_or ls 0 [])))) at.is ∙ axes

  later-kind : kind_at text n ≡ kind_of (Some D) (words line)
  later-kind = ap (λ o. kind_of o (words_at text n)) later-axes ∙ ap (kind_of (Some D)) (words-are text n (header ∷ before) line at)

-- one kind of line can follow these lines
record IsPlace (front : List ℕ) (n : ℕ) (wanted : LineKind) : Type 0 where
  can : CanFollow front n wanted
  only : (kind : LineKind) → CanFollow front n kind → kind ≡ wanted
  unended : IsDump front → ⊥

header-first : (o : Option LineKind) (h : Option Heading) (ls : List (List ℕ)) (a : AnyShadow) → read_kind o h ls ≡ Ok a → o ≡ Some Header
header-first (Some Header) h ls a e = refl
header-first o h ls a e = let no : ⊥ = cc in absurd no

first-is : (text : List ℕ) → Reads text → kind_at text 1 ≡ Some Header
first-is text r = by_lines (pieces 10 text) r.1
  where
    by_lines : (ls : List (List ℕ)) → read_lines ls ≡ Ok r.0 → kind_of None (words (get_or ls 0 [])) ≡ Some Header
    by_lines [] e = let no : ⊥ = cc in absurd no
    by_lines (l ∷ []) e = let no : ⊥ = cc in absurd no
    by_lines (l ∷ m ∷ ms) e = header-first (kind_of None (words l)) (header_of (words l)) (m ∷ ms) r.0 e

first-place : IsPlace [] 1 Header
first-place =
    let d = some-dump in
    record {
      can = (d.0, dump-of d.0 d.1, first-is d.0 d.1);
      only = λ kind c.
          let e : Some kind ≡ Some Header = sym c.2 ∙ first-is c.0 (read-of c.0 c.1) in
          let same : kind ≡ Header = cc in
          same;
      unended = λ d. nothing-unread (read-of [] d);
    }

header-axes : (ws : List (List ℕ)) (h : Heading) → header_of ws ≡ Some h → axes_of (name_of ws) ≡ Some h.axes
header-axes [] h e = let no : ⊥ = cc in absurd no
header-axes (k ∷ []) h e = let no : ⊥ = cc in absurd no
header-axes (k ∷ a ∷ []) h e = let no : ⊥ = cc in absurd no
header-axes (k ∷ a ∷ m ∷ []) h e = let no : ⊥ = cc in absurd no
header-axes (k ∷ a ∷ m ∷ r ∷ []) h e = let no : ⊥ = cc in absurd no
header-axes (k ∷ a ∷ m ∷ r ∷ n ∷ []) h e = let no : ⊥ = cc in absurd no
header-axes (k ∷ a ∷ m ∷ r ∷ n ∷ t ∷ ws) h e = (heading-parts (axes_of a) (capacity_of m) (positive_of r) (count_of n) (count_of t) h e).0

-- the lines after a header
module _ (header : List ℕ) (h : Heading) (kind : kind_of None (words header) ≡ Some Header) (says : header_of (words header) ≡ Some h) (b : Body h) where
  body-read : (ls : List (List ℕ)) → (ls ≡ [] → ⊥) → read_lines (header ∷ ls) ≡ any_shadow b.make (read_rest ls (start b.D h) 2)
  body-read ls some =
      read_lines-first header ls some ∙ ap (λ (o : Option LineKind). read_kind o (header_of (words header)) ls) kind
      ∙ ap (λ (o : Option Heading). read_heading o ls) says ∙ b.reads ls

  axes-told : axes_of (name_of (words header)) ≡ Some b.D
  axes-told = header-axes (words header) h says ∙ ap (λ n. Some n) (sym b.axes)

  module _ (before : List (List ℕ)) (q : Progress b.D) (leads : Leads (start b.D h) before q) where
    lines-read : (m : List ℕ) (ms : List (List ℕ)) → read_lines (header ∷ (before ++ m ∷ ms)) ≡ any_shadow b.make (read_rest (m ∷ ms) q (2 + length before))
    lines-read m ms = body-read (before ++ m ∷ ms) (some-more before m ms) ∙ ap (any_shadow b.make) (leads-read before (start b.D h) q 2 m ms leads)

    -- after the end's line there is a whole dump
    ended-dump : (line : List ℕ) (new : Progress b.D) → AreUnbroken (header ∷ (before ++ line ∷ [])) → after_line q line ≡ Ok new → is_end (due q) ≡ true
        → IsDump (ended_lines (header ∷ (before ++ line ∷ [])))
    ended-dump line new each taken last =
        let lines = header ∷ (before ++ line ∷ []) in
        dump-of (ended_lines lines) (
          b.make new.shadow,
          ap read_text (sym (append-nil (ended_lines lines))) ∙ ap read_lines (pieces-lines lines [] each)
              ∙ ap (λ ls. read_lines (header ∷ ls)) (append_assoc before (line ∷ []) ([] ∷ [])) ∙ lines-read line ([] ∷ [])
              ∙ ap (any_shadow b.make) (ended-onto q new line ([] ∷ []) (2 + length before) (λ none. let no : ⊥ = cc in no) taken last),
        )

    module _ (n : ℕ) (count : n ≡ suc (suc (length before))) (each : AreUnbroken (header ∷ before)) where
      read-on : (rest : List ℕ) → read_text (ended_lines (header ∷ before) ++ rest) ≡ any_shadow b.make (read_rest (pieces 10 rest) q (2 + length before))
      read-on rest = ap read_lines (pieces-lines (header ∷ before) rest each) ∙ onto (pieces 10 rest) (pieces-some 10 rest)
        where
          onto : (ls : List (List ℕ)) → (ls ≡ [] → ⊥) → read_lines (header ∷ (before ++ ls)) ≡ any_shadow b.make (read_rest ls q (2 + length before))
          onto [] some = absurd (some refl)
          onto (m ∷ ms) some = lines-read m ms

      next-due : (rest : List ℕ) → Reads (ended_lines (header ∷ before) ++ rest) → kind_at (ended_lines (header ∷ before) ++ rest) n ≡ Some (due q)
      next-due rest r =
          let ls = pieces 10 rest in
          let m = made b.make (read_rest ls q (2 + length before)) r.0 (sym (read-on rest) ∙ r.1) in
          let at : IsLineAt (ended_lines (header ∷ before) ++ rest) n (header ∷ before) (get_or ls 0 []) = record {
            others = drop 1 ls;
            is = pieces-lines (header ∷ before) rest each ∙ ap (λ ls. header ∷ (before ++ ls)) (first-and-others ls (pieces-some 10 rest));
            count = count;
          } in
          later-kind (ended_lines (header ∷ before) ++ rest) n header before (get_or ls 0 []) at b.D axes-told ∙ first-due ls q (2 + length before) m.0 m.1

      later-place : Fits q → IsPlace (ended_lines (header ∷ before)) n (due q)
      later-place fits =
          let c = completes q fits in
          let front = ended_lines (header ∷ before) in
          let reads : Reads (front ++ c.rest) = (b.make c.shadow, read-on c.rest ∙ ap (any_shadow b.make) (c.reads (2 + length before))) in
          record {
            can = (c.rest, dump-of (front ++ c.rest) reads, next-due c.rest reads);
            only = λ kind f.
                let e : Some kind ≡ Some (due q) = sym f.2 ∙ next-due f.0 (read-of (front ++ f.0) f.1) in
                let same : kind ≡ due q = cc in
                same;
            unended = λ d.
                let r = read-of front d in
                let e : failure AnyShadow (2 + length before) Truncated ≡ Ok r.0 = sym (ap read_text (sym (append-nil front)) ∙ read-on []) ∙ r.1 in
                let no : ⊥ = cc in
                no;
          }

-- a line that fits no dump where one kind can follow
module _ (text : List ℕ) (n : ℕ) (wanted : LineKind) (misfit : IsMisfit text n) (place : IsPlace (lines_before text n) n wanted) where
  spelled-here : (kind : LineKind) → kind_at text n ≡ Some kind → IsMisfitOf kind text n
  spelled-here kind is = record { misfit = misfit; spelled = is; unended = place.unended }

  not-due : (kind : LineKind) → kind_at text n ≡ Some kind → (kind ≡ wanted → ⊥) → IsCountWrong text n
  not-due kind is other = record { kind = kind; line = spelled-here kind is; not_due = λ can. other (place.only kind can) }

-- a line with that number is among those before line n
abbrev IsEarlier : List ℕ → ℕ → LineKind → ℤ → Type 0
IsEarlier text n kind z =
    (i : ℕ) × (1 ≤ i) × (i < n) × (kind_at text i ≡ Some kind) × (name_of (words_at text i) ≡ signed_decimal z)

module _ {D : ℕ} (text : List ℕ) (n : ℕ) (q : Progress D) (line : List ℕ) (misfit : IsMisfit text n) (place : IsPlace (lines_before text n) n (due q))
    (axes : axes_at text n ≡ Some D) (same_words : words_at text n ≡ words line)
    (again : (kind : LineKind) (z : ℤ) → list_any (int_eq z) (listed kind q) ≡ true → IsEarlier text n kind z) where
  can-here : (kind : LineKind) → kind ≡ due q → CanFollow (lines_before text n) n kind
  can-here kind is = subst (CanFollow (lines_before text n) n) (sym is) place.can

  nothing-here : (kind : LineKind) → SaysNothing kind (Some D) (words line) → SaysNothing kind (axes_at text n) (words_at text n)
  nothing-here kind nothing =
      subst (λ ws. SaysNothing kind (axes_at text n) ws) (sym same_words) (subst (λ o. SaysNothing kind o (words line)) (sym axes) nothing)

  something-here : (kind : LineKind) → SaysNothing kind (axes_at text n) (words_at text n) → SaysNothing kind (Some D) (words line)
  something-here kind nothing =
      subst (λ o. SaysNothing kind o (words line)) axes (subst (λ ws. SaysNothing kind (axes_at text n) ws) same_words nothing)

  reason-fault : (o : Option LineKind) (code : LineFault) → kind_at text n ≡ o → Reason q (words line) o code → HasFault code text n
  reason-fault None code is bad = subst (λ c. HasFault c text n) (sym bad) (record { misfit = misfit; no_line = inl is })
  reason-fault (Some kind) Truncated is cause = absurd cause
  reason-fault (Some kind) BadLine is cause = absurd cause
  reason-fault (Some kind) CountWrong is cause = not-due text n (due q) misfit place kind is cause
  reason-fault (Some kind) OutOfRange is cause = record {
    kind = kind;
    line = spelled-here text n (due q) misfit place kind is;
    due = can-here kind cause.0;
    outside = nothing-here kind cause.1;
  }
  reason-fault (Some kind) ListedTwice is cause =
      let r = cause.1 in
      let a = again kind r.number r.known in
      record {
        kind = kind;
        line = spelled-here text n (due q) misfit place kind is;
        due = can-here kind cause.0;
        listing = r.listing;
        in_range = λ nothing. r.in_range (something-here kind nothing);
        first = a.0;
        earlier = (a.1, a.2);
        same_kind = a.3;
        same_name = a.4 ∙ sym r.name ∙ sym (ap name_of same_words);
      }

-- nothing is listed by the header
listed-first : (kind : LineKind) (D : ℕ) (h : Heading) (z : ℤ) → list_any (int_eq z) (listed kind (start D h)) ≡ true → ⊥
listed-first Header D h z e = let no : ⊥ = cc in no
listed-first Node D h z e = let no : ⊥ = cc in no
listed-first Cell D h z e = let no : ⊥ = cc in no
listed-first Row D h z e = let no : ⊥ = cc in no
listed-first End D h z e = let no : ⊥ = cc in no

-- a fault after the header
module _ (header : List ℕ) (h : Heading) (kind : kind_of None (words header) ≡ Some Header) (says : header_of (words header) ≡ Some h) (b : Body h)
    (text : List ℕ) (ls : List (List ℕ)) (lines : pieces 10 text ≡ header ∷ ls) (n m : ℕ) (count : n ≡ 2 + m) (misfit : IsMisfit text n) where
  stopped : (code : LineFault) → Fits (start b.D h) → IsStopped (start b.D h) ls m code → HasFault code text n
  stopped code fits stop =
      let before = header ∷ stop.before in
      let told = axes-told header h kind says b in
      let at : IsLineAt text n before stop.line =
      record { others = stop.others; is = lines ∙ ap (λ k. header ∷ k) stop.is; count = omega (arith, count, stop.count) } in
      let later : n ≡ suc (suc (length stop.before)) = at.count in
      let each = before-unbroken text n before stop.line at in
      let place : IsPlace (lines_before text n) n (due stop.state) =
      subst (λ f. IsPlace f n (due stop.state)) (sym (before-are text n before stop.line at))
      (later-place header h kind says b stop.before stop.state stop.leads n later each (leads-fit stop.before (start b.D h) stop.state stop.leads fits)) in
      let again : (kind : LineKind) (z : ℤ) → list_any (int_eq z) (listed kind stop.state) ≡ true → IsEarlier text n kind z = λ kind z known.
      elim (leads-list stop.before (start b.D h) stop.state kind z stop.leads known) as (λ s. IsEarlier text n kind z) [
        | inl none ↦ absurd (listed-first kind b.D h z none)
        | inr among ↦
            let i = suc (suc (length among.first)) in
            let at_i : IsLineAt text i (header ∷ among.first) among.line = record {
              others = among.others ++ stop.line ∷ stop.others;
              is = lines ∙ ap (λ k. header ∷ k) (stop.is ∙ ap (λ k. k ++ stop.line ∷ stop.others) among.is
                  ∙ append_assoc among.first (among.line ∷ among.others) (stop.line ∷ stop.others));
              count = refl;
            } in
            let longer : length stop.before ≡ length among.first + length (among.line ∷ among.others) =
            ap length among.is ∙ length-append among.first (among.line ∷ among.others) in (
              i,
              omega arith,
              omega (arith, longer, later),
              later-kind text i header among.first among.line at_i b.D told ∙ among.kind,
              ap name_of (words-are text i (header ∷ among.first) among.line at_i) ∙ among.name,
            )
      ] in
      let reason = line-reason stop.state stop.line code stop.fails in
      reason-fault text n stop.state stop.line misfit place (later-axes text n header stop.before stop.line at b.D told)
      (words-are text n before stop.line at) again reason.0 code (later-kind text n header stop.before stop.line at b.D told ∙ reason.1) reason.2

  over : IsOver (start b.D h) ls m → IsBadLine text n
  over o =
      let done = o.before ++ o.line ∷ [] in
      let longer = length_push o.before o.line in
      let at : IsLineAt text n (header ∷ done) o.next = record {
        others = o.others;
        is = lines ∙ ap (λ k. header ∷ k) (o.is ∙ sym (append_assoc o.before (o.line ∷ []) (o.next ∷ o.others)));
        count = omega (arith, count, o.count, longer);
      } in
      record {
        misfit = misfit;
        no_line = inr (subst IsDump (sym (before-are text n (header ∷ done) o.next at))
            (ended-dump header h kind says b o.before o.state o.leads o.line o.new (before-unbroken text n (header ∷ done) o.next at) o.taken o.last));
      }

-- the fault that is read is there
module _ (text : List ℕ) (n : ℕ) (code : LineFault) (other : code ≡ Truncated → ⊥) (misfit : IsMisfit text n) where
  at-first : (found : LineFault) → failure AnyShadow 1 found ≡ failure AnyShadow n code → (IsMisfit text 1 → HasFault found text 1) → HasFault code text n
  at-first found e fault =
      let parts = fault-parts {S = AnyShadow} 1 found n code e in
      subst (λ k. HasFault code text k) parts.0 (subst (λ c. HasFault c text 1) parts.1 (fault (subst (λ k. IsMisfit text k) (sym parts.0) misfit)))

  first-count : (l : List ℕ) (found : LineKind) → kind_at text 1 ≡ Some found → (found ≡ Header → ⊥) → failure AnyShadow 1 CountWrong ≡ failure AnyShadow n code → HasFault code text n
  first-count l found is differs e = at-first CountWrong e (λ misfit. not-due text 1 Header misfit first-place found is differs)

  by-heading : (l m : List ℕ) (ms : List (List ℕ)) → pieces 10 text ≡ l ∷ m ∷ ms → kind_at text 1 ≡ kind_of None (words l) → words_at text 1 ≡ words l
      → kind_of None (words l) ≡ Some Header → (o : Option Heading) → header_of (words l) ≡ o → read_heading o (m ∷ ms) ≡ Err (n, code) → HasFault code text n
  by-heading l m ms lines same same_words kind None says e =
      at-first OutOfRange e (λ misfit. record {
        kind = Header;
        line = spelled-here text 1 Header misfit first-place Header (same ∙ kind);
        due = first-place.can;
        outside = ap header_of same_words ∙ says;
      })
  by-heading l m ms lines same same_words kind (Some h) says e =
      let head = header-fits (words l) h says in
      let b = body-of h head in
      let f = failed b.make (read_rest (m ∷ ms) (start b.D h) 2) n code (sym (b.reads (m ∷ ms)) ∙ e) in
      let halt = halts (m ∷ ms) (start b.D h) 2 n code other f in
      elim halt.2 as (λ s. HasFault code text n) [
        | inl stop ↦ stopped l h kind says b text (m ∷ ms) lines n halt.0 halt.1 misfit code (start-fits b.D h head b.axes) stop
        | inr o ↦ subst (λ c. HasFault c text n) o.0 (over l h kind says b text (m ∷ ms) lines n halt.0 halt.1 misfit o.1)
      ]

  by-kind : (l m : List ℕ) (ms : List (List ℕ)) → pieces 10 text ≡ l ∷ m ∷ ms → kind_at text 1 ≡ kind_of None (words l) → words_at text 1 ≡ words l
      → (o : Option LineKind) → kind_of None (words l) ≡ o → read_kind o (header_of (words l)) (m ∷ ms) ≡ Err (n, code) → HasFault code text n
  by-kind l m ms lines same same_words None kind e = at-first BadLine e (λ misfit. record { misfit = misfit; no_line = inl (same ∙ kind) })
  by-kind l m ms lines same same_words (Some Header) kind e = by-heading l m ms lines same same_words kind (header_of (words l)) refl e
  by-kind l m ms lines same same_words (Some Node) kind e = first-count l Node (same ∙ kind) (λ is. let no : ⊥ = cc in no) e
  by-kind l m ms lines same same_words (Some Cell) kind e = first-count l Cell (same ∙ kind) (λ is. let no : ⊥ = cc in no) e
  by-kind l m ms lines same same_words (Some Row) kind e = first-count l Row (same ∙ kind) (λ is. let no : ⊥ = cc in no) e
  by-kind l m ms lines same same_words (Some End) kind e = first-count l End (same ∙ kind) (λ is. let no : ⊥ = cc in no) e

  by-lines : (ls : List (List ℕ)) → pieces 10 text ≡ ls → read_lines ls ≡ Err (n, code) → HasFault code text n
  by-lines [] lines e = absurd (other (sym (fault-parts {S = AnyShadow} 1 Truncated n code e).1))
  by-lines (l ∷ []) lines e = absurd (other (sym (fault-parts {S = AnyShadow} 1 Truncated n code e).1))
  by-lines (l ∷ m ∷ ms) lines e =
      let same_words : words_at text 1 ≡ words l = ap (λ ls. words (get_or ls 0 [])) lines in
      by-kind l m ms lines (ap (kind_of None) same_words) same_words (kind_of None (words l)) refl e

found : (text : List ℕ) (n : ℕ) (code : LineFault) → (code ≡ Truncated → ⊥) → read_text text ≡ Err (n, code) → HasFault code text n
found text n code other e = by-lines text n code other ((misfits-found text n).0 (code, other, e)) (pieces 10 text) refl e

-- no line has two faults
module _ (text : List ℕ) (n : ℕ) where
  spelled-not : (kind : LineKind) → IsBadLine text n → IsMisfitOf kind text n → ⊥
  spelled-not kind bad line =
      elim bad.no_line as (λ s. ⊥) [
        | inl none ↦ let e : None ≡ Some kind = sym none ∙ line.spelled in let no : ⊥ = cc in no
        | inr dump ↦ line.unended dump
      ]

  one-kind : (j k : LineKind) → IsMisfitOf j text n → IsMisfitOf k text n → j ≡ k
  one-kind j k a b = let e : Some j ≡ Some k = sym a.spelled ∙ b.spelled in let same : j ≡ k = cc in same

  due-not : (kind : LineKind) → IsCountWrong text n → IsMisfitOf kind text n → CanFollow (lines_before text n) n kind → ⊥
  due-not kind wrong line due = wrong.not_due (subst (CanFollow (lines_before text n) n) (one-kind kind wrong.kind line wrong.line) due)

  outside-not : IsOutOfRange text n → IsListedTwice text n → ⊥
  outside-not out twice =
      twice.in_range (subst (λ k. SaysNothing k (axes_at text n) (words_at text n)) (one-kind out.kind twice.kind out.line twice.line) out.outside)

  one-fault : (c d : LineFault) → (c ≡ Truncated → ⊥) → (d ≡ Truncated → ⊥) → HasFault c text n → HasFault d text n → c ≡ d
  one-fault Truncated d x y a b = absurd (x refl)
  one-fault BadLine Truncated x y a b = absurd (y refl)
  one-fault BadLine BadLine x y a b = refl
  one-fault BadLine CountWrong x y a b = absurd (spelled-not b.kind a b.line)
  one-fault BadLine OutOfRange x y a b = absurd (spelled-not b.kind a b.line)
  one-fault BadLine ListedTwice x y a b = absurd (spelled-not b.kind a b.line)
  one-fault CountWrong Truncated x y a b = absurd (y refl)
  one-fault CountWrong BadLine x y a b = absurd (spelled-not a.kind b a.line)
  one-fault CountWrong CountWrong x y a b = refl
  one-fault CountWrong OutOfRange x y a b = absurd (due-not b.kind a b.line b.due)
  one-fault CountWrong ListedTwice x y a b = absurd (due-not b.kind a b.line b.due)
  one-fault OutOfRange Truncated x y a b = absurd (y refl)
  one-fault OutOfRange BadLine x y a b = absurd (spelled-not a.kind b a.line)
  one-fault OutOfRange CountWrong x y a b = absurd (due-not a.kind b a.line a.due)
  one-fault OutOfRange OutOfRange x y a b = refl
  one-fault OutOfRange ListedTwice x y a b = absurd (outside-not a b)
  one-fault ListedTwice Truncated x y a b = absurd (y refl)
  one-fault ListedTwice BadLine x y a b = absurd (spelled-not a.kind b a.line)
  one-fault ListedTwice CountWrong x y a b = absurd (due-not a.kind b a.line a.due)
  one-fault ListedTwice OutOfRange x y a b = absurd (outside-not b a)
  one-fault ListedTwice ListedTwice x y a b = refl

  misfit-here : (c : LineFault) → (c ≡ Truncated → ⊥) → HasFault c text n → IsMisfit text n
  misfit-here Truncated x a = absurd (x refl)
  misfit-here BadLine x a = a.misfit
  misfit-here CountWrong x a = a.line.misfit
  misfit-here OutOfRange x a = a.line.misfit
  misfit-here ListedTwice x a = a.line.misfit

-- the law of faults
pub faults-found : FaultsAreFound
faults-found text n fault = (
  λ e.
      elim (is-cut fault) as (λ s. HasFault fault text n) [
        | inl cut ↦ subst (λ c. HasFault c text n) (sym cut) ((truncated-found text n).0 (e ∙ ap (failure AnyShadow n) cut))
        | inr other ↦ found text n fault other e
      ],
  λ has.
      elim (is-cut fault) as (λ s. read_text text ≡ Err (n, fault)) [
        | inl cut ↦ (truncated-found text n).1 (subst (λ c. HasFault c text n) cut has) ∙ ap (failure AnyShadow n) (sym cut)
        | inr other ↦
            let r = (misfits-found text n).1 (misfit-here text n fault other has) in
            r.2 ∙ ap (failure AnyShadow n) (one-fault text n r.0 fault r.1 other (found text n r.0 r.1 r.2) has)
      ],
)

-- a text is a dump or has a fault
pub dump-or-faulty : IsDumpOrFaulty
dump-or-faulty text = by_read (read_text text) refl
  where
    by_read : (r : Result AnyShadow (ℕ × LineFault)) → read_text text ≡ r → IsDump text ⊎ ((n : ℕ) × (fault : LineFault) × HasFault fault text n)
    by_read (Ok a) is = inl (dump-of text (a, is))
    by_read (Err fault) is = inr (fault.0, fault.1, (faults-found text fault.0 fault.1).0 is)

pub one-answer : OneAnswer
one-answer text n fault has =
    let f = (faults-found text n fault).1 has in (
      λ d. let e = (read-of text d).1 in let no : ⊥ = cc in no,
      λ m other o. let g = (faults-found text m other).1 o in fault-parts {S = AnyShadow} m other n fault (sym g ∙ f),
    )
