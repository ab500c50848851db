-- The laws of dumps and of faulty texts.
use Rattle.std.proofs.Common.{◌≡◌, ◌⊎◌, inl, inr, ℕ, zero, suc, ◌+◌, ◌-◌, ◌≤◌, List, [], ◌∷◌, ◌++◌, Bool, true, false, cond, Option, Some, None, Result, Ok, Err, refl, sym, subst, ◌∙◌, ap, arith, codes, append_assoc}
use Rattle.std.specs.Prelude.{◌↔◌, ◌==◌, pos, IfOk}
use Rattle.std.specs.List.{flat_map}
use Rattle.rt_check.specs.Shadow.{ShadowLists}
use Rattle.rt_check_dump.specs.declared.lines.LineKind.{LineKind}
use Rattle.rt_check_dump.specs.declared.lines.LineKind.TheVariants.{Header, Node, Cell, Row, End}
use Rattle.rt_check_dump.specs.declared.dump.AnyShadow.{AnyShadow}
use Rattle.rt_check_dump.specs.declared.dump.AnyShadow.TheVariants.{One, Two, Three}
use Rattle.rt_check_dump.specs.declared.reading.Heading.{Heading}
use Rattle.rt_check_dump.specs.Pieces.{pieces}
use Rattle.rt_check_dump.specs.Lines.{words, kind_of, header_of}
use Rattle.rt_check_dump.specs.Dump.{node_text, row_line, header_line, shadow_text, any_text}
use Rattle.rt_check_dump.specs.InRange.{IsInRange, IsNumbered, IsAnyInRange, IsAnyNumbered}
use Rattle.rt_check_dump.specs.Reading.{read_rest, start, any_shadow, read_body, read_heading, read_kind, read_lines, read_text, Reads as IsReading}
use Rattle.rt_check_dump.specs.Faults.{IsTextOf, IsDump, BeginsDump, first_lines, line_ends, IsMisfit, IsTruncated, DumpsAreRead, MisfitsAreFound}
use Rattle.rt_check_dump.proofs.Cuts.{pieces-some, read_lines-first}
use Rattle.rt_check_dump.proofs.AcceptedWords.{joined, joined-pieces}
use Rattle.rt_check_dump.proofs.AcceptedText.{text-accepted}
use Rattle.rt_check_dump.proofs.WrittenPieces.{lacks, pieces-front}
use Rattle.rt_check_dump.proofs.WrittenText.{written-read}
use Rattle.rt_check_dump.proofs.FrontLines.{AreUnbroken, pieces-unbroken, first_lines-line, line_ends-line, line_ends-alone, first_lines-ended, Begins, IsBadAfter, IsCutAfter, IsFaultAfter, bad-cut, bad-once, bad-whole, fault-later}
use Rattle.rt_check_dump.proofs.Fits.{IsHeading, header-fits, start-fits}
use Rattle.rt_check_dump.proofs.Faulty.{failure, fault-parts, Ends, rest-fault, rest-fits}
use Rattle.rt_check_dump.specs.declared.fault.DumpFault.{DumpFault}
use Rattle.rt_check_dump.specs.declared.fault.LineFault.{LineFault}
use Rattle.rt_check_dump.specs.declared.fault.LineFault.TheVariants.{Truncated, BadLine, CountWrong, OutOfRange, ListedTwice}

-- what is read after a header of one, two or three axes
pub record Body (h : Heading) : Type 0 where
  pub D : ℕ
  pub make : ShadowLists D → AnyShadow
  pub axes : D ≡ h.axes
  pub reads : (ls : List (List ℕ)) → read_body h ls ≡ any_shadow make (read_rest ls (start D h) 2)
  pub fits : (s : ShadowLists D) → IsInRange s × IsNumbered s → IsAnyInRange (make s) × IsAnyNumbered (make s)

pub body-of : (h : Heading) → IsHeading h → Body h
body-of h head =
    let range = head.axes in
    let by_two : (b : Bool) → (h.axes == 1) ≡ false → (h.axes == 2) ≡ b → Body h = elim [
      | true ↦ λ one two. record {
        D = 2;
        make = Two;
        axes = grind (arith, two);
        reads = λ ls.
            ap (λ b. cond b (any_shadow One (read_rest ls (start 1 h) 2)) (cond (h.axes == 2) (any_shadow Two (read_rest ls (start 2 h) 2)) (any_shadow Three (read_rest ls (start 3 h) 2)))) one
            ∙ ap (λ b. cond b (any_shadow Two (read_rest ls (start 2 h) 2)) (any_shadow Three (read_rest ls (start 3 h) 2))) two;
        fits = λ s f. f;
      }
      | false ↦ λ one two. record {
        D = 3;
        make = Three;
        axes = grind (arith, one, two, range.0, range.1);
        reads = λ ls.
            ap (λ b. cond b (any_shadow One (read_rest ls (start 1 h) 2)) (cond (h.axes == 2) (any_shadow Two (read_rest ls (start 2 h) 2)) (any_shadow Three (read_rest ls (start 3 h) 2)))) one
            ∙ ap (λ b. cond b (any_shadow Two (read_rest ls (start 2 h) 2)) (any_shadow Three (read_rest ls (start 3 h) 2))) two;
        fits = λ s f. f;
      }
    ] in
    let by_one : (b : Bool) → (h.axes == 1) ≡ b → Body h = elim [
      | true ↦ λ one. record {
        D = 1;
        make = One;
        axes = grind (arith, one);
        reads = λ ls.
            ap (λ b. cond b (any_shadow One (read_rest ls (start 1 h) 2)) (cond (h.axes == 2) (any_shadow Two (read_rest ls (start 2 h) 2)) (any_shadow Three (read_rest ls (start 3 h) 2)))) one;
        fits = λ s f. f;
      }
      | false ↦ λ one. by_two (h.axes == 2) one refl
    ] in
    by_one (h.axes == 1) refl

-- a shadow that comes of the lines after a header
pub made : {S : Type 0} (make : S → AnyShadow) (r : Result S (ℕ × LineFault)) (a : AnyShadow) → any_shadow make r ≡ Ok a → (s : S) × (r ≡ Ok s) × (make s ≡ a)
made make (Ok s) a e = let same : make s ≡ a = cc in (s, refl, same)
made make (Err fault) a e = let no : ⊥ = cc in absurd no

-- a fault in them
pub failed : {S : Type 0} (make : S → AnyShadow) (r : Result S (ℕ × LineFault)) (k : ℕ) (code : LineFault) → any_shadow make r ≡ Err (k, code) → r ≡ Err (k, code)
failed make (Ok s) k code e = let no : ⊥ = cc in absurd no
failed {S} make (Err fault) k code e =
    let parts = fault-parts {S = AnyShadow} fault.0 fault.1 k code e in
    ap (λ k. Err (k, fault.1)) parts.0 ∙ ap (λ c. Err (k, c)) parts.1

heading-fits : (ws : List (List ℕ)) (ls : List (List ℕ)) (a : AnyShadow) (o : Option Heading) → header_of ws ≡ o → read_heading o ls ≡ Ok a
    → IsAnyInRange a × IsAnyNumbered a
heading-fits ws ls a None is e = let no : ⊥ = cc in absurd no
heading-fits ws ls a (Some h) is e =
    let head = header-fits ws h is in
    let b = body-of h head in
    let m = made b.make (read_rest ls (start b.D h) 2) a (sym (b.reads ls) ∙ e) in
    subst (λ a. IsAnyInRange a × IsAnyNumbered a) m.2 (b.fits m.0 (rest-fits ls (start b.D h) 2 m.0 (start-fits b.D h head b.axes) m.1))

kind-fits : (ws : List (List ℕ)) (ls : List (List ℕ)) (a : AnyShadow) (o : Option LineKind) → read_kind o (header_of ws) ls ≡ Ok a
    → IsAnyInRange a × IsAnyNumbered a
kind-fits ws ls a (Some Header) e = heading-fits ws ls a (header_of ws) refl e
kind-fits ws ls a o e = let no : ⊥ = cc in absurd no

-- a shadow that is read fits its types, and counts from 1
pub text-fits : (text : List ℕ) (a : AnyShadow) → read_text text ≡ Ok a → IsAnyInRange a × IsAnyNumbered a
text-fits text a e = by_lines (pieces 10 text) e
  where
    by_lines : (ls : List (List ℕ)) → read_lines ls ≡ Ok a → IsAnyInRange a × IsAnyNumbered a
    by_lines [] e = let no : ⊥ = cc in absurd no
    by_lines (l ∷ []) e = let no : ⊥ = cc in absurd no
    by_lines (l ∷ m ∷ ms) e = kind-fits (words l) (m ∷ ms) a (kind_of None (words l)) e

abbrev pub Reads : List ℕ → Type 0
Reads text = (a : AnyShadow) × (read_text text ≡ Ok a)

-- a dump of nothing, which shows that there is a dump
abbrev pub least_text : List ℕ
least_text = codes "rtree 1 5 1 0 0\nend\n"

pub some-dump : Begins Reads []
some-dump = (least_text, (One (record { capacity = 5; root = pos 1; nodes = []; rows = [] }), refl))

pub nothing-unread : Reads [] → ⊥
nothing-unread r = let e : failure AnyShadow 1 Truncated ≡ Ok r.0 = r.1 in let no : ⊥ = cc in no

cut-at-once : (l : List ℕ) → lacks 10 l ≡ true → IsFaultAfter Reads l 0 Truncated
cut-at-once l whole = record {
  bad = λ other. absurd (other refl);
  short = λ _. record { last = line_ends-alone l whole; before = some-dump; unended = nothing-unread };
}

module _ (l : List ℕ) (whole : lacks 10 l ≡ true) where
  first-read : (rest : List ℕ) → read_text (l ++ 10 ∷ rest) ≡ read_kind (kind_of None (words l)) (header_of (words l)) (pieces 10 rest)
  first-read rest = ap read_lines (pieces-front 10 l rest whole) ∙ read_lines-first l (pieces 10 rest) (pieces-some 10 rest)

  -- no text begins with the line
  bad-first : (code : LineFault) (rest : List ℕ) → (code ≡ Truncated → ⊥) → ((ls : List (List ℕ)) → read_kind (kind_of None (words l)) (header_of (words l)) ls ≡ Err (1, code))
      → IsFaultAfter Reads (l ++ 10 ∷ rest) 0 code
  bad-first code rest other fails = record {
    short = λ five. absurd (other five);
    bad = λ _. record {
      before = some-dump;
      with_it = λ b.
          let e : read_text (l ++ 10 ∷ b.0) ≡ Ok (b.1).0 =
          ap read_text (sym (append_assoc l (10 ∷ []) b.0) ∙ ap (λ t. t ++ b.0) (sym (first_lines-line 0 l rest whole))) ∙ (b.1).1 in
          let f = first-read b.0 ∙ fails (pieces 10 b.0) in
          let no : ⊥ = cc in
          no;
      seen = inl (omega (arith, line_ends-line l rest whole));
    };
  }

  abbrev Fault : List ℕ → ℕ → LineFault → Type 0
  Fault text k code = (m : ℕ) × (k ≡ 1 + m) × IsFaultAfter Reads text m code

  at-first : (k : ℕ) (code found : LineFault) (rest : List ℕ) → (found ≡ Truncated → ⊥) → ((ls : List (List ℕ)) → read_kind (kind_of None (words l)) (header_of (words l)) ls ≡ Err (1, found))
      → failure AnyShadow 1 found ≡ failure AnyShadow k code → Fault (l ++ 10 ∷ rest) k code
  at-first k code found rest other fails e =
      let parts = fault-parts {S = AnyShadow} 1 found k code e in
      let line : 1 ≡ k = parts.0 in
      (0, omega (arith, line), subst (IsFaultAfter Reads (l ++ 10 ∷ rest) 0) parts.1 (bad-first found rest other fails))

  -- after a header
  body-fault : (h : Heading) (m : List ℕ) (ms : List (List ℕ)) (k : ℕ) (code : LineFault) → AreUnbroken (m ∷ ms) → kind_of None (words l) ≡ Some Header → header_of (words l) ≡ Some h
      → read_body h (m ∷ ms) ≡ Err (k, code) → Fault (l ++ 10 ∷ joined (m ∷ ms)) k code
  body-fault h m ms k code each kind says e =
      let head = header-fits (words l) h says in
      let b = body-of h head in
      let p = start b.D h in
      let f = failed b.make (read_rest (m ∷ ms) p 2) k code (sym (b.reads (m ∷ ms)) ∙ e) in
      let rest = rest-fault (m ∷ ms) p 2 k code (start-fits b.D h head b.axes) each f in
      let line : k ≡ 2 + rest.0 = rest.1 in
      let body : (t : List ℕ) → read_text (l ++ 10 ∷ t) ≡ any_shadow b.make (read_rest (pieces 10 t) p 2) = λ t.
      first-read t ∙ ap (λ (o : Option LineKind). read_kind o (header_of (words l)) (pieces 10 t)) kind
      ∙ ap (λ (o : Option Heading). read_heading o (pieces 10 t)) says ∙ b.reads (pieces 10 t) in (
        suc rest.0,
        omega (arith, line),
        fault-later Reads (Ends p 2) l whole (λ t ends. (b.make ends.0, body t ∙ ap (any_shadow b.make) ends.1))
            (λ t r. let m = made b.make (read_rest (pieces 10 t) p 2) r.0 (sym (body t) ∙ r.1) in (m.0, m.1)) (joined (m ∷ ms)) rest.0 code rest.2,
      )

  line-fault : (m : List ℕ) (ms : List (List ℕ)) (k : ℕ) (code : LineFault) → AreUnbroken (m ∷ ms) → (o : Option LineKind) → kind_of None (words l) ≡ o
      → read_kind o (header_of (words l)) (m ∷ ms) ≡ Err (k, code) → Fault (l ++ 10 ∷ joined (m ∷ ms)) k code
  line-fault m ms k code each (Some Header) kind e =
      let by_heading : (o : Option Heading) → header_of (words l) ≡ o → read_heading o (m ∷ ms) ≡ Err (k, code) → Fault (l ++ 10 ∷ joined (m ∷ ms)) k code = elim [
        | None ↦ λ says e. at-first k code OutOfRange (joined (m ∷ ms)) (λ five. let no : ⊥ = cc in no)
            (λ ls. ap (λ (o : Option LineKind). read_kind o (header_of (words l)) ls) kind ∙ ap (λ (o : Option Heading). read_heading o ls) says) e
        | Some h ↦ λ says e. body-fault h m ms k code each kind says e
      ] in
      by_heading (header_of (words l)) refl e
  line-fault m ms k code each None kind e =
      at-first k code BadLine (joined (m ∷ ms)) (λ five. let no : ⊥ = cc in no)
      (λ ls. ap (λ (o : Option LineKind). read_kind o (header_of (words l)) ls) kind) e
  line-fault m ms k code each (Some Node) kind e =
      at-first k code CountWrong (joined (m ∷ ms)) (λ five. let no : ⊥ = cc in no)
      (λ ls. ap (λ (o : Option LineKind). read_kind o (header_of (words l)) ls) kind) e
  line-fault m ms k code each (Some Cell) kind e =
      at-first k code CountWrong (joined (m ∷ ms)) (λ five. let no : ⊥ = cc in no)
      (λ ls. ap (λ (o : Option LineKind). read_kind o (header_of (words l)) ls) kind) e
  line-fault m ms k code each (Some Row) kind e =
      at-first k code CountWrong (joined (m ∷ ms)) (λ five. let no : ⊥ = cc in no)
      (λ ls. ap (λ (o : Option LineKind). read_kind o (header_of (words l)) ls) kind) e
  line-fault m ms k code each (Some End) kind e =
      at-first k code CountWrong (joined (m ∷ ms)) (λ five. let no : ⊥ = cc in no)
      (λ ls. ap (λ (o : Option LineKind). read_kind o (header_of (words l)) ls) kind) e

lines-fault : (ls : List (List ℕ)) (k : ℕ) (code : LineFault) → AreUnbroken ls → read_lines ls ≡ Err (k, code) → (m : ℕ) × (k ≡ 1 + m) × IsFaultAfter Reads (joined ls) m code
lines-fault [] k code each e =
    let parts = fault-parts {S = AnyShadow} 1 Truncated k code e in
    let line : 1 ≡ k = parts.0 in
    (0, omega (arith, line), subst (IsFaultAfter Reads [] 0) parts.1 (cut-at-once [] refl))
lines-fault (l ∷ []) k code each e =
    let parts = fault-parts {S = AnyShadow} 1 Truncated k code e in
    let line : 1 ≡ k = parts.0 in
    (0, omega (arith, line), subst (IsFaultAfter Reads l 0) parts.1 (cut-at-once l each.0))
lines-fault (l ∷ m ∷ ms) k code each e = line-fault l each.0 m ms k code each.1 (kind_of None (words l)) refl e

-- the fault that is read is the first
text-fault : (text : List ℕ) (k : ℕ) (code : LineFault) → read_text text ≡ Err (k, code) → (m : ℕ) × (k ≡ 1 + m) × IsFaultAfter Reads text m code
text-fault text k code e =
    let f = lines-fault (pieces 10 text) k code (pieces-unbroken text) e in
    (f.0, f.1, subst (λ t. IsFaultAfter Reads t f.0 code) (joined-pieces text) f.2)

-- a dump ends with byte 10
shadow-ended : {D : ℕ} (s : ShadowLists D) → (bs : List ℕ) × (shadow_text s ≡ bs ++ 10 ∷ [])
shadow-ended s =
    let nodes = flat_map node_text s.nodes in
    let rows = flat_map row_line s.rows in
    let last : List ℕ = 10 ∷ [] in (
      header_line s ++ (nodes ++ (rows ++ codes "end")),
      sym (append_assoc (header_line s) (nodes ++ (rows ++ codes "end")) last
          ∙ ap (λ l. header_line s ++ l) (append_assoc nodes (rows ++ codes "end") last ∙ ap (λ l. nodes ++ l) (append_assoc rows (codes "end") last))),
    )

any-ended : (a : AnyShadow) → (bs : List ℕ) × (any_text a ≡ bs ++ 10 ∷ [])
any-ended (One s) = shadow-ended s
any-ended (Two s) = shadow-ended s
any-ended (Three s) = shadow-ended s

cut-whole : (text : List ℕ) (m : ℕ) → Reads text → IsCutAfter Reads text m → ⊥
cut-whole text m r short =
    let ended = any-ended r.0 in
    let same : text ≡ ended.0 ++ 10 ∷ [] = sym (text-accepted text r.0 r.1) ∙ ended.1 in
    let few : line_ends (ended.0 ++ 10 ∷ []) ≤ m = omega (arith, short.last, ap line_ends same) in
    let all : first_lines m text ≡ text = ap (first_lines m) same ∙ first_lines-ended m ended.0 few ∙ sym same in
    short.unended (subst Reads (sym all) r)

-- the law of dumps
pub dumps-read : DumpsAreRead
dumps-read text a = (
  λ e. let fits = text-fits text a e in record { in_range = fits.0; numbered = fits.1; same = text-accepted text a e },
  λ t. ap read_text (sym t.same) ∙ written-read a t.in_range t.numbered,
)

-- so a shadow that is read is that of the text
pub told : (text : List ℕ) (result : Result AnyShadow DumpFault) → IsReading (read_text text) result → IfOk result (λ shadow. IsTextOf shadow text)
told text (Ok a) e = (dumps-read text a).0 e
told text (Err fault) e = tt

pub dump-of : (text : List ℕ) → Reads text → IsDump text
dump-of text r = (r.0, (dumps-read text r.0).0 r.1)

pub read-of : (text : List ℕ) → IsDump text → Reads text
read-of text d = (d.0, (dumps-read text d.0).1 d.1)

begins-dump : (front : List ℕ) → Begins Reads front → BeginsDump front
begins-dump front b = (b.0, dump-of (front ++ b.0) b.1)

begins-read : (front : List ℕ) → BeginsDump front → Begins Reads front
begins-read front b = (b.0, read-of (front ++ b.0) b.1)

misfit : (text : List ℕ) (n m : ℕ) → n ≡ 1 + m → IsBadAfter Reads text m → IsMisfit text n
misfit text n m line bad =
    let one : m ≡ n - 1 = omega (arith, line) in
    let next : n ≡ suc m = omega (arith, line) in
    record {
      before = subst (λ k. BeginsDump (first_lines k text)) one (begins-dump (first_lines m text) bad.before);
      with_it = λ b. bad.with_it (begins-read (first_lines (suc m) text) (subst (λ k. BeginsDump (first_lines k text)) next b));
      seen = elim bad.seen as (λ s. (n ≤ line_ends text) ⊎ IsDump (first_lines (n - 1) text)) [
        | inl some ↦ inl (omega (arith, some, line))
        | inr whole ↦ inr (subst (λ k. IsDump (first_lines k text)) one (dump-of (first_lines m text) whole))
      ];
    }

misfit-of : (text : List ℕ) (n : ℕ) → IsMisfit text n → (m : ℕ) × (n ≡ 1 + m) × IsBadAfter Reads text m
misfit-of text zero bad =
    let none : zero - 1 ≡ 0 = omega arith in
    absurd (bad.with_it (subst (λ k. BeginsDump (first_lines k text)) none bad.before))
misfit-of text (suc m) bad =
    let one : suc m - 1 ≡ m = omega arith in (
      m,
      omega arith,
      record {
        before = begins-read (first_lines m text) (subst (λ k. BeginsDump (first_lines k text)) one bad.before);
        with_it = λ b. bad.with_it (begins-dump (first_lines (suc m) text) b);
        seen = elim bad.seen as (λ s. (suc m ≤ line_ends text) ⊎ Reads (first_lines m text)) [
          | inl some ↦ inl some
          | inr whole ↦ inr (read-of (first_lines m text) (subst (λ k. IsDump (first_lines k text)) one whole))
        ];
      },
    )

truncated : (text : List ℕ) (n m : ℕ) → n ≡ 1 + m → IsCutAfter Reads text m → IsTruncated text n
truncated text n m line short =
    let one : m ≡ n - 1 = omega (arith, line) in
    record {
      last = omega (arith, line, short.last);
      before = subst (λ k. BeginsDump (first_lines k text)) one (begins-dump (first_lines m text) short.before);
      unended = λ d. short.unended (read-of (first_lines m text) (subst (λ k. IsDump (first_lines k text)) (sym one) d));
    }

cut-of : (text : List ℕ) (n : ℕ) → IsTruncated text n → (m : ℕ) × (n ≡ 1 + m) × IsCutAfter Reads text m
cut-of text n short =
    let m = line_ends text in
    let one : n - 1 ≡ m = omega (arith, short.last) in (
      m,
      omega (arith, short.last),
      record {
        last = refl;
        before = begins-read (first_lines m text) (subst (λ k. BeginsDump (first_lines k text)) one short.before);
        unended = λ r. short.unended (subst (λ k. IsDump (first_lines k text)) (sym one) (dump-of (first_lines m text) r));
      },
    )

-- whether a fault is that of a text that is cut
pub is-cut : (fault : LineFault) → (fault ≡ Truncated) ⊎ (fault ≡ Truncated → ⊥)
is-cut Truncated = inl refl
is-cut BadLine = inr (λ e. let no : ⊥ = cc in no)
is-cut CountWrong = inr (λ e. let no : ⊥ = cc in no)
is-cut OutOfRange = inr (λ e. let no : ⊥ = cc in no)
is-cut ListedTwice = inr (λ e. let no : ⊥ = cc in no)

-- the law of truncated texts
pub truncated-found : (text : List ℕ) (n : ℕ) → (read_text text ≡ Err (n, Truncated)) ↔ IsTruncated text n
truncated-found text n = (
  λ e. let f = text-fault text n Truncated e in truncated text n f.0 f.1 ((f.2).short refl),
  λ short. let c = cut-of text n short in by_read c.0 c.1 c.2 (read_text text) refl,
)
  where
    by_read : (m : ℕ) → n ≡ 1 + m → IsCutAfter Reads text m → (r : Result AnyShadow (ℕ × LineFault)) → read_text text ≡ r → r ≡ Err (n, Truncated)
    by_read m line short (Ok a) is = absurd (cut-whole text m (a, is) short)
    by_read m line short (Err fault) is =
        let f = text-fault text fault.0 fault.1 is in
        let at : fault.0 ≡ 1 + f.0 = f.1 in
        elim (is-cut fault.1) as (λ s. failure AnyShadow fault.0 fault.1 ≡ failure AnyShadow n Truncated) [
          | inl cut ↦
              let other = (f.2).short cut in
              let same : fault.0 ≡ n = omega (arith, at, line, other.last, short.last) in
              ap (λ k. Err (k, fault.1)) same ∙ ap (λ c. Err (n, c)) cut
          | inr other ↦ absurd (bad-cut Reads text f.0 m ((f.2).bad other) short)
        ]

-- the law of lines that fit no dump
pub misfits-found : MisfitsAreFound
misfits-found text n = (
  λ found. let f = text-fault text n found.0 found.2 in misfit text n f.0 f.1 ((f.2).bad found.1),
  λ bad. let b = misfit-of text n bad in by_read b.0 b.1 b.2 (read_text text) refl,
)
  where
    by_read : (m : ℕ) → n ≡ 1 + m → IsBadAfter Reads text m → (r : Result AnyShadow (ℕ × LineFault)) → read_text text ≡ r
        → (code : LineFault) × (code ≡ Truncated → ⊥) × (r ≡ Err (n, code))
    by_read m line bad (Ok a) is = absurd (bad-whole Reads text m (a, is) bad)
    by_read m line bad (Err fault) is =
        let f = text-fault text fault.0 fault.1 is in
        let at : fault.0 ≡ 1 + f.0 = f.1 in
        elim (is-cut fault.1) as (λ s. (code : LineFault) × (code ≡ Truncated → ⊥) × (failure AnyShadow fault.0 fault.1 ≡ failure AnyShadow n code)) [
          | inl cut ↦ absurd (bad-cut Reads text m f.0 bad ((f.2).short cut))
          | inr other ↦
              let once : m ≡ f.0 = bad-once Reads text m f.0 bad ((f.2).bad other) in
              let same : fault.0 ≡ n = omega (arith, at, line, once) in
              (fault.1, other, ap (λ k. Err (k, fault.1)) same)
        ]
