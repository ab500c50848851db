-- What a front says of the bytes before it, and what one more byte does to it.
use Rattle.std.proofs.Common.{◌≡◌, ◌≢◌, ℕ, ◌+◌, ◌-◌, ◌<◌, true, false, cond, eqb, List, [], ◌∷◌, ◌++◌, length, take, drop, get_or, ◌≤◌, Option, Some, None, MatchOption, ◌⊎◌, inl, inr, sym, refl, ap, ◌∙◌, subst, ⊎_elim, append_assoc, append-nil, arith, one-add, take-append-drop, length-drop, ◌==◌, ◌||◌}
use Rattle.std.proofs.lemmas.Bool.{eqb-true, eqb-false, cond_both, cond-true, cond-false, ne_eqb, or_parts, not-true, false≢true}
use Rattle.std.proofs.lemmas.List.{take_more, take_all, length-take-le}
use Rattle.std.proofs.Math.Seq.{take-append-add}
use Rattle.std.proofs.lemmas.List.Elements.{All-nil, All-push}
use Rattle.std.specs.Option.{option_map}
use Rattle.rt_sql_cut.specs.Pieces.{PieceText, Atom, Byte, Quoted as QuotedAtom, atom_text, atoms_text, IsClosedGap, IsGap, IsOpenComment, IsAtom, AreAtoms, is_gap_byte, BeginsStatement, IsOpenQuote, IsWholePiece, IsLastPiece, holding, piece_of}
use Rattle.rt_sql_cut.specs.Text.{is_quote}
use Rattle.rt_sql_cut.specs.Cutter.{Front, IsOpen, possible_start, StopsInGap, StopsInStatement, StopsInDotLine, StopsAt, StandsAt, StandsAtEnd, last_ending, ending_at, ready_piece}
use Rattle.rt_sql_cut.specs.CutterStep.{place_after, gap_after, statement_after, holding_after, holding_in, with_byte, front_after, is_mark, stays, run_len, with_bytes}
use Rattle.rt_sql_cut.proofs.CutterAtoms.{atoms_text-push, AreAtoms-push, IsClosedGap-push, comment_in_gap, comment_in_statement, no_comment, dash_alone, slash_alone, line_grows, block_grows, block_to_star, star_to_star, star_to_block, nothing_closes, no_close_in_front, IsClosedBy, line_closes, star_closes, holding-push}
use Rattle.rt_sql_cut.proofs.CutterRuns.{piece_then, no_piece, first_whole}
use Rattle.rt_sql_cut.specs.declared.piece.Ending.{Ending}
use Rattle.rt_sql_cut.specs.declared.piece.Ending.TheVariants.{Whole, Incomplete}
use Rattle.rt_sql_cut.specs.declared.cutter.Part.{Part}
use Rattle.rt_sql_cut.specs.declared.cutter.Part.TheVariants.{Gap, Statement}
use Rattle.rt_sql_cut.specs.declared.cutter.Spot.{Spot}
use Rattle.rt_sql_cut.specs.declared.cutter.Spot.TheVariants.{Between, AfterDash, AfterSlash, LineComment, BlockComment, AfterStar}
use Rattle.rt_sql_cut.specs.declared.cutter.Place.{Place}
use Rattle.rt_sql_cut.specs.declared.cutter.Place.TheVariants.{In, Quoted, DotLine, End}

-- the tail of a gap grows
gap_grows : (spot to : Spot) (held held' : Option (List ℕ)) (x : List ℕ) (b : ℕ) → StopsInGap spot held x → held' ≡ Some (possible_start to) → ((tail : List ℕ) → IsOpen spot tail → IsOpen to (tail ++ b ∷ [])) → StopsInGap to held' (x ++ b ∷ [])
gap_grows spot to held held' x b h holds grow = record {
  gap = h.gap;
  tail = h.tail ++ b ∷ [];
  split = ap (λ l. l ++ b ∷ []) h.split ∙ append_assoc h.gap h.tail (b ∷ []);
  closed = h.closed;
  open_tail = grow h.tail h.open_tail;
  holds = holds;
}

-- the tail of a gap becomes a comment
gap_closes : (spot : Spot) (held : Option (List ℕ)) (x : List ℕ) (b : ℕ) → StopsInGap spot held x → ((tail : List ℕ) → IsOpen spot tail → IsClosedBy b tail) → StopsInGap Between (Some []) (x ++ b ∷ [])
gap_closes spot held x b h close =
    let closes = close h.tail h.open_tail in record {
      gap = h.gap ++ atom_text closes.0;
      tail = [];
      split = ap (λ l. l ++ b ∷ []) h.split ∙ append_assoc h.gap h.tail (b ∷ []) ∙ ap (λ l. h.gap ++ l) closes.1 ∙ sym (append-nil (h.gap ++ atom_text closes.0));
      closed = IsClosedGap-push h.gap closes.0 h.closed (comment_in_gap closes.0 closes.2);
      open_tail = refl;
      holds = refl;
    }

-- a gap goes on between its atoms
gap_goes_on : (held : Option (List ℕ)) (x : List ℕ) (b : ℕ) → StopsInGap Between held x → is_gap_byte b ≡ true → StopsInGap Between (Some []) (x ++ b ∷ [])
gap_goes_on held x b h is = record {
  gap = h.gap ++ b ∷ [];
  tail = [];
  split = ap (λ l. l ++ b ∷ []) (h.split ∙ ap (λ l. h.gap ++ l) h.open_tail ∙ append-nil h.gap) ∙ sym (append-nil (h.gap ++ b ∷ []));
  closed = IsClosedGap-push h.gap (Byte b) h.closed is;
  open_tail = refl;
  holds = refl;
}

-- the tail of a statement grows
statement_grows : (Tail To : List ℕ → Type 0) (held : Option (List ℕ)) (x : List ℕ) (b : ℕ) → StopsInStatement Tail held x → ((tail : List ℕ) → Tail tail → To (tail ++ b ∷ [])) → StopsInStatement To (with_byte held b) (x ++ b ∷ [])
statement_grows Tail To held x b h grow = record {
  gap = h.gap;
  body = h.body ++ b ∷ [];
  split = ap (λ l. l ++ b ∷ []) h.split ∙ append_assoc h.gap h.body (b ∷ []);
  closed = h.closed;
  begins = λ rest. subst BeginsStatement (sym (append_assoc h.body (b ∷ []) rest)) (h.begins (b ∷ rest));
  holds = ap (λ held. with_byte held b) h.holds ∙ holding-push h.body b;
  atoms = h.atoms;
  tail = h.tail ++ b ∷ [];
  parts = ap (λ l. l ++ b ∷ []) h.parts ∙ append_assoc (atoms_text h.atoms) h.tail (b ∷ []);
  are_atoms = λ rest. subst (AreAtoms h.atoms) (sym (append_assoc h.tail (b ∷ []) rest)) (h.are_atoms (b ∷ rest));
  open_tail = grow h.tail h.open_tail;
}

-- the tail of a statement becomes an atom
statement_closes : (Tail : List ℕ → Type 0) (held : Option (List ℕ)) (x : List ℕ) (b : ℕ) → StopsInStatement Tail held x → ((tail : List ℕ) → Tail tail → (atom : Atom) × (tail ++ b ∷ [] ≡ atom_text atom) × ((rest : List ℕ) → IsAtom atom rest)) → StopsInStatement (IsOpen Between) (with_byte held b) (x ++ b ∷ [])
statement_closes Tail held x b h close =
    let closes = close h.tail h.open_tail in record {
      gap = h.gap;
      body = h.body ++ b ∷ [];
      split = ap (λ l. l ++ b ∷ []) h.split ∙ append_assoc h.gap h.body (b ∷ []);
      closed = h.closed;
      begins = λ rest. subst BeginsStatement (sym (append_assoc h.body (b ∷ []) rest)) (h.begins (b ∷ rest));
      holds = ap (λ held. with_byte held b) h.holds ∙ holding-push h.body b;
      atoms = h.atoms ++ closes.0 ∷ [];
      tail = [];
      parts = ap (λ l. l ++ b ∷ []) h.parts ∙ append_assoc (atoms_text h.atoms) h.tail (b ∷ []) ∙ ap (λ l. atoms_text h.atoms ++ l) closes.1 ∙ sym (atoms_text-push h.atoms closes.0) ∙ sym (append-nil _);
      are_atoms = λ rest. AreAtoms-push h.atoms closes.0 rest (subst (AreAtoms h.atoms) (sym (append_assoc h.tail (b ∷ []) rest) ∙ ap (λ l. l ++ rest) closes.1) (h.are_atoms (b ∷ rest))) (closes.2 rest);
      open_tail = refl;
    }

-- a comment in a statement becomes an atom
comment_closes : (spot : Spot) (b : ℕ) → ((tail : List ℕ) → IsOpen spot tail → IsClosedBy b tail) → (tail : List ℕ) → IsOpen spot tail → (atom : Atom) × (tail ++ b ∷ [] ≡ atom_text atom) × ((rest : List ℕ) → IsAtom atom rest)
comment_closes spot b close tail h =
    let closes = close tail h in
    (closes.0, closes.1, λ rest. comment_in_statement closes.0 rest closes.2)

-- the bytes so far stop behind atoms of a statement, or where one begins, if this byte comes next
record StopsBefore (b : ℕ) (held : Option (List ℕ)) (x : List ℕ) : Type 0 where
  gap : List ℕ
  body : List ℕ
  split : x ≡ gap ++ body
  closed : IsClosedGap gap
  begins : (rest : List ℕ) → BeginsStatement (body ++ b ∷ rest)
  holds : held ≡ holding body
  atoms : List Atom
  parts : body ≡ atoms_text atoms
  are_atoms : (rest : List ℕ) → AreAtoms atoms (b ∷ rest)

before_between : (held : Option (List ℕ)) (x : List ℕ) (b : ℕ) → StopsInStatement (IsOpen Between) held x → StopsBefore b held x
before_between held x b h = record {
  gap = h.gap;
  body = h.body;
  split = h.split;
  closed = h.closed;
  begins = λ rest. h.begins (b ∷ rest);
  holds = h.holds;
  atoms = h.atoms;
  parts = h.parts ∙ ap (λ l. atoms_text h.atoms ++ l) h.open_tail ∙ append-nil (atoms_text h.atoms);
  are_atoms = λ rest. subst (λ l. AreAtoms h.atoms (l ++ b ∷ rest)) h.open_tail (h.are_atoms (b ∷ rest));
}

-- a byte that could begin a comment, and doesn't
before_alone : (spot : Spot) (a : ℕ) (held : Option (List ℕ)) (x : List ℕ) (b : ℕ) → StopsInStatement (IsOpen spot) held x → ((tail : List ℕ) → IsOpen spot tail → tail ≡ a ∷ []) → ((rest : List ℕ) → IsAtom (Byte a) (b ∷ rest)) → StopsBefore b held x
before_alone spot a held x b h opens is_atom =
    let opened = opens h.tail h.open_tail in record {
      gap = h.gap;
      body = h.body;
      split = h.split;
      closed = h.closed;
      begins = λ rest. h.begins (b ∷ rest);
      holds = h.holds;
      atoms = h.atoms ++ Byte a ∷ [];
      parts = h.parts ∙ ap (λ l. atoms_text h.atoms ++ l) opened ∙ sym (atoms_text-push h.atoms (Byte a));
      are_atoms = λ rest. AreAtoms-push h.atoms (Byte a) (b ∷ rest) (subst (λ l. AreAtoms h.atoms (l ++ b ∷ rest)) opened (h.are_atoms (b ∷ rest))) (is_atom rest);
    }

-- a byte with which a statement begins
before_first : (held : Option (List ℕ)) (x : List ℕ) (b : ℕ) → StopsInGap Between held x → ((rest : List ℕ) → BeginsStatement (b ∷ rest)) → StopsBefore b held x
before_first held x b h begins = record {
  gap = h.gap;
  body = [];
  split = h.split ∙ ap (λ l. h.gap ++ l) h.open_tail;
  closed = h.closed;
  begins = begins;
  holds = h.holds;
  atoms = [];
  parts = refl;
  are_atoms = λ rest. tt;
}

-- a statement that begins with a byte that could begin a comment, and doesn't
before_second : (spot : Spot) (a : ℕ) (held : Option (List ℕ)) (x : List ℕ) (b : ℕ) → StopsInGap spot held x → ((tail : List ℕ) → IsOpen spot tail → tail ≡ a ∷ []) → possible_start spot ≡ a ∷ [] → ((rest : List ℕ) → BeginsStatement (a ∷ b ∷ rest)) → ((rest : List ℕ) → IsAtom (Byte a) (b ∷ rest)) → StopsBefore b held x
before_second spot a held x b h opens waits begins is_atom = record {
  gap = h.gap;
  body = a ∷ [];
  split = h.split ∙ ap (λ l. h.gap ++ l) (opens h.tail h.open_tail);
  closed = h.closed;
  begins = begins;
  holds = h.holds ∙ ap Some waits;
  atoms = Byte a ∷ [];
  parts = refl;
  are_atoms = λ rest. (is_atom rest, tt);
}

-- the byte opens a tail
opens_tail : (Tail : List ℕ → Type 0) (held : Option (List ℕ)) (x : List ℕ) (b : ℕ) → StopsBefore b held x → Tail (b ∷ []) → StopsInStatement Tail (with_byte held b) (x ++ b ∷ [])
opens_tail Tail held x b h open_tail = record {
  gap = h.gap;
  body = h.body ++ b ∷ [];
  split = ap (λ l. l ++ b ∷ []) h.split ∙ append_assoc h.gap h.body (b ∷ []);
  closed = h.closed;
  begins = λ rest. subst BeginsStatement (sym (append_assoc h.body (b ∷ []) rest)) (h.begins rest);
  holds = ap (λ held. with_byte held b) h.holds ∙ holding-push h.body b;
  atoms = h.atoms;
  tail = b ∷ [];
  parts = ap (λ l. l ++ b ∷ []) h.parts;
  are_atoms = h.are_atoms;
  open_tail = open_tail;
}

-- the byte is an atom
is_atom_byte : (held : Option (List ℕ)) (x : List ℕ) (b : ℕ) → StopsBefore b held x → ((rest : List ℕ) → IsAtom (Byte b) rest) → StopsInStatement (IsOpen Between) (with_byte held b) (x ++ b ∷ [])
is_atom_byte held x b h is_atom = record {
  gap = h.gap;
  body = h.body ++ b ∷ [];
  split = ap (λ l. l ++ b ∷ []) h.split ∙ append_assoc h.gap h.body (b ∷ []);
  closed = h.closed;
  begins = λ rest. subst BeginsStatement (sym (append_assoc h.body (b ∷ []) rest)) (h.begins rest);
  holds = ap (λ held. with_byte held b) h.holds ∙ holding-push h.body b;
  atoms = h.atoms ++ Byte b ∷ [];
  tail = [];
  parts = ap (λ l. l ++ b ∷ []) h.parts ∙ sym (atoms_text-push h.atoms (Byte b)) ∙ sym (append-nil _);
  are_atoms = λ rest. AreAtoms-push h.atoms (Byte b) rest (h.are_atoms rest) (is_atom rest);
  open_tail = refl;
}

-- the byte is the `;` that ends the statement
ends_statement : (held : Option (List ℕ)) (x : List ℕ) (b : ℕ) → b ≡ 59 → StopsBefore b held x → IsWholePiece (x ++ b ∷ []) (piece_of (with_byte held b) Whole)
ends_statement held x b is h = (
  h.gap,
  h.body ++ b ∷ [],
  ap (λ l. l ++ b ∷ []) h.split ∙ append_assoc h.gap h.body (b ∷ []),
  h.closed,
  inl (
    (
      h.atoms,
      ap (λ l. l ++ b ∷ []) h.parts ∙ ap (λ c. atoms_text h.atoms ++ c ∷ []) is,
      subst (λ c. AreAtoms h.atoms (c ∷ [])) is (h.are_atoms []),
      h.begins [],
    ),
    ap (λ held. piece_of held Whole) (ap (λ held. with_byte held b) h.holds ∙ holding-push h.body b),
  ),
)

-- a `.` between pieces begins a dot line
begins_line : (held : Option (List ℕ)) (x : List ℕ) (b : ℕ) → b ≡ 46 → StopsInGap Between held x → StopsInDotLine (with_byte held b) (x ++ b ∷ [])
begins_line held x b is h = record {
  gap = h.gap;
  line = b ∷ [];
  split = ap (λ l. l ++ b ∷ []) (h.split ∙ ap (λ l. h.gap ++ l) h.open_tail ∙ append-nil h.gap);
  closed = h.closed;
  is_line = ([], ap (λ c. c ∷ []) is, All-nil (λ c. c ≢ 10));
  holds = ap (λ held. with_byte held b) h.holds;
}

-- a dot line goes on
line_goes_on : (held : Option (List ℕ)) (x : List ℕ) (b : ℕ) → b ≢ 10 → StopsInDotLine held x → StopsInDotLine (with_byte held b) (x ++ b ∷ [])
line_goes_on held x b other h = record {
  gap = h.gap;
  line = h.line ++ b ∷ [];
  split = ap (λ l. l ++ b ∷ []) h.split ∙ append_assoc h.gap h.line (b ∷ []);
  closed = h.closed;
  is_line = (h.is_line.0 ++ b ∷ [], ap (λ l. l ++ b ∷ []) h.is_line.1, All-push (λ c. c ≢ 10) h.is_line.0 b h.is_line.2 other);
  holds = ap (λ held. with_byte held b) h.holds ∙ holding-push h.line b;
}

-- a line feed ends it
line_ends : (held : Option (List ℕ)) (x : List ℕ) (b : ℕ) → b ≡ 10 → StopsInDotLine held x → IsWholePiece (x ++ b ∷ []) (piece_of held Whole)
line_ends held x b is h = (
  h.gap,
  h.line ++ b ∷ [],
  ap (λ l. l ++ b ∷ []) h.split ∙ append_assoc h.gap h.line (b ∷ []),
  h.closed,
  inr (h.line, ap (λ c. h.line ++ c ∷ []) is, h.is_line, ap (λ held. piece_of held Whole) h.holds),
)

-- the byte goes on with the statement
goes_on : (held : Option (List ℕ)) (x : List ℕ) (b : ℕ) → StopsBefore b held x → StopsAt (statement_after b) (holding_after (statement_after b) held b) (x ++ b ∷ [])
goes_on held x b h =
    let Goal : Place → Type 0 = λ place. StopsAt place (holding_after place held b) (x ++ b ∷ []) in
    let unquoted : Place = In Statement Between in
    let other : Place = cond (is_quote b) (Quoted b) unquoted in
    let no_dash : Place = cond (eqb b 47) (In Statement AfterSlash) other in
    let no_semicolon : Place = cond (eqb b 45) (In Statement AfterDash) no_dash in
    cond_both (eqb b 59) End no_semicolon Goal
    (λ semicolon.
    let same : b ≡ 59 = eqb-true b 59 semicolon in
    let line_feed : eqb b 10 ≡ false = ne_eqb b 10 (λ (e : b ≡ 10). omega arith) in
    subst (λ held. IsWholePiece (x ++ b ∷ []) (piece_of held Whole)) (sym (cond-false _ _ _ line_feed)) (ends_statement held x b same h))
    (λ not_semicolon. cond_both (eqb b 45) (In Statement AfterDash) no_dash Goal
    (λ dash. opens_tail (IsOpen AfterDash) held x b h (ap (λ c. c ∷ []) (eqb-true b 45 dash)))
    (λ not_dash. cond_both (eqb b 47) (In Statement AfterSlash) other Goal
    (λ slash. opens_tail (IsOpen AfterSlash) held x b h (ap (λ c. c ∷ []) (eqb-true b 47 slash)))
    (λ not_slash. cond_both (is_quote b) (Quoted b) unquoted Goal
    (λ quote. opens_tail (IsOpenQuote b) held x b h ([], refl, quote, All-nil (λ c. c ≢ b)))
    (λ not_quote. is_atom_byte held x b h (λ rest. (
      eqb-false b 59 not_semicolon,
      not_quote,
      no_comment b rest (eqb-false b 45 not_dash) (eqb-false b 47 not_slash),
    ))))))

-- a byte between pieces
gap_byte : (held : Option (List ℕ)) (x : List ℕ) (b : ℕ) → StopsInGap Between held x → StopsAt (gap_after b) (holding_after (gap_after b) held b) (x ++ b ∷ [])
gap_byte held x b h =
    let Goal : Place → Type 0 = λ place. StopsAt place (holding_after place held b) (x ++ b ∷ []) in
    let no_dash : Place = cond (eqb b 47) (In Gap AfterSlash) (statement_after b) in
    let no_dot : Place = cond (eqb b 45) (In Gap AfterDash) no_dash in
    let no_gap : Place = cond (eqb b 46) DotLine no_dot in
    cond_both (is_gap_byte b) (In Gap Between) no_gap Goal
    (λ gap. gap_goes_on held x b h gap)
    (λ not_gap. cond_both (eqb b 46) DotLine no_dot Goal
    (λ dot. begins_line held x b (eqb-true b 46 dot) h)
    (λ not_dot. cond_both (eqb b 45) (In Gap AfterDash) no_dash Goal
    (λ dash.
    let same : b ≡ 45 = eqb-true b 45 dash in
    gap_grows Between AfterDash held (with_byte held b) x b h (ap (λ held. with_byte held b) h.holds ∙ ap (λ c. Some (c ∷ [])) same) (λ tail none. ap (λ l. l ++ b ∷ []) none ∙ ap (λ c. c ∷ []) same))
    (λ not_dash. cond_both (eqb b 47) (In Gap AfterSlash) (statement_after b) Goal
    (λ slash.
    let same : b ≡ 47 = eqb-true b 47 slash in
    gap_grows Between AfterSlash held (with_byte held b) x b h (ap (λ held. with_byte held b) h.holds ∙ ap (λ c. Some (c ∷ [])) same) (λ tail none. ap (λ l. l ++ b ∷ []) none ∙ ap (λ c. c ∷ []) same))
    (λ not_slash. goes_on held x b (before_first held x b h (λ rest. (
      not_gap,
      eqb-false b 46 not_dot,
      no_comment b rest (eqb-false b 45 not_dash) (eqb-false b 47 not_slash),
    )))))))

-- the second byte of a comment's beginning
second_dash : (b : ℕ) → b ≡ 45 → (tail : List ℕ) → IsOpen AfterDash tail → IsOpen LineComment (tail ++ b ∷ [])
second_dash b is tail h =
    ([], ap (λ l. l ++ b ∷ []) h ∙ ap (λ c. 45 ∷ c ∷ []) is, All-nil (λ c. c ≢ 10))

star_of_slash : (b : ℕ) → b ≡ 42 → (tail : List ℕ) → IsOpen AfterSlash tail → IsOpen BlockComment (tail ++ b ∷ [])
star_of_slash b is tail h =
    ([], ap (λ l. l ++ b ∷ []) h ∙ ap (λ c. 47 ∷ c ∷ []) is, nothing_closes)

-- a `-` or a `/` before a byte with which it begins no comment
dash_atom : (b : ℕ) → b ≢ 45 → (rest : List ℕ) → IsAtom (Byte 45) (b ∷ rest)
dash_atom b alone rest = (λ e. omega arith, refl, dash_alone b rest alone)

slash_atom : (b : ℕ) → b ≢ 42 → (rest : List ℕ) → IsAtom (Byte 47) (b ∷ rest)
slash_atom b alone rest = (λ e. omega arith, refl, slash_alone b rest alone)

-- a `-` before a byte with which it begins no comment, in a gap or a statement
before_dash : (part : Part) (held : Option (List ℕ)) (x : List ℕ) (b : ℕ) → b ≢ 45 → StopsAt (In part AfterDash) held x → StopsBefore b held x
before_dash Gap held x b alone h =
    before_second AfterDash 45 held x b h (λ tail is. is) refl (λ rest. (refl, (λ e. omega arith), dash_alone b rest alone)) (dash_atom b alone)
before_dash Statement held x b alone h =
    before_alone AfterDash 45 held x b h (λ tail is. is) (dash_atom b alone)

-- the same for a `/`
before_slash : (part : Part) (held : Option (List ℕ)) (x : List ℕ) (b : ℕ) → b ≢ 42 → StopsAt (In part AfterSlash) held x → StopsBefore b held x
before_slash Gap held x b alone h =
    before_second AfterSlash 47 held x b h (λ tail is. is) refl (λ rest. (refl, (λ e. omega arith), slash_alone b rest alone)) (slash_atom b alone)
before_slash Statement held x b alone h =
    before_alone AfterSlash 47 held x b h (λ tail is. is) (slash_atom b alone)

-- a comment begins or goes on, in a gap or a statement
part_grows : (part : Part) (spot to : Spot) (held : Option (List ℕ)) (x : List ℕ) (b : ℕ) → StopsAt (In part spot) held x → possible_start to ≡ [] → ((tail : List ℕ) → IsOpen spot tail → IsOpen to (tail ++ b ∷ [])) → StopsAt (In part to) (holding_in part held b) (x ++ b ∷ [])
part_grows Gap spot to held x b h none grow =
    gap_grows spot to held (Some []) x b h (ap Some (sym none)) grow
part_grows Statement spot to held x b h none grow =
    statement_grows (IsOpen spot) (IsOpen to) held x b h grow

-- a comment ends, in a gap or a statement
part_closes : (part : Part) (spot : Spot) (held : Option (List ℕ)) (x : List ℕ) (b : ℕ) → StopsAt (In part spot) held x → ((tail : List ℕ) → IsOpen spot tail → IsClosedBy b tail) → StopsAt (In part Between) (holding_in part held b) (x ++ b ∷ [])
part_closes Gap spot held x b h close = gap_closes spot held x b h close
part_closes Statement spot held x b h close =
    statement_closes (IsOpen spot) held x b h (comment_closes spot b close)

-- what stands in quotes goes on, and ends
quote_grows : (quote b : ℕ) → b ≢ quote → (tail : List ℕ) → IsOpenQuote quote tail → IsOpenQuote quote (tail ++ b ∷ [])
quote_grows quote b other tail h =
    (h.0 ++ b ∷ [], ap (λ l. l ++ b ∷ []) h.1, h.2, All-push (λ c. c ≢ quote) h.0 b h.3 other)

quote_closes : (quote b : ℕ) → b ≡ quote → (tail : List ℕ) → IsOpenQuote quote tail → (atom : Atom) × (tail ++ b ∷ [] ≡ atom_text atom) × ((rest : List ℕ) → IsAtom atom rest)
quote_closes quote b is tail h =
    (QuotedAtom quote h.0, ap (λ l. l ++ b ∷ []) h.1 ∙ ap (λ c. quote ∷ (h.0 ++ c ∷ [])) is, λ rest. (h.2, h.3))

-- one more byte after a place that is no end
pub stops_after : (place : Place) (held : Option (List ℕ)) (x : List ℕ) (b : ℕ) → place ≢ End → StopsAt place held x → StopsAt (place_after place b) (holding_after (place_after place b) held b) (x ++ b ∷ [])
stops_after (In Gap Between) held x b on h = gap_byte held x b h
stops_after (In Statement Between) held x b on h = goes_on held x b (before_between held x b h)
stops_after (In part AfterDash) held x b on h =
    let Goal : Place → Type 0 = λ place. StopsAt place (holding_after place held b) (x ++ b ∷ []) in
    cond_both (eqb b 45) (In part LineComment) (statement_after b) Goal
    (λ dash. part_grows part AfterDash LineComment held x b h refl (second_dash b (eqb-true b 45 dash)))
    (λ other. goes_on held x b (before_dash part held x b (eqb-false b 45 other) h))
stops_after (In part AfterSlash) held x b on h =
    let Goal : Place → Type 0 = λ place. StopsAt place (holding_after place held b) (x ++ b ∷ []) in
    cond_both (eqb b 42) (In part BlockComment) (statement_after b) Goal
    (λ star. part_grows part AfterSlash BlockComment held x b h refl (star_of_slash b (eqb-true b 42 star)))
    (λ other. goes_on held x b (before_slash part held x b (eqb-false b 42 other) h))
stops_after (In part LineComment) held x b on h =
    let Goal : Spot → Type 0 = λ spot. StopsAt (In part spot) (holding_after (In part spot) held b) (x ++ b ∷ []) in
    cond_both (eqb b 10) Between LineComment Goal
    (λ line_feed. part_closes part LineComment held x b h (line_closes b (eqb-true b 10 line_feed)))
    (λ other. part_grows part LineComment LineComment held x b h refl (line_grows b (eqb-false b 10 other)))
stops_after (In part BlockComment) held x b on h =
    let Goal : Spot → Type 0 = λ spot. StopsAt (In part spot) (holding_after (In part spot) held b) (x ++ b ∷ []) in
    cond_both (eqb b 42) AfterStar BlockComment Goal
    (λ star. part_grows part BlockComment AfterStar held x b h refl (block_to_star b (eqb-true b 42 star)))
    (λ other. part_grows part BlockComment BlockComment held x b h refl (block_grows b (eqb-false b 42 other)))
stops_after (In part AfterStar) held x b on h =
    let Goal : Spot → Type 0 = λ spot. StopsAt (In part spot) (holding_after (In part spot) held b) (x ++ b ∷ []) in
    let no_slash : Spot = cond (eqb b 42) AfterStar BlockComment in
    cond_both (eqb b 47) Between no_slash Goal
    (λ slash. part_closes part AfterStar held x b h (star_closes b (eqb-true b 47 slash)))
    (λ not_slash. cond_both (eqb b 42) AfterStar BlockComment Goal
    (λ star. part_grows part AfterStar AfterStar held x b h refl (star_to_star b (eqb-true b 42 star)))
    (λ not_star. part_grows part AfterStar BlockComment held x b h refl (star_to_block b (eqb-false b 47 not_slash) (eqb-false b 42 not_star))))
stops_after (Quoted quote) held x b on h =
    let Goal : Place → Type 0 = λ place. StopsAt place (holding_after place held b) (x ++ b ∷ []) in
    cond_both (eqb b quote) (In Statement Between) (Quoted quote) Goal
    (λ same. statement_closes (IsOpenQuote quote) held x b h (quote_closes quote b (eqb-true b quote same)))
    (λ other. statement_grows (IsOpenQuote quote) (IsOpenQuote quote) held x b h (quote_grows quote b (eqb-false b quote other)))
stops_after DotLine held x b on h =
    let Goal : Place → Type 0 = λ place. StopsAt place (holding_after place held b) (x ++ b ∷ []) in
    cond_both (eqb b 10) End DotLine Goal
    (λ line_feed.
    subst (λ held. IsWholePiece (x ++ b ∷ []) (piece_of held Whole)) (sym (cond-true _ _ _ line_feed)) (line_ends held x b (eqb-true b 10 line_feed) h))
    (λ other. line_goes_on held x b (eqb-false b 10 other) h)
stops_after End held x b on h = absurd (on refl)

-- the front of one byte more
pub stands_after : (f : Front) (x bytes : List ℕ) (i : ℕ) → f.place ≢ End → i < length bytes → StandsAt f (x ++ take i bytes) → StandsAt (front_after f (get_or bytes i 0)) (x ++ take (i + 1) bytes)
stands_after f x bytes i on inside stands =
    let b = get_or bytes i 0 in
    let more : x ++ take i bytes ++ b ∷ [] ≡ x ++ take (i + 1) bytes = append_assoc x (take i bytes) (b ∷ []) ∙ ap (λ l. x ++ l) (sym (take_more bytes i 0 inside)) in
    subst (StandsAt (front_after f b)) more (stands.0, stops_after f.place f.held (x ++ take i bytes) b on stands.1)

-- a gap that the input ends
gap_left : (spot : Spot) (held : Option (List ℕ)) (x : List ℕ) → StopsInGap spot held x → ((tail : List ℕ) → IsOpen spot tail → (tail ≡ []) ⊎ IsOpenComment tail) → IsGap x
gap_left spot held x h tail_is = (h.gap, h.tail, h.split, h.closed, tail_is h.tail h.open_tail)

-- a statement of one byte that the input ends
byte_left : (spot : Spot) (a : ℕ) (held : Option (List ℕ)) (x : List ℕ) → StopsInGap spot held x → ((tail : List ℕ) → IsOpen spot tail → tail ≡ a ∷ []) → possible_start spot ≡ a ∷ [] → BeginsStatement (a ∷ []) → IsAtom (Byte a) [] → IsLastPiece x (piece_of held Incomplete)
byte_left spot a held x h opens waits begins is_atom = (
  h.gap,
  a ∷ [],
  h.split ∙ ap (λ l. h.gap ++ l) (opens h.tail h.open_tail),
  h.closed,
  inl ((Byte a ∷ [], [], refl, (is_atom, tt), begins, inl refl), ap (λ held. piece_of held Incomplete) (h.holds ∙ ap Some waits)),
)

-- a statement that the input ends, behind such a tail
statement_left : (Tail : List ℕ → Type 0) (held : Option (List ℕ)) (x : List ℕ) → StopsInStatement Tail held x → ((tail : List ℕ) → Tail tail → (tail ≡ []) ⊎ (IsOpenComment tail ⊎ ((quote : ℕ) × IsOpenQuote quote tail))) → IsLastPiece x (piece_of held Incomplete)
statement_left Tail held x h tail_is = (
  h.gap,
  h.body,
  h.split,
  h.closed,
  inl (
    (
      h.atoms,
      h.tail,
      h.parts,
      subst (AreAtoms h.atoms) (append-nil h.tail) (h.are_atoms []),
      subst BeginsStatement (append-nil h.body) (h.begins []),
      tail_is h.tail h.open_tail,
    ),
    ap (λ held. piece_of held Incomplete) h.holds,
  ),
)

-- a statement that the input ends behind a byte that could begin a comment
alone_left : (spot : Spot) (a : ℕ) (held : Option (List ℕ)) (x : List ℕ) → StopsInStatement (IsOpen spot) held x → ((tail : List ℕ) → IsOpen spot tail → tail ≡ a ∷ []) → IsAtom (Byte a) [] → IsLastPiece x (piece_of held Incomplete)
alone_left spot a held x h opens is_atom =
    let opened = opens h.tail h.open_tail in (
      h.gap,
      h.body,
      h.split,
      h.closed,
      inl (
        (
          h.atoms ++ Byte a ∷ [],
          [],
          h.parts ∙ ap (λ l. atoms_text h.atoms ++ l) opened ∙ sym (atoms_text-push h.atoms (Byte a)) ∙ sym (append-nil _),
          AreAtoms-push h.atoms (Byte a) [] (subst (λ l. AreAtoms h.atoms (l ++ [])) opened (h.are_atoms [])) is_atom,
          subst BeginsStatement (append-nil h.body) (h.begins []),
          inl refl,
        ),
        ap (λ held. piece_of held Incomplete) h.holds,
      ),
    )

-- the bytes in a comment are an open comment
line_open : (tail : List ℕ) → IsOpen LineComment tail → IsOpenComment tail
line_open tail h = inl h

block_open : (tail : List ℕ) → IsOpen BlockComment tail → IsOpenComment tail
block_open tail h = inr (h.0, h.1, no_close_in_front h.0 (47 ∷ []) h.2)

star_open : (tail : List ℕ) → IsOpen AfterStar tail → IsOpenComment tail
star_open tail h = inr (h.0 ++ 42 ∷ [], h.1, h.2)

-- what the end of the input leaves at a place that is no end
pub left_at : (place : Place) (held : Option (List ℕ)) (x : List ℕ) → place ≢ End → StopsAt place held x → MatchOption (last_ending place) (IsGap x) (λ ending. IsLastPiece x (piece_of held ending))
left_at (In Gap Between) held x on h = gap_left Between held x h (λ tail is. inl is)
left_at (In Gap AfterDash) held x on h =
    byte_left AfterDash 45 held x h (λ tail is. is) refl (refl, (λ e. omega arith), λ is. is) ((λ e. omega arith), refl, λ is. is)
left_at (In Gap AfterSlash) held x on h =
    byte_left AfterSlash 47 held x h (λ tail is. is) refl (refl, (λ e. omega arith), λ is. is) ((λ e. omega arith), refl, λ is. is)
left_at (In Gap LineComment) held x on h = gap_left LineComment held x h (λ tail is. inr (line_open tail is))
left_at (In Gap BlockComment) held x on h = gap_left BlockComment held x h (λ tail is. inr (block_open tail is))
left_at (In Gap AfterStar) held x on h = gap_left AfterStar held x h (λ tail is. inr (star_open tail is))
left_at (In Statement Between) held x on h = statement_left (IsOpen Between) held x h (λ tail is. inl is)
left_at (In Statement AfterDash) held x on h =
    alone_left AfterDash 45 held x h (λ tail is. is) ((λ e. omega arith), refl, λ is. is)
left_at (In Statement AfterSlash) held x on h =
    alone_left AfterSlash 47 held x h (λ tail is. is) ((λ e. omega arith), refl, λ is. is)
left_at (In Statement LineComment) held x on h =
    statement_left (IsOpen LineComment) held x h (λ tail is. inr (inl (line_open tail is)))
left_at (In Statement BlockComment) held x on h =
    statement_left (IsOpen BlockComment) held x h (λ tail is. inr (inl (block_open tail is)))
left_at (In Statement AfterStar) held x on h =
    statement_left (IsOpen AfterStar) held x h (λ tail is. inr (inl (star_open tail is)))
left_at (Quoted quote) held x on h =
    statement_left (IsOpenQuote quote) held x h (λ tail is. inr (inr (quote, is)))
left_at DotLine held x on h =
    (h.gap, h.line, h.split, h.closed, inr (h.is_line, ap (λ held. piece_of held Whole) h.holds))
left_at End held x on h = absurd (on refl)

-- where no piece has ended the text is a gap, or a piece has begun in it
pub no_end : (place : Place) (held : Option (List ℕ)) (x : List ℕ) → place ≢ End → StopsAt place held x → IsGap x ⊎ ((p : PieceText) × IsLastPiece x p)
no_end place held x on h =
    let Left : Option Ending → Type 0 = λ left. MatchOption left (IsGap x) (λ ending. IsLastPiece x (piece_of held ending)) in
    elim (last_ending place) as (λ left. Left left → IsGap x ⊎ ((p : PieceText) × IsLastPiece x p)) [
      | None ↦ λ gap. inl gap
      | Some ending ↦ λ last. inr (piece_of held ending, last)
    ] (left_at place held x on h)

-- a place is an end, or not
pub end_or_not : (place : Place) → (place ≡ End) ⊎ (place ≢ End)
end_or_not (In part spot) = inr (λ e. cc)
end_or_not (Quoted quote) = inr (λ e. cc)
end_or_not DotLine = inr (λ e. cc)
end_or_not End = inl refl

-- what is ready at a place, where the input may go on
ready_open : (place : Place) (held : Option (List ℕ)) (x : List ℕ) → StopsAt place held x → MatchOption (option_map (λ ending. piece_of held ending) (ending_at place false)) (IsGap x ⊎ ((p : PieceText) × IsLastPiece x p)) (λ p. IsWholePiece x p)
ready_open (In part spot) held x h = no_end (In part spot) held x (λ e. cc) h
ready_open (Quoted quote) held x h = no_end (Quoted quote) held x (λ e. cc) h
ready_open DotLine held x h = no_end DotLine held x (λ e. cc) h
ready_open End held x h = h

-- and where it has ended
ready_last : (place : Place) (held : Option (List ℕ)) (x : List ℕ) → StopsAt place held x → MatchOption (option_map (λ ending. piece_of held ending) (ending_at place true)) (IsGap x) (λ p. IsWholePiece x p ⊎ IsLastPiece x p)
ready_last place held x h = ⊎_elim
    (λ (is : place ≡ End).
    let whole : IsWholePiece x (piece_of held Whole) = subst (λ place. StopsAt place held x) is h in
    subst (λ place. MatchOption (option_map (λ ending. piece_of held ending) (last_ending place)) (IsGap x) (λ p. IsWholePiece x p ⊎ IsLastPiece x p)) (sym is) (inl whole))
    (λ (on : place ≢ End).
    elim (last_ending place) as (λ left. MatchOption left (IsGap x) (λ ending. IsLastPiece x (piece_of held ending)) → MatchOption (option_map (λ ending. piece_of held ending) left) (IsGap x) (λ p. IsWholePiece x p ⊎ IsLastPiece x p)) [
      | None ↦ λ gap. gap
      | Some ending ↦ λ last. inr last
    ] (left_at place held x on h))
    (end_or_not place)

-- what is ready where the input may go on
pub whole_at : (f : Front) (x : List ℕ) → StandsAt f x → MatchOption (ready_piece f) (IsGap x ⊎ ((p : PieceText) × IsLastPiece x p)) (λ p. IsWholePiece x p)
whole_at f x stands = subst (λ finished. MatchOption (ready_piece (record f { finished = finished })) (IsGap x ⊎ ((p : PieceText) × IsLastPiece x p)) (λ p. IsWholePiece x p)) (sym stands.0) (ready_open f.place f.held x stands.1)

-- what is ready where it has ended
pub last_at : (f : Front) (x : List ℕ) → StandsAtEnd f x → MatchOption (ready_piece f) (IsGap x) (λ p. IsWholePiece x p ⊎ IsLastPiece x p)
last_at f x stands = subst (λ finished. MatchOption (ready_piece (record f { finished = finished })) (IsGap x) (λ p. IsWholePiece x p ⊎ IsLastPiece x p)) (sym stands.0) (ready_last f.place f.held x stands.1)

-- no piece is ready where no byte was taken, as after `clear`
pub nothing_ready : (f : Front) → StandsAt f [] → ready_piece f ≡ None
nothing_ready f stands =
    elim (ready_piece f) as (λ ready. MatchOption ready (IsGap [] ⊎ ((p : PieceText) × IsLastPiece [] p)) (λ p. IsWholePiece [] p) → ready ≡ None) [
      | None ↦ λ waits. refl
      | Some p ↦ λ whole. let first : no_piece ≡ piece_then p [] = first_whole [] [] p whole in cc
    ] (whole_at f [] stands)

-- a byte that leaves the place as it is goes on with what is held
goes_with : (place : Place) (held : Option (List ℕ)) (x : List ℕ) (b : ℕ) → stays place b ≡ true → StopsAt place held x → StopsAt place (with_byte held b) (x ++ b ∷ [])
goes_with (In Gap spot) held x b is h = absurd (false≢true is)
goes_with (In Statement Between) held x b is h =
    let quote = or_parts (b == 59 || b == 45 || b == 47) (is_quote b) (not-true (is_mark b) is) in
    let slash = or_parts (b == 59 || b == 45) (b == 47) quote.0 in
    let dash = or_parts (b == 59) (b == 45) slash.0 in
    let same : statement_after b ≡ In Statement Between = cond-false _ _ _ dash.0 ∙ cond-false _ _ _ dash.1 ∙ cond-false _ _ _ slash.1 ∙ cond-false _ _ _ quote.1 in
    subst (λ place. StopsAt place (holding_after place held b) (x ++ b ∷ [])) same (stops_after (In Statement Between) held x b (λ e. cc) h)
goes_with (In Statement AfterDash) held x b is h = absurd (false≢true is)
goes_with (In Statement AfterSlash) held x b is h = absurd (false≢true is)
goes_with (In Statement LineComment) held x b is h = absurd (false≢true is)
goes_with (In Statement BlockComment) held x b is h = absurd (false≢true is)
goes_with (In Statement AfterStar) held x b is h = absurd (false≢true is)
goes_with (Quoted quote) held x b is h =
    let same : place_after (Quoted quote) b ≡ Quoted quote = cond-false _ _ _ (not-true (b == quote) is) in
    subst (λ place. StopsAt place (holding_after place held b) (x ++ b ∷ [])) same (stops_after (Quoted quote) held x b (λ e. cc) h)
goes_with DotLine held x b is h =
    let same : place_after DotLine b ≡ DotLine = cond-false _ _ _ (not-true (b == 10) is) in
    subst (λ place. StopsAt place (holding_after place held b) (x ++ b ∷ [])) same (stops_after DotLine held x b (λ e. cc) h)
goes_with End held x b is h = absurd (false≢true is)

-- the bytes at the front that leave the place as it is
stops_run : (place : Place) (held : Option (List ℕ)) (x bytes : List ℕ) → StopsAt place held x → StopsAt place (with_bytes held (take (run_len place bytes) bytes)) (x ++ take (run_len place bytes) bytes)
stops_run place held x [] h = subst (StopsAt place held) (sym (append-nil x)) h
stops_run place held x (b ∷ bytes) h =
    let Goal : ℕ → Type 0 = λ n. StopsAt place (with_bytes held (take n (b ∷ bytes))) (x ++ take n (b ∷ bytes)) in
    cond_both (stays place b) (1 + run_len place bytes) 0 Goal
    (λ is.
    let run = take (run_len place bytes) bytes in
    subst Goal (sym (one-add (run_len place bytes))) (subst (StopsAt place (with_bytes (with_byte held b) run)) (append_assoc x (b ∷ []) run) (stops_run place (with_byte held b) (x ++ b ∷ []) bytes (goes_with place held x b is h))))
    (λ is. subst (StopsAt place held) (sym (append-nil x)) h)

-- the bytes at the front that leave the place as it is, as a front
pub stands_run : (f : Front) (bytes : List ℕ) (n : ℕ) → n ≡ run_len f.place bytes → (x : List ℕ) → StandsAt f x → StandsAt (record f { held = with_bytes f.held (take n bytes) }) (x ++ take n bytes)
stands_run f bytes n is x stands =
    (stands.0, subst (λ n. StopsAt f.place (with_bytes f.held (take n bytes)) (x ++ take n bytes)) (sym is) (stops_run f.place f.held x bytes stands.1))

-- a front, and more behind it
pub take_on : (x bytes : List ℕ) (i n : ℕ) → i ≤ length bytes → (x ++ take i bytes) ++ take n (take (length bytes - i) (drop i bytes)) ≡ x ++ take (i + n) bytes
take_on x bytes i n within =
    let rest : take (length bytes - i) (drop i bytes) ≡ drop i bytes = ap (λ k. take k (drop i bytes)) (sym (length-drop i bytes)) ∙ take_all (length (drop i bytes)) (drop i bytes) (omega arith) in
    let more : take (i + n) bytes ≡ take i bytes ++ take n (drop i bytes) = ap (take (i + n)) (sym (take-append-drop i bytes)) ∙ ap (λ k. take (k + n) (take i bytes ++ drop i bytes)) (sym (length-take-le i bytes within)) ∙ take-append-add (take i bytes) (drop i bytes) n in
    append_assoc x (take i bytes) _ ∙ ap (λ l. x ++ (take i bytes ++ take n l)) rest ∙ ap (λ l. x ++ l) (sym more)
