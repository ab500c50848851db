-- What is true of a dump that is read so far: its numbers fit their types and count from 1, and the lines that
-- are still to come could come.
use Rattle.std.proofs.Common.{◌≡◌, ℕ, zero, suc, ◌+◌, ◌-◌, ◌<◌, ◌≤◌, ◌^◌, ℤ, pos, negsuc, List, [], ◌∷◌, ◌++◌, Bool, true, false, ◌&&◌, cond, Option, Some, None, Result, Ok, Err, refl, sym, subst, ◌∙◌, ap, length, map, arith, bytes_eq, option_map, option_and_then, neg_ℤ}
use Rattle.std.specs.Prelude.{nat_lt, nat_le, int_le, ◌==◌}
use Rattle.std.specs.List.{All, list_any, IsDistinct}
use Rattle.std.specs.Option.{IfSome}
use Rattle.std.specs.Ordering.{int_eq}
use Rattle.std.proofs.lemmas.List.{length_push}
use Rattle.std.proofs.lemmas.List.Elements.{All-nil, All-cons, All-push, All-head}
use Rattle.std.proofs.lemmas.Bool.{and_parts}
use Rattle.rt_box.specs.Capacity.{IsCapacity}
use Rattle.rt_check.specs.declared.node.NodeRow.{NodeRow}
use Rattle.rt_check.specs.declared.node.RawCell.{RawCell}
use Rattle.rt_check.specs.declared.node.RowEntry.{RowEntry}
use Rattle.rt_check.specs.Shadow.{numbers_of, ids_of, with_last, with_cell}
use Rattle.rt_check_dump.specs.declared.lines.LineKind.{LineKind}
use Rattle.rt_check_dump.specs.declared.lines.LineKind.TheVariants.{Node, Cell, Row, End}
use Rattle.rt_check_dump.specs.declared.lines.NodeHead.{NodeHead}
use Rattle.rt_check_dump.specs.declared.reading.Heading.{Heading}
use Rattle.rt_check_dump.specs.declared.reading.Progress.{Progress}
use Rattle.rt_check_dump.specs.Numbers.{number_of, number_after, positive_of, count_of, byte_of, coordinate_of, parent_of}
use Rattle.rt_check_dump.specs.Lines.{words, kind_of, node_head, row_entry, ranges_of, raw_cell, axes_of, capacity_of, header_of}
use Rattle.rt_check_dump.specs.Reading.{due, empty_node, with_head, after_head, after_cell, after_row, after_kind, after_spelling, after_line, start}
use Rattle.rt_check_dump.specs.InRange.{IsLong, IsInt, IsPositive, IsCellInRange, IsRowInRange, IsNodeInRange, IsNodeNumbered, IsInRange, IsNumbered}
use Rattle.rt_check_dump.proofs.AcceptedWords.{passed, counted}
use Rattle.rt_check_dump.proofs.AcceptedLines.{head-parts, row-parts, range-parts, cell-parts, heading-parts, axes-range}
use Rattle.rt_check_dump.proofs.AcceptedSteps.{Due, due-counts, with_added}
use Rattle.rt_check_dump.proofs.Written.{with_last-end}
use Rattle.rt_check_dump.proofs.Fresh.{IsNumber, distinct-push}
use Rattle.rt_check_dump.specs.declared.fault.LineFault.{LineFault}
use Rattle.rt_check_dump.specs.declared.fault.LineFault.TheVariants.{ListedTwice}

-- what is read of a word fits
long-tested : (n : ℕ) (z : ℤ) → cond (nat_lt n (2 ^ 63)) (Some (pos n)) None ≡ Some z → IsLong z
long-tested n z e =
    let by_case : (b : Bool) → nat_lt n (2 ^ 63) ≡ b → cond b (Some (pos n)) None ≡ Some z → IsLong z = elim [
      | true ↦ λ is e.
          let small : n < 2 ^ 63 = grind (arith, is) in
          let same : pos n ≡ z = cc in
          subst IsLong same small
      | false ↦ λ is e. let no : ⊥ = cc in absurd no
    ] in
    by_case (nat_lt n (2 ^ 63)) refl e

minus-long : (n : ℕ) → n ≤ 2 ^ 63 → IsLong (neg_ℤ (pos n))
minus-long zero small = omega arith
minus-long (suc n) small = omega (arith, small)

minus-tested : (n : ℕ) (z : ℤ) → cond (nat_le n (2 ^ 63)) (Some (neg_ℤ (pos n))) None ≡ Some z → IsLong z
minus-tested n z e =
    let by_case : (b : Bool) → nat_le n (2 ^ 63) ≡ b → cond b (Some (neg_ℤ (pos n))) None ≡ Some z → IsLong z = elim [
      | true ↦ λ is e.
          let small : n ≤ 2 ^ 63 = grind (arith, is) in
          let same : neg_ℤ (pos n) ≡ z = cc in
          subst IsLong same (minus-long n small)
      | false ↦ λ is e. let no : ⊥ = cc in absurd no
    ] in
    by_case (nat_le n (2 ^ 63)) refl e

number-long : (w : List ℕ) (z : ℤ) → number_of w ≡ Some z → IsLong z
number-long [] z e = let same : pos 0 ≡ z = cc in subst IsLong same (omega arith)
number-long (b ∷ bs) z e =
    let by_case : (c : Bool) → cond c (cond (nat_le (number_after 0 bs) (2 ^ 63)) (Some (neg_ℤ (pos (number_after 0 bs)))) None)
    (cond (nat_lt (number_after 0 (b ∷ bs)) (2 ^ 63)) (Some (pos (number_after 0 (b ∷ bs)))) None) ≡ Some z → IsLong z = elim [
      | true ↦ λ e. minus-tested (number_after 0 bs) z e
      | false ↦ λ e. long-tested (number_after 0 (b ∷ bs)) z e
    ] in
    by_case (b == 45) e

-- what passes a test passed it
tested : {X : Type 0} (test : X → Bool) (o : Option X) (z : X) → option_and_then (λ x. cond (test x) (Some x) None) o ≡ Some z → test z ≡ true
tested test None z e = let no : ⊥ = cc in absurd no
tested test (Some x) z e =
    let by_case : (b : Bool) → test x ≡ b → cond b (Some x) None ≡ Some z → test z ≡ true = elim [
      | true ↦ λ is e. let same : x ≡ z = cc in ap test (sym same) ∙ is
      | false ↦ λ is e. let no : ⊥ = cc in absurd no
    ] in
    by_case (test x) refl e

positive-long : (w : List ℕ) (z : ℤ) → positive_of w ≡ Some z → IsNumber z
positive-long w z e = record {
  long = number-long w z (passed (int_le (pos 1)) (number_of w) z e);
  positive = tested (int_le (pos 1)) (number_of w) z e;
}

count-small : (w : List ℕ) (n : ℕ) → count_of w ≡ Some n → n < 2 ^ 63
count-small w n e = number-long w (pos n) (counted (number_of w) n e)

byte-small : (w : List ℕ) (n : ℕ) → byte_of w ≡ Some n → n < 256
byte-small w n e = let is = tested (λ n. nat_lt n 256) (count_of w) n e in grind (arith, is)

int-within : (z : ℤ) → (int_le (negsuc 2147483647) z && int_le z (pos 2147483647)) ≡ true → IsInt z
int-within (pos n) e = let is : nat_le n 2147483647 ≡ true = e in let low : n ≤ 2147483647 = grind (arith, is) in omega (arith, low)
int-within (negsuc n) e =
    let is = and_parts (int_le (negsuc 2147483647) (negsuc n)) (int_le (negsuc n) (pos 2147483647)) e in
    let some : nat_le n 2147483647 ≡ true = is.0 in
    let low : n ≤ 2147483647 = grind (arith, some) in
    omega (arith, low)

coordinate-small : (w : List ℕ) (z : ℤ) → coordinate_of w ≡ Some z → IsInt z
coordinate-small w z e = int-within z (tested (λ z. int_le (negsuc 2147483647) z && int_le z (pos 2147483647)) (number_of w) z e)

parent-long : (w : List ℕ) (p : Option ℤ) → parent_of w ≡ Some p → IfSome p IsLong × IfSome p IsPositive
parent-long w p e =
    let by_number : (o : Option ℤ) → positive_of w ≡ o → option_map {U = Option ℤ} (λ z. Some z) o ≡ Some p → IfSome p IsLong × IfSome p IsPositive = elim [
      | None ↦ λ was e. let no : ⊥ = cc in absurd no
      | Some z ↦ λ was e.
          let same : Some z ≡ p = cc in
          let fits = positive-long w z was in
          subst (λ p. IfSome p IsLong × IfSome p IsPositive) same (fits.long, fits.positive)
    ] in
    let by_case : (c : Bool) → cond c (Some None) (option_map {U = Option ℤ} (λ z. Some z) (positive_of w)) ≡ Some p → IfSome p IsLong × IfSome p IsPositive = elim [
      | true ↦ λ e. let same : None ≡ p = cc in subst (λ p. IfSome p IsLong × IfSome p IsPositive) same (tt, tt)
      | false ↦ λ e. by_number (positive_of w) refl e
    ] in
    by_case (bytes_eq w (45 ∷ [])) e

-- a node's line that is read
pub record IsHead (h : NodeHead) : Type 0 where
  pub number : IsNumber h.number
  pub level : h.level < 256
  pub parent : IfSome h.parent IsLong × IfSome h.parent IsPositive
  pub cells : h.cells < 2 ^ 63

head-fits : (ws : List (List ℕ)) (h : NodeHead) → node_head ws ≡ Some h → IsHead h
head-fits [] h e = let no : ⊥ = cc in absurd no
head-fits (k ∷ []) h e = let no : ⊥ = cc in absurd no
head-fits (k ∷ a ∷ []) h e = let no : ⊥ = cc in absurd no
head-fits (k ∷ a ∷ b ∷ []) h e = let no : ⊥ = cc in absurd no
head-fits (k ∷ a ∷ b ∷ p ∷ []) h e = let no : ⊥ = cc in absurd no
head-fits (k ∷ a ∷ b ∷ p ∷ c ∷ ws) h e =
    let parts = head-parts (positive_of a) (byte_of b) (parent_of p) (count_of c) h e in
    record {
      number = positive-long a h.number parts.0;
      level = byte-small b h.level parts.1;
      parent = parent-long p h.parent parts.2;
      cells = count-small c h.cells parts.3;
    }

row-fits : (ws : List (List ℕ)) (r : RowEntry) → row_entry ws ≡ Some r → IsRowInRange r × IsPositive r.leaf
row-fits [] r e = let no : ⊥ = cc in absurd no
row-fits (k ∷ []) r e = let no : ⊥ = cc in absurd no
row-fits (k ∷ a ∷ []) r e = let no : ⊥ = cc in absurd no
row-fits (k ∷ a ∷ b ∷ ws) r e =
    let parts = row-parts (number_of a) (positive_of b) r e in
    let leaf = positive-long b r.leaf parts.1 in
    (record { id = number-long a r.id parts.0; leaf = leaf.long }, leaf.positive)

pub record AreRanges (n : ℕ) (rs : List ℤ × List ℤ) : Type 0 where
  pub axes_lo : length rs.0 ≡ n
  pub axes_hi : length rs.1 ≡ n
  pub lo : All IsInt rs.0
  pub hi : All IsInt rs.1

ranges-fit : (n : ℕ) (ws : List (List ℕ)) (rs : List ℤ × List ℤ) → ranges_of n ws ≡ Some rs → AreRanges n rs
ranges-fit zero ws rs e =
    let same : ([], []) ≡ rs = cc in
    subst (AreRanges 0) same (record { axes_lo = refl; axes_hi = refl; lo = All-nil IsInt; hi = All-nil IsInt })
ranges-fit (suc n) [] rs e = let no : ⊥ = cc in absurd no
ranges-fit (suc n) (a ∷ []) rs e = let no : ⊥ = cc in absurd no
ranges-fit (suc n) (a ∷ b ∷ ws) rs e =
    let parts = range-parts (coordinate_of a) (coordinate_of b) (ranges_of n ws) rs e in
    let rest = ranges-fit n ws parts.2 parts.5 in
    subst (AreRanges (suc n)) (sym parts.6) (record {
      axes_lo = ap suc rest.axes_lo;
      axes_hi = ap suc rest.axes_hi;
      lo = All-cons IsInt parts.0 (parts.2).0 (coordinate-small a parts.0 parts.3) rest.lo;
      hi = All-cons IsInt parts.1 (parts.2).1 (coordinate-small b parts.1 parts.4) rest.hi;
    })

cell-fits : (D : ℕ) (ws : List (List ℕ)) (c : RawCell D) → raw_cell D ws ≡ Some c → IsCellInRange c
cell-fits D [] c e = let no : ⊥ = cc in absurd no
cell-fits D (k ∷ []) c e = let no : ⊥ = cc in absurd no
cell-fits D (k ∷ a ∷ ws) c e =
    let parts = cell-parts D (number_of a) (ranges_of D ws) c e in
    let ranges = ranges-fit D ws (c.lo, c.hi) parts.1 in
    record { number = number-long a c.number parts.0; axes_lo = ranges.axes_lo; axes_hi = ranges.axes_hi; lo = ranges.lo; hi = ranges.hi }

module _ {D : ℕ} where
  -- the last node, which cells still come to
  pub record HasLast (nodes : List (NodeRow D)) (missing : ℕ) : Type 0 where
    pub done : List (NodeRow D)
    pub node : NodeRow D
    pub is : nodes ≡ done ++ node ∷ []
    pub few : length node.cells + missing < 2 ^ 63

  pub record Fits (p : Progress D) : Type 0 where
    pub some : 1 ≤ D
    pub axes : D ≤ 3
    pub capacity : IsCapacity p.shadow.capacity
    pub root : IsNumber p.shadow.root
    pub nodes : All IsNodeInRange p.shadow.nodes
    pub numbered : All IsNodeNumbered p.shadow.nodes
    pub rows : All IsRowInRange p.shadow.rows
    pub leaves : All (λ r. IsPositive r.leaf) p.shadow.rows
    pub numbers : IsDistinct int_eq (numbers_of p.shadow.nodes)
    pub ids : IsDistinct int_eq (ids_of p.shadow.rows)
    pub few_nodes : length p.shadow.nodes + p.nodes < 2 ^ 63
    pub few_rows : length p.shadow.rows + p.rows < 2 ^ 63
    pub last : 0 < p.cells → HasLast p.shadow.nodes p.cells
    pub order : 0 < p.cells + p.nodes → p.shadow.rows ≡ []

module _ {X : Type 0} (key : X → ℤ) where
  pub map-push : (xs : List X) (x : X) → map key (xs ++ x ∷ []) ≡ map key xs ++ key x ∷ []
  map-push [] x = refl
  map-push (y ∷ ys) x = ap (λ l. key y ∷ l) (map-push ys x)

All-last : {X : Type 0} (P : X → Type 0) (xs : List X) (x : X) → All P (xs ++ x ∷ []) → All P xs × P x
All-last P [] x all = (All-nil P, All-head P x [] all)
All-last P (y ∷ ys) x all =
    let rest = All-last P ys x (λ k d within. all (suc k) d (omega (arith, within))) in
    (All-cons P y ys (all 0 y (omega arith)) rest.0, rest.1)

module _ {D : ℕ} where
  node-step : (p : Progress D) (h : NodeHead) → Fits p → IsHead h → p.cells ≡ 0 → 0 < p.nodes
      → list_any (int_eq h.number) (numbers_of p.shadow.nodes) ≡ false → Fits (with_head p h)
  node-step p h fits head none some lack =
      let ns = p.shadow.nodes in
      let new = empty_node {D = D} h in
      let longer = length_push ns new in
      record {
        some = fits.some;
        axes = fits.axes;
        capacity = fits.capacity;
        root = fits.root;
        nodes = All-push IsNodeInRange ns new fits.nodes
            (record { number = head.number.long; level = head.level; parent = (head.parent).0; few = omega arith; cells = All-nil IsCellInRange });
        numbered = All-push IsNodeNumbered ns new fits.numbered (record { number = head.number.positive; parent = (head.parent).1 });
        rows = fits.rows;
        leaves = fits.leaves;
        numbers = subst (IsDistinct int_eq) (sym (map-push (λ (n : NodeRow D). n.number) ns new)) (distinct-push (numbers_of ns) h.number fits.numbers lack);
        ids = fits.ids;
        few_nodes = omega (arith, longer, some, fits.few_nodes);
        few_rows = fits.few_rows;
        last = λ _. record { done = ns; node = new; is = refl; few = omega (arith, head.cells) };
        order = λ _. fits.order (omega (arith, some));
      }

  row-step : (p : Progress D) (r : RowEntry) → Fits p → IsRowInRange r × IsPositive r.leaf → p.cells ≡ 0 → p.nodes ≡ 0 → 0 < p.rows
      → list_any (int_eq r.id) (ids_of p.shadow.rows) ≡ false
      → Fits (record p { shadow = record p.shadow { rows = p.shadow.rows ++ r ∷ [] }; rows = p.rows - 1 })
  row-step p r fits row none last some lack =
      let rs = p.shadow.rows in
      let longer = length_push rs r in
      record {
        some = fits.some;
        axes = fits.axes;
        capacity = fits.capacity;
        root = fits.root;
        nodes = fits.nodes;
        numbered = fits.numbered;
        rows = All-push IsRowInRange rs r fits.rows row.0;
        leaves = All-push (λ (r : RowEntry). IsPositive r.leaf) rs r fits.leaves row.1;
        numbers = fits.numbers;
        ids = subst (IsDistinct int_eq) (sym (map-push (λ (r : RowEntry). r.id) rs r)) (distinct-push (ids_of rs) r.id fits.ids lack);
        few_nodes = fits.few_nodes;
        few_rows = omega (arith, longer, some, fits.few_rows);
        last = fits.last;
        order = λ more. let no : ⊥ = omega (arith, more, none, last) in absurd no;
      }

  cell-step : (p : Progress D) (c : RawCell D) → Fits p → IsCellInRange c → 0 < p.cells
      → Fits (record p { shadow = with_cell p.shadow c; cells = p.cells - 1 })
  cell-step p c fits cell some =
      let last = fits.last some in
      let x = last.node in
      let new = with_added c x in
      let now : with_last (with_added c) p.shadow.nodes ≡ last.done ++ new ∷ [] = ap (with_last (with_added c)) last.is ∙ with_last-end (with_added c) last.done x in
      let in_range = All-last IsNodeInRange last.done x (subst (All IsNodeInRange) last.is fits.nodes) in
      let numbered = All-last IsNodeNumbered last.done x (subst (All IsNodeNumbered) last.is fits.numbered) in
      let longer = length_push x.cells c in
      let fewer : length new.cells + (p.cells - 1) < 2 ^ 63 = omega (arith, longer, some, last.few) in
      let fit : IsNodeInRange new = record {
        number = (in_range.1).number;
        level = (in_range.1).level;
        parent = (in_range.1).parent;
        few = omega (arith, fewer);
        cells = All-push IsCellInRange x.cells c (in_range.1).cells cell;
      } in
      let keys : numbers_of (last.done ++ new ∷ []) ≡ numbers_of p.shadow.nodes =
      map-push (λ (n : NodeRow D). n.number) last.done new ∙ sym (map-push (λ (n : NodeRow D). n.number) last.done x) ∙ ap numbers_of (sym last.is) in
      let same_length : length (last.done ++ new ∷ []) ≡ length p.shadow.nodes =
      length_push last.done new ∙ sym (length_push last.done x) ∙ ap length (sym last.is) in
      record {
        some = fits.some;
        axes = fits.axes;
        capacity = fits.capacity;
        root = fits.root;
        nodes = subst (All IsNodeInRange) (sym now) (All-push IsNodeInRange last.done new in_range.0 fit);
        numbered = subst (All IsNodeNumbered) (sym now)
            (All-push IsNodeNumbered last.done new numbered.0 (record { number = (numbered.1).number; parent = (numbered.1).parent }));
        rows = fits.rows;
        leaves = fits.leaves;
        numbers = subst (IsDistinct int_eq) (sym (ap numbers_of now ∙ keys)) fits.numbers;
        ids = fits.ids;
        few_nodes = omega (arith, ap length now, same_length, fits.few_nodes);
        few_rows = fits.few_rows;
        last = λ _. record { done = last.done; node = new; is = now; few = fewer };
        order = λ _. fits.order (omega (arith, some));
      }

  -- a line that is taken keeps it
  kind-step : (p q : Progress D) (ws : List (List ℕ)) (wanted kind : LineKind) → Fits p → Due p.cells p.nodes p.rows wanted
      → after_kind p ws wanted kind ≡ Ok q → Fits q
  kind-step p q ws Node Node fits counts e =
      let by_head : (o : Option NodeHead) → node_head ws ≡ o → after_head p o ≡ Ok q → Fits q = elim [
        | None ↦ λ is e. let no : ⊥ = cc in absurd no
        | Some h ↦ λ is e.
            let by_case : (b : Bool) → list_any (int_eq h.number) (numbers_of p.shadow.nodes) ≡ b → cond {A = Result (Progress D) LineFault} b (Err ListedTwice) (Ok (with_head p h)) ≡ Ok q → Fits q = elim [
              | true ↦ λ lack e. let no : ⊥ = cc in absurd no
              | false ↦ λ lack e. let same : with_head p h ≡ q = cc in subst Fits same (node-step p h fits (head-fits ws h is) counts.0 counts.1 lack)
            ] in
            by_case (list_any (int_eq h.number) (numbers_of p.shadow.nodes)) refl e
      ] in
      by_head (node_head ws) refl e
  kind-step p q ws Cell Cell fits counts e =
      let by_cell : (o : Option (RawCell D)) → raw_cell D ws ≡ o → after_cell p o ≡ Ok q → Fits q = elim [
        | None ↦ λ is e. let no : ⊥ = cc in absurd no
        | Some c ↦ λ is e.
            let new : Progress D = record p { shadow = with_cell p.shadow c; cells = p.cells - 1 } in
            let same : new ≡ q = cc in
            subst Fits same (cell-step p c fits (cell-fits D ws c is) counts)
      ] in
      by_cell (raw_cell D ws) refl e
  kind-step p q ws Row Row fits counts e =
      let by_row : (o : Option RowEntry) → row_entry ws ≡ o → after_row p o ≡ Ok q → Fits q = elim [
        | None ↦ λ is e. let no : ⊥ = cc in absurd no
        | Some r ↦ λ is e.
            let new : Progress D = record p { shadow = record p.shadow { rows = p.shadow.rows ++ r ∷ [] }; rows = p.rows - 1 } in
            let by_case : (b : Bool) → list_any (int_eq r.id) (ids_of p.shadow.rows) ≡ b → cond {A = Result (Progress D) LineFault} b (Err ListedTwice) (Ok new) ≡ Ok q → Fits q = elim [
              | true ↦ λ lack e. let no : ⊥ = cc in absurd no
              | false ↦ λ lack e. let same : new ≡ q = cc in subst Fits same (row-step p r fits (row-fits ws r is) counts.0 counts.1 counts.2 lack)
            ] in
            by_case (list_any (int_eq r.id) (ids_of p.shadow.rows)) refl e
      ] in
      by_row (row_entry ws) refl e
  kind-step p q ws End End fits counts e = let same : p ≡ q = cc in subst Fits same fits
  kind-step p q ws wanted kind fits counts e = let no : ⊥ = cc in absurd no

  pub line-step : (p q : Progress D) (l : List ℕ) → Fits p → after_line p l ≡ Ok q → Fits q
  line-step p q l fits e =
      let by_kind : (o : Option LineKind) → after_spelling p (words l) o ≡ Ok q → Fits q = elim [
        | None ↦ λ e. let no : ⊥ = cc in absurd no
        | Some kind ↦ λ e. kind-step p q (words l) (due p) kind fits (due-counts p) e
      ] in
      by_kind (kind_of (Some D) (words l)) e

  -- the end's line changes nothing
  pub kind-end : (p q : Progress D) (ws : List (List ℕ)) (kind : LineKind) → after_kind p ws End kind ≡ Ok q → p ≡ q
  kind-end p q ws End e = cc
  kind-end p q ws kind e = let no : ⊥ = cc in absurd no

  -- a shadow that is whole
  pub whole-fits : (p : Progress D) → Fits p → p.cells ≡ 0 → p.nodes ≡ 0 → p.rows ≡ 0 → IsInRange p.shadow × IsNumbered p.shadow
  whole-fits p fits none last done = (
    record {
      some = fits.some;
      axes = fits.axes;
      capacity = fits.capacity;
      root = fits.root.long;
      few_nodes = omega (arith, fits.few_nodes);
      few_rows = omega (arith, fits.few_rows);
      nodes = fits.nodes;
      rows = fits.rows;
      numbers = fits.numbers;
      ids = fits.ids;
    },
    record { root = fits.root.positive; nodes = fits.numbered; leaves = fits.leaves },
  )

-- a header that is read
pub record IsHeading (h : Heading) : Type 0 where
  pub axes : (1 ≤ h.axes) × (h.axes ≤ 3)
  pub capacity : IsCapacity h.capacity
  pub root : IsNumber h.root
  pub nodes : h.nodes < 2 ^ 63
  pub rows : h.rows < 2 ^ 63

range-of : (least most n : ℕ) → (nat_le least n && nat_le n most) ≡ true → (least ≤ n) × (n ≤ most)
range-of least most n e = let is = and_parts (nat_le least n) (nat_le n most) e in (grind (arith, is.0), grind (arith, is.1))

pub header-fits : (ws : List (List ℕ)) (h : Heading) → header_of ws ≡ Some h → IsHeading h
header-fits [] h e = let no : ⊥ = cc in absurd no
header-fits (k ∷ []) h e = let no : ⊥ = cc in absurd no
header-fits (k ∷ a ∷ []) h e = let no : ⊥ = cc in absurd no
header-fits (k ∷ a ∷ m ∷ []) h e = let no : ⊥ = cc in absurd no
header-fits (k ∷ a ∷ m ∷ r ∷ []) h e = let no : ⊥ = cc in absurd no
header-fits (k ∷ a ∷ m ∷ r ∷ n ∷ []) h e = let no : ⊥ = cc in absurd no
header-fits (k ∷ a ∷ m ∷ r ∷ n ∷ t ∷ ws) h e =
    let parts = heading-parts (axes_of a) (capacity_of m) (positive_of r) (count_of n) (count_of t) h e in
    record {
      axes = range-of 1 3 h.axes (axes-range (byte_of a) h.axes parts.0);
      capacity = range-of 5 51 h.capacity (tested (λ n. nat_le 5 n && nat_le n 51) (byte_of m) h.capacity parts.1);
      root = positive-long r h.root parts.2;
      nodes = count-small n h.nodes parts.3;
      rows = count-small t h.rows parts.4;
    }

pub start-fits : (D : ℕ) (h : Heading) → IsHeading h → D ≡ h.axes → Fits (start D h)
unfolding IsDistinct
start-fits D h fits axes =
    let range = fits.axes in
    record {
      some = omega (arith, axes, range.0);
      axes = omega (arith, axes, range.1);
      capacity = fits.capacity;
      root = fits.root;
      nodes = All-nil IsNodeInRange;
      numbered = All-nil IsNodeNumbered;
      rows = All-nil IsRowInRange;
      leaves = All-nil (λ (r : RowEntry). IsPositive r.leaf);
      numbers = tt;
      ids = tt;
      few_nodes = omega (arith, fits.nodes);
      few_rows = omega (arith, fits.rows);
      last = λ more. let no : ⊥ = omega (arith, more) in absurd no;
      order = λ _. refl;
    }
