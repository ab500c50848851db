-- Bytes of lists, read piece by piece.
use Rattle.std.proofs.Common.{◌≡◌, ℕ, zero, suc, ◌+◌, ◌-◌, ◌*◌, ◌<◌, ◌≤◌, min, cond, true, false, ℤ, pos, List, [], ◌∷◌, ◌++◌, length, map, take, drop, get_or, set, arith, refl, ap, ◌∙◌, sym, append_assoc, inl, inr}
use Rattle.std.specs.Prelude.{All}
use Rattle.std.specs.List.{flat_map}
use Rattle.std.proofs.Math.Nat.{mul-le-mul_left}
use Rattle.std.proofs.lemmas.Bool.{cases_eq}
use Rattle.std.proofs.lemmas.List.{take_at, drop_at, drop_more, length-append, map-append, get_or-set_same, get_or-set_other}
use Rattle.std.proofs.lemmas.List.Elements.{All-head, All-tail}
use Rattle.rt_check.specs.declared.node.RawCell.{RawCell}
use Rattle.rt_check.specs.declared.node.NodeRow.{NodeRow}
use Rattle.rt_check.specs.Conditions.{is_leaf, is_ordered, leaf_cells}
use Rattle.rt_tree_walk.specs.declared.searching.Row.{Row}
use Rattle.rt_tree.specs.Lists.{row_in}
use Rattle.rt_map.specs.TreeBytes.{long_bytes, short_bytes, cell_bytes, node_bytes}
use Rattle.rt_map.specs.Written.{IsCellWritten}
use Rattle.rt_map.specs.declared.shape.Shape.{Shape}
use Rattle.rt_map.specs.ReadingInside.{shape_in, AreRows, AreNodes}

front-of : (n : ℕ) (p q bytes : List ℕ) → bytes ≡ p ++ q → length p ≡ n → take n bytes ≡ p
front-of n p q bytes e long = ap (take n) e ∙ take_at p q n long

back-of : (n : ℕ) (p q bytes : List ℕ) → bytes ≡ p ++ q → length p ≡ n → drop n bytes ≡ q
back-of n p q bytes e long = ap (drop n) e ∙ drop_at p q n long

-- ---- counts

-- one piece of the width fewer is left
pub one-less : (width left rest more : ℕ) → 1 ≤ width → width ≤ left → left ≡ more * width → rest ≡ left - width →
    (fewer : ℕ) × (more ≡ fewer + 1) × (rest ≡ fewer * width)
one-less width left rest zero some long count fewer = absurd (omega arith)
one-less width left rest (suc more) some long count fewer =
    let step : suc more * width ≡ width + more * width = omega arith in
    (more, omega arith, omega (arith, step))

pub none-more : (width left more : ℕ) → left < width → left ≡ more * width → more ≡ 0
none-more width left zero short count = refl
none-more width left (suc more) short count =
    let step : suc more * width ≡ width + more * width = omega arith in
    absurd (omega (arith, step))

-- ---- points

pub point-long : (xs : List ℤ) → length (flat_map short_bytes xs) ≡ 4 * length xs
point-long [] = refl
point-long (x ∷ xs) = omega (arith, length-append (short_bytes x) (flat_map short_bytes xs), point-long xs)

-- the coordinate on an axis is next
pub record NextNumber (left : List ℕ) (point : List ℤ) (axis : ℕ) : Type 0 where
  pub front : take 4 left ≡ short_bytes (get_or point axis (pos 0))
  pub back : drop 4 left ≡ flat_map short_bytes (drop (axis + 1) point)

pub next-number : (left : List ℕ) (point : List ℤ) (axis : ℕ) → axis < length point → left ≡ flat_map short_bytes (drop axis point) → NextNumber left point axis
next-number left point axis within e =
    let z = get_or point axis (pos 0) in
    let rest = flat_map short_bytes (drop (axis + 1) point) in
    let all : left ≡ short_bytes z ++ rest = e ∙ ap (flat_map short_bytes) (drop_more point axis (pos 0) within) in
    record {
      front = front-of 4 (short_bytes z) rest left all refl;
      back = back-of 4 (short_bytes z) rest left all refl;
    }

-- one coordinate more agrees
pub agree-more : (xs ys : List ℤ) (axis : ℕ) (z : ℤ) → axis < length xs → z ≡ get_or ys axis (pos 0) →
    ((k : ℕ) → k < axis → get_or xs k (pos 0) ≡ get_or ys k (pos 0)) → (k : ℕ) → k < axis + 1 → get_or (set xs axis z) k (pos 0) ≡ get_or ys k (pos 0)
agree-more xs ys axis z within is before k less = elim (cases_eq k axis) [
  | inl same ↦ ap (λ i. get_or (set xs axis z) i (pos 0)) same ∙ get_or-set_same xs axis z (pos 0) within ∙ is ∙ ap (λ i. get_or ys i (pos 0)) (sym same)
  | inr other ↦ get_or-set_other xs axis k z (pos 0) other ∙ before k (omega arith)
]

-- ---- lists

-- what the first of them adds
pub added : {X Y : Type 0} (f : X → Y) (before now was : List Y) (x : X) (xs all : List X) (y : Y) → all ≡ x ∷ xs → y ≡ f x →
    before ++ map f all ≡ was → now ≡ before ++ y ∷ [] → now ++ map f xs ≡ was
added f before now was x xs all y is fits e more =
    ap (λ ys. ys ++ map f xs) more ∙ append_assoc before (y ∷ []) (map f xs)
    ∙ ap (λ v. before ++ v ∷ map f xs) fits ∙ ap (λ zs. before ++ map f zs) (sym is) ∙ e

module _ {D : ℕ} where
  -- ---- cells

  pub record CellParts (bytes : List ℕ) (c : RawCell D) : Type 0 where
    pub number : take 8 bytes ≡ long_bytes c.number
    pub lo : take (4 * D) (drop 8 bytes) ≡ flat_map short_bytes c.lo
    pub hi : drop (4 * D) (drop 8 bytes) ≡ flat_map short_bytes c.hi

  pub cell-parts : (bytes : List ℕ) (c : RawCell D) → IsCellWritten c → bytes ≡ cell_bytes c → CellParts bytes c
  cell-parts bytes c written e =
      let lo = flat_map short_bytes c.lo in
      let hi = flat_map short_bytes c.hi in
      let all : bytes ≡ long_bytes c.number ++ (lo ++ hi) = e ∙ append_assoc (long_bytes c.number) lo hi in
      let rest : drop 8 bytes ≡ lo ++ hi = back-of 8 (long_bytes c.number) (lo ++ hi) bytes all refl in
      let long : length lo ≡ 4 * D = point-long c.lo ∙ ap (λ n. 4 * n) written.axes_lo in
      record {
        number = front-of 8 (long_bytes c.number) (lo ++ hi) bytes all refl;
        lo = front-of (4 * D) lo hi (drop 8 bytes) rest long;
        hi = back-of (4 * D) lo hi (drop 8 bytes) rest long;
      }

  cell-long : (c : RawCell D) → IsCellWritten c → length (cell_bytes c) ≡ 8 + 8 * D
  cell-long c written =
      let lo = flat_map short_bytes c.lo in
      let hi = flat_map short_bytes c.hi in
      omega (arith, length-append (long_bytes c.number ++ lo) hi, length-append (long_bytes c.number) lo, point-long c.lo, point-long c.hi, written.axes_lo, written.axes_hi)

  pub cells-long : (cells : List (RawCell D)) → All IsCellWritten cells → length (flat_map cell_bytes cells) ≡ length cells * (8 + 8 * D)
  cells-long [] written = omega arith
  cells-long (c ∷ cs) written =
      let first = cell-long c (All-head IsCellWritten c cs written) in
      let rest = cells-long cs (All-tail IsCellWritten c cs written) in
      let step : suc (length cs) * (8 + 8 * D) ≡ (8 + 8 * D) + length cs * (8 + 8 * D) = omega arith in
      omega (arith, length-append (cell_bytes c) (flat_map cell_bytes cs), first, rest, step)

  -- the first of the cells that are left
  pub record FirstRow (left : List ℕ) (cells : List (RawCell D)) : Type 0 where
    pub cell : RawCell D
    pub others : List (RawCell D)
    pub is : cells ≡ cell ∷ others
    pub written : IsCellWritten cell
    pub ordered : is_ordered cell ≡ true
    pub rows : AreRows others
    pub front : take (8 + 8 * D) left ≡ cell_bytes cell
    pub back : drop (8 + 8 * D) left ≡ flat_map cell_bytes others

  pub first-row : (left : List ℕ) (cells : List (RawCell D)) → AreRows cells → left ≡ flat_map cell_bytes cells → 1 ≤ length left → FirstRow left cells
  first-row left [] rows e some = absurd (omega (arith, ap length e))
  first-row left (c ∷ cs) rows e some =
      let written = All-head IsCellWritten c cs rows.written in
      let Q : RawCell D → Type 0 = λ x. is_ordered x ≡ true in
      record {
        cell = c;
        others = cs;
        is = refl;
        written = written;
        ordered = All-head Q c cs rows.ordered;
        rows = record { written = All-tail IsCellWritten c cs rows.written; ordered = All-tail Q c cs rows.ordered };
        front = front-of (8 + 8 * D) (cell_bytes c) (flat_map cell_bytes cs) left e (cell-long c written);
        back = back-of (8 + 8 * D) (cell_bytes c) (flat_map cell_bytes cs) left e (cell-long c written);
      }

  -- no bytes are left, so no cells
  pub no-rows : (left : List ℕ) (cells : List (RawCell D)) → AreRows cells → left ≡ flat_map cell_bytes cells → length left < 8 + 8 * D → cells ≡ []
  no-rows left [] rows e few = refl
  no-rows left (c ∷ cs) rows e few =
      let step : suc (length cs) * (8 + 8 * D) ≡ (8 + 8 * D) + length cs * (8 + 8 * D) = omega arith in
      absurd (omega (arith, ap length e, cells-long (c ∷ cs) rows.written, step))

  -- ---- nodes

  -- the first of the nodes that are left
  pub record FirstNode (left : List ℕ) (nodes : List (NodeRow D)) : Type 0 where
    pub node : NodeRow D
    pub others : List (NodeRow D)
    pub is : nodes ≡ node ∷ others
    pub few : length node.cells < 256
    pub written : All IsCellWritten node.cells
    pub ordered : is_leaf node ≡ true → All (λ c. is_ordered c ≡ true) node.cells
    pub rest : AreNodes others
    pub level : get_or left 0 0 ≡ node.level
    pub count : get_or left 1 0 ≡ length node.cells
    pub long : length node.cells * (8 + 8 * D) ≤ length (drop 2 left)
    pub front : take (length node.cells * (8 + 8 * D)) (drop 2 left) ≡ flat_map cell_bytes node.cells
    pub back : drop (length node.cells * (8 + 8 * D)) (drop 2 left) ≡ flat_map node_bytes others

  pub first-node : (left : List ℕ) (nodes : List (NodeRow D)) → AreNodes nodes → left ≡ flat_map node_bytes nodes → 1 ≤ length left → FirstNode left nodes
  first-node left [] are e some = absurd (omega (arith, ap length e))
  first-node left (n ∷ ns) are e some =
      let P : NodeRow D → Type 0 = λ x. All IsCellWritten x.cells in
      let Q : NodeRow D → Type 0 = λ x. is_leaf x ≡ true → All (λ c. is_ordered c ≡ true) x.cells in
      let F : NodeRow D → Type 0 = λ x. length x.cells < 256 in
      let written = All-head P n ns are.written in
      let cells = flat_map cell_bytes n.cells in
      let others = flat_map node_bytes ns in
      let long = cells-long n.cells written in
      let after : drop 2 left ≡ cells ++ others = ap (drop 2) e in
      record {
        node = n;
        others = ns;
        is = refl;
        few = All-head F n ns are.few;
        written = written;
        ordered = All-head Q n ns are.ordered;
        rest = record { few = All-tail F n ns are.few; written = All-tail P n ns are.written; ordered = All-tail Q n ns are.ordered };
        level = ap (λ bs. get_or bs 0 0) e;
        count = ap (λ bs. get_or bs 1 0) e;
        long = omega (arith, ap length after, length-append cells others, long);
        front = front-of (length n.cells * (8 + 8 * D)) cells others (drop 2 left) after long;
        back = back-of (length n.cells * (8 + 8 * D)) cells others (drop 2 left) after long;
      }

  pub no-nodes : (left : List ℕ) (nodes : List (NodeRow D)) → left ≡ flat_map node_bytes nodes → length left < 2 → nodes ≡ []
  no-nodes left [] e few = refl
  no-nodes left (n ∷ ns) e few = absurd (omega (arith, ap length e))

  -- the bytes of the first node's cells
  pub record Run (left run after : List ℕ) (level count : ℕ) (nodes : List (NodeRow D)) : Type 0 where
    pub first : FirstNode left nodes
    pub shape : record { level = level; cells = count } ≡ shape_in first.node
    pub cells : run ≡ flat_map cell_bytes first.node.cells
    pub back : after ≡ flat_map node_bytes first.others

  pub run-of : (left run after : List ℕ) (count size : ℕ) (nodes : List (NodeRow D)) → FirstNode left nodes → D ≤ 3 → count ≡ get_or left 1 0 →
      size ≡ min (count * (8 + 8 * D)) 18446744073709551615 → run ≡ take size (drop 2 left) → after ≡ drop size (drop 2 left) →
      Run left run after (get_or left 0 0) count nodes
  run-of left run after count size nodes first few same_count size_is front back =
      let wide : count * (8 + 8 * D) ≤ count * 32 = mul-le-mul_left count (let w : 8 + 8 * D ≤ 32 = omega arith in w) in
      let cells_is : count ≡ length first.node.cells = same_count ∙ first.count in
      let size : size ≡ length first.node.cells * (8 + 8 * D) =
      (let whole : size ≡ count * (8 + 8 * D) = omega (arith, size_is, wide, cells_is, first.few) in whole ∙ ap (λ n. n * (8 + 8 * D)) cells_is) in
      let with_level : ℕ → Shape = λ l. record { level = l; cells = count } in
      let with_cells : ℕ → Shape = λ n. record { level = first.node.level; cells = n } in
      record {
        first = first;
        shape = ap with_level first.level ∙ ap with_cells cells_is;
        cells = front ∙ ap (λ n. take n (drop 2 left)) size ∙ first.front;
        back = back ∙ ap (λ n. drop n (drop 2 left)) size ∙ first.back;
      }

  pub leaf-rows : (left : List ℕ) (nodes : List (NodeRow D)) (first : FirstNode left nodes) → is_leaf first.node ≡ true → AreRows first.node.cells
  leaf-rows left nodes first leaf = record { written = first.written; ordered = first.ordered leaf }

  -- the rows of a leaf are added, and of another node none
  pub leaf-added : (before now was : List (Row D)) (node : NodeRow D) (others all : List (NodeRow D)) → all ≡ node ∷ others → is_leaf node ≡ true →
      before ++ map row_in (leaf_cells all) ≡ was → now ≡ before ++ map row_in node.cells → now ++ map row_in (leaf_cells others) ≡ was
  leaf-added before now was node others all is leaf e more =
      let f : RawCell D → Row D = row_in in
      ap (λ rs. rs ++ map f (leaf_cells others)) more ∙ append_assoc before (map f node.cells) (map f (leaf_cells others))
      ∙ ap (λ rs. before ++ rs) (sym (map-append f node.cells (leaf_cells others)))
      ∙ ap (λ b. before ++ map f (cond b node.cells [] ++ leaf_cells others)) (sym leaf) ∙ ap (λ ns. before ++ map f (leaf_cells ns)) (sym is) ∙ e

  pub inner-added : (before was : List (Row D)) (node : NodeRow D) (others all : List (NodeRow D)) → all ≡ node ∷ others → is_leaf node ≡ false →
      before ++ map row_in (leaf_cells all) ≡ was → before ++ map row_in (leaf_cells others) ≡ was
  inner-added before was node others all is inner e =
      let f : RawCell D → Row D = row_in in
      ap (λ b. before ++ map f (cond b node.cells [] ++ leaf_cells others)) (sym inner) ∙ ap (λ ns. before ++ map f (leaf_cells ns)) (sym is) ∙ e
