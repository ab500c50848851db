-- A step up in the arena is one on the nested view.
use Rattle.std.proofs.Common.{◌≡◌, ◌≢◌, inl, inr, ℕ, zero, suc, ◌<◌, ◌≤◌, true, false, ℤ, List, [], ◌∷◌, ◌++◌, map, length, get_or, reverse, Some, refl, sym, ap, ◌∙◌, subst, arith}
use Rattle.std.specs.Prelude.{nat_le, nat_lt, unsigned_abs}
use Rattle.std.proofs.lemmas.Bool.Decides.{nat_tests}
use Rattle.std.proofs.lemmas.List.{length-map, append-nil}
use Rattle.slab.specs.Slab.{Slab}
use Rattle.rt_tree_node.specs.declared.arena.Arena.{Arena}
use Rattle.rt_tree_node.specs.declared.arena.Work.{Work as Counts}
use Rattle.rt_tree_node.specs.declared.cell.Cell.{Cell}
use Rattle.rt_tree_node.specs.declared.cell.Pending.{Pending}
use Rattle.rt_tree_node.specs.Node.{NodeCells}
use Rattle.rt_tree_node.specs.Places.{key_of, cells_at, level_at, rects, numbers, pending_at, pending_nodes, times_named, cells_above, inner_part}
use Rattle.rt_tree_node.specs.Sound.{IsLinked}
use Rattle.rt_tree_place.specs.Path.{KeepsShape}
use Rattle.rt_tree_node.proofs.Counts.{count-append}
use Rattle.rt_tree_node.proofs.Places.{leaf-at_leaf, names_key, named-one}
use Rattle.rt_tree_place.specs.Rules.{Parts, ReInserts}
use Rattle.rt_tree_place.specs.Steps.{Treats}
use Rattle.rt_tree_rules.specs.Nested.{Node, Waiting, boxes}
use Rattle.rt_tree_rules.specs.Placing.{Becomes, Course, split, reinsert, treat}
use Rattle.rt_tree_obeys.specs.View.{entry_in, node_in, waiting_in}
use Rattle.rt_tree_obeys.proofs.Frames.{entries_same, same_level, map_same}
use Rattle.rt_tree_obeys.proofs.Boxes.{map_map}
use Rattle.rt_tree_obeys.proofs.Treated.{KeepsBelow, splits, reinserts, relieved}

abbrev pub plain : {l : ℕ} → Node l → Course → Becomes l
plain node course = record { node = node; beside = []; course = course }

pub treat_fits : (axes K l : ℕ) (node : Node l) (course : Course) → length node ≤ K → treat axes K l node course ≡ plain node course
treat_fits axes K l node course fits = let e : nat_le (length node) K ≡ true = grind (arith, nat_tests) in rw (e, treat)

pub treat_splits : (axes K l : ℕ) (node : Node l) (course : Course) → K < length node → l < course.marks → treat axes K l node course ≡ split axes K l node course
treat_splits axes K l node course full marked =
    let e : nat_le (length node) K ≡ false = grind (arith, nat_tests) in
    let m : nat_lt l course.marks ≡ true = grind (arith, nat_tests) in
    rw (e, m, treat)

pub treat_reinserts : (axes K l : ℕ) (node : Node l) (course : Course) → K < length node → course.marks ≤ l → treat axes K l node course ≡ reinsert axes K l node course
treat_reinserts axes K l node course full unmarked =
    let e : nat_le (length node) K ≡ false = grind (arith, nat_tests) in
    let m : nat_lt l course.marks ≡ false = grind (arith, nat_tests) in
    rw (e, m, treat)

module _ {D : ℕ} where
  -- what the nodes of those numbers look like
  abbrev pub named_nodes : Slab (NodeCells D) → (l : ℕ) → List ℤ → List (Node l)
  named_nodes b l ns = map (λ n. node_in b l (unsigned_abs n)) ns

  pub by_numbers : (b : Slab (NodeCells D)) (l : ℕ) (cells : List (Cell D)) → map (entry_in b (suc l)) cells ≡ named_nodes b l (numbers cells)
  by_numbers b l cells = sym (map_map (λ (n : ℤ). node_in b l (unsigned_abs n)) (λ (c : Cell D). c.number) cells)

  -- if a pending cell above the leaves is counted, it names its node
  pending_counted : (ws : List (Pending D)) (k j : ℕ) (d : Pending D) → k < length ws → (get_or ws k d).level ≡ suc j →
      0 < times_named (key_of (get_or ws k d).cell) (pending_nodes ws)
  pending_counted [] k j d within level = absurd (omega arith)
  pending_counted (w ∷ ws) zero j d within level =
      let key = key_of w.cell in
      let one : times_named key (inner_part w.level (w.cell ∷ [])) ≡ 1
      = ap (λ l. times_named key (inner_part l (w.cell ∷ []))) level ∙ named-one key w.cell refl in
      omega (arith, count-append (names_key key) (inner_part w.level (w.cell ∷ [])) (pending_nodes ws))
  pending_counted (w ∷ ws) (suc k) j d within level =
      let key = key_of (get_or ws k d).cell in
      omega (
        arith,
        pending_counted ws k j d (omega arith) level,
        count-append (names_key key) (inner_part w.level (w.cell ∷ [])) (pending_nodes ws),
      )

  -- nodes that wait look the same
  abbrev pub KeepsWaiting : Slab (NodeCells D) → Slab (NodeCells D) → ℕ → Type 0
  KeepsWaiting a b root = (x j : ℕ) → level_at a x ≡ Some j → x ≢ root → times_named x (cells_above a x) ≡ 0 → node_in b j x ≡ node_in a j x

  pub waiting_same : (a b : Slab (NodeCells D)) (root level : ℕ) (ws : List (Pending D)) → IsLinked a root level ws → KeepsWaiting a b root →
      map (waiting_in b) ws ≡ map (waiting_in a) ws
  waiting_same a b root level ws linked keeps = map_same (waiting_in b) (waiting_in a) ws (λ k d within.
      let w = get_or ws k d in
      by w w.level refl (λ l is.
      let there = pending_counted ws k l d within is in
      let key = key_of w.cell in
      let here = (linked.pending_named k d within l is).level_is in
      let other : key ≢ root = λ e. absurd (omega (arith, linked.root_waits_not, subst (λ y. 0 < times_named y (pending_nodes ws)) e there)) in
      let once = linked.named key l here other in
      keeps key l here other (omega arith)))
    where
      by : (w : Pending D) (l : ℕ) → w.level ≡ l → ((i : ℕ) → w.level ≡ suc i → node_in b i (key_of w.cell) ≡ node_in a i (key_of w.cell)) →
          waiting_in b w ≡ waiting_in a w
      by w l is nodes = at w.level w.cell (λ i e. nodes i e)
        where
          at : (l : ℕ) (c : Cell D) → ((i : ℕ) → l ≡ suc i → node_in b i (key_of c) ≡ node_in a i (key_of c)) →
              ◌≡◌ {A = Waiting} (record { level = l; entry = entry_in b l c }) (record { level = l; entry = entry_in a l c })
          at zero c same = refl
          at (suc i) c same = ap (λ (n : Node i). record { level = suc i; entry = n }) (same i refl)

  -- what a step up makes of a node, on its nested view
  pub record Treatment (K : ℕ) (t u : Arena D) (l key parent marks1 : ℕ) (course : Course) : Type 0 where
    pub extra : List ℤ
    pub course1 : Course
    pub far : List (Cell D)
    pub treated : treat D K l (node_in t.nodes l key) course
        ≡ record { node = node_in u.nodes l key; beside = named_nodes u.nodes l extra; course = course1 }
    pub numbers_are : numbers (cells_at u.nodes parent) ≡ numbers (cells_at t.nodes parent) ++ extra
    pub pending_is : u.pending.items ≡ t.pending.items ++ pending_at l far
    pub waiting_is : course1.waiting ≡ reverse (map (waiting_in u.nodes) (pending_at l far)) ++ course.waiting
    pub marks_is : course1.marks ≡ marks1

  shape_kept : (a b : Slab (NodeCells D)) (l key : ℕ) → level_at a key ≡ Some l → KeepsBelow {D = D} l a b l key → KeepsShape a b (key ∷ []) key → node_in b l key ≡ node_in a l key
  shape_kept a b zero key here keeps shape =
      let cells : cells_at b key ≡ cells_at a key = sym (leaf-at_leaf b key (shape.level ∙ here)) ∙ shape.rows ∙ leaf-at_leaf a key here in
      ap (map (entry_in b zero)) cells
  shape_kept a b (suc l) key here keeps shape =
      by_numbers b l (cells_at b key) ∙ ap (named_nodes b l) shape.numbers_same ∙ sym (by_numbers b l (cells_at a key))
      ∙ entries_same a b (suc l) (suc l) (cells_at a key) keeps.0 (omega arith) keeps.1

  pub treatment : (K : ℕ) (t u : Arena D) (l key parent marks marks1 : ℕ) (work work1 : Counts) (course : Course) → t.capacity ≡ K → level_at t.nodes key ≡ Some l →
      KeepsBelow {D = D} K t.nodes u.nodes l key → boxes l (node_in t.nodes l key) ≡ rects (cells_at t.nodes key) → course.marks ≡ marks →
      (length (cells_at t.nodes key) ≤ t.capacity → (k : ℕ) → KeepsShape t.nodes u.nodes (key ∷ []) k) →
      Treats t u key parent marks marks1 work work1 → Treatment K t u l key parent marks1 course
  treatment K t u l key parent marks marks1 work work1 course capacity here keeps boxes_are marks_are shape (inl lets) =
      let long = length-map (cells_at t.nodes key) (entry_in t.nodes l) in
      let same = shape_kept t.nodes u.nodes l key here keeps (shape lets.fits key) in
      record {
        extra = [];
        course1 = course;
        far = [];
        treated = treat_fits D K l (node_in t.nodes l key) course (omega (arith, lets.fits)) ∙ ap (λ (n : Node l). plain n course) (sym same);
        numbers_are = (shape lets.fits parent).numbers_same ∙ sym (append-nil (numbers (cells_at t.nodes parent)));
        pending_is = ap (λ v. v.items) lets.pending ∙ sym (append-nil t.pending.items);
        waiting_is = refl;
        marks_is = marks_are ∙ sym lets.marks_same;
      }
  treatment K t u l key parent marks marks1 work work1 course capacity here keeps boxes_are marks_are shape (inr (inl split)) =
      let long = length-map (cells_at t.nodes key) (entry_in t.nodes l) in
      let level = same_level l split.level (level_at t.nodes key) here split.here in
      record {
        extra = split.cell.number ∷ [];
        course1 = record course { work = record course.work { splits = suc course.work.splits } };
        far = [];
        treated = treat_splits D K l (node_in t.nodes l key) course (omega (arith, split.full)) (omega (arith, split.marked))
            ∙ splits K t.nodes u.nodes l key key (key_of split.cell) course keeps boxes_are (subst (λ (k : ℕ). Parts k (cells_at t.nodes key) (cells_at u.nodes key) (cells_at u.nodes (key_of split.cell))) capacity split.parts);
        numbers_are = split.appended;
        pending_is = ap (λ v. v.items) split.pending ∙ sym (append-nil t.pending.items);
        waiting_is = refl;
        marks_is = marks_are ∙ sym split.marks_same;
      }
  treatment K t u l key parent marks marks1 work work1 course capacity here keeps boxes_are marks_are shape (inr (inr gives)) =
      let long = length-map (cells_at t.nodes key) (entry_in t.nodes l) in
      let level = same_level l gives.level (level_at t.nodes key) here gives.here in
      record {
        extra = [];
        course1 = (relieved {l = l} course (node_in u.nodes l key) (reverse (map (waiting_in u.nodes) (pending_at l gives.far)))).course;
        far = gives.far;
        treated = treat_reinserts D K l (node_in t.nodes l key) course (omega (arith, gives.full)) (omega (arith, gives.unmarked))
            ∙ reinserts K t.nodes u.nodes l key gives.far course keeps boxes_are (subst (λ (k : ℕ). ReInserts k (cells_at t.nodes key) (cells_at u.nodes key) gives.far) capacity gives.chosen);
        numbers_are = gives.beside ∙ sym (append-nil (numbers (cells_at t.nodes parent)));
        pending_is = gives.pending ∙ ap (λ (i : ℕ). t.pending.items ++ pending_at i gives.far) (sym level);
        waiting_is = refl;
        marks_is = ap suc level ∙ sym gives.marked;
      }
