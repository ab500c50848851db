-- A placement follows the rules: the way down, the way back up, and the root.
use Rattle.std.proofs.Common.{◌≡◌, ◌≢◌, ◌⊎◌, inl, inr, ℕ, zero, suc, ◌+◌, ◌-◌, ◌<◌, ◌≤◌, List, [], ◌∷◌, ◌++◌, map, length, reverse, Some, refl, sym, ap, ◌∙◌, subst, arith}
use Rattle.std.specs.List.{All}
use Rattle.std.proofs.lemmas.Bool.{cases_lt}
use Rattle.std.proofs.lemmas.Option.{same_Some, none-some}
use Rattle.std.proofs.lemmas.List.{append_assoc, map-append, reverse-append, same_from_push}
use Rattle.rt_box.specs.Hull.{hull}
use Rattle.slab.specs.Slab.{Slab}
use Rattle.rt_tree_node.specs.declared.arena.Arena.{Arena}
use Rattle.rt_tree_node.specs.declared.arena.Work.{Work as Counts}
use Rattle.rt_tree_node.specs.declared.cell.Cell.{Cell}
use Rattle.rt_tree_node.specs.declared.cell.Pending.{Pending}
use Rattle.rt_tree_node.specs.Node.{NodeCells}
use Rattle.rt_tree_place.specs.Path.{LeadsTo}
use Rattle.rt_tree_node.specs.Places.{key_of, cells_at, level_at, parent_at, hull_at}
use Rattle.rt_tree_node.specs.Sound.{IsLinked, Names}
use Rattle.rt_tree_node.proofs.Links.{All-at}
use Rattle.rt_tree_place.specs.Placement.{PlacesLast}
use Rattle.rt_tree_place.specs.Rise.{Ascends, Enters}
use Rattle.rt_tree_rules.specs.Nested.{Waiting, box}
use Rattle.rt_tree_rules.specs.Placing.{Work, Becomes, Course, grow}
use Rattle.rt_tree_obeys.specs.View.{entry_in, node_in, tree_in, waiting_in, waiting_cells}
use Rattle.rt_tree_obeys.specs.Laws.{Stands, Obeys, PlacingObeys}
use Rattle.rt_tree_obeys.proofs.Ways.{level_of_up, stays}
use Rattle.rt_tree_obeys.proofs.Boxes.{HasHulls, boxes_kept}
use Rattle.rt_tree_obeys.proofs.Frames.{same_level}
use Rattle.rt_tree_obeys.proofs.Stepped.{plain, KeepsWaiting, waiting_same}
use Rattle.rt_tree_obeys.proofs.Climbed.{Climbing, linked_of, climbed}
use Rattle.rt_tree_obeys.proofs.Entered.{result, started, frames, entered}
use Rattle.rt_tree_obeys.proofs.Finished.{finished, Growth, growth}

box_kept : {D : ℕ} (a : Slab (NodeCells D)) (R L : ℕ) (ws : List (Pending D)) → IsLinked a R L ws → ((m : ℕ) → HasHulls a m) → (l : ℕ) (c : Cell D) →
    ((i : ℕ) → l ≡ suc i → level_at a (key_of c) ≡ Some i) → ((i : ℕ) → l ≡ suc i → c.rect ≡ hull_at a (key_of c)) → box l (entry_in a l c) ≡ c.rect
box_kept a R L ws linked hulls zero c named hull_is = refl
box_kept a R L ws linked hulls (suc i) c named hull_is =
    ap hull (boxes_kept a i linked.children (hulls i) i (key_of c) (named i refl) (omega arith)) ∙ sym (hull_is i refl)

module _ {D : ℕ} (old new : Arena D) (marks marks1 : ℕ) (work work1 : Counts) (base rest : List Waiting) (effort : Work)
    (whole : Stands old) (places : PlacesLast old new marks marks1 work work1) where
  abbrev K : ℕ
  K = old.capacity

  abbrev R : ℕ
  R = old.root

  abbrev L : ℕ
  L = old.level

  abbrev a : Slab (NodeCells D)
  a = old.nodes

  abbrev ws : List (Pending D)
  ws = old.pending.items

  abbrev w : Pending D
  w = places.entry

  abbrev first : Waiting
  first = waiting_in a w

  abbrev course : Course
  course = record { marks = marks; waiting = rest; work = record effort { placements = suc effort.placements } }

  abbrev t : Arena D
  t = places.inserts.entered

  abbrev enters : Enters places.without t w places.inserts.key
  enters = places.inserts.enters

  abbrev key : ℕ
  key = places.inserts.key

  nodes_is : places.without.nodes ≡ a
  nodes_is = ap (λ (s : Arena D). s.nodes) places.without_is

  root_is : places.without.root ≡ R
  root_is = ap (λ (s : Arena D). s.root) places.without_is

  height_is : places.without.level ≡ L
  height_is = ap (λ (s : Arena D). s.level) places.without_is

  capacity_is : places.without.capacity ≡ K
  capacity_is = ap (λ (s : Arena D). s.capacity) places.without_is

  hulls : (m : ℕ) → HasHulls a m
  hulls m x j here low k d within = whole.hulls x j here k d within

  w_named : (i : ℕ) → w.level ≡ suc i → level_at a (key_of w.cell) ≡ Some i
  w_named i is =
      let P : Pending D → Type 0 = λ v. (l : ℕ) → v.level ≡ suc l → Names a l v.cell in
      (All-at P places.left w [] (subst (All P) places.was whole.linked.pending_named) i is).level_is

  w_box : box w.level (entry_in a w.level w.cell) ≡ w.cell.rect
  w_box =
      let P : Pending D → Type 0 = λ v. (l : ℕ) → v.level ≡ suc l → v.cell.rect ≡ hull_at a (key_of v.cell) in
      box_kept a R L ws whole.linked hulls w.level w.cell w_named
      (λ i is. All-at P places.left w [] (subst (All P) places.was whole.pending_hulls) i is)

  abbrev r : Becomes L
  r = result K R L a ws whole.linked hulls w w_box course

  level : level_at a key ≡ Some w.level
  level = ap (λ (s : Slab (NodeCells D)). level_at s key) (sym nodes_is) ∙ enters.level

  high : w.level ≤ L
  high = whole.linked.levels key w.level level

  leads : LeadsTo a w.level (L - w.level) R w.cell.rect key enters.path
  leads =
      let one = subst (λ (s : Slab (NodeCells D)). LeadsTo s w.level (places.without.level - w.level) places.without.root w.cell.rect key enters.path) nodes_is enters.leads in
      let two = subst (λ (h : ℕ). LeadsTo a w.level (h - w.level) places.without.root w.cell.rect key enters.path) height_is one in
      subst (λ (k : ℕ). LeadsTo a w.level (L - w.level) k w.cell.rect key enters.path) root_is two

  taken : cells_at t.nodes key ≡ cells_at a key ++ w.cell ∷ []
  taken = enters.cells ∙ ap (λ (s : Slab (NodeCells D)). cells_at s key ++ w.cell ∷ []) nodes_is

  others : (x : ℕ) → x ≢ key → cells_at t.nodes x ≡ cells_at a x
  others x other = enters.others x other ∙ ap (λ (s : Slab (NodeCells D)). cells_at s x) nodes_is

  steps_are : L ≡ w.level + (L - w.level)
  steps_are = let h = high in omega arith

  keeps : KeepsWaiting a t.nodes R
  keeps x j here other unnamed =
      let both = frames K R L a ws whole.linked hulls w w_box course t.nodes key level taken others w_named in
      elim (cases_lt j w.level) [
        | inl lower ↦ both.1 x j here lower
        | inr higher ↦ stays K a R L r ws whole.linked t.nodes w.level key (plain (node_in a w.level key ++ entry_in a w.level w.cell ∷ []) course) both.0
            (started K R L a ws whole.linked hulls w w_box course key enters.path (L - w.level) steps_are leads) x j (omega arith) here other unnamed
      ]

  -- the cells that are left
  left_same : map (waiting_in t.nodes) places.left ≡ map (waiting_in a) places.left
  left_same =
      let all = waiting_same a t.nodes R L ws whole.linked keeps in
      let split = λ (s : Slab (NodeCells D)). ap (map (waiting_in s)) places.was ∙ map-append (waiting_in s) places.left (w ∷ []) in
      (same_from_push (map (waiting_in t.nodes) places.left) (map (waiting_in a) places.left) (waiting_in t.nodes w) first
      (sym (split t.nodes) ∙ all ∙ split a)).0

  module _ (pending : waiting_cells old ≡ base ++ reverse (first ∷ rest)) where
    left_are : map (waiting_in a) places.left ≡ base ++ reverse rest
    left_are =
        let split = ap (map (waiting_in a)) places.was ∙ map-append (waiting_in a) places.left (w ∷ []) in
        let turned = ap (λ vs. base ++ vs) (reverse-append (first ∷ []) rest) ∙ sym (append_assoc base (reverse rest) (first ∷ [])) in
        (same_from_push (map (waiting_in a) places.left) (base ++ reverse rest) first first (sym split ∙ pending ∙ turned)).0

    start : Climbing K R L r base t key marks
    start = record {
      rising = enters.rising;
      root_is = enters.root ∙ root_is;
      height_is = enters.height ∙ height_is;
      capacity_is = enters.capacity ∙ capacity_is;
      l = w.level;
      course = course;
      up = entered K R L a ws whole.linked hulls w w_box course t.nodes key level taken others w_named enters.path (L - w.level) steps_are leads;
      marks_is = refl;
      pending_is = ap (λ v. map (waiting_in t.nodes) v.items) enters.pending ∙ ap (map (waiting_in t.nodes)) places.left_waits ∙ left_same ∙ left_are;
    }

    abbrev u : Arena D
    u = places.inserts.risen

    abbrev ascends : Ascends t u key marks marks1
    ascends = places.inserts.ascends

    abbrev last : ℕ
    last = ascends.last

    so_far : Climbing K R L r base u last marks1
    so_far = climbed K R L r base t key marks start u last marks1 ascends.steps

    linked : IsLinked u.nodes R L u.pending.items
    linked = linked_of K R L r base u last marks1 so_far

    here : level_at u.nodes last ≡ Some so_far.l
    here = level_of_up K u.nodes R L r u.pending.items linked so_far.l last (plain (node_in u.nodes so_far.l last) so_far.course) so_far.up

    most : (x j : ℕ) → level_at u.nodes x ≡ Some j → x ≢ last → length (cells_at u.nodes x) ≤ K
    most x j level other =
        let fits = so_far.rising.sound.fitted.most x j level (λ e. other (sym (same_Some last x e))) in
        omega (arith, fits, so_far.capacity_is)

    fits : (last ≡ R) ⊎ (length (cells_at u.nodes last) ≤ K)
    fits = elim ascends.ends [
      | inl root ↦ inl (root ∙ so_far.root_is)
      | inr rests ↦ inr (omega (arith, rests.2.fits, so_far.capacity_is))
    ]

    result_is : r ≡ plain (node_in u.nodes L R) so_far.course
    result_is = finished K R L r u.nodes u.pending.items linked so_far.course so_far.l so_far.l last (plain (node_in u.nodes so_far.l last) so_far.course)
        (λ x j level above. most x j level (λ e.
        let same = same_level j so_far.l (level_at u.nodes last) (ap (level_at u.nodes) (sym e) ∙ level) here in
        absurd (omega arith)))
        (omega arith) refl fits so_far.up

    hulls_above : u.capacity < length (cells_at u.nodes u.root) → HasHulls u.nodes L
    hulls_above full x j level low k d within =
        let child = linked.children x j level k d within in
        so_far.rising.sound.fitted.hulls x j level k d within (λ e.
        let named = same_Some _ _ e in
        let not_root : last ≢ R = λ root. none-some x (sym linked.root_parent ∙ ap (parent_at u.nodes) (sym root ∙ named) ∙ child.parent_is) in
        let few = most R L linked.root_level (λ root. not_root (sym root)) in
        let many : u.capacity < length (cells_at u.nodes R) = subst (λ (q : ℕ). u.capacity < length (cells_at u.nodes q)) so_far.root_is full in
        absurd (omega (arith, so_far.capacity_is)))

    grown : Growth K u new R L so_far.course
    grown = growth K u new R L so_far.course so_far.root_is so_far.height_is so_far.capacity_is linked places.inserts.work places.inserts.work1
        places.inserts.grows hulls_above

    pub obeys : Obeys old new base rest marks marks1 first effort
    obeys = record {
      waits = grown.course1.waiting;
      spent = grown.course1.work;
      pending = grown.pending_same ∙ so_far.pending_is ∙ ap (λ vs. base ++ reverse vs) (sym grown.waiting_same);
      inserted = ap (λ (x : Becomes L). grow D K L x.node x.course) result_is ∙ grown.grown
          ∙ ap (λ (m : ℕ). record { tree = tree_in new; course = record { marks = m; waiting = grown.course1.waiting; work = grown.course1.work } })
          (grown.marks_same ∙ so_far.marks_is);
    }

pub placing : PlacingObeys
placing axes old new marks marks1 work work1 base rest entry effort whole places pending =
    let a = old.nodes in
    let first = waiting_in a places.entry in
    let split = ap (map (waiting_in a)) places.was ∙ map-append (waiting_in a) places.left (places.entry ∷ []) in
    let turned = ap (λ vs. base ++ vs) (reverse-append (entry ∷ []) rest) ∙ sym (append_assoc base (reverse rest) (entry ∷ [])) in
    let same : first ≡ entry = (same_from_push (map (waiting_in a) places.left) (base ++ reverse rest) first entry (sym split ∙ pending ∙ turned)).1 in
    subst (λ (e : Waiting). Obeys old new base rest marks marks1 e effort) same
    (obeys old new marks marks1 work work1 base rest effort whole places
    (subst (λ (e : Waiting). waiting_cells old ≡ base ++ reverse (e ∷ rest)) (sym same) pending))
