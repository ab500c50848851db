-- The way down in the arena is that of the rules, and the cell enters the same node.
use Rattle.std.proofs.Common.{◌≡◌, ◌≢◌, ℕ, zero, suc, ◌+◌, true, false, List, [], ◌∷◌, ◌++◌, map, Some, slice_get, refl, sym, ap, ◌∙◌, subst, arith, eq-eqb, ne_eqb}
use Rattle.std.specs.Prelude.{nat_eq, slice_index_or}
use Rattle.std.proofs.lemmas.Option.{slice_get_within, get_or_from_slice_get}
use Rattle.std.proofs.lemmas.List.{map-append, get_or-map}
use Rattle.std.proofs.lemmas.List.Elements.{All-push}
use Rattle.rt_box.specs.declared.interval.Interval.{Interval}
use Rattle.rt_tree_subtree.specs.Subtree.{IsBestChild}
use Rattle.slab.specs.Slab.{Slab}
use Rattle.rt_tree_node.specs.declared.cell.Cell.{Cell}
use Rattle.rt_tree_node.specs.declared.cell.Pending.{Pending}
use Rattle.rt_tree_node.specs.Node.{NodeCells}
use Rattle.rt_tree_node.specs.Places.{key_of, cells_at, level_at, rects}
use Rattle.rt_tree_node.specs.Sound.{IsLinked}
use Rattle.rt_tree_place.specs.Path.{LeadsTo}
use Rattle.rt_tree_rules.specs.Nested.{Entry, Node, Waiting, box, boxes, if_level, of_level}
use Rattle.rt_tree_rules.specs.Placing.{best_child, Becomes, Course, treat, rejoin, enter}
use Rattle.rt_tree_rules.proofs.Chosen.{child as child_taken}
use Rattle.rt_tree_obeys.specs.View.{entry_in, node_in, waiting_in}
use Rattle.rt_tree_obeys.proofs.Frames.{SameBelow, Frame, frame_entered, entries_same}
use Rattle.rt_tree_obeys.proofs.Ways.{Up, top, next, child_at, moved}
use Rattle.rt_tree_obeys.proofs.Boxes.{HasHulls, boxes_kept}
use Rattle.rt_tree_obeys.proofs.Stepped.{plain}

pub if_same : (F : ℕ → Type 0) (l : ℕ) (x : F l) → if_level F l l x ≡ x ∷ []
if_same F zero x = refl
if_same F (suc l) x = if_same (λ k. F (suc k)) l x

module _ (axes K : ℕ) (new : Waiting) (course : Course) where
  -- a node of the cell's own level takes it
  enter_here : (l : ℕ) (node : Node l) → new.level ≡ l → enter axes K l node new course ≡ plain (node ++ of_level l new) course
  enter_here zero node is = refl
  enter_here (suc l) node is = let e : nat_eq new.level (suc l) ≡ true = eq-eqb _ _ is in rw (e, enter)

  abbrev descend : (l : ℕ) → Node (suc l) → ℕ → Becomes (suc l)
  descend l node at =
      let below = enter axes K l (slice_index_or node at []) new course in
      rejoin axes K l node at (treat axes K l below.node below.course)

  enter_down : (l : ℕ) (node : Node (suc l)) → new.level ≢ suc l →
      enter axes K (suc l) node new course ≡ descend l node (best_child (nat_eq l 0) (boxes (suc l) node) (box new.level new.entry))
  enter_down l node other = let e : nat_eq new.level (suc l) ≡ false = ne_eqb _ _ other in rw (e, enter)

module _ {D : ℕ} (K R L : ℕ) (a : Slab (NodeCells D)) (ws : List (Pending D)) (linked : IsLinked a R L ws) (hulls : (m : ℕ) → HasHulls a m)
    (w : Pending D) (w_box : box w.level (entry_in a w.level w.cell) ≡ w.cell.rect) (course : Course) where
  abbrev pub new : Waiting
  new = waiting_in a w

  abbrev pub result : Becomes L
  result = enter D K L (node_in a L R) new course

  down : (l k at : ℕ) (c : Cell D) → w.level ≢ suc l → level_at a k ≡ Some (suc l) → IsBestChild (nat_eq l 0) (rects (cells_at a k)) w.cell.rect at →
      slice_get (cells_at a k) at ≡ Some c →
      enter D K (suc l) (node_in a (suc l) k) new course
      ≡ rejoin D K l (node_in a (suc l) k) at (treat D K l (enter D K l (node_in a l (key_of c)) new course).node (enter D K l (node_in a l (key_of c)) new course).course)
  down l k at c other here best get =
      let node = node_in a (suc l) k in
      let kept = boxes_kept a (suc l) linked.children (hulls (suc l)) (suc l) k here (omega arith) in
      let taken : best_child (nat_eq l 0) (boxes (suc l) node) (box new.level new.entry) ≡ at
      = ap (λ (bs : List (List Interval)). best_child (nat_eq l 0) bs (box new.level new.entry)) kept
      ∙ ap (best_child (nat_eq l 0) (rects (cells_at a k))) w_box
      ∙ child_taken (nat_eq l 0) (rects (cells_at a k)) w.cell.rect at best in
      let within = slice_get_within (cells_at a k) at c get in
      let read : slice_index_or node at [] ≡ node_in a l (key_of c)
      = get_or-map (entry_in a (suc l)) (cells_at a k) at c [] within ∙ ap (entry_in a (suc l)) (get_or_from_slice_get (cells_at a k) at c c get) in
      enter_down D K new course l node other
      ∙ ap (descend D K new course l node) taken
      ∙ ap (λ (n : Node l). rejoin D K l node at (treat D K l (enter D K l n new course).node (enter D K l n new course).course)) read

  leads : (steps m k key : ℕ) (path : List ℕ) → level_at a k ≡ Some m → m ≡ w.level + steps → LeadsTo a w.level steps k w.cell.rect key path →
      Up K a R L result m k (enter D K m (node_in a m k) new course) → Up K a R L result w.level key (enter D K w.level (node_in a w.level key) new course)
  leads zero m k key path here height way up =
      let same : m ≡ w.level = omega arith in
      let here_up = subst (λ (i : ℕ). Up K a R L result i k (enter D K i (node_in a i k) new course)) same up in
      subst (λ (q : ℕ). Up K a R L result w.level q (enter D K w.level (node_in a w.level q) new course)) (sym way.0) here_up
  leads (suc s) zero k key path here height way up = absurd (omega arith)
  leads (suc s) (suc m) k key path here height way up =
      let same : w.level + s ≡ m = omega arith in
      let at = way.0 in
      let c = way.1 in
      let best = subst (λ (i : ℕ). IsBestChild (nat_eq i 0) (rects (cells_at a k)) w.cell.rect at) same way.3 in
      let child = child_at a m k at c linked.children here way.4 in
      leads s m (key_of c) key way.2 child.names.level_is (sym same) way.6
      (next k at c way.4 refl (subst (λ (e : Becomes (suc m)). Up K a R L result (suc m) k e)
      (down m k at c (λ e. absurd (omega arith)) here best way.4) up))

  -- at the node that takes the cell
  pub started : (key : ℕ) (path : List ℕ) (steps : ℕ) → L ≡ w.level + steps → LeadsTo a w.level steps R w.cell.rect key path →
      Up K a R L result w.level key (plain (node_in a w.level key ++ entry_in a w.level w.cell ∷ []) course)
  started key path steps height way =
      let up = leads steps L R key path linked.root_level height way (top refl) in
      let own : of_level w.level new ≡ entry_in a w.level w.cell ∷ [] = if_same Entry w.level (entry_in a w.level w.cell) in
      let is = enter_here D K new course w.level (node_in a w.level key) refl
      ∙ ap (λ (es : List (Entry w.level)). plain (node_in a w.level key ++ es) course) own in
      subst (λ (e : Becomes w.level). Up K a R L result w.level key e) is up

  module _ (b : Slab (NodeCells D)) (key : ℕ) (level : level_at a key ≡ Some w.level) (cells : cells_at b key ≡ cells_at a key ++ w.cell ∷ [])
      (others : (x : ℕ) → x ≢ key → cells_at b x ≡ cells_at a x) (below_w : (i : ℕ) → w.level ≡ suc i → level_at a (key_of w.cell) ≡ Some i) where
    pub frames : Frame a b w.level key × SameBelow a b w.level
    frames = frame_entered a b w.level key linked.children level others

    taken_in : node_in b w.level key ≡ node_in a w.level key ++ entry_in a w.level w.cell ∷ []
    taken_in =
        let l = w.level in
        ap (map (entry_in b l)) cells
        ∙ entries_same a b l l (cells_at a key ++ w.cell ∷ []) frames.1 (omega arith)
        (λ i is. All-push (λ c. level_at a (key_of c) ≡ Some i) (cells_at a key) w.cell
        (λ k d within. (linked.children key i (level ∙ ap Some is) k d within).names.level_is) (below_w i is))
        ∙ map-append (entry_in a l) (cells_at a key) (w.cell ∷ [])

    pub entered : (path : List ℕ) (steps : ℕ) → L ≡ w.level + steps → LeadsTo a w.level steps R w.cell.rect key path →
        Up K b R L result w.level key (plain (node_in b w.level key) course)
    entered path steps height way =
        subst (λ (n : Node w.level). Up K b R L result w.level key (plain n course)) (sym taken_in)
        (moved K a R L result ws linked b w.level key (plain (node_in a w.level key ++ entry_in a w.level w.cell ∷ []) course) frames.0 (started key path steps height way))
