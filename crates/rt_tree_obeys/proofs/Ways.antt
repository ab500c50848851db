-- The way up from a node: what is left to be done of an insertion, read in an arena.
use Rattle.std.proofs.Common.{◌≡◌, ◌≢◌, ◌⊎◌, inl, inr, ℕ, suc, ◌<◌, ◌≤◌, List, [], ◌++◌, map, length, get_or, set, Some, slice_get, sym, ap, ◌∙◌, subst, arith, eq-eqb}
use Rattle.std.proofs.lemmas.Bool.{cases_eq}
use Rattle.std.proofs.lemmas.Option.{none-some, slice_get_within, get_or_from_slice_get}
use Rattle.slab.specs.Slab.{Slab}
use Rattle.rt_tree_node.specs.declared.cell.Cell.{Cell}
use Rattle.rt_tree_node.specs.declared.cell.Pending.{Pending}
use Rattle.rt_tree_node.specs.Node.{NodeCells}
use Rattle.rt_tree_node.specs.Places.{key_of, cells_at, level_at, parent_at, times_named, cells_above}
use Rattle.rt_tree_node.specs.Sound.{IsLinked, NamesChild}
use Rattle.rt_tree_node.proofs.Counts.{count-some}
use Rattle.rt_tree_node.proofs.Places.{inner-at_inner, names_key}
use Rattle.rt_tree_node.proofs.Links.{above-some}
use Rattle.rt_tree_rules.specs.Nested.{Node}
use Rattle.rt_tree_rules.specs.Placing.{Becomes, treat, rejoin}
use Rattle.rt_tree_obeys.specs.View.{entry_in, node_in}
use Rattle.rt_tree_obeys.proofs.Frames.{HasChildren, Frame, raised}
use Rattle.rt_tree_obeys.proofs.Lists.{two, set_same}

module _ {D : ℕ} where
  pub child_at : (a : Slab (NodeCells D)) (l p at : ℕ) (c : Cell D) → HasChildren a → level_at a p ≡ Some (suc l) → slice_get (cells_at a p) at ≡ Some c →
      NamesChild a l p c
  child_at a l p at c children here get =
      subst (NamesChild a l p) (get_or_from_slice_get (cells_at a p) at c c get) (children p l here at c (slice_get_within (cells_at a p) at c get))

  module _ (a : Slab (NodeCells D)) (root level : ℕ) (ws : List (Pending D)) (linked : IsLinked a root level ws) where
    above_is : (l p key : ℕ) → level_at a p ≡ Some (suc l) → parent_at a key ≡ Some p → cells_above a key ≡ cells_at a p
    above_is l p key here up = above-some a key p up ∙ inner-at_inner a p l here

    -- another cell names another node
    pub named_once : (l p at : ℕ) (c : Cell D) → level_at a p ≡ Some (suc l) → slice_get (cells_at a p) at ≡ Some c →
        (i : ℕ) (d : Cell D) → i < length (cells_at a p) → i ≢ at → key_of (get_or (cells_at a p) i d) ≢ key_of c
    named_once l p at c here get i d within other same =
        let child = child_at a l p at c linked.children here get in
        let key = key_of c in
        let is_above = above_is l p key here child.parent_is in
        let once = linked.named key l child.names.level_is
        (λ e. none-some p (sym linked.root_parent ∙ ap (parent_at a) (sym e) ∙ child.parent_is)) in
        let at_c : key_of (get_or (cells_at a p) at c) ≡ key = ap key_of (get_or_from_slice_get (cells_at a p) at c c get) in
        let many = two (names_key key) (cells_at a p) i at d c within (slice_get_within (cells_at a p) at c get) other (eq-eqb _ _ same) (eq-eqb _ _ at_c) in
        let counted : times_named key (cells_above a key) ≡ times_named key (cells_at a p) = ap (times_named key) is_above in
        omega arith

    -- a cell above the leaves names its node
    pub is_named : (l p at : ℕ) (c : Cell D) → level_at a p ≡ Some (suc l) → slice_get (cells_at a p) at ≡ Some c →
        0 < times_named (key_of c) (cells_above a (key_of c))
    is_named l p at c here get =
        let child = child_at a l p at c linked.children here get in
        let is_above = above_is l p (key_of c) here child.parent_is in
        let at_c : key_of (get_or (cells_at a p) at c) ≡ key_of c = ap key_of (get_or_from_slice_get (cells_at a p) at c c get) in
        let some = count-some (names_key (key_of c)) (cells_at a p) at c (slice_get_within (cells_at a p) at c get) (eq-eqb _ _ at_c) in
        subst (λ (cells : List (Cell D)). 0 < times_named (key_of c) cells) (sym is_above) some

  -- From a node that becomes `e`, treating it and going up to its parent, and so on up to the root, leads to what the
  -- root becomes.
  pub data Up (K : ℕ) (a : Slab (NodeCells D)) (root L : ℕ) (r : Becomes L) : (l key : ℕ) → Becomes l → Type 0 where
    top : {key : ℕ} → key ≡ root → Up K a root L r L key r
    next : {l key : ℕ} {e : Becomes l} (p at : ℕ) (c : Cell D) → slice_get (cells_at a p) at ≡ Some c → key_of c ≡ key →
        Up K a root L r (suc l) p (rejoin D K l (node_in a (suc l) p) at (treat D K l e.node e.course)) → Up K a root L r l key e

  -- a node's parent, and the way up from there
  pub record Above (K : ℕ) (a : Slab (NodeCells D)) (root L : ℕ) (r : Becomes L) (l key : ℕ) (e : Becomes l) : Type 0 where
    pub p : ℕ
    pub at : ℕ
    pub c : Cell D
    pub get : slice_get (cells_at a p) at ≡ Some c
    pub is : key_of c ≡ key
    pub up : Up K a root L r (suc l) p (rejoin D K l (node_in a (suc l) p) at (treat D K l e.node e.course))

  pub up_cases : (K : ℕ) (a : Slab (NodeCells D)) (root L : ℕ) (r : Becomes L) (l key : ℕ) (e : Becomes l) → Up K a root L r l key e →
      (key ≡ root) ⊎ Above K a root L r l key e
  up_cases K a root L r l key e (top is) = inl is
  up_cases K a root L r l key e (next p at c get is up) = inr record { p = p; at = at; c = c; get = get; is = is; up = up }

  module _ (K : ℕ) (a : Slab (NodeCells D)) (root L : ℕ) (r : Becomes L) (ws : List (Pending D)) (linked : IsLinked a root L ws) where
    pub level_of_up : (l key : ℕ) (e : Becomes l) → Up K a root L r l key e → level_at a key ≡ Some l
    level_of_up l key e (top is) = ap (level_at a) is ∙ linked.root_level
    level_of_up l key e (next p at c get is up) =
        let here = level_of_up (suc l) p (rejoin D K l (node_in a (suc l) p) at (treat D K l e.node e.course)) up in
        ap (level_at a) (sym is) ∙ (child_at a l p at c linked.children here get).names.level_is

    module _ (b : Slab (NodeCells D)) where
      rejoined : (l p at : ℕ) (c : Cell D) (x : Becomes l) → level_at a p ≡ Some (suc l) → slice_get (cells_at a p) at ≡ Some c → Frame a b l (key_of c) →
          rejoin D K l (node_in b (suc l) p) at x ≡ rejoin D K l (node_in a (suc l) p) at x
      rejoined l p at c x here get frame =
          let cells = frame.above p (suc l) here (omega arith) in
          let node = ap (λ (cs : List (Cell D)). set (map (entry_in b (suc l)) cs) at x.node) cells
          ∙ set_same (entry_in b (suc l)) (entry_in a (suc l)) (cells_at a p) at x.node (λ i d within other.
          frame.here (key_of (get_or (cells_at a p) i d)) (linked.children p l here i d within).names.level_is
          (named_once a root L ws linked l p at c here get i d within other)) in
          ap (λ (n : Node (suc l)). record { node = n ++ x.beside; beside = []; course = x.course }) node

      -- the same in another arena, of which the ways up are the same
      pub moved : (l key : ℕ) (e : Becomes l) → Frame a b l key → Up K a root L r l key e → Up K b root L r l key e
      moved l key e frame (top is) = top is
      moved l key e frame (next p at c get is up) =
          let x = treat D K l e.node e.course in
          let here = level_of_up (suc l) p (rejoin D K l (node_in a (suc l) p) at x) up in
          let child = child_at a l p at c linked.children here get in
          let parent : parent_at a key ≡ Some p = ap (parent_at a) (sym is) ∙ child.parent_is in
          let later = moved (suc l) p (rejoin D K l (node_in a (suc l) p) at x) (raised a b l key p linked.children frame parent) up in
          let same = rejoined l p at c x here get (subst (λ (q : ℕ). Frame a b l q) (sym is) frame) in
          next p at c (ap (λ (cells : List (Cell D)). slice_get cells at) (frame.above p (suc l) here (omega arith)) ∙ get) is
          (subst (λ (y : Becomes (suc l)). Up K b root L r (suc l) p y) (sym same) later)

      -- a node that no node names, and that isn't the root, stays too, if it does on the levels below
      pub stays : (l key : ℕ) (e : Becomes l) → Frame a b l key → Up K a root L r l key e →
          (x j : ℕ) → l ≤ j → level_at a x ≡ Some j → x ≢ root → times_named x (cells_above a x) ≡ 0 → node_in b j x ≡ node_in a j x
      stays l key e frame (top is) x j high here other unnamed =
          let low = linked.levels x j here in
          let same : j ≡ l = omega arith in
          let level : level_at a x ≡ Some l = here ∙ ap Some same in
          subst (λ (i : ℕ). node_in b i x ≡ node_in a i x) (sym same) (frame.here x level (λ h. other (h ∙ is)))
      stays l key e frame (next p at c get is up) x j high here other unnamed =
          let up_is = level_of_up (suc l) p (rejoin D K l (node_in a (suc l) p) at (treat D K l e.node e.course)) up in
          let child = child_at a l p at c linked.children up_is get in
          let parent : parent_at a key ≡ Some p = ap (parent_at a) (sym is) ∙ child.parent_is in
          elim (cases_eq l j) [
            | inl same ↦
                let named = is_named a root L ws linked l p at c up_is get in
                let level : level_at a x ≡ Some l = here ∙ ap Some (sym same) in
                subst (λ (i : ℕ). node_in b i x ≡ node_in a i x) same (frame.here x level (λ h.
                let none : times_named (key_of c) (cells_above a (key_of c)) ≡ 0 = subst (λ (y : ℕ). times_named y (cells_above a y) ≡ 0) (h ∙ sym is) unnamed in
                omega arith))
            | inr differs ↦ stays (suc l) p (rejoin D K l (node_in a (suc l) p) at (treat D K l e.node e.course)) (raised a b l key p linked.children frame parent) up x j (omega arith) here other unnamed
          ]
