-- A row leaves its leaf, and underfull nodes are eliminated from there up, in the arena and on the nested view.
use Rattle.std.proofs.Common.{◌≡◌, ◌≢◌, ◌⊎◌, inl, inr, ℕ, zero, suc, ◌<◌, ◌≤◌, true, false, ℤ, List, [], ◌∷◌, ◌++◌, map, length, get_or, set, Some, slice_get, sym, ap, ◌∙◌, subst, arith}
use Rattle.std.specs.Prelude.{nat_lt, Contains}
use Rattle.std.specs.List.{All, remove}
use Rattle.std.proofs.lemmas.Bool.{cases_eq, cases_lt}
use Rattle.std.proofs.lemmas.Bool.Decides.{nat_tests}
use Rattle.std.proofs.lemmas.Option.{none-some, slice_get_within, get_or_from_slice_get}
use Rattle.std.proofs.lemmas.List.{length-map, same_lists, get_or-map, set-get_or}
use Rattle.slab.specs.Slab.{Slab}
use Rattle.rt_box.specs.Capacity.{least_fill}
use Rattle.rt_tree_node.specs.declared.cell.Cell.{Cell}
use Rattle.rt_tree_node.specs.declared.cell.Pending.{Pending}
use Rattle.rt_tree_node.specs.Node.{NodeCells}
use Rattle.rt_tree_place.specs.Path.{KeepsShape}
use Rattle.rt_tree_node.specs.Places.{key_of, cells_at, level_at, parent_at}
use Rattle.rt_tree_node.specs.Sound.{IsLinked}
use Rattle.rt_tree_node.proofs.Places.{leaf-at_leaf}
use Rattle.rt_tree_rules.specs.Nested.{Node, Waiting}
use Rattle.rt_tree_rules.specs.Removing.{Thinned, condense}
use Rattle.rt_tree_obeys.specs.View.{entry_in, node_in}
use Rattle.rt_tree_obeys.proofs.Lists.{AgreeBut, set_same, remove_same}
use Rattle.rt_tree_obeys.proofs.Frames.{HasChildren, Frame, raised, same_level, map_same}
use Rattle.rt_tree_obeys.proofs.Ways.{child_at, named_once}
use Rattle.rt_tree_obeys.proofs.Stepped.{named_nodes, by_numbers}

abbrev pub thinned : {l : ℕ} → Node l → List Waiting → Thinned l
thinned node orphans = record { node = node; orphans = orphans }

abbrev pub waits_of : (l : ℕ) → Node l → List Waiting
waits_of l node = map (λ e. record { level = l; entry = e }) node

pub condense_out : (K l : ℕ) (node : Node (suc l)) (at : ℕ) (e : Thinned l) → length e.node < least_fill K →
    condense K l node at e ≡ thinned (remove node at) (e.orphans ++ waits_of l e.node)
condense_out K l node at e under = let h : nat_lt (length e.node) (least_fill K) ≡ true = grind (arith, nat_tests) in rw (h, condense)

pub condense_in : (K l : ℕ) (node : Node (suc l)) (at : ℕ) (e : Thinned l) → least_fill K ≤ length e.node →
    condense K l node at e ≡ thinned (set node at e.node) e.orphans
condense_in K l node at e filled = let h : nat_lt (length e.node) (least_fill K) ≡ false = grind (arith, nat_tests) in rw (h, condense)

only : (key y : ℕ) → Contains (key ∷ []) y → key ≡ y
only key y (zero, within, is) = is
only key y (suc k, within, is) = absurd (omega arith)

module _ {D : ℕ} where
  -- From a node that becomes `e`, condensing it and going up to its parent, and so on up to the root, leads to what the
  -- root becomes.
  pub data Out (K : ℕ) (a : Slab (NodeCells D)) (root L : ℕ) (r : Thinned L) : (l key : ℕ) → Thinned l → Type 0 where
    top : {key : ℕ} → key ≡ root → Out K a root L r L key r
    next : {l key : ℕ} {e : Thinned l} (p at : ℕ) (c : Cell D) → slice_get (cells_at a p) at ≡ Some c → key_of c ≡ key →
        Out K a root L r (suc l) p (condense K l (node_in a (suc l) p) at e) → Out K a root L r l key e

  pub record Higher (K : ℕ) (a : Slab (NodeCells D)) (root L : ℕ) (r : Thinned L) (l key : ℕ) (e : Thinned l) : Type 0 where
    pub p : ℕ
    pub at : ℕ
    pub c : Cell D
    pub get : slice_get (cells_at a p) at ≡ Some c
    pub is : key_of c ≡ key
    pub up : Out K a root L r (suc l) p (condense K l (node_in a (suc l) p) at e)

  pub out_cases : (K : ℕ) (a : Slab (NodeCells D)) (root L : ℕ) (r : Thinned L) (l key : ℕ) (e : Thinned l) → Out K a root L r l key e →
      (key ≡ root) ⊎ Higher K a root L r l key e
  out_cases K a root L r l key e (top is) = inl is
  out_cases K a root L r l key e (next p at c get is up) = inr record { p = p; at = at; c = c; get = get; is = is; up = up }

  module _ (K : ℕ) (a : Slab (NodeCells D)) (root L : ℕ) (r : Thinned L) (ws : List (Pending D)) (linked : IsLinked a root L ws) where
    pub level_of_out : (l key : ℕ) (e : Thinned l) → Out K a root L r l key e → level_at a key ≡ Some l
    level_of_out l key e (top is) = ap (level_at a) is ∙ linked.root_level
    level_of_out l key e (next p at c get is up) =
        let here = level_of_out (suc l) p (condense K l (node_in a (suc l) p) at e) up in
        ap (level_at a) (sym is) ∙ (child_at a l p at c linked.children here get).names.level_is

    module _ (b : Slab (NodeCells D)) where
      recondensed : (l p at : ℕ) (c : Cell D) (e : Thinned l) → level_at a p ≡ Some (suc l) → slice_get (cells_at a p) at ≡ Some c → Frame a b l (key_of c) →
          condense K l (node_in b (suc l) p) at e ≡ condense K l (node_in a (suc l) p) at e
      recondensed l p at c e here get frame =
          let cells = frame.above p (suc l) here (omega arith) in
          let agree : AgreeBut (entry_in b (suc l)) (entry_in a (suc l)) (cells_at a p) at = λ i d within other.
          frame.here (key_of (get_or (cells_at a p) i d)) (linked.children p l here i d within).names.level_is
          (named_once a root L ws linked l p at c here get i d within other) in
          elim (cases_lt (length e.node) (least_fill K)) [
            | inl under ↦
                condense_out K l (node_in b (suc l) p) at e under
                ∙ ap (λ (n : Node (suc l)). thinned n (e.orphans ++ waits_of l e.node))
                (ap (λ (cs : List (Cell D)). remove (map (entry_in b (suc l)) cs) at) cells
                ∙ remove_same (entry_in b (suc l)) (entry_in a (suc l)) (cells_at a p) at agree)
                ∙ sym (condense_out K l (node_in a (suc l) p) at e under)
            | inr filled ↦
                condense_in K l (node_in b (suc l) p) at e filled
                ∙ ap (λ (n : Node (suc l)). thinned n e.orphans)
                (ap (λ (cs : List (Cell D)). set (map (entry_in b (suc l)) cs) at e.node) cells
                ∙ set_same (entry_in b (suc l)) (entry_in a (suc l)) (cells_at a p) at e.node agree)
                ∙ sym (condense_in K l (node_in a (suc l) p) at e filled)
          ]

      -- the same in another arena, of which the ways up are the same
      pub out_moved : (l key : ℕ) (e : Thinned l) → Frame a b l key → Out K a root L r l key e → Out K b root L r l key e
      out_moved l key e frame (top is) = top is
      out_moved l key e frame (next p at c get is up) =
          let here = level_of_out (suc l) p (condense K l (node_in a (suc l) p) at e) up in
          let child = child_at a l p at c linked.children here get in
          let parent : parent_at a key ≡ Some p = ap (parent_at a) (sym is) ∙ child.parent_is in
          let later = out_moved (suc l) p (condense K l (node_in a (suc l) p) at e) (raised a b l key p linked.children frame parent) up in
          let same = recondensed l p at c e here get (subst (λ (q : ℕ). Frame a b l q) (sym is) frame) in
          next p at c (ap (λ (cells : List (Cell D)). slice_get cells at) (frame.above p (suc l) here (omega arith)) ∙ get) is
          (subst (λ (y : Thinned (suc l)). Out K b root L r (suc l) p y) (sym same) later)

    -- a node that is put back where it was
    pub put_back : (l p at : ℕ) (c : Cell D) → slice_get (cells_at a p) at ≡ Some c → set (node_in a (suc l) p) at (node_in a l (key_of c)) ≡ node_in a (suc l) p
    put_back l p at c get =
        let within = slice_get_within (cells_at a p) at c get in
        let own : get_or (node_in a (suc l) p) at [] ≡ node_in a l (key_of c)
        = get_or-map (entry_in a (suc l)) (cells_at a p) at c [] within ∙ ap (entry_in a (suc l)) (get_or_from_slice_get (cells_at a p) at c c get) in
        ap (λ (n : Node l). set (node_in a (suc l) p) at n) (sym own) ∙ set-get_or (node_in a (suc l) p) at []

    -- from a node that is filled nothing changes up to the root
    pub condensed : (orphans : List Waiting) (l key : ℕ) (e : Thinned l) → ((x j : ℕ) → level_at a x ≡ Some j → x ≢ root → least_fill K ≤ length (cells_at a x)) →
        e ≡ thinned (node_in a l key) orphans → (key ≡ root) ⊎ (least_fill K ≤ length (cells_at a key)) → Out K a root L r l key e →
        r ≡ thinned (node_in a L root) orphans
    condensed orphans l key e filled is fits (top here) = is ∙ ap (λ (k : ℕ). thinned (node_in a L k) orphans) here
    condensed orphans l key e filled is fits (next p at c get named up) =
        let here = level_of_out (suc l) p (condense K l (node_in a (suc l) p) at e) up in
        let child = child_at a l p at c linked.children here get in
        let fit : least_fill K ≤ length (cells_at a key) = elim fits [
          | inl at_top ↦ absurd (none-some p (sym linked.root_parent ∙ ap (parent_at a) (sym at_top ∙ sym named) ∙ child.parent_is))
          | inr fit ↦ fit
        ] in
        let long = length-map (cells_at a key) (entry_in a l) in
        let step : condense K l (node_in a (suc l) p) at e ≡ thinned (node_in a (suc l) p) orphans
        = ap (condense K l (node_in a (suc l) p) at) is
        ∙ condense_in K l (node_in a (suc l) p) at (thinned (node_in a l key) orphans) (omega arith)
        ∙ ap (λ (n : Node (suc l)). thinned n orphans) (ap (λ (k : ℕ). set (node_in a (suc l) p) at (node_in a l k)) (sym named) ∙ put_back l p at c get) in
        condensed orphans (suc l) p (condense K l (node_in a (suc l) p) at e) filled step (root_or p (suc l) here) up
      where
        root_or : (x j : ℕ) → level_at a x ≡ Some j → (x ≡ root) ⊎ (least_fill K ≤ length (cells_at a x))
        root_or x j here = elim (cases_eq x root) [ inl e ↦ inl e | inr other ↦ inr (filled x j here other) ]

  -- only boxes of cells that name the node changed
  module _ (a b : Slab (NodeCells D)) (key : ℕ) (shape : (k : ℕ) → KeepsShape a b (key ∷ []) k) (children : HasChildren a) where
    numbers_long : (x : ℕ) → length (cells_at b x) ≡ length (cells_at a x)
    numbers_long x =
        sym (length-map (cells_at b x) (λ (c : Cell D). c.number)) ∙ ap (length {A = ℤ}) (shape x).numbers_same ∙ length-map (cells_at a x) (λ (c : Cell D). c.number)

    cells_kept : (x : ℕ) → All (λ c. key_of c ≢ key) (cells_at a x) → cells_at b x ≡ cells_at a x
    cells_kept x others = same_lists (cells_at b x) (cells_at a x) (numbers_long x)
        (λ k d within. (shape x).boxes k d (λ on. others k d (omega (arith, numbers_long x)) (sym (only key (key_of (get_or (cells_at a x) k d)) on))))

    pub nodes_kept : (j x : ℕ) → level_at a x ≡ Some j → node_in b j x ≡ node_in a j x
    nodes_kept zero x here =
        ap (map (entry_in b zero)) (sym (leaf-at_leaf b x ((shape x).level ∙ here)) ∙ (shape x).rows ∙ leaf-at_leaf a x here)
    nodes_kept (suc j) x here =
        by_numbers b j (cells_at b x) ∙ ap (named_nodes b j) (shape x).numbers_same ∙ sym (by_numbers b j (cells_at a x))
        ∙ map_same (entry_in b (suc j)) (entry_in a (suc j)) (cells_at a x)
        (λ k d within. nodes_kept j (key_of (get_or (cells_at a x) k d)) (children x j here k d within).names.level_is)

    pub shape_frame : (m p : ℕ) → level_at a key ≡ Some m → parent_at a key ≡ Some p → Frame a b (suc m) p
    shape_frame m p level up = record {
      here = λ x here other. nodes_kept (suc m) x here;
      above = λ x j here high. by x j here high;
    }
      where
        by : (x j : ℕ) → level_at a x ≡ Some j → suc m < j → cells_at b x ≡ cells_at a x
        by x zero here high = absurd (omega arith)
        by x (suc i) here high = cells_kept x (λ k d within e.
            let child = children x i here k d within in
            let same = same_level i m (level_at a key) (ap (level_at a) (sym e) ∙ child.names.level_is) level in
            absurd (omega arith))
