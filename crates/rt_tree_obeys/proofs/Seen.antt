-- What is seen of an arena is what is seen of its nested tree.
use Rattle.std.proofs.Common.{◌≡◌, ℕ, zero, suc, ◌+◌, ℤ, pos, List, [], ◌∷◌, ◌++◌, map, length, Option, Some, None, refl, sym, ap, ◌∙◌, subst, arith, length-append, append_assoc}
use Rattle.std.specs.Prelude.{unwrap_or, sum_by}
use Rattle.std.specs.List.{All, flat_map}
use Rattle.std.specs.Option.{option_map}
use Rattle.std.proofs.lemmas.Option.{none-some}
use Rattle.std.proofs.lemmas.List.{map-append, append-nil}
use Rattle.std.proofs.lemmas.List.Elements.{All-head, All-tail}
use Rattle.std.proofs.lemmas.List.Sums.{sum_by-cons}
use Rattle.rt_box.specs.declared.interval.Interval.{Interval}
use Rattle.rt_box.specs.Rect.{los, his}
use Rattle.rt_check.specs.declared.node.NodeRow.{NodeRow}
use Rattle.rt_check.specs.declared.node.RawCell.{RawCell}
use Rattle.rt_box.specs.Hull.{hull}
use Rattle.slab.specs.Slab.{Slab, get}
use Rattle.rt_tree_node.specs.declared.arena.Arena.{Arena}
use Rattle.rt_tree_node.specs.declared.cell.Cell.{Cell}
use Rattle.rt_tree_node.specs.Node.{NodeCells}
use Rattle.rt_tree_node.specs.Places.{key_of, cells_at, level_at, parent_at}
use Rattle.rt_tree_node.specs.Sound.{IsLinked, NamesChild}
use Rattle.rt_tree_outside.specs.Outside.{node_row, cell_row}
use Rattle.rt_tree_walk.specs.Preorder.{keys_in, tree_keys, number_in}
use Rattle.rt_tree_walk.proofs.Progress.{IsSettled}
use Rattle.rt_tree_walk.proofs.Listed.{listed-once}
use Rattle.rt_tree_outside.proofs.Subtrees.{place-after}
use Rattle.rt_tree_rules.specs.Nested.{box}
use Rattle.rt_tree_rules.specs.Shadow.{node_count, starts, row_cell, child_cell, nodes_in}
use Rattle.rt_tree_obeys.specs.View.{entry_in, node_in}
use Rattle.rt_tree_obeys.specs.Laws.{NodesAreSeen}
use Rattle.rt_tree_obeys.proofs.Boxes.{HasHulls, boxes_kept, map_map}

abbrev row_of : {D : ℕ} → ℤ → ℕ → Option ℤ → List (RawCell D) → NodeRow D
row_of number level parent cells = record { number = number; level = level; parent = parent; cells = cells }

abbrev cell_of : {D : ℕ} → ℤ → List Interval → RawCell D
cell_of number rect = record { number = number; lo = los rect; hi = his rect }

module _ {D : ℕ} (t : Arena D) (s : IsSettled t) (linked : IsLinked t.nodes t.root t.level []) (hulls : (m : ℕ) → HasHulls t.nodes m) where
  abbrev a : Slab (NodeCells D)
  a = t.nodes

  abbrev n : ℕ → ℤ
  n = number_in (tree_keys t)

  abbrev row : ℕ → NodeRow D
  row key = node_row n key (get t.nodes key)

  placed : (k l : ℕ) (front rest : List ℕ) → level_at a k ≡ Some l → tree_keys t ≡ front ++ k ∷ rest → n k ≡ pos (length front + 1)
  placed k l front rest here is = ap (λ (i : ℕ). pos (i + 1)) (place-after (tree_keys t) k front rest is (listed-once t s k l here))

  abbrev keys_below : ℕ → List (Cell D) → List ℕ
  keys_below l cells = flat_map (λ c. keys_in a l (key_of c)) cells

  abbrev AreAt : ℕ → ℕ → List (Cell D) → Type 0
  AreAt l k cells = All (NamesChild a l k) cells

  cells_counted : (l k : ℕ) → ((x : ℕ) → level_at a x ≡ Some l → node_count l (node_in a l x) ≡ length (keys_in a l x)) → (cells : List (Cell D)) → AreAt l k cells →
      sum_by (node_count l) (map (entry_in a (suc l)) cells) ≡ length (keys_below l cells)
  cells_counted l k by [] all = refl
  cells_counted l k by (c ∷ cs) all =
      omega (
        arith,
        sum_by-cons (node_count l) (entry_in a (suc l) c) (map (entry_in a (suc l)) cs),
        by (key_of c) (All-head (NamesChild a l k) c cs all).names.level_is,
        cells_counted l k by cs (All-tail (NamesChild a l k) c cs all),
        length-append (keys_in a l (key_of c)) (keys_below l cs),
      )

  -- a subtree has as many nodes as keys
  counted : (l k : ℕ) → level_at a k ≡ Some l → node_count l (node_in a l k) ≡ length (keys_in a l k)
  counted zero k here = refl
  counted (suc l) k here = let e = cells_counted l k (counted l) (cells_at a k) (linked.children k l here) in omega (arith, e)

  first_key : (l k : ℕ) → (more : List ℕ) × (keys_in a l k ≡ k ∷ more)
  first_key zero k = ([], refl)
  first_key (suc l) k = (keys_below l (cells_at a k), refl)

  head_row : (l k number : ℕ) (parent : Option ℤ) (cells : List (RawCell D)) → level_at a k ≡ Some l → n k ≡ pos number → option_map n (parent_at a k) ≡ parent →
      map (cell_row n l) (cells_at a k) ≡ cells → row k ≡ row_of (pos number) l parent cells
  head_row l k number parent cells here is up same =
      let level : unwrap_or (level_at a k) 0 ≡ l = ap (λ o. unwrap_or o 0) here in
      ap (λ (z : ℤ). row_of z (unwrap_or (level_at a k) 0) (option_map n (parent_at a k)) (map (cell_row n (unwrap_or (level_at a k) 0)) (cells_at a k))) is
      ∙ ap (λ (i : ℕ). row_of (pos number) i (option_map n (parent_at a k)) (map (cell_row n i) (cells_at a k))) level
      ∙ ap (λ (p : Option ℤ). row_of (pos number) l p (map (cell_row n l) (cells_at a k))) up
      ∙ ap (row_of (pos number) l parent) same

  abbrev Sees : ℕ → Type 0
  Sees l = (k number : ℕ) (front rest : List ℕ) (parent : Option ℤ) → level_at a k ≡ Some l → tree_keys t ≡ front ++ (keys_in a l k ++ rest) →
      number ≡ length front + 1 → option_map n (parent_at a k) ≡ parent → map row (keys_in a l k) ≡ nodes_in l number parent (node_in a l k)

  box_is : (l k : ℕ) (c : Cell D) → level_at a k ≡ Some (suc l) → NamesChild a l k c → c.rect ≡ hull (map (λ d. d.rect) (cells_at a (key_of c))) →
      box (suc l) (entry_in a (suc l) c) ≡ c.rect
  box_is l k c here child is = ap hull (boxes_kept a l linked.children (hulls l) l (key_of c) child.names.level_is (omega arith)) ∙ sym is

  record Children (l k place : ℕ) (cells : List (Cell D)) : Type 0 where
    children_are : map (cell_row n (suc l)) cells ≡ map (child_cell l) (starts (node_count l) place (map (entry_in a (suc l)) cells))
    below_are : map row (keys_below l cells) ≡ flat_map (λ x. nodes_in l x.0 (Some (n k)) x.1) (starts (node_count l) place (map (entry_in a (suc l)) cells))

  children : (l k : ℕ) → Sees l → level_at a k ≡ Some (suc l) → (cells : List (Cell D)) → AreAt l k cells →
      All (λ c. c.rect ≡ hull (map (λ d. d.rect) (cells_at a (key_of c)))) cells → (front rest : List ℕ) (place : ℕ) →
      tree_keys t ≡ front ++ (keys_below l cells ++ rest) → place ≡ length front + 1 → Children l k place cells
  children l k sees high [] all fit front rest place is at = record { children_are = refl; below_are = refl }
  children l k sees high (c ∷ cs) all fit front rest place is at =
      let child = All-head (NamesChild a l k) c cs all in
      let here = child.names.level_is in
      let mine = keys_in a l (key_of c) in
      let others = keys_below l cs in
      let head = first_key l (key_of c) in
      let apart : tree_keys t ≡ front ++ (mine ++ (others ++ rest)) = is ∙ ap (λ xs. front ++ xs) (append_assoc mine others rest) in
      let first : tree_keys t ≡ front ++ key_of c ∷ (head.0 ++ (others ++ rest)) = apart ∙ ap (λ xs. front ++ (xs ++ (others ++ rest))) head.1 in
      let moved : tree_keys t ≡ (front ++ mine) ++ (others ++ rest) = apart ∙ sym (append_assoc front mine (others ++ rest)) in
      let size = counted l (key_of c) here in
      let next = place + node_count l (entry_in a (suc l) c) in
      let later = children l k sees high cs (All-tail (NamesChild a l k) c cs all)
      (All-tail (λ (x : Cell D). x.rect ≡ hull (map (λ d. d.rect) (cells_at a (key_of x)))) c cs fit) (front ++ mine) rest next moved
      (omega (arith, at, size, length-append front mine)) in
      let number : n (key_of c) ≡ pos place = placed (key_of c) l front (head.0 ++ (others ++ rest)) here first ∙ ap pos (sym at) in
      let own_box = box_is l k c high child (All-head (λ (x : Cell D). x.rect ≡ hull (map (λ d. d.rect) (cells_at a (key_of x)))) c cs fit) in
      let own : cell_row n (suc l) c ≡ child_cell {D = D} l (place, entry_in a (suc l) c)
      = ap (λ (z : ℤ). cell_of z c.rect) number ∙ ap (cell_of (pos place)) (sym own_box) in
      let below = sees (key_of c) place front (others ++ rest) (Some (n k)) here apart at (ap (option_map n) child.parent_is) in
      let tail = later.children_are in
      let rows = later.below_are in
      record {
        children_are = ap (λ (x : RawCell D). x ∷ map (cell_row n (suc l)) cs) own ∙ ap (λ (xs : List (RawCell D)). child_cell l (place, entry_in a (suc l) c) ∷ xs) tail;
        below_are = map-append row mine others ∙ ap (λ (xs : List (NodeRow D)). xs ++ map row others) below
            ∙ ap (λ (xs : List (NodeRow D)). nodes_in l place (Some (n k)) (node_in a l (key_of c)) ++ xs) rows;
      }

  seen : (l : ℕ) → Sees l
  seen zero k number front rest parent here is at up =
      let own = placed k zero front rest here is ∙ ap pos (sym at) in
      let same = sym (map_map (row_cell {D = D}) (entry_in a zero) (cells_at a k)) in
      ap (λ (r : NodeRow D). r ∷ []) (head_row zero k number parent (map row_cell (node_in a zero k)) here own up same)
  seen (suc l) k number front rest parent here is at up =
      let cells = cells_at a k in
      let own = placed k (suc l) front (keys_below l cells ++ rest) here is ∙ ap pos (sym at) in
      let moved : tree_keys t ≡ (front ++ k ∷ []) ++ (keys_below l cells ++ rest) = is ∙ sym (append_assoc front (k ∷ []) (keys_below l cells ++ rest)) in
      let below = children l k (seen l) here cells (linked.children k l here) (hulls (suc l) k l here (omega arith)) (front ++ k ∷ []) rest (number + 1) moved
      (omega (arith, at, length-append front (k ∷ []))) in
      let node = node_in a (suc l) k in
      let first = head_row (suc l) k number parent (map (child_cell l) (starts (node_count l) (number + 1) node)) here own up below.children_are in
      ap (λ (r : NodeRow D). r ∷ map row (keys_below l cells)) first
      ∙ ap (λ (ns : List (NodeRow D)). row_of (pos number) (suc l) parent (map (child_cell l) (starts (node_count l) (number + 1) node)) ∷ ns)
      (below.below_are ∙ ap (λ (z : ℤ). flat_map (λ x. nodes_in l x.0 (Some z) x.1) (starts (node_count l) (number + 1) node)) own)

pub nodes_seen : NodesAreSeen
nodes_seen axes t whole idle =
    let linked : IsLinked t.nodes t.root t.level [] = subst (IsLinked t.nodes t.root t.level) idle whole.linked in
    let hulls : (m : ℕ) → HasHulls t.nodes m = λ m x j here low k d within. whole.fitted.hulls x j here k d within (λ e. none-some _ e) in
    seen t record { whole = whole; none = idle } linked hulls t.level t.root 1 [] [] None linked.root_level (sym (append-nil (tree_keys t))) refl
    (ap (option_map (number_in (tree_keys t))) linked.root_parent)
