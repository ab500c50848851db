-- What stays of a nested view when a few nodes of the arena change.
use Rattle.std.proofs.Common.{◌≡◌, ◌≢◌, ℕ, zero, suc, ◌<◌, ◌≤◌, List, [], ◌∷◌, map, get_or, Option, Some, refl, sym, ap, ◌∙◌, arith}
use Rattle.std.specs.List.{All}
use Rattle.std.proofs.lemmas.Option.{same_Some}
use Rattle.std.proofs.lemmas.List.Elements.{All-head, All-tail}
use Rattle.slab.specs.Slab.{Slab}
use Rattle.rt_tree_node.specs.declared.cell.Cell.{Cell}
use Rattle.rt_tree_node.specs.Node.{NodeCells}
use Rattle.rt_tree_node.specs.Places.{key_of, cells_at, level_at, parent_at}
use Rattle.rt_tree_node.specs.Sound.{NamesChild}
use Rattle.rt_tree_obeys.specs.View.{entry_in, node_in}

pub map_same : {X Y : Type 0} (f g : X → Y) (xs : List X) → All (λ x. f x ≡ g x) xs → map f xs ≡ map g xs
map_same f g [] all = refl
map_same f g (x ∷ xs) all =
    let head : f x ≡ g x = All-head (λ y. f y ≡ g y) x xs all in
    let tail = map_same f g xs (All-tail (λ y. f y ≡ g y) x xs all) in
    cc

pub same_level : (l m : ℕ) (o : Option ℕ) → o ≡ Some l → o ≡ Some m → l ≡ m
same_level l m o e h = same_Some l m (sym e ∙ h)

module _ {D : ℕ} where
  -- cells above the leaves hold children, and the level of the cells' node is that of the children, and one
  abbrev pub HasChildren : Slab (NodeCells D) → Type 0
  HasChildren a = (key l : ℕ) → level_at a key ≡ Some (suc l) → All (NamesChild a l key) (cells_at a key)

  -- the views of nodes below the level are the same
  abbrev pub SameBelow : Slab (NodeCells D) → Slab (NodeCells D) → ℕ → Type 0
  SameBelow a b m = (x j : ℕ) → level_at a x ≡ Some j → j < m → node_in b j x ≡ node_in a j x

  -- a node whose cells are the same, and whose children are
  pub node_same : (a b : Slab (NodeCells D)) (l x : ℕ) → HasChildren a → level_at a x ≡ Some (suc l) → cells_at b x ≡ cells_at a x →
      All (λ c. node_in b l (key_of c) ≡ node_in a l (key_of c)) (cells_at a x) → node_in b (suc l) x ≡ node_in a (suc l) x
  node_same a b l x children here cells all =
      ap (map (entry_in b (suc l))) cells ∙ map_same (entry_in b (suc l)) (entry_in a (suc l)) (cells_at a x) all

  leaf_row : (a b : Slab (NodeCells D)) (c : Cell D) → entry_in b zero c ≡ entry_in a zero c
  leaf_row a b c = refl

  pub leaf_same : (a b : Slab (NodeCells D)) (cells : List (Cell D)) → map (entry_in b zero) cells ≡ map (entry_in a zero) cells
  leaf_same a b cells = refl

  -- where no node below the level changed
  pub below : (a b : Slab (NodeCells D)) (m : ℕ) → HasChildren a → ((x j : ℕ) → level_at a x ≡ Some j → j < m → cells_at b x ≡ cells_at a x) → SameBelow a b m
  below a b m children same x zero here less = ap (map (entry_in b zero)) (same x zero here less)
  below a b m children same x (suc j) here less =
      node_same a b j x children here (same x (suc j) here less)
      (λ k d within. below a b m children same (key_of (get_or (cells_at a x) k d)) j (children x j here k d within).names.level_is (omega arith))

  -- cells of a node of the level hold the same if what is below does
  pub entries_same : (a b : Slab (NodeCells D)) (l m : ℕ) (cells : List (Cell D)) → SameBelow a b m → l ≤ m →
      ((i : ℕ) → l ≡ suc i → All (λ c. level_at a (key_of c) ≡ Some i) cells) → map (entry_in b l) cells ≡ map (entry_in a l) cells
  entries_same a b zero m cells same less levels = refl
  entries_same a b (suc l) m cells same less levels =
      map_same (entry_in b (suc l)) (entry_in a (suc l)) cells (λ k d within. same (key_of (get_or cells k d)) l (levels l refl k d within) (omega arith))

  -- Of the nodes of the level all but one look the same, and those of the levels above have the same cells.
  pub record Frame (a b : Slab (NodeCells D)) (m q : ℕ) : Type 0 where
    pub here : (x : ℕ) → level_at a x ≡ Some m → x ≢ q → node_in b m x ≡ node_in a m x
    pub above : (x j : ℕ) → level_at a x ≡ Some j → m < j → cells_at b x ≡ cells_at a x

  -- the same a level higher
  pub raised : (a b : Slab (NodeCells D)) (m q p : ℕ) → HasChildren a → Frame a b m q → parent_at a q ≡ Some p → Frame a b (suc m) p
  raised a b m q p children frame up = record {
    here = λ x here other. node_same a b m x children here (frame.above x (suc m) here (omega arith)) (λ k d within.
        let child = children x m here k d within in
        frame.here (key_of (get_or (cells_at a x) k d)) child.names.level_is
        (λ e. other (same_Some x p (sym child.parent_is ∙ ap (parent_at a) e ∙ up))));
    above = λ x j here less. frame.above x j here (omega arith);
  }

  -- a node took cells, and the cells of all others are the same
  pub frame_entered : (a b : Slab (NodeCells D)) (m q : ℕ) → HasChildren a → level_at a q ≡ Some m → ((x : ℕ) → x ≢ q → cells_at b x ≡ cells_at a x) → Frame a b m q × SameBelow a b m
  frame_entered a b m q children level same =
      let low : SameBelow a b m = below a b m children (λ x j here less. same x (λ e.
      let equal = same_level j m (level_at a q) (ap (level_at a) (sym e) ∙ here) level in
      absurd (omega arith))) in (
        record {
          here = λ x here other. by x m here other low;
          above = λ x j here less. same x (λ e.
              let equal = same_level j m (level_at a q) (ap (level_at a) (sym e) ∙ here) level in
              absurd (omega arith));
        },
        low,
      )
    where
      by : (x l : ℕ) → level_at a x ≡ Some l → x ≢ q → SameBelow a b l → node_in b l x ≡ node_in a l x
      by x zero here other low = ap (map (entry_in b zero)) (same x other)
      by x (suc l) here other low = node_same a b l x children here (same x other)
          (λ k d within. low (key_of (get_or (cells_at a x) k d)) l (children x l here k d within).names.level_is (omega arith))
