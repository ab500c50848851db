-- The nodes that are listed of a tree determine it.
use Rattle.std.proofs.Common.{◌≡◌, ℕ, zero, suc, ◌+◌, ℤ, pos, List, [], ◌∷◌, ◌++◌, map, length, Option, Some, None, refl, sym, ap, ◌∙◌, subst, append_assoc}
use Rattle.std.specs.List.{flat_map}
use Rattle.rt_box.specs.declared.interval.Interval.{Interval}
use Rattle.rt_box.specs.Interval.{interval}
use Rattle.rt_box.specs.Rect.{los, his}
use Rattle.rt_check.specs.declared.node.NodeRow.{NodeRow}
use Rattle.rt_check.specs.declared.node.RawCell.{RawCell}
use Rattle.rt_check.specs.Shadow.{ShadowLists}
use Rattle.rt_tree_rules.specs.Nested.{Row, Node, Tree}
use Rattle.rt_tree_rules.specs.Shadow.{node_count, starts, row_cell, child_cell, nodes_in}
use Rattle.rt_tree_rules.specs.Laws.{ShadowsAreFaithful}

abbrev tree : (l : ℕ) → Node l → Tree
tree l root = record { level = l; root = root }

same_interval : (i j : Interval) → i.lo ≡ j.lo → i.hi ≡ j.hi → i ≡ j
same_interval i j p q = ap (λ (x : ℤ). interval x i.hi) p ∙ ap (λ (y : ℤ). interval j.lo y) q

same_box : (a b : List Interval) → los a ≡ los b → his a ≡ his b → a ≡ b
same_box [] [] p q = refl
same_box [] (j ∷ b) p q = cc
same_box (i ∷ a) [] p q = cc
same_box (i ∷ a) (j ∷ b) p q =
    let lo : i.lo ≡ j.lo = cc in
    let hi : i.hi ≡ j.hi = cc in
    let rest_lo : los a ≡ los b = cc in
    let rest_hi : his a ≡ his b = cc in
    let e = same_interval i j lo hi in
    let es = same_box a b rest_lo rest_hi in
    cc

module _ (D : ℕ) where
  same_row : (r s : Row) → row_cell {D = D} r ≡ row_cell s → r ≡ s
  same_row r s e =
      let id : r.id ≡ s.id = ap (λ (c : RawCell D). c.number) e in
      let rect = same_box r.rect s.rect (ap (λ (c : RawCell D). c.lo) e) (ap (λ (c : RawCell D). c.hi) e) in
      (ap (λ (x : ℤ). record { id = x; rect = r.rect }) id) ∙ (ap (λ (x : List Interval). record { id = s.id; rect = x }) rect)

  same_rows : (a b : List Row) → map (row_cell {D = D}) a ≡ map row_cell b → a ≡ b
  same_rows [] [] e = refl
  same_rows [] (s ∷ b) e = cc
  same_rows (r ∷ a) [] e = cc
  same_rows (r ∷ a) (s ∷ b) e =
      let first : row_cell {D = D} r ≡ row_cell s = cc in
      let rest : map (row_cell {D = D}) a ≡ map row_cell b = cc in
      let head = same_row r s first in
      let tail = same_rows a b rest in
      cc

  abbrev first_level : List (NodeRow D) → ℕ
  first_level [] = zero
  first_level (n ∷ ns) = n.level

  abbrev first_cells : List (NodeRow D) → List (RawCell D)
  first_cells [] = []
  first_cells (n ∷ ns) = n.cells

  abbrev others : List (NodeRow D) → List (NodeRow D)
  others [] = []
  others (n ∷ ns) = ns

  -- what a list of nodes begins with, if it begins with those of a node of the level from that number on
  abbrev Decodes : ℕ → Type 0
  Decodes l = (number : ℕ) (parent : Option ℤ) (a b : Node l) (xs ys : List (NodeRow D)) →
      nodes_in l number parent a ++ xs ≡ nodes_in l number parent b ++ ys → (a ≡ b) × (xs ≡ ys)

  abbrev below : (l : ℕ) → Option ℤ → ℕ → List (Node l) → List (NodeRow D)
  below l parent number children = flat_map (λ s. nodes_in l s.0 parent s.1) (starts (node_count l) number children)

  below_cons : (l : ℕ) (parent : Option ℤ) (number : ℕ) (x : Node l) (a : List (Node l)) →
      below l parent number (x ∷ a) ≡ nodes_in l number parent x ++ below l parent (number + node_count l x) a
  below_cons l parent number x a = refl

  decode_below : (l : ℕ) → Decodes l → (parent : Option ℤ) (number : ℕ) (a b : List (Node l)) (xs ys : List (NodeRow D)) →
      length a ≡ length b → below l parent number a ++ xs ≡ below l parent number b ++ ys → (a ≡ b) × (xs ≡ ys)
  decode_below l decode parent number [] [] xs ys long e = (refl, e)
  decode_below l decode parent number [] (y ∷ b) xs ys long e = cc
  decode_below l decode parent number (x ∷ a) [] xs ys long e = cc
  decode_below l decode parent number (x ∷ a) (y ∷ b) xs ys long e =
      let rest_a = below l parent (number + node_count l x) a in
      let rest_b = below l parent (number + node_count l y) b in
      let split : nodes_in l number parent x ++ (rest_a ++ xs) ≡ nodes_in l number parent y ++ (rest_b ++ ys)
      = sym (append_assoc (nodes_in l number parent x) rest_a xs) ∙ e ∙ append_assoc (nodes_in l number parent y) rest_b ys in
      let both = decode number parent x y (rest_a ++ xs) (rest_b ++ ys) split in
      let next = subst (λ (z : Node l). rest_a ++ xs ≡ below l parent (number + node_count l z) b ++ ys) (sym both.0) both.1 in
      let shorter : length a ≡ length b = cc in
      let later = decode_below l decode parent (number + node_count l x) a b xs ys shorter next in
      let head : x ≡ y = both.0 in
      let tail : a ≡ b = later.0 in
      (cc, later.1)

  pub length_starts : (l number : ℕ) (a : List (Node l)) → length (map (child_cell {D = D} l) (starts (node_count l) number a)) ≡ length a
  length_starts l number [] = refl
  length_starts l number (x ∷ a) = let e = length_starts l (number + node_count l x) a in cc

  decode : (l : ℕ) → Decodes l
  decode zero number parent a b xs ys e =
      (same_rows a b (ap first_cells e), ap others e)
  decode (suc l) number parent a b xs ys e =
      let cells : map (child_cell {D = D} l) (starts (node_count l) (number + 1) a) ≡ map (child_cell l) (starts (node_count l) (number + 1) b)
      = ap first_cells e in
      let long = sym (length_starts l (number + 1) a) ∙ ap (length {A = RawCell D}) cells ∙ length_starts l (number + 1) b in
      decode_below l (decode l) (Some (pos number)) (number + 1) a b xs ys long (ap others e)

  level_is : (l number : ℕ) (parent : Option ℤ) (a : Node l) → first_level (nodes_in l number parent a) ≡ l
  level_is zero number parent a = refl
  level_is (suc l) number parent a = refl

  same_tree : (l m : ℕ) (a : Node l) (b : Node m) → nodes_in {D = D} l 1 None a ≡ nodes_in m 1 None b → l ≡ m →
      tree l a ≡ tree m b
  same_tree l m a b e h =
      subst (λ (k : ℕ). (c : Node k) → nodes_in {D = D} l 1 None a ≡ nodes_in k 1 None c → tree l a ≡ tree k c)
      h (λ c same. ap (tree l) (decode l 1 None a c [] [] (ap (λ (ns : List (NodeRow D)). ns ++ []) same)).0) b e

pub same_nodes : (axes : ℕ) (one other : Tree) → nodes_in {D = axes} one.level 1 None one.root ≡ nodes_in other.level 1 None other.root → one ≡ other
same_nodes axes one other nodes =
    let level = sym (level_is axes one.level 1 None one.root) ∙ ap (first_level axes) nodes ∙ level_is axes other.level 1 None other.root in
    same_tree axes one.level other.level one.root other.root nodes level

pub faithful : ShadowsAreFaithful
faithful axes capacity one other e = same_nodes axes one other (ap (λ (s : ShadowLists axes). s.nodes) e)
