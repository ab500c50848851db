-- A settled tree where a leaf's cells changed, and along a path boxes, said of the tree from outside.
use Rattle.std.proofs.Common.{◌≡◌, ◌≢◌, ℕ, zero, suc, Bool, true, cond, ℤ, List, [], ◌∷◌, ◌++◌, map, get_or, Contains, Some, unwrap_or, unsigned_abs, arith, refl, ap, sym, ◌∙◌, subst, inl, inr}
use Rattle.std.specs.List.{All, AllZip, flat_map}
use Rattle.std.specs.Option.{option_map}
use Rattle.std.specs.Ordering.{int_eq}
use Rattle.std.proofs.lemmas.Bool.{cases_eq, cases_Bool}
use Rattle.std.proofs.lemmas.Bool.Decides.{Decides-int_eq}
use Rattle.std.proofs.lemmas.Option.{same_Some}
use Rattle.std.proofs.lemmas.List.Elements.{All-head, All-tail}
use Rattle.rt_check.specs.declared.node.NodeRow.{NodeRow}
use Rattle.rt_check.specs.declared.node.RawCell.{RawCell}
use Rattle.rt_tree_node.specs.declared.arena.Arena.{Arena}
use Rattle.rt_tree_node.specs.declared.cell.Cell.{Cell}
use Rattle.rt_tree_node.specs.Places.{key_of, numbers, cells_at, level_at, parent_at}
use Rattle.rt_tree_place.specs.Path.{KeepsShape}
use Rattle.rt_tree_node.proofs.Places.{leaf-at_leaf}
use Rattle.slab.specs.Slab.{get}
use Rattle.rt_tree_walk.specs.Preorder.{keys_in, tree_keys, number_in}
use Rattle.rt_tree_outside.specs.Outside.{cell_row, node_row, outside}
use Rattle.rt_tree_walk.proofs.Progress.{IsSettled}
use Rattle.rt_tree_walk.proofs.Listed.{HasNode, levels-below, listed-there}
use Rattle.rt_tree_outside.proofs.Flawless.{numbering}
use Rattle.rt_tree.specs.Way.{KeepsCell, KeepsNode, ChangesLeaf, with_cells}
use Rattle.rt_tree.proofs.Members.{contains-map}
use Rattle.rt_tree.proofs.Reading.{number}

zip-mapped : {X Y Z : Type 0} (R : Y → Z → Type 0) (f : X → Y) (g : X → Z) (P : X → Type 0) → ((x : X) → P x → R (f x) (g x)) → (xs : List X) → All P xs → AllZip R (map f xs) (map g xs)
zip-mapped R f g P by [] all = tt
zip-mapped R f g P by (x ∷ xs) all = (by x (All-head P x xs all), zip-mapped R f g P by xs (All-tail P x xs all))

zip-same : {X : Type 0} (R : X → X → Type 0) → ((x : X) → R x x) → (xs : List X) → AllZip R xs xs
zip-same R by [] = tt
zip-same R by (x ∷ xs) = (by x, zip-same R by xs)

module _ {D : ℕ} where
  kept-cell : (path : List ℤ) (c : RawCell D) → KeepsCell path c c
  kept-cell path c = record { number = refl; box = λ no_node. refl }

  kept-cells : (path : List ℤ) (xs ys : List (RawCell D)) → ys ≡ xs → AllZip (KeepsCell path) xs ys
  kept-cells path xs ys e = subst (λ (zs : List (RawCell D)). AllZip (KeepsCell path) xs zs) (sym e) (zip-same (KeepsCell path) (kept-cell path) xs)

  -- what is below cells depends on their numbers alone
  flat-numbers : (f : ℕ → List ℕ) (cells : List (Cell D)) → flat_map (λ c. f (key_of c)) cells ≡ flat_map (λ n. f (unsigned_abs n)) (numbers cells)
  flat-numbers f [] = refl
  flat-numbers f (c ∷ cs) = ap (λ xs. f (key_of c) ++ xs) (flat-numbers f cs)

  flat-agree : (f g : ℕ → List ℕ) (cells : List (Cell D)) → All (λ c. f (key_of c) ≡ g (key_of c)) cells → flat_map (λ c. f (key_of c)) cells ≡ flat_map (λ c. g (key_of c)) cells
  flat-agree f g [] all = refl
  flat-agree f g (c ∷ cs) all =
      ap (λ xs. xs ++ flat_map (λ c. f (key_of c)) cs) (All-head (λ x. f (key_of x) ≡ g (key_of x)) c cs all)
      ∙ ap (λ xs. g (key_of c) ++ xs) (flat-agree f g cs (All-tail (λ x. f (key_of x) ≡ g (key_of x)) c cs all))

  module _ (named : ℕ → ℤ) (path : List ℕ) (l : ℕ) where
    cells-kept : (xs ys : List (Cell D)) → numbers ys ≡ numbers xs →
        ((at : ℕ) (d : Cell D) → (Contains path (key_of (get_or xs at d)) → ⊥) → get_or ys at d ≡ get_or xs at d) →
        AllZip (KeepsCell (map named path)) (map (cell_row named (suc l)) xs) (map (cell_row named (suc l)) ys)
    cells-kept [] [] e h = tt
    cells-kept [] (y ∷ ys) e h = cc
    cells-kept (x ∷ xs) [] e h = cc
    cells-kept (x ∷ xs) (y ∷ ys) e h =
        let first : y.number ≡ x.number = cc in
        let rest : numbers ys ≡ numbers xs = cc in (
          record {
            number = ap (λ n. named (unsigned_abs n)) first;
            box = λ off. ap (cell_row named (suc l)) (h 0 x (λ on. off (contains-map named path (key_of x) on)));
          },
          cells-kept xs ys rest (λ at d. h (suc at) d),
        )

  module _ (t u : Arena D) (s : IsSettled t) (root : u.root ≡ t.root) (height : u.level ≡ t.level) (leaf : ℕ) (path : List ℕ)
      (low : level_at t.nodes leaf ≡ Some 0) (level : level_at u.nodes leaf ≡ level_at t.nodes leaf) (parent : parent_at u.nodes leaf ≡ parent_at t.nodes leaf)
      (others : (k : ℕ) → k ≢ leaf → KeepsShape t.nodes u.nodes path k) where
    levels : (k : ℕ) → level_at u.nodes k ≡ level_at t.nodes k
    levels k = elim (cases_eq k leaf) [
      | inl e ↦ ap (level_at u.nodes) e ∙ level ∙ sym (ap (level_at t.nodes) e)
      | inr ne ↦ (others k ne).level
    ]

    parents : (k : ℕ) → parent_at u.nodes k ≡ parent_at t.nodes k
    parents k = elim (cases_eq k leaf) [
      | inl e ↦ ap (parent_at u.nodes) e ∙ parent ∙ sym (ap (parent_at t.nodes) e)
      | inr ne ↦ (others k ne).parent
    ]

    inner-other : (k l : ℕ) → level_at t.nodes k ≡ Some (suc l) → k ≢ leaf
    inner-other k l e same = let q : suc l ≡ 0 = same_Some (suc l) 0 (sym e ∙ ap (level_at t.nodes) same ∙ low) in absurd (omega arith)

    keys-same : (l k : ℕ) → level_at t.nodes k ≡ Some l → keys_in u.nodes l k ≡ keys_in t.nodes l k
    keys-same zero k e = refl
    keys-same (suc l) k e =
        let shape = others k (inner-other k l e) in
        ap (λ xs. k ∷ xs) (
        flat-numbers (keys_in u.nodes l) (cells_at u.nodes k)
        ∙ ap (flat_map (λ n. keys_in u.nodes l (unsigned_abs n))) shape.numbers_same
        ∙ sym (flat-numbers (keys_in u.nodes l) (cells_at t.nodes k))
        ∙ flat-agree (keys_in u.nodes l) (keys_in t.nodes l) (cells_at t.nodes k) (λ i d h. keys-same l (key_of (get_or (cells_at t.nodes k) i d)) (levels-below t s k l e i d h)))

    pub tree-same : tree_keys u ≡ tree_keys t
    tree-same = ap (λ r. keys_in u.nodes u.level r) root ∙ ap (λ l. keys_in u.nodes l t.root) height ∙ keys-same t.level t.root s.whole.linked.root_level

    abbrev at_key : Arena D → ℕ → NodeRow D
    at_key a k = node_row (number t) k (get a.nodes k)

    module _ (change : List (RawCell D) → List (RawCell D))
        (changed : map (cell_row (number t) 0) (cells_at u.nodes leaf) ≡ change (map (cell_row (number t) 0) (cells_at t.nodes leaf))) where
      level-is : (a : Arena D) (k l : ℕ) → level_at a.nodes k ≡ Some l → (at_key a k).level ≡ l
      level-is a k l e = ap (λ o. unwrap_or o 0) e

      cells-are : (a : Arena D) (k l : ℕ) → level_at a.nodes k ≡ Some l → (at_key a k).cells ≡ map (cell_row (number t) l) (cells_at a.nodes k)
      cells-are a k l e = ap (λ o. map (cell_row (number t) (unwrap_or o 0)) (cells_at a.nodes k)) e

      leaf-node : (k : ℕ) → k ≡ leaf → KeepsNode (map (number t) path) (record (at_key t k) { cells = change (at_key t k).cells }) (at_key u k)
      leaf-node k e =
          let here : level_at t.nodes k ≡ Some 0 = ap (level_at t.nodes) e ∙ low in
          let now : level_at u.nodes k ≡ Some 0 = levels k ∙ here in
          let moved : map (cell_row (number t) 0) (cells_at u.nodes k) ≡ change (map (cell_row (number t) 0) (cells_at t.nodes k)) =
          ap (λ j. map (cell_row (number t) 0) (cells_at u.nodes j)) e ∙ changed ∙ sym (ap (λ j. change (map (cell_row (number t) 0) (cells_at t.nodes j))) e) in
          let cells : (at_key u k).cells ≡ change (at_key t k).cells = cells-are u k 0 now ∙ moved ∙ sym (ap change (cells-are t k 0 here)) in
          record {
            number = refl;
            level = ap (λ o. unwrap_or o 0) (levels k);
            parent = ap (option_map (number t)) (parents k);
            rows = λ zero_level. cells;
            cells = kept-cells (map (number t) path) (change (at_key t k).cells) (at_key u k).cells cells;
          }

      other-node : (k l : ℕ) → k ≢ leaf → level_at t.nodes k ≡ Some l → KeepsNode (map (number t) path) (at_key t k) (at_key u k)
      other-node k zero ne e =
          let shape = others k ne in
          let now : level_at u.nodes k ≡ Some 0 = levels k ∙ e in
          let same : cells_at u.nodes k ≡ cells_at t.nodes k = sym (leaf-at_leaf u.nodes k now) ∙ shape.rows ∙ leaf-at_leaf t.nodes k e in
          let cells : (at_key u k).cells ≡ (at_key t k).cells = cells-are u k 0 now ∙ ap (map (cell_row (number t) 0)) same ∙ sym (cells-are t k 0 e) in
          record {
            number = refl;
            level = ap (λ o. unwrap_or o 0) (levels k);
            parent = ap (option_map (number t)) (parents k);
            rows = λ zero_level. cells;
            cells = kept-cells (map (number t) path) (at_key t k).cells (at_key u k).cells cells;
          }
      other-node k (suc l) ne e =
          let shape = others k ne in
          let now : level_at u.nodes k ≡ Some (suc l) = levels k ∙ e in
          let zip = cells-kept (number t) path l (cells_at t.nodes k) (cells_at u.nodes k) shape.numbers_same shape.boxes in
          record {
            number = refl;
            level = ap (λ o. unwrap_or o 0) (levels k);
            parent = ap (option_map (number t)) (parents k);
            rows = λ zero_level. let q : suc l ≡ 0 = sym (level-is t k (suc l) e) ∙ zero_level in absurd (omega arith);
            cells = subst (λ (xs : List (RawCell D)). AllZip (KeepsCell (map (number t) path)) xs (at_key u k).cells) (sym (cells-are t k (suc l) e))
                (subst (λ (ys : List (RawCell D)). AllZip (KeepsCell (map (number t) path)) (map (cell_row (number t) (suc l)) (cells_at t.nodes k)) ys) (sym (cells-are u k (suc l) now)) zip);
          }

      node-kept : (k : ℕ) → HasNode t s k → KeepsNode (map (number t) path) (with_cells (number t leaf) change (at_key t k)) (at_key u k)
      node-kept k (l, e) =
          let is = numbering t s in
          elim (cases_eq k leaf) [
            | inl q ↦
                let yes_leaf : int_eq (number t leaf) (number t k) ≡ true = (Decides-int_eq (number t leaf) (number t k)).1 (ap (number t) (sym q)) in
                subst (λ (b : Bool). KeepsNode (map (number t) path) (cond b (record (at_key t k) { cells = change (at_key t k).cells }) (at_key t k)) (at_key u k)) (sym yes_leaf) (leaf-node k q)
            | inr ne ↦ elim (cases_Bool (int_eq (number t leaf) (number t k))) [
              | inl q ↦ absurd (ne (is.apart leaf k (0, low) ((Decides-int_eq (number t leaf) (number t k)).0 q)))
              | inr q ↦
                  subst (λ (b : Bool). KeepsNode (map (number t) path) (cond b (record (at_key t k) { cells = change (at_key t k).cells }) (at_key t k)) (at_key u k)) (sym q)
                  (other-node k l ne e)
            ]
          ]

      pub changes-leaf : ChangesLeaf (outside t) (outside u) (number t leaf) (map (number t) path) change
      changes-leaf =
          let rows : List ℕ → List (NodeRow D) = λ ks. map (λ k. node_row (number_in ks) k (get u.nodes k)) ks in
          let nodes : (outside u).nodes ≡ map (at_key u) (tree_keys t) = ap rows tree-same in
          record {
            root = refl;
            nodes = subst (λ (ns : List (NodeRow D)). AllZip (KeepsNode (map (number t) path)) (map (with_cells (number t leaf) change) (outside t).nodes) ns) (sym nodes)
                (twice (with_cells (number t leaf) change) (at_key t) (tree_keys t)
                (zip-mapped (KeepsNode (map (number t) path)) (λ k. with_cells (number t leaf) change (at_key t k)) (at_key u) (HasNode t s) node-kept (tree_keys t) (listed-there t s)));
          }
        where
          twice : (f : NodeRow D → NodeRow D) (g : ℕ → NodeRow D) (ks : List ℕ) → AllZip (KeepsNode (map (number t) path)) (map (λ k. f (g k)) ks) (map (at_key u) ks) →
              AllZip (KeepsNode (map (number t) path)) (map f (map g ks)) (map (at_key u) ks)
          twice f g [] h = tt
          twice f g (k ∷ ks) h = (h.0, twice f g ks h.1)
