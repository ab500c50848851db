-- A walk in preorder: the nodes listed so far, and those that are due, the last key first.
use Rattle.std.proofs.Common.{◌≡◌, ℕ, zero, suc, ◌+◌, ◌-◌, ◌<◌, List, [], ◌∷◌, ◌++◌, length, map, reverse, get_or, take, Some, unwrap_or, append_assoc, append-nil, arith, refl, ap, sym, ◌∙◌, subst}
use Rattle.std.specs.List.{All, flat_map}
use Rattle.std.proofs.lemmas.List.{reverse-append, reverse-reverse, length-reverse, length-map, get_or-reverse, get_or-map, take_more}
use Rattle.std.proofs.lemmas.List.Concat.{flat_map-append}
use Rattle.std.proofs.lemmas.List.Elements.{All-nil, All-cons, All-head, All-tail, All-append, All-push, All-weaker}
use Rattle.slab.specs.Slab.{Slab, ContainsKey}
use Rattle.rt_tree_node.specs.declared.arena.Arena.{Arena}
use Rattle.rt_tree_node.specs.declared.cell.Cell.{Cell}
use Rattle.rt_tree_node.specs.Node.{NodeCells}
use Rattle.rt_tree_node.specs.Places.{key_of, cells_at, inner_cells_at, level_at}
use Rattle.rt_tree_node.specs.Sound.{NamesChild}
use Rattle.rt_tree_node.proofs.Places.{inner-at_inner, inner-at_leaf}
use Rattle.rt_tree_node.proofs.Links.{All-left, All-right}
use Rattle.rt_tree_walk.specs.Preorder.{keys_in, tree_keys}
use Rattle.rt_tree_walk.proofs.Progress.{IsSettled, settled-linked, level-some}

reversed-all : {X : Type 0} (P : X → Type 0) (xs : List X) → All P xs → All P (reverse xs)
reversed-all P [] all = all
reversed-all P (x ∷ xs) all =
    subst (All P) (sym (reverse-append (x ∷ []) xs))
    (All-push P (reverse xs) x (reversed-all P xs (All-tail P x xs all)) (All-head P x xs all))

module _ {D : ℕ} where
  -- the keys of the node at the key and of those below it
  pub below : Slab (NodeCells D) → ℕ → List ℕ
  below a key = keys_in a (unwrap_or (level_at a key) 0) key

  -- what is listed from here on
  pub due : Slab (NodeCells D) → List ℕ → List ℕ
  due a keys = flat_map (below a) (reverse keys)

  -- the key has a node
  pub HasLevel : Slab (NodeCells D) → ℕ → Type 0
  HasLevel a key = (l : ℕ) × (level_at a key ≡ Some l)

  pub record IsListing (t : Arena D) (order keys : List ℕ) : Type 0 where
    pub whole : order ++ due t.nodes keys ≡ tree_keys t
    pub levels : All (HasLevel t.nodes) keys

  below-at : (a : Slab (NodeCells D)) (l key : ℕ) → level_at a key ≡ Some l → below a key ≡ keys_in a l key
  unfolding below
  below-at a l key e = ap (λ o. keys_in a (unwrap_or o 0) key) e

  due-nil : (a : Slab (NodeCells D)) → due a [] ≡ []
  unfolding due
  due-nil a = refl

  due-push : (a : Slab (NodeCells D)) (keys : List ℕ) (key : ℕ) → due a (keys ++ key ∷ []) ≡ below a key ++ due a keys
  unfolding due
  due-push a keys key = ap (flat_map (below a)) (reverse-append keys (key ∷ []))

  due-reversed : (a : Slab (NodeCells D)) (keys more : List ℕ) → due a (keys ++ reverse more) ≡ flat_map (below a) more ++ due a keys
  unfolding due
  due-reversed a keys more =
      ap (flat_map (below a)) (reverse-append keys (reverse more) ∙ ap (λ xs. xs ++ reverse keys) (reverse-reverse more))
      ∙ flat_map-append (below a) more (reverse keys)

  below-children : (a : Slab (NodeCells D)) (l : ℕ) (cells : List (Cell D)) → All (λ c. level_at a (key_of c) ≡ Some l) cells →
      flat_map (below a) (map key_of cells) ≡ flat_map (λ c. keys_in a l (key_of c)) cells
  below-children a l [] all = refl
  below-children a l (c ∷ cs) all =
      ap (λ xs. xs ++ flat_map (below a) (map key_of cs)) (below-at a l (key_of c) (All-head (λ x. level_at a (key_of x) ≡ Some l) c cs all))
      ∙ ap (λ xs. keys_in a l (key_of c) ++ xs) (below-children a l cs (All-tail (λ x. level_at a (key_of x) ≡ Some l) c cs all))

  mapped-all : (P : ℕ → Type 0) (cells : List (Cell D)) → All (λ c. P (key_of c)) cells → All P (map key_of cells)
  mapped-all P [] all = All-nil P
  mapped-all P (c ∷ cs) all = All-cons P (key_of c) (map key_of cs) (All-head (λ x. P (key_of x)) c cs all) (mapped-all P cs (All-tail (λ x. P (key_of x)) c cs all))

  -- one more of a node's children, from the last on
  pub pushed-more : (cells : List (Cell D)) (back at : ℕ) (c : Cell D) (old keys keys1 : List ℕ) → keys ≡ old ++ take back (reverse (map key_of cells)) →
      back < length cells → at ≡ length cells - 1 - back → c ≡ get_or cells at c → keys1 ≡ keys ++ key_of c ∷ [] →
      keys1 ≡ old ++ take (back + 1) (reverse (map key_of cells))
  pushed-more cells back at c old keys keys1 so h e f g =
      let xs = map key_of cells in
      let long : length (reverse xs) ≡ length cells = length-reverse xs ∙ length-map cells key_of in
      let read : get_or (reverse xs) back 0 ≡ key_of c =
      get_or-reverse xs back 0 (omega (arith, length-map cells key_of))
      ∙ ap (λ n. get_or xs n 0) (omega (arith, length-map cells key_of, e)) ∙ get_or-map key_of cells at c 0 (omega arith) ∙ ap key_of (sym f) in
      let more : take (back + 1) (reverse xs) ≡ take back (reverse xs) ++ key_of c ∷ [] =
      take_more (reverse xs) back 0 (omega (arith, long)) ∙ ap (λ x. take back (reverse xs) ++ x ∷ []) read in
      g ∙ ap (λ ks. ks ++ key_of c ∷ []) so ∙ append_assoc old (take back (reverse xs)) (key_of c ∷ []) ∙ ap (λ ys. old ++ ys) (sym more)

  -- the children of a node, with their levels
  children-level : (t : Arena D) → IsSettled t → (key l : ℕ) → level_at t.nodes key ≡ Some (suc l) → All (λ c. level_at t.nodes (key_of c) ≡ Some l) (cells_at t.nodes key)
  children-level t s key l e = let linked = settled-linked t s in
      All-weaker (NamesChild t.nodes l key) (λ c. level_at t.nodes (key_of c) ≡ Some l) (λ c is. is.names.level_is) (cells_at t.nodes key) (linked.children key l e)

  -- a node's keys begin with its own
  pub below-next : (t : Arena D) → IsSettled t → (key l : ℕ) → level_at t.nodes key ≡ Some l →
      below t.nodes key ≡ key ∷ flat_map (below t.nodes) (map key_of (inner_cells_at t.nodes key))
  below-next t s key zero e =
      below-at t.nodes 0 key e ∙ ap (λ cells. key ∷ flat_map (below t.nodes) (map key_of cells)) (sym (inner-at_leaf t.nodes key e))
  below-next t s key (suc l) e =
      below-at t.nodes (suc l) key e
      ∙ ap (λ xs. key ∷ xs) (sym (below-children t.nodes l (cells_at t.nodes key) (children-level t s key l e)))
      ∙ ap (λ cells. key ∷ flat_map (below t.nodes) (map key_of cells)) (sym (inner-at_inner t.nodes key l e))

  inner-levels : (t : Arena D) → IsSettled t → (key l : ℕ) → level_at t.nodes key ≡ Some l → All (λ c. HasLevel t.nodes (key_of c)) (inner_cells_at t.nodes key)
  unfolding HasLevel
  inner-levels t s key zero e = subst (All (λ c. HasLevel t.nodes (key_of c))) (sym (inner-at_leaf t.nodes key e)) (All-nil (λ c. HasLevel t.nodes (key_of c)))
  inner-levels t s key (suc l) e =
      subst (All (λ c. HasLevel t.nodes (key_of c))) (sym (inner-at_inner t.nodes key l e))
      (All-weaker (λ c. level_at t.nodes (key_of c) ≡ Some l) (λ c. HasLevel t.nodes (key_of c)) (λ c is. (l, is)) (cells_at t.nodes key) (children-level t s key l e))

  pub IsListing-start : (t : Arena D) → IsSettled t → (order keys : List ℕ) → order ≡ [] → keys ≡ t.root ∷ [] → IsListing t order keys
  unfolding HasLevel due
  IsListing-start t s order keys e f = let linked = settled-linked t s in
      subst (λ (os : List ℕ). IsListing t os keys) (sym e) (subst (λ (ks : List ℕ). IsListing t [] ks) (sym f) (record {
        whole = append-nil (below t.nodes t.root) ∙ below-at t.nodes t.level t.root linked.root_level;
        levels = All-cons (HasLevel t.nodes) t.root [] (t.level, linked.root_level) (All-nil (HasLevel t.nodes));
      }))

  module _ (t : Arena D) (s : IsSettled t) (order keys rest : List ℕ) (key : ℕ) (so : IsListing t order keys) (e : keys ≡ rest ++ key ∷ []) where
    pub listing-levels : All (HasLevel t.nodes) (rest ++ key ∷ [])
    listing-levels = subst (All (HasLevel t.nodes)) e so.levels

    pub listing-level : HasLevel t.nodes key
    listing-level = All-head (HasLevel t.nodes) key [] (All-right (HasLevel t.nodes) rest (key ∷ []) listing-levels)

    pub listing-there : ContainsKey t.nodes key
    unfolding HasLevel
    listing-there = level-some t.nodes key listing-level.0 listing-level.1

    module _ (order1 keys1 : List ℕ) (f : order1 ≡ order ++ key ∷ []) (h : keys1 ≡ rest ++ reverse (map key_of (inner_cells_at t.nodes key))) where
      due-more : due t.nodes keys ≡ key ∷ due t.nodes keys1
      unfolding HasLevel
      due-more =
          ap (due t.nodes) e ∙ due-push t.nodes rest key
          ∙ ap (λ xs. xs ++ due t.nodes rest) (below-next t s key listing-level.0 listing-level.1)
          ∙ ap (λ xs. key ∷ xs) (sym (due-reversed t.nodes rest (map key_of (inner_cells_at t.nodes key))))
          ∙ ap (λ ks. key ∷ due t.nodes ks) (sym h)

      pub due-less : length (due t.nodes keys1) < length (due t.nodes keys)
      due-less = let l = ap length due-more in omega arith

      pub IsListing-step : IsListing t order1 keys1
      unfolding HasLevel
      IsListing-step = record {
        whole = ap (λ xs. xs ++ due t.nodes keys1) f ∙ append_assoc order (key ∷ []) (due t.nodes keys1)
            ∙ ap (λ xs. order ++ xs) (sym due-more) ∙ so.whole;
        levels = subst (All (HasLevel t.nodes)) (sym h)
            (All-append (HasLevel t.nodes) rest (reverse (map key_of (inner_cells_at t.nodes key))) (All-left (HasLevel t.nodes) rest (key ∷ []) listing-levels)
            (reversed-all (HasLevel t.nodes) (map key_of (inner_cells_at t.nodes key))
            (mapped-all (HasLevel t.nodes) (inner_cells_at t.nodes key) (inner-levels t s key listing-level.0 listing-level.1))));
      }

  pub IsListing-end : (t : Arena D) (order keys : List ℕ) → keys ≡ [] → IsListing t order keys → order ≡ tree_keys t
  IsListing-end t order keys e so =
      sym (append-nil order) ∙ ap (λ xs. order ++ xs) (sym (due-nil t.nodes) ∙ ap (due t.nodes) (sym e)) ∙ so.whole
