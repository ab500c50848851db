-- Where the keys of a subtree stand in the list of all keys.
use Rattle.std.proofs.Common.{◌≡◌, ◌≢◌, ℕ, zero, suc, ◌+◌, ◌<◌, ℤ, pos, List, [], ◌∷◌, ◌++◌, length, map, get_or, take, drop, Some, append_assoc, append-nil, length-append, arith, refl, ap, sym, ◌∙◌, subst, inl, inr}
use Rattle.std.specs.List.{All, flat_map, sum_by}
use Rattle.std.specs.Option.{option_map_or}
use Rattle.std.proofs.lemmas.Bool.{cases_eq, cases_lt}
use Rattle.std.proofs.lemmas.Option.{same_Some}
use Rattle.std.proofs.lemmas.List.{take-append-drop, drop_more, length-take, get_or-map, length-map}
use Rattle.std.proofs.lemmas.List.Elements.{All-head, All-tail}
use Rattle.std.proofs.lemmas.List.Sums.{sum_by-cons}
use Rattle.slab.specs.Slab.{Slab}
use Rattle.rt_check.specs.declared.node.NodeRow.{NodeRow}
use Rattle.rt_check.specs.declared.node.RawCell.{RawCell}
use Rattle.rt_tree_node.specs.declared.arena.Arena.{Arena}
use Rattle.rt_tree_node.specs.declared.cell.Cell.{Cell}
use Rattle.rt_tree_node.specs.Node.{NodeCells}
use Rattle.rt_tree_node.specs.Places.{key_of, cells_at, level_at}
use Rattle.rt_tree_walk.specs.Search.{times}
use Rattle.rt_tree_walk.specs.Preorder.{keys_in, tree_keys, number_in}
use Rattle.rt_tree_outside.specs.Outside.{cell_row, outside}
use Rattle.rt_tree_outside.specs.InOrder.{cells_of_number, nodes_in, AreInOrder, IsPreorder}
use Rattle.rt_tree_walk.proofs.Totals.{times-append, times-one, times-other, times-cons, times-is}
use Rattle.rt_tree_outside.proofs.Numbering.{place, place-here, place-later}
use Rattle.rt_tree_walk.proofs.Progress.{IsSettled}
use Rattle.rt_tree_walk.proofs.Listed.{HasNode, listed-there, listed-once, levels-below}
use Rattle.rt_tree_outside.proofs.Judged.{IsNumbering, row, looked-up, row-cells, row-level}
use Rattle.rt_tree_outside.proofs.Flawless.{numbering}

-- ---- the place of a key
place-front : (key : ℕ) (front rest : List ℕ) → times key front ≡ 0 → place (front ++ key ∷ rest) key ≡ length front
place-front key [] rest none = place-here key key rest refl
place-front key (x ∷ front) rest none =
    let ne : x ≢ key = λ e. let one = times-one key x e in absurd (omega (arith, one, none, times-cons key x front)) in
    omega (arith, place-later x key (front ++ key ∷ rest) ne, place-front key front rest (omega (arith, none, times-cons key x front)))

pub place-after : (keys : List ℕ) (key : ℕ) (front rest : List ℕ) → keys ≡ front ++ key ∷ rest → times key keys ≡ 1 → place keys key ≡ length front
place-after keys key front rest e one =
    let counted = ap (times key) e ∙ times-append key front (key ∷ rest) in
    ap (λ ks. place ks key) e ∙ place-front key front rest (omega (arith, counted, one, times-cons key key rest, times-one key key refl))

pub split-at : (keys : List ℕ) (at : ℕ) → at < length keys → keys ≡ take at keys ++ get_or keys at 0 ∷ drop (at + 1) keys
split-at keys at h = sym (take-append-drop at keys) ∙ ap (λ xs. take at keys ++ xs) (drop_more keys at 0 h)

-- ---- where a subtree stands in another
module _ {D : ℕ} (a : Slab (NodeCells D)) where
  abbrev keys_below : ℕ → List (Cell D) → List ℕ
  keys_below l cells = flat_map (λ c. keys_in a l (key_of c)) cells

  -- the keys, what comes before them, and what comes after
  record Stands (part whole : List ℕ) : Type 0 where
    front : List ℕ
    rest : List ℕ
    is : whole ≡ front ++ (part ++ rest)

  stands-first : (part more whole : List ℕ) → Stands part whole → Stands part (whole ++ more)
  stands-first part more whole h = record {
    front = h.front;
    rest = h.rest ++ more;
    is = ap (λ xs. xs ++ more) h.is ∙ append_assoc h.front (part ++ h.rest) more ∙ ap (λ xs. h.front ++ xs) (append_assoc part h.rest more);
  }

  stands-later : (part before whole : List ℕ) → Stands part whole → Stands part (before ++ whole)
  stands-later part before whole h = record {
    front = before ++ h.front;
    rest = h.rest;
    is = ap (λ xs. before ++ xs) h.is ∙ sym (append_assoc before h.front (part ++ h.rest));
  }

  stands-itself : (part : List ℕ) → Stands part part
  stands-itself part = record { front = []; rest = []; is = sym (append-nil part) }

  module _ (k lk : ℕ) (at : level_at a k ≡ Some lk) where
    stands-cells : (l : ℕ) → ((j : ℕ) → level_at a j ≡ Some l → 0 < times k (keys_in a l j) → Stands (keys_in a lk k) (keys_in a l j)) →
        (cells : List (Cell D)) → All (λ c. level_at a (key_of c) ≡ Some l) cells → 0 < times k (keys_below l cells) → Stands (keys_in a lk k) (keys_below l cells)
    stands-cells l by [] all some = absurd (omega arith)
    stands-cells l by (c ∷ cs) all some = elim (cases_lt 0 (times k (keys_in a l (key_of c)))) [
      | inl here ↦ stands-first (keys_in a lk k) (keys_below l cs) (keys_in a l (key_of c)) (by (key_of c) (All-head (λ x. level_at a (key_of x) ≡ Some l) c cs all) here)
      | inr none ↦
          stands-later (keys_in a lk k) (keys_in a l (key_of c)) (keys_below l cs)
          (stands-cells l by cs (All-tail (λ x. level_at a (key_of x) ≡ Some l) c cs all) (omega (arith, some, none, times-append k (keys_in a l (key_of c)) (keys_below l cs))))
    ]

    stands-here : (l j : ℕ) → level_at a j ≡ Some l → j ≡ k → Stands (keys_in a lk k) (keys_in a l j)
    stands-here l j e q =
        let levels : l ≡ lk = same_Some l lk (sym e ∙ ap (level_at a) q ∙ at) in
        subst (λ (xs : List ℕ). Stands (keys_in a lk k) xs) (sym (ap (λ m. keys_in a m j) levels ∙ ap (keys_in a lk) q)) (stands-itself (keys_in a lk k))

    stands-in : ((j l : ℕ) → level_at a j ≡ Some (suc l) → All (λ c. level_at a (key_of c) ≡ Some l) (cells_at a j)) →
        (l j : ℕ) → level_at a j ≡ Some l → 0 < times k (keys_in a l j) → Stands (keys_in a lk k) (keys_in a l j)
    stands-in levels zero j e some = stands-here zero j e (times-is k j some)
    stands-in levels (suc l) j e some = elim (cases_eq j k) [
      | inl q ↦ stands-here (suc l) j e q
      | inr ne ↦
          stands-later (keys_in a lk k) (j ∷ []) (keys_below l (cells_at a j))
          (stands-cells l (stands-in levels l) (cells_at a j) (levels j l e) (omega (arith, some, times-cons k j (keys_below l (cells_at a j)), times-other k j ne)))
    ]

-- ---- the numbers of a subtree's nodes
module _ {D : ℕ} (t : Arena D) (s : IsSettled t) where
  keys : List ℕ
  keys = tree_keys t

  module _ (ks : List ℕ) (number : ℕ → ℤ) (is : IsNumbering t s ks number) (placed : (k : ℕ) (front rest : List ℕ) → HasNode t s k → ks ≡ front ++ k ∷ rest → number k ≡ pos (length front + 1)) where
    sized-cells : (l : ℕ) → ((k : ℕ) → level_at t.nodes k ≡ Some l → nodes_in (map (row t s ks number is) ks) l (number k) ≡ length (keys_in t.nodes l k)) →
        (cells : List (Cell D)) → All (λ c. level_at t.nodes (key_of c) ≡ Some l) cells →
        sum_by (λ c. nodes_in (map (row t s ks number is) ks) l c.number) (map (cell_row number (suc l)) cells) ≡ length (flat_map (λ c. keys_in t.nodes l (key_of c)) cells)
    sized-cells l by [] all = refl
    sized-cells l by (c ∷ cs) all =
        omega (
          arith,
          sum_by-cons (λ c. nodes_in (map (row t s ks number is) ks) l c.number) (cell_row number (suc l) c) (map (cell_row number (suc l)) cs),
          by (key_of c) (All-head (λ x. level_at t.nodes (key_of x) ≡ Some l) c cs all),
          sized-cells l by cs (All-tail (λ x. level_at t.nodes (key_of x) ≡ Some l) c cs all),
          length-append (keys_in t.nodes l (key_of c)) (flat_map (λ c. keys_in t.nodes l (key_of c)) cs),
        )

    -- a subtree has as many nodes as keys
    sized : (l k : ℕ) → level_at t.nodes k ≡ Some l → nodes_in (map (row t s ks number is) ks) l (number k) ≡ length (keys_in t.nodes l k)
    sized zero k e = refl
    sized (suc l) k e =
        let cells : cells_of_number (map (row t s ks number is) ks) (number k) ≡ map (cell_row number (suc l)) (cells_at t.nodes k) =
        ap (λ o. option_map_or (λ (n : NodeRow D). n.cells) o []) (looked-up t s ks number is k (suc l) e) ∙ row-cells t s ks number is k (suc l) e in
        let counted = ap (sum_by (λ c. nodes_in (map (row t s ks number is) ks) l c.number)) cells in
        omega (arith, counted, sized-cells l (sized l) (cells_at t.nodes k) (levels-below t s k l e))

    first-key : (l k : ℕ) → (more : List ℕ) × (keys_in t.nodes l k ≡ k ∷ more)
    first-key zero k = ([], refl)
    first-key (suc l) k = (flat_map (λ c. keys_in t.nodes l (key_of c)) (cells_at t.nodes k), refl)

    ordered : (l : ℕ) (cells : List (Cell D)) → All (λ c. level_at t.nodes (key_of c) ≡ Some l) cells → (front rest : List ℕ) →
        ks ≡ front ++ (flat_map (λ c. keys_in t.nodes l (key_of c)) cells ++ rest) → (place : ℕ) → place ≡ length front + 1 →
        AreInOrder (map (row t s ks number is) ks) l place (map (cell_row number (suc l)) cells)
    ordered l [] all front rest e place p = tt
    ordered l (c ∷ cs) all front rest e place p =
        let here : level_at t.nodes (key_of c) ≡ Some l = All-head (λ x. level_at t.nodes (key_of x) ≡ Some l) c cs all in
        let mine = keys_in t.nodes l (key_of c) in
        let others = flat_map (λ c. keys_in t.nodes l (key_of c)) cs in
        let head = first-key l (key_of c) in
        let apart : ks ≡ front ++ (mine ++ (others ++ rest)) = e ∙ ap (λ xs. front ++ xs) (append_assoc mine others rest) in
        let first : ks ≡ front ++ key_of c ∷ (head.0 ++ (others ++ rest)) = apart ∙ ap (λ xs. front ++ (xs ++ (others ++ rest))) head.1 in
        let moved : ks ≡ (front ++ mine) ++ (others ++ rest) = apart ∙ sym (append_assoc front mine (others ++ rest)) in (
          placed (key_of c) front (head.0 ++ (others ++ rest)) (l, here) first ∙ ap pos (sym p),
          ordered l cs (All-tail (λ x. level_at t.nodes (key_of x) ≡ Some l) c cs all) (front ++ mine) rest moved (place + nodes_in (map (row t s ks number is) ks) l (number (key_of c)))
              (omega (arith, p, length-append front mine, sized l (key_of c) here)),
        )

  place-is : (k : ℕ) (front rest : List ℕ) → HasNode t s k → tree_keys t ≡ front ++ k ∷ rest → number_in (tree_keys t) k ≡ pos (length front + 1)
  place-is k front rest h e = ap (λ n. pos (n + 1)) (place-after (tree_keys t) k front rest e (listed-once t s k h.0 h.1))

  -- the node listed at a place
  at-place : (at : ℕ) → at < length (tree_keys t) → HasNode t s (get_or (tree_keys t) at 0)
  at-place at h = listed-there t s at 0 h

  number-at : (at : ℕ) → at < length (tree_keys t) → number_in (tree_keys t) (get_or (tree_keys t) at 0) ≡ pos (at + 1)
  number-at at h =
      place-is (get_or (tree_keys t) at 0) (take at (tree_keys t)) (drop (at + 1) (tree_keys t)) (at-place at h) (split-at (tree_keys t) at h)
      ∙ ap pos (omega (arith, h, length-take at (tree_keys t)))

  abbrev numbers : ℕ → ℤ
  numbers = number_in (tree_keys t)

  followed-at : (at l : ℕ) → at < length (tree_keys t) → level_at t.nodes (get_or (tree_keys t) at 0) ≡ Some (suc l) →
      AreInOrder (map (row t s (tree_keys t) numbers (numbering t s)) (tree_keys t)) l (at + 2) (map (cell_row numbers (suc l)) (cells_at t.nodes (get_or (tree_keys t) at 0)))
  followed-at at l h e =
      let k = get_or (tree_keys t) at 0 in
      let stands = stands-in t.nodes k (suc l) e (levels-below t s) t.level t.root top (omega (arith, listed-once t s k (suc l) e)) in
      let first : tree_keys t ≡ stands.front ++ k ∷ (flat_map (λ c. keys_in t.nodes l (key_of c)) (cells_at t.nodes k) ++ stands.rest) = stands.is in
      let next : tree_keys t ≡ (stands.front ++ k ∷ []) ++ (flat_map (λ c. keys_in t.nodes l (key_of c)) (cells_at t.nodes k) ++ stands.rest) =
      first ∙ sym (append_assoc stands.front (k ∷ []) (flat_map (λ c. keys_in t.nodes l (key_of c)) (cells_at t.nodes k) ++ stands.rest)) in
      let one = place-after (tree_keys t) k stands.front (flat_map (λ c. keys_in t.nodes l (key_of c)) (cells_at t.nodes k) ++ stands.rest) first (listed-once t s k (suc l) e) in
      let two = place-after (tree_keys t) k (take at (tree_keys t)) (drop (at + 1) (tree_keys t)) (split-at (tree_keys t) at h) (listed-once t s k (suc l) e) in
      ordered (tree_keys t) numbers (numbering t s) place-is l (cells_at t.nodes k) (levels-below t s k l e) (stands.front ++ k ∷ []) stands.rest next (at + 2)
      (omega (arith, h, one, two, length-take at (tree_keys t), length-append stands.front (k ∷ [])))
    where
      top : level_at t.nodes t.root ≡ Some t.level
      top = s.whole.linked.root_level

  -- the nodes of a tree from outside are listed in preorder
  pub outside-ordered : IsPreorder (outside t)
  outside-ordered = record {
    root_first = refl;
    numbered = λ at d h.
        let within : at < length (tree_keys t) = omega (arith, h, length-map (tree_keys t) (row t s (tree_keys t) numbers (numbering t s))) in
        ap (λ (n : NodeRow D). n.number) (get_or-map (row t s (tree_keys t) numbers (numbering t s)) (tree_keys t) at 0 d within) ∙ number-at at within;
    followed = λ at l d h high.
        let within : at < length (tree_keys t) = omega (arith, h, length-map (tree_keys t) (row t s (tree_keys t) numbers (numbering t s))) in
        let k = get_or (tree_keys t) at 0 in
        let read = get_or-map (row t s (tree_keys t) numbers (numbering t s)) (tree_keys t) at 0 d within in
        let node = at-place at within in
        let levels : node.0 ≡ suc l = sym (row-level t s (tree_keys t) numbers (numbering t s) k node.0 node.1) ∙ sym (ap (λ (n : NodeRow D). n.level) read) ∙ high in
        let e : level_at t.nodes k ≡ Some (suc l) = node.1 ∙ ap Some levels in
        subst (λ (cs : List (RawCell D)). AreInOrder (map (row t s (tree_keys t) numbers (numbering t s)) (tree_keys t)) l (at + 2) cs)
        (sym (ap (λ (n : NodeRow D). n.cells) read ∙ row-cells t s (tree_keys t) numbers (numbering t s) k (suc l) e))
        (followed-at at l within e);
  }
