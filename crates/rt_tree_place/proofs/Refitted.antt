-- An arena after a cell was given the least box: the node that it names is in shape, and its parent may be odd.
use Rattle.std.proofs.Common.{◌≡◌, ◌≢◌, ◌⊎◌, ℕ, zero, suc, ◌<◌, ◌≤◌, cond, unsigned_abs, List, [], ◌∷◌, length, get_or, set, Some, nat_eq, eq-eqb, arith, refl, ap, ◌∙◌, sym, subst, inl, inr}
use Rattle.std.specs.List.{All}
use Rattle.std.proofs.lemmas.Bool.{cases_eq, cases_order}
use Rattle.std.proofs.lemmas.Option.{same_Some}
use Rattle.std.proofs.lemmas.List.{get_or_default, length-set, get_or-set_same, get_or-set_other}
use Rattle.std.proofs.lemmas.List.Elements.{All-set}
use Rattle.slab.specs.Slab.{Slab, get, Updates}
use Rattle.rt_box.specs.Capacity.{least_fill}
use Rattle.rt_box.specs.Rect.{IsBox}
use Rattle.rt_box.specs.Hull.{hull}
use Rattle.rt_tree_node.specs.declared.cell.Cell.{Cell}
use Rattle.rt_tree_node.specs.declared.cell.Pending.{Pending}
use Rattle.rt_tree_node.specs.Node.{NodeCells}
use Rattle.rt_tree_node.specs.Places.{key_of, rects, times_named, cells_of, level_of, inner_part, cells_at, level_at, parent_at, hull_at, pending_nodes}
use Rattle.rt_tree_node.specs.Sound.{IsLinked, IsFitted}
use Rattle.rt_tree_node.specs.Open.{IsFittedBut}
use Rattle.rt_tree_node.proofs.Counts.{count-some, count-cons}
use Rattle.rt_tree_node.proofs.Places.{inner-at_inner, names_key, named-one, nodes-middle}
use Rattle.rt_tree_node.proofs.Links.{same-at, above-some}
use Rattle.rt_tree_place.specs.Steps.{Refits}

module _ {D : ℕ} where
  -- two cells that name a key are counted twice
  pub named-twice : (key : ℕ) (cs : List (Cell D)) (i j : ℕ) (d : Cell D) → i < j → j < length cs →
      key_of (get_or cs i d) ≡ key → key_of (get_or cs j d) ≡ key → 2 ≤ times_named key cs
  named-twice key [] i j d below within e f = absurd (omega arith)
  named-twice key (c ∷ cs) zero zero d below within e f = absurd (omega arith)
  named-twice key (c ∷ cs) zero (suc j) d below within e f =
      let here : ◌≡◌ {A = ℕ} (cond (nat_eq (key_of c) key) 1 0) 1 = ap (λ b. cond b 1 0) (eq-eqb _ _ e) in
      omega (arith, here, count-cons (names_key key) c cs, count-some (names_key key) cs j d (omega arith) (eq-eqb _ _ f))
  named-twice key (c ∷ cs) (suc i) zero d below within e f = absurd (omega arith)
  named-twice key (c ∷ cs) (suc i) (suc j) d below within e f =
      omega (arith, count-cons (names_key key) c cs, named-twice key cs i j d (omega arith) (omega arith) e f)

  pub named-at_once : (key : ℕ) (cs : List (Cell D)) (i j : ℕ) (d : Cell D) → i < length cs → j < length cs → times_named key cs ≤ 1 →
      key_of (get_or cs i d) ≡ key → key_of (get_or cs j d) ≡ key → i ≡ j
  named-at_once key cs i j d in_i in_j once e f = elim (cases_order i j) [
    | inl same ↦ same
    | inr (inl below) ↦ let twice = named-twice key cs i j d below in_j e f in absurd (omega arith)
    | inr (inr above) ↦ let twice = named-twice key cs j i d above in_i f e in absurd (omega arith)
  ]

  -- what no pending cell names is none of theirs
  pub waits-free : (ws : List (Pending D)) (x : ℕ) → times_named x (pending_nodes ws) ≡ 0 → (j : ℕ) (d : Pending D) → j < length ws →
      (i : ℕ) → (get_or ws j d).level ≡ suc i → key_of (get_or ws j d).cell ≡ x → ⊥
  waits-free [] x none j d within i e same = absurd (omega arith)
  waits-free (w ∷ ws) x none zero d within i e same =
      let step = nodes-middle (names_key x) [] w ws in
      let one = named-one x w.cell same in
      let part = ap (λ t. times_named x (inner_part t (w.cell ∷ []))) e in
      omega arith
  waits-free (w ∷ ws) x none (suc j) d within i e same =
      let step = nodes-middle (names_key x) [] w ws in
      waits-free ws x (omega arith) j d (omega arith) i e same

  module _ (M : ℕ) (a b : Slab (NodeCells D)) (root level : ℕ) (ws : List (Pending D)) (key parent l : ℕ) (n : NodeCells D)
      (linked : IsLinked a root level ws) (fitted : IsFittedBut (λ x. (x ≡ key) ⊎ (x ≡ parent)) M a root ws)
      (has : get a parent ≡ Some n) (parent_level : level_at a parent ≡ Some (suc l)) (key_level : level_at a key ≡ Some l)
      (up : parent_at a key ≡ Some parent) (not_root : key ≢ root)
      (key_least : least_fill M ≤ length (cells_at a key)) (key_most : length (cells_at a key) ≤ M) (key_some : 1 ≤ length (cells_at a key))
      (parent_waits_not : times_named parent (pending_nodes ws) ≡ 0) (key_waits_not : times_named key (pending_nodes ws) ≡ 0)
      (done : Refits a b key parent n) where
    u : Updates a b parent (Some (record n { cells = set n.cells done.at done.cell }))
    u = done.nodes.updates

    lv : (x : ℕ) → level_at b x ≡ level_at a x
    lv = same-at level_of a b parent n (record n { cells = set n.cells done.at done.cell }) has u refl

    apart : key ≢ parent
    apart e = let same = same_Some l (suc l) (sym key_level ∙ ap (level_at a) e ∙ parent_level) in omega arith

    -- the parent names the node once
    once : times_named key n.cells ≤ 1
    once =
        let one = linked.named key l key_level not_root in
        let above = ap (times_named key) (above-some a key parent up ∙ inner-at_inner a parent l parent_level ∙ ap cells_of has) in
        omega arith

    key_is : key_of done.cell ≡ key
    key_is = ap unsigned_abs done.number_is

    pub refitted-fitted : (parent_some : 1 ≤ length n.cells) → IsFitted M b root ws (Some parent)
    refitted-fitted parent_some =
        let no-odd : (x : ℕ) → x ≢ key → x ≢ parent → (x ≡ key) ⊎ (x ≡ parent) → ⊥ = λ x p q odd. elim odd [ inl e ↦ p e | inr e ↦ q e ] in
        let cells_key : cells_at b key ≡ cells_at a key = ap cells_of (u.others key apart) in
        let others : (x : ℕ) → x ≢ parent → cells_at b x ≡ cells_at a x = λ x q. ap cells_of (u.others x q) in
        let hull_same : (x : ℕ) → x ≢ parent → hull_at a x ≡ hull_at b x = λ x q. ap (λ cells. hull (rects cells)) (sym (others x q)) in
        record {
          cap = fitted.cap;
          some = λ x i e. elim (cases_eq x parent) [
            | inl here ↦ subst (λ y. 1 ≤ length (cells_at b y)) (sym here) (subst (λ cells. 1 ≤ length cells) (sym (ap cells_of u.changed))
                (omega (arith, length-set n.cells done.at done.cell, parent_some)))
            | inr q ↦ elim (cases_eq x key) [
              | inl here ↦ subst (λ y. 1 ≤ length (cells_at b y)) (sym here) (subst (λ cells. 1 ≤ length cells) (sym cells_key) key_some)
              | inr p ↦ subst (λ cells. 1 ≤ length cells) (sym (others x q)) (fitted.some x i (sym (lv x) ∙ e) (no-odd x p q))
            ]
          ];
          least = λ x i e not_top other.
              let q : x ≢ parent = λ same. other (ap Some (sym same)) in elim (cases_eq x key) [
                | inl here ↦ subst (λ y. least_fill M ≤ length (cells_at b y)) (sym here) (subst (λ cells. least_fill M ≤ length cells) (sym cells_key) key_least)
                | inr p ↦ subst (λ cells. least_fill M ≤ length cells) (sym (others x q)) (fitted.least x i (sym (lv x) ∙ e) not_top (no-odd x p q))
              ];
          most = λ x i e other.
              let q : x ≢ parent = λ same. other (ap Some (sym same)) in elim (cases_eq x key) [
                | inl here ↦ subst (λ y. length (cells_at b y) ≤ M) (sym here) (subst (λ cells. length cells ≤ M) (sym cells_key) key_most)
                | inr p ↦ subst (λ cells. length cells ≤ M) (sym (others x q)) (fitted.most x i (sym (lv x) ∙ e) (no-odd x p q))
              ];
          boxes = λ x. elim (cases_eq x parent) [
            | inl here ↦ subst (λ y. All (λ c. IsBox D c.rect) (cells_at b y)) (sym here) (subst (All (λ c. IsBox D c.rect)) (sym (ap cells_of u.changed))
                (All-set (λ c. IsBox D c.rect) n.cells done.at done.cell done.is_box (subst (All (λ c. IsBox D c.rect)) (ap cells_of has) (fitted.boxes parent))))
            | inr q ↦ subst (All (λ c. IsBox D c.rect)) (sym (others x q)) (fitted.boxes x)
          ];
          hulls = λ x i e.
              let old = fitted.hulls x i (sym (lv x) ∙ e) in
              elim (cases_eq x parent) [
                | inl here ↦ subst (λ y. All (λ c. Some parent ≢ Some (key_of c) → c.rect ≡ hull_at b (key_of c)) (cells_at b y)) (sym here)
                    (subst (All (λ c. Some parent ≢ Some (key_of c) → c.rect ≡ hull_at b (key_of c))) (sym (ap cells_of u.changed))
                    (λ j d within other. elim (cases_eq j done.at) [
                      | inl same ↦
                          let is : get_or (set n.cells done.at done.cell) j d ≡ done.cell = ap (λ t. get_or (set n.cells done.at done.cell) t d) same ∙ get_or-set_same n.cells done.at done.cell d done.within in
                          subst (λ c. c.rect ≡ hull_at b (key_of c)) (sym is) (done.rect_is ∙ hull_same key apart ∙ ap (hull_at b) (sym key_is))
                      | inr differs ↦
                          let is : get_or (set n.cells done.at done.cell) j d ≡ get_or n.cells j d = get_or-set_other n.cells done.at j done.cell d differs in
                          let in_cells : j < length n.cells = omega (arith, length-set n.cells done.at done.cell) in
                          let q : key_of (get_or n.cells j d) ≢ parent = λ same. other (ap Some (sym same) ∙ ap (λ c. Some (key_of c)) (sym is)) in
                          let named_at : key_of (get_or n.cells done.at d) ≡ key =
                          ap key_of (get_or_default n.cells done.at d done.cell done.within) ∙ ap unsigned_abs (sym done.same_number) ∙ key_is in
                          let p : key_of (get_or n.cells j d) ≢ key = λ same. differs (named-at_once key n.cells j done.at d in_cells done.within once same named_at) in
                          let old_cell : get_or (cells_at a x) j d ≡ get_or n.cells j d = ap (λ y. get_or (cells_at a y) j d) here ∙ ap (λ s. get_or (cells_of s) j d) has in
                          let before : (get_or n.cells j d).rect ≡ hull_at a (key_of (get_or n.cells j d)) =
                          subst (λ c. (((key_of c ≡ key) ⊎ (key_of c ≡ parent)) → ⊥) → c.rect ≡ hull_at a (key_of c)) old_cell
                          (old j d (omega (arith, ap (λ y. length (cells_at a y)) here, ap (λ s. length (cells_of s)) has))) (no-odd (key_of (get_or n.cells j d)) p q) in
                          subst (λ c. c.rect ≡ hull_at b (key_of c)) (sym is) (before ∙ hull_same (key_of (get_or n.cells j d)) q)
                    ]))
                | inr q ↦ subst (All (λ c. Some parent ≢ Some (key_of c) → c.rect ≡ hull_at b (key_of c))) (sym (others x q))
                    (λ j d within other.
                    let c = get_or (cells_at a x) j d in
                    let away : key_of c ≢ parent = λ same. other (ap Some (sym same)) in
                    let p : key_of c ≢ key = λ same. q (same_Some x parent (sym (linked.children x i (sym (lv x) ∙ e) j d within).parent_is ∙ ap (parent_at a) same ∙ up)) in
                    old j d within (no-odd (key_of c) p away) ∙ hull_same (key_of c) away)
              ];
          pending_boxes = fitted.pending_boxes;
          pending_hulls = λ j d within i e.
              let w = get_or ws j d in
              let p : key_of w.cell ≢ key = λ same. waits-free ws key key_waits_not j d within i e same in
              let q : key_of w.cell ≢ parent = λ same. waits-free ws parent parent_waits_not j d within i e same in
              fitted.pending_hulls j d within i e (no-odd (key_of w.cell) p q) ∙ hull_same (key_of w.cell) q;
        }
