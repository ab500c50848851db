-- How the nodes hang together, after each kind of change.
use Rattle.std.proofs.Common.{◌≡◌, ◌≢◌, ◌⊎◌, ℕ, zero, suc, ◌+◌, ◌<◌, ◌≤◌, ℤ, pos, List, [], ◌∷◌, ◌++◌, length, get_or, set, cond, nat_eq, unsigned_abs, Option, Some, None, eq-eqb, arith, refl, ap, ◌∙◌, sym, subst, inl, inr}
use Rattle.std.specs.List.{All}
use Rattle.std.specs.Option.{option_map_or}
use Rattle.std.proofs.lemmas.Option.{same_Some, none-some}
use Rattle.std.proofs.lemmas.Bool.{cases_eq}
use Rattle.std.proofs.lemmas.List.Elements.{All-nil, All-cons, All-head, All-tail, All-push, All-append, All-map, All-set, All-weaker}
use Rattle.std.proofs.lemmas.List.Sums.{sum_by-set}
use Rattle.slab.specs.Slab.{Slab, get, Updates}
use Rattle.rt_tree_node.specs.declared.cell.Cell.{Cell}
use Rattle.rt_tree_node.specs.declared.cell.Pending.{Pending}
use Rattle.rt_tree_node.specs.Node.{NodeCells}
use Rattle.rt_tree_node.specs.Places.{key_of, times_named, cells_of, inner_part, inner_cells_of, level_of, parent_of, cells_at, inner_cells_at, level_at, parent_at, cells_above, pending_nodes, pending_at}
use Rattle.rt_tree_node.specs.Sound.{Names, NamesChild, IsLinked}
use Rattle.rt_tree_node.proofs.Counts.{count-some}
use Rattle.rt_tree_node.proofs.Places.{inner-at_inner, inner-all, count-inner_push, nodes-middle, nodes-joined, names_key, named-none, named-one, named-other}

module _ {D : ℕ} {Y : Type 0} (F : Option (NodeCells D) → Y) (a b : Slab (NodeCells D)) (k : ℕ) where
  -- a reading that the change of a node leaves as it was
  pub same-at : (n m : NodeCells D) → get a k ≡ Some n → Updates a b k (Some m) → F (Some m) ≡ F (Some n) → (x : ℕ) → F (get b x) ≡ F (get a x)
  same-at n m has u e x = elim (cases_eq x k) [
    | inl here ↦ ap (λ y. F (get b y)) here ∙ ap F u.changed ∙ e ∙ sym (ap F has) ∙ ap (λ y. F (get a y)) (sym here)
    | inr other ↦ ap F (u.others x other)
  ]

  -- and that a new node leaves as it was
  pub new-at : (m : NodeCells D) → get a k ≡ None → Updates a b k (Some m) → F (Some m) ≡ F None → (x : ℕ) → F (get b x) ≡ F (get a x)
  new-at m has u e x = elim (cases_eq x k) [
    | inl here ↦ ap (λ y. F (get b y)) here ∙ ap F u.changed ∙ e ∙ sym (ap F has) ∙ ap (λ y. F (get a y)) (sym here)
    | inr other ↦ ap F (u.others x other)
  ]

pub is-parent : (o : Option ℕ) (k : ℕ) → (o ≡ Some k) ⊎ (o ≢ Some k)
is-parent None k = inr (λ e. none-some k e)
is-parent (Some p) k = elim (cases_eq p k) [ inl same ↦ inl (ap Some same) | inr other ↦ inr (λ e. other (same_Some p k e)) ]

module _ {X : Type 0} (P : X → Type 0) where
  pub All-left : (xs ys : List X) → All P (xs ++ ys) → All P xs
  All-left [] ys all = All-nil P
  All-left (x ∷ xs) ys all = All-cons P x xs (All-head P x (xs ++ ys) all) (All-left xs ys (All-tail P x (xs ++ ys) all))

  pub All-right : (xs ys : List X) → All P (xs ++ ys) → All P ys
  All-right [] ys all = all
  All-right (x ∷ xs) ys all = All-right xs ys (All-tail P x (xs ++ ys) all)

  pub All-without : (xs : List X) (w : X) (ys : List X) → All P (xs ++ w ∷ ys) → All P (xs ++ ys)
  All-without xs w ys all = All-append P xs ys (All-left xs (w ∷ ys) all) (All-tail P w ys (All-right xs (w ∷ ys) all))

  pub All-at : (xs : List X) (w : X) (ys : List X) → All P (xs ++ w ∷ ys) → P w
  All-at xs w ys all = All-head P w ys (All-right xs (w ∷ ys) all)

module _ {D : ℕ} where
  pub above-some : (a : Slab (NodeCells D)) (x p : ℕ) → parent_at a x ≡ Some p → cells_above a x ≡ inner_cells_at a p
  above-some a x p e = ap (λ o. option_map_or (inner_cells_at a) o []) e

  pub above-none : (a : Slab (NodeCells D)) (x : ℕ) → parent_at a x ≡ None → cells_above a x ≡ []
  above-none a x e = ap (λ o. option_map_or (inner_cells_at a) o []) e

  pub Names-same : (a b : Slab (NodeCells D)) (l : ℕ) (c : Cell D) → level_at b (key_of c) ≡ level_at a (key_of c) → Names a l c → Names b l c
  Names-same a b l c e is = record { number_is = is.number_is; level_is = e ∙ is.level_is }

  pub NamesChild-same : (a b : Slab (NodeCells D)) (l x : ℕ) (c : Cell D) → level_at b (key_of c) ≡ level_at a (key_of c) →
      parent_at b (key_of c) ≡ parent_at a (key_of c) → NamesChild a l x c → NamesChild b l x c
  NamesChild-same a b l x c e f is = record { names = Names-same a b l c e is.names; parent_is = f ∙ is.parent_is }

  -- a node that no cells name, whatever its parent
  pub unnamed-above : (a s : Slab (NodeCells D)) → ((x : ℕ) → inner_cells_at s x ≡ inner_cells_at a x) → (y : ℕ) (o : Option ℕ) → parent_at s y ≡ o →
      ((x : ℕ) → times_named y (inner_cells_at a x) ≡ 0) → times_named y (cells_above s y) ≡ 0
  unnamed-above a s same y None e none = ap (times_named y) (above-none s y e)
  unnamed-above a s same y (Some p) e none = ap (times_named y) (above-some s y p e ∙ same p) ∙ none p

  pub same-above : (a s : Slab (NodeCells D)) → ((x : ℕ) → inner_cells_at s x ≡ inner_cells_at a x) → (x : ℕ) → parent_at s x ≡ parent_at a x → cells_above s x ≡ cells_above a x
  same-above a s same x e = by (parent_at a x) refl
    where
      by : (o : Option ℕ) → parent_at a x ≡ o → cells_above s x ≡ cells_above a x
      by None f = above-none s x (e ∙ f) ∙ sym (above-none a x f)
      by (Some p) f = above-some s x p (e ∙ f) ∙ same p ∙ sym (above-some a x p f)

  module _ (a : Slab (NodeCells D)) (root level : ℕ) (ws : List (Pending D)) (linked : IsLinked a root level ws) where
    -- a node that waits isn't the root
    pub waits-not_root : (j : ℕ) → 0 < times_named j (pending_nodes ws) → j ≢ root
    waits-not_root j waits e = let none = linked.root_waits_not in
        let some : 0 < times_named root (pending_nodes ws) = subst (λ y. 0 < times_named y (pending_nodes ws)) e waits in omega arith

    -- what a node names has it as its parent
    pub parent-from_named : (x : ℕ) → All (λ c. parent_at a (key_of c) ≡ Some x) (inner_cells_at a x)
    parent-from_named x = inner-all (λ c. parent_at a (key_of c) ≡ Some x) a x
        (λ l e. All-weaker (NamesChild a l x) (λ c. parent_at a (key_of c) ≡ Some x) (λ c is. is.parent_is) (cells_at a x) (linked.children x l e))

    -- a node is named by its parent alone
    pub unnamed-elsewhere : (x j : ℕ) → parent_at a j ≢ Some x → times_named j (inner_cells_at a x) ≡ 0
    unnamed-elsewhere x j other = named-none j (inner_cells_at a x)
        (All-weaker (λ c. parent_at a (key_of c) ≡ Some x) (λ c. key_of c ≢ j) (λ c is e. other (ap (parent_at a) (sym e) ∙ is)) (inner_cells_at a x) (parent-from_named x))

    -- a node that waits is named by none
    pub unnamed-pending : (x j l : ℕ) → level_at a j ≡ Some l → 0 < times_named j (pending_nodes ws) → times_named j (inner_cells_at a x) ≡ 0
    unnamed-pending x j l has waits = named-none j (inner_cells_at a x) (λ k d within e.
        let up = ap (parent_at a) (sym e) ∙ parent-from_named x k d within in
        let counted : 0 < times_named j (inner_cells_at a x) = count-some (names_key j) (inner_cells_at a x) k d within (eq-eqb _ _ e) in
        let here = ap (times_named j) (above-some a j x up) in
        let one = linked.named j l has (waits-not_root j waits) in
        omega arith)

    -- no node names a key that is vacant
    pub unnamed-vacant : (x j : ℕ) → get a j ≡ None → times_named j (inner_cells_at a x) ≡ 0
    unnamed-vacant x j vacant = named-none j (inner_cells_at a x) (inner-all (λ c. key_of c ≢ j) a x (λ l e k d within same.
        none-some l (sym (ap level_of vacant) ∙ ap (level_at a) (sym same) ∙ (linked.children x l e k d within).names.level_is)))

    -- the parent of a node changes, which waits to be named
    pub reparented : (b : Slab (NodeCells D)) (j l : ℕ) (n : NodeCells D) (up : Option ℕ) → get a j ≡ Some n →
        0 < times_named j (pending_nodes ws) → Updates a b j (Some (record n { parent = up })) → IsLinked b root level ws
    reparented b j l n up has waits u =
        let m = record n { parent = up } in
        let lv = same-at level_of a b j n m has u refl in
        let cs = same-at cells_of a b j n m has u refl in
        let ins = same-at inner_cells_of a b j n m has u refl in
        let pr : (x : ℕ) → x ≢ j → parent_at b x ≡ parent_at a x = λ x other. ap parent_of (u.others x other) in
        let level_j : level_at a j ≡ Some n.level = ap level_of has in
        let not_root = waits-not_root j waits in
        record {
          root_level = lv root ∙ linked.root_level;
          root_parent = pr root (λ e. not_root (sym e)) ∙ linked.root_parent;
          root_waits_not = linked.root_waits_not;
          levels = λ x i e. linked.levels x i (sym (lv x) ∙ e);
          children = λ x i e. subst (All (NamesChild b i x)) (sym (cs x)) (λ k d within.
              let is = linked.children x i (sym (lv x) ∙ e) k d within in
              let c = get_or (cells_at a x) k d in
              let free : key_of c ≢ j = λ same.
              let inner = inner-at_inner a x i (sym (lv x) ∙ e) in
              let none = unnamed-pending x j n.level level_j waits in
              let counted : 0 < times_named j (cells_at a x) = count-some (names_key j) (cells_at a x) k d within (eq-eqb _ _ same) in
              let both = ap (times_named j) inner in omega arith in
              NamesChild-same a b i x c (lv (key_of c)) (pr (key_of c) free) is);
          named = λ x i e other. elim (cases_eq x j) [
            | inl same ↦
                let none_above : times_named j (cells_above b j) ≡ 0 = unnamed-above a b ins j up (ap parent_of u.changed) (λ y. unnamed-pending y j n.level level_j waits) in
                let old = linked.named j n.level level_j not_root in
                let old_above : times_named j (cells_above a j) ≡ 0 = unnamed-above a a (λ y. refl) j n.parent (ap parent_of has) (λ y. unnamed-pending y j n.level level_j waits) in
                subst (λ y. times_named y (cells_above b y) + times_named y (pending_nodes ws) ≡ 1) (sym same) (omega arith)
            | inr differs ↦
                let above : cells_above b x ≡ cells_above a x = same-above a b ins x (pr x differs) in
                ap (λ cells. times_named x cells + times_named x (pending_nodes ws)) above ∙ linked.named x i (sym (lv x) ∙ e) other
          ];
          pending_levels = linked.pending_levels;
          pending_named = λ k d within i e. let is = linked.pending_named k d within i e in
              Names-same a b i (get_or ws k d).cell (lv (key_of (get_or ws k d).cell)) is;
        }

  -- how often a key is named by the cells above it, where the cells of one node changed
  pub above-changed : (a b : Slab (NodeCells D)) (k x : ℕ) → parent_at b x ≡ parent_at a x →
      ((y : ℕ) → y ≢ k → inner_cells_at b y ≡ inner_cells_at a y) → (parent_at a x ≡ Some k) ⊎ (parent_at a x ≢ Some k) →
      ((parent_at a x ≡ Some k) × (cells_above a x ≡ inner_cells_at a k) × (cells_above b x ≡ inner_cells_at b k))
      ⊎ ((parent_at a x ≢ Some k) × (cells_above b x ≡ cells_above a x))
  above-changed a b k x e others (inl up) = inl (up, above-some a x k up, above-some b x k (e ∙ up))
  above-changed a b k x e others (inr not_up) = inr (not_up, by (parent_at a x) refl)
    where
      by : (o : Option ℕ) → parent_at a x ≡ o → cells_above b x ≡ cells_above a x
      by None f = above-none b x (e ∙ f) ∙ sym (above-none a x f)
      by (Some p) f = above-some b x p (e ∙ f) ∙ others p (λ same. not_up (f ∙ ap Some same)) ∙ sym (above-some a x p f)

  -- a pending cell is appended to a node, whose key is its child's parent
  pub appended : (a b : Slab (NodeCells D)) (root level : ℕ) (xs : List (Pending D)) (w : Pending D) (ys : List (Pending D)) (k : ℕ) (n : NodeCells D) →
      IsLinked a root level (xs ++ w ∷ ys) → get a k ≡ Some n → w.level ≡ n.level →
      ((l : ℕ) → n.level ≡ suc l → parent_at a (key_of w.cell) ≡ Some k) →
      Updates a b k (Some (record n { cells = n.cells ++ w.cell ∷ [] })) → IsLinked b root level (xs ++ ys)
  appended a b root level xs w ys k n linked has at_level child u =
      let c = w.cell in
      let m = record n { cells = n.cells ++ c ∷ [] } in
      let lv = same-at level_of a b k n m has u refl in
      let pr = same-at parent_of a b k n m has u refl in
      let others = λ (y : ℕ) (differs : y ≢ k). ap inner_cells_of (u.others y differs) in
      let level_k : level_at a k ≡ Some n.level = ap level_of has in
      let cells_k : cells_at a k ≡ n.cells = ap cells_of has in
      let inner_a : inner_cells_at a k ≡ inner_part n.level n.cells = ap inner_cells_of has in
      let inner_b : inner_cells_at b k ≡ inner_part n.level (n.cells ++ c ∷ []) = ap inner_cells_of u.changed in
      let waits = λ (x : ℕ). nodes-middle (names_key x) xs w ys in
      let part : inner_part w.level (c ∷ []) ≡ inner_part n.level (c ∷ []) = ap (λ l. inner_part l (c ∷ [])) at_level in
      record {
        root_level = lv root ∙ linked.root_level;
        root_parent = pr root ∙ linked.root_parent;
        root_waits_not = let none = linked.root_waits_not in let step = waits root in omega arith;
        levels = λ x i e. linked.levels x i (sym (lv x) ∙ e);
        children = λ x i e.
            let old : (d : ℕ) → level_at a x ≡ Some (suc i) = λ d. sym (lv x) ∙ e in
            let all = All-weaker (NamesChild a i x) (NamesChild b i x) (λ q is. NamesChild-same a b i x q (lv (key_of q)) (pr (key_of q)) is) (cells_at a x) (linked.children x i (old 0)) in
            elim (cases_eq x k) [
              | inl here ↦
                  let level_n : n.level ≡ suc i = same_Some n.level (suc i) (sym level_k ∙ ap (level_at a) (sym here) ∙ old 0) in
                  let named : Names a i c = waits-named level_n linked.pending_named in
                  let child_is : NamesChild b i k c = NamesChild-same a b i k c (lv (key_of c)) (pr (key_of c)) record { names = named; parent_is = child i level_n } in
                  subst (λ y. All (NamesChild b i y) (cells_at b y)) (sym here)
                  (subst (All (NamesChild b i k)) (sym (ap cells_of u.changed))
                  (All-push (NamesChild b i k) n.cells c (subst (All (NamesChild b i k)) cells_k (subst (λ y. All (NamesChild b i y) (cells_at a y)) here all)) child_is))
              | inr other ↦ subst (All (NamesChild b i x)) (sym (ap cells_of (u.others x other))) all
            ];
        named = λ x i e other.
            let old = linked.named x i (sym (lv x) ∙ e) other in
            let step = waits x in
            elim (above-changed a b k x (pr x) others (is-parent (parent_at a x) k)) [
              | inl up ↦
                  let p = ap (times_named x) up.1 in let p-a = ap (times_named x) inner_a in
                  let q = ap (times_named x) up.2 in let q-b = ap (times_named x) inner_b in
                  let push = count-inner_push (names_key x) n.level n.cells c in
                  let same = ap (times_named x) part in omega arith
              | inr apart ↦
                  let p = ap (times_named x) apart.1 in
                  let same = ap (times_named x) part in
                  let none = not-named x n.level refl apart.0 in omega arith
            ];
        pending_levels = All-middle (λ v. v.level ≤ level) linked.pending_levels;
        pending_named = All-weaker (λ v. (l : ℕ) → v.level ≡ suc l → Names a l v.cell) (λ v. (l : ℕ) → v.level ≡ suc l → Names b l v.cell)
            (λ v is l e. Names-same a b l v.cell (lv (key_of v.cell)) (is l e)) (xs ++ ys)
            (All-middle (λ v. (l : ℕ) → v.level ≡ suc l → Names a l v.cell) linked.pending_named);
      }
    where
      All-middle : (P : Pending D → Type 0) → All P (xs ++ w ∷ ys) → All P (xs ++ ys)
      All-middle P all = All-without P xs w ys all

      waits-named : {i : ℕ} → n.level ≡ suc i → All (λ v. (l : ℕ) → v.level ≡ suc l → Names a l v.cell) (xs ++ w ∷ ys) → Names a i w.cell
      waits-named {i} e all = All-at (λ v. (l : ℕ) → v.level ≡ suc l → Names a l v.cell) xs w ys all i (at_level ∙ e)

      not-named : (x l : ℕ) → n.level ≡ l → parent_at a x ≢ Some k → times_named x (inner_part l (w.cell ∷ [])) ≡ 0
      not-named x zero e apart = refl
      not-named x (suc l) e apart = named-other x w.cell (λ same. apart (ap (parent_at a) (sym same) ∙ child l e))

  -- no pending cell names a vacant key
  pub unnamed-by_pending : (a : Slab (NodeCells D)) (ws : List (Pending D)) (x : ℕ) → level_at a x ≡ None →
      All (λ v. (l : ℕ) → v.level ≡ suc l → Names a l v.cell) ws → times_named x (pending_nodes ws) ≡ 0
  unnamed-by_pending a [] x none all = refl
  unnamed-by_pending a (w ∷ ws) x none all =
      let rest = unnamed-by_pending a ws x none (All-tail (λ v. (l : ℕ) → v.level ≡ suc l → Names a l v.cell) w ws all) in
      let here = here-none w.level refl in
      let step = nodes-middle (names_key x) [] w ws in
      omega arith
    where
      here-none : (l : ℕ) → w.level ≡ l → times_named x (inner_part l (w.cell ∷ [])) ≡ 0
      here-none zero e = refl
      here-none (suc l) e = named-other x w.cell (λ same.
          let is = All-head (λ v. (i : ℕ) → v.level ≡ suc i → Names a i v.cell) w ws all l e in
          none-some l (sym none ∙ ap (level_at a) (sym same) ∙ is.level_is))

  -- a node's cells are taken out, and wait
  pub cleared : (a b : Slab (NodeCells D)) (root level : ℕ) (ws : List (Pending D)) (k : ℕ) (n : NodeCells D) →
      IsLinked a root level ws → get a k ≡ Some n → Updates a b k (Some (record n { cells = [] })) →
      IsLinked b root level (ws ++ pending_at n.level n.cells)
  cleared a b root level ws k n linked has u =
      let m = record n { cells = [] } in
      let lv = same-at level_of a b k n m has u refl in
      let pr = same-at parent_of a b k n m has u refl in
      let others = λ (y : ℕ) (differs : y ≢ k). ap inner_cells_of (u.others y differs) in
      let level_k : level_at a k ≡ Some n.level = ap level_of has in
      let cells_k : cells_at a k ≡ n.cells = ap cells_of has in
      let inner_a : inner_cells_at a k ≡ inner_part n.level n.cells = ap inner_cells_of has in
      let inner_b : inner_cells_at b k ≡ [] = ap inner_cells_of u.changed ∙ no-cells n.level in
      let waits = λ (x : ℕ). nodes-joined (names_key x) ws n.level n.cells in
      record {
        root_level = lv root ∙ linked.root_level;
        root_parent = pr root ∙ linked.root_parent;
        root_waits_not =
            let none = linked.root_waits_not in
            let step = waits root in
            let free = ap (times_named root) (sym inner_a) in
            let zero_here = unnamed-elsewhere a root level ws linked k root (λ e. none-some k (sym linked.root_parent ∙ e)) in
            omega arith;
        levels = λ x i e. linked.levels x i (sym (lv x) ∙ e);
        children = λ x i e. elim (cases_eq x k) [
          | inl here ↦ subst (λ y. All (NamesChild b i x) (cells_at b y)) (sym here) (subst (All (NamesChild b i x)) (sym (ap cells_of u.changed)) (All-nil (NamesChild b i x)))
          | inr other ↦ subst (All (NamesChild b i x)) (sym (ap cells_of (u.others x other)))
              (All-weaker (NamesChild a i x) (NamesChild b i x) (λ q is. NamesChild-same a b i x q (lv (key_of q)) (pr (key_of q)) is) (cells_at a x)
              (linked.children x i (sym (lv x) ∙ e)))
        ];
        named = λ x i e other.
            let old = linked.named x i (sym (lv x) ∙ e) other in
            let step = waits x in
            elim (above-changed a b k x (pr x) others (is-parent (parent_at a x) k)) [
              | inl up ↦
                  let p = ap (times_named x) up.1 in let p-a = ap (times_named x) inner_a in
                  let q = ap (times_named x) up.2 in let q-b = ap (times_named x) inner_b in
                  omega arith
              | inr apart ↦
                  let p = ap (times_named x) apart.1 in
                  let free = ap (times_named x) (sym inner_a) in
                  let none = unnamed-elsewhere a root level ws linked k x apart.0 in omega arith
            ];
        pending_levels = All-append (λ v. v.level ≤ level) ws (pending_at n.level n.cells) linked.pending_levels
            (All-map (λ v. v.level ≤ level) (λ c. record { level = n.level; cell = c }) n.cells (λ j d within. linked.levels k n.level level_k));
        pending_named = All-append (λ v. (l : ℕ) → v.level ≡ suc l → Names b l v.cell) ws (pending_at n.level n.cells)
            (All-weaker (λ v. (l : ℕ) → v.level ≡ suc l → Names a l v.cell) (λ v. (l : ℕ) → v.level ≡ suc l → Names b l v.cell)
            (λ v is l e. Names-same a b l v.cell (lv (key_of v.cell)) (is l e)) ws linked.pending_named)
            (All-map (λ v. (l : ℕ) → v.level ≡ suc l → Names b l v.cell) (λ c. record { level = n.level; cell = c }) n.cells
            (λ j d within l e.
            let is = subst (All (NamesChild a l k)) cells_k (linked.children k l (level_k ∙ ap Some e)) j d within in
            Names-same a b l (get_or n.cells j d) (lv (key_of (get_or n.cells j d))) is.names));
      }
    where
      no-cells : (l : ℕ) → inner_part {D = D} l [] ≡ []
      no-cells zero = refl
      no-cells (suc l) = refl

  -- a new node without cells waits for its place
  pub created : (a b : Slab (NodeCells D)) (root level : ℕ) (ws : List (Pending D)) (k l : ℕ) (up : Option ℕ) (c : Cell D) →
      IsLinked a root level ws → get a k ≡ None → suc l ≤ level → c.number ≡ pos k → key_of c ≡ k →
      Updates a b k (Some record { level = l; parent = up; cells = [] }) →
      IsLinked b root level (ws ++ record { level = suc l; cell = c } ∷ [])
  created a b root level ws k l up c linked vacant below number_is key_is u =
      let m : NodeCells D = record { level = l; parent = up; cells = [] } in
      let cs = new-at cells_of a b k m vacant u refl in
      let ins = new-at inner_cells_of a b k m vacant u (no-cells l) in
      let lv = λ (x i : ℕ) (has : level_at a x ≡ Some i). present-level x i has in
      let level_b : level_at b k ≡ Some l = ap level_of u.changed in
      let waits = λ (x : ℕ). nodes-joined (names_key x) ws (suc l) (c ∷ []) in
      let new-names : Names b l c = record { number_is = number_is ∙ ap pos (sym key_is); level_is = ap (level_at b) key_is ∙ level_b } in
      record {
        root_level = present-level root level linked.root_level;
        root_parent = ap parent_of (u.others root (λ e. none-some level (sym (ap level_of vacant) ∙ ap (level_at a) (sym e) ∙ linked.root_level))) ∙ linked.root_parent;
        root_waits_not =
            let none = linked.root_waits_not in
            let step = waits root in
            let other = named-other root c (λ e. none-some level (sym (ap level_of vacant) ∙ ap (level_at a) (sym key_is ∙ e) ∙ linked.root_level)) in
            omega arith;
        levels = λ x i e. elim (cases_eq x k) [
          | inl here ↦ let same : l ≡ i = same_Some l i (sym level_b ∙ ap (level_at b) (sym here) ∙ e) in omega arith
          | inr other ↦ linked.levels x i (sym (ap level_of (u.others x other)) ∙ e)
        ];
        children = λ x i e. elim (cases_eq x k) [
          | inl here ↦ subst (λ y. All (NamesChild b i x) (cells_at b y)) (sym here) (subst (All (NamesChild b i x)) (sym (ap cells_of u.changed)) (All-nil (NamesChild b i x)))
          | inr other ↦ subst (All (NamesChild b i x)) (sym (cs x)) (λ j d within.
              let q = get_or (cells_at a x) j d in
              let is = linked.children x i (sym (ap level_of (u.others x other)) ∙ e) j d within in
              let differs : key_of q ≢ k = present-other (key_of q) i is.names.level_is in
              NamesChild-same a b i x q (ap level_of (u.others (key_of q) differs)) (ap parent_of (u.others (key_of q) differs)) is)
        ];
        named = λ x i e other.
            let step = waits x in
            elim (cases_eq x k) [
              | inl here ↦
                  let one = named-one x c (key_is ∙ sym here) in
                  let above : times_named k (cells_above b k) ≡ 0 = unnamed-above a b ins k up (ap parent_of u.changed) (λ y. unnamed-vacant a root level ws linked y k vacant) in
                  let above_x : times_named x (cells_above b x) ≡ 0 = subst (λ y. times_named y (cells_above b y) ≡ 0) (sym here) above in
                  let free : times_named x (pending_nodes ws) ≡ 0 = subst (λ y. times_named y (pending_nodes ws) ≡ 0) (sym here) (waits-none k vacant) in
                  omega arith
              | inr differs ↦
                  let old = linked.named x i (sym (ap level_of (u.others x differs)) ∙ e) other in
                  let p = ap (times_named x) (same-above a b ins x (ap parent_of (u.others x differs))) in
                  let none = named-other x c (λ same. differs (sym same ∙ key_is)) in
                  omega arith
            ];
        pending_levels = All-append (λ v. v.level ≤ level) ws (record { level = suc l; cell = c } ∷ []) linked.pending_levels
            (All-cons (λ v. v.level ≤ level) record { level = suc l; cell = c } [] below (All-nil (λ v. v.level ≤ level)));
        pending_named = All-append (λ v. (i : ℕ) → v.level ≡ suc i → Names b i v.cell) ws (record { level = suc l; cell = c } ∷ [])
            (All-weaker (λ v. (i : ℕ) → v.level ≡ suc i → Names a i v.cell) (λ v. (i : ℕ) → v.level ≡ suc i → Names b i v.cell)
            (λ v is i e. let named : Names a i v.cell = is i e in
            Names-same a b i v.cell (ap level_of (u.others (key_of v.cell) (present-other (key_of v.cell) i named.level_is))) named) ws linked.pending_named)
            (All-cons (λ v. (i : ℕ) → v.level ≡ suc i → Names b i v.cell) record { level = suc l; cell = c } []
            (λ i e. let same : l ≡ i = omega arith in subst (λ y. Names b y c) same new-names)
            (All-nil (λ v. (i : ℕ) → v.level ≡ suc i → Names b i v.cell)));
      }
    where
      no-cells : (i : ℕ) → inner_part {D = D} i [] ≡ []
      no-cells zero = refl
      no-cells (suc i) = refl

      present-other : (x i : ℕ) → level_at a x ≡ Some i → x ≢ k
      present-other x i has e = none-some i (sym (ap level_of vacant) ∙ ap (level_at a) (sym e) ∙ has)

      present-level : (x i : ℕ) → level_at a x ≡ Some i → level_at b x ≡ Some i
      present-level x i has = ap level_of (u.others x (present-other x i has)) ∙ has

      waits-none : (x : ℕ) → get a x ≡ None → times_named x (pending_nodes ws) ≡ 0
      waits-none x none = unnamed-by_pending a ws x (ap level_of none) linked.pending_named

  -- a new node without cells is the root, and the old one waits for its place
  pub crowned : (a b : Slab (NodeCells D)) (root level : ℕ) (ws : List (Pending D)) (k : ℕ) (c : Cell D) →
      IsLinked a root level ws → get a k ≡ None → c.number ≡ pos root → key_of c ≡ root →
      Updates a b k (Some record { level = suc level; parent = None; cells = [] }) →
      IsLinked b k (suc level) (ws ++ record { level = suc level; cell = c } ∷ [])
  crowned a b root level ws k c linked vacant number_is key_is u =
      let m : NodeCells D = record { level = suc level; parent = None; cells = [] } in
      let cs = new-at cells_of a b k m vacant u refl in
      let ins = new-at inner_cells_of a b k m vacant u refl in
      let prs = new-at parent_of a b k m vacant u refl in
      let level_b : level_at b k ≡ Some (suc level) = ap level_of u.changed in
      let waits = λ (x : ℕ). nodes-joined (names_key x) ws (suc level) (c ∷ []) in
      let differs_root : root ≢ k = present-other root level linked.root_level in
      let new-names : Names b level c = record {
        number_is = number_is ∙ ap pos (sym key_is);
        level_is = ap (level_at b) key_is ∙ ap level_of (u.others root differs_root) ∙ linked.root_level;
      } in
      record {
        root_level = level_b;
        root_parent = ap parent_of u.changed;
        root_waits_not =
            let step = waits k in
            let other = named-other k c (λ e. differs_root (sym key_is ∙ e)) in
            let none = unnamed-by_pending a ws k (ap level_of vacant) linked.pending_named in
            omega arith;
        levels = λ x i e. elim (cases_eq x k) [
          | inl here ↦ let same : suc level ≡ i = same_Some (suc level) i (sym level_b ∙ ap (level_at b) (sym here) ∙ e) in omega arith
          | inr other ↦ let old = linked.levels x i (sym (ap level_of (u.others x other)) ∙ e) in omega arith
        ];
        children = λ x i e. elim (cases_eq x k) [
          | inl here ↦ subst (λ y. All (NamesChild b i x) (cells_at b y)) (sym here) (subst (All (NamesChild b i x)) (sym (ap cells_of u.changed)) (All-nil (NamesChild b i x)))
          | inr other ↦ subst (All (NamesChild b i x)) (sym (cs x)) (λ j d within.
              let q = get_or (cells_at a x) j d in
              let is = linked.children x i (sym (ap level_of (u.others x other)) ∙ e) j d within in
              let differs : key_of q ≢ k = present-other (key_of q) i is.names.level_is in
              NamesChild-same a b i x q (ap level_of (u.others (key_of q) differs)) (prs (key_of q)) is)
        ];
        named = λ x i e other.
            let step = waits x in
            let has : level_at a x ≡ Some i = sym (ap level_of (u.others x other)) ∙ e in
            let p = ap (times_named x) (same-above a b ins x (prs x)) in
            elim (cases_eq x root) [
              | inl here ↦
                  let one = named-one x c (key_is ∙ sym here) in
                  let above = ap (times_named x) (ap (cells_above a) here ∙ above-none a root linked.root_parent) in
                  let free : times_named x (pending_nodes ws) ≡ 0 = ap (λ y. times_named y (pending_nodes ws)) here ∙ linked.root_waits_not in
                  omega arith
              | inr differs ↦
                  let old = linked.named x i has differs in
                  let none = named-other x c (λ same. differs (sym same ∙ key_is)) in
                  omega arith
            ];
        pending_levels = All-append (λ v. v.level ≤ suc level) ws (record { level = suc level; cell = c } ∷ [])
            (All-weaker (λ v. v.level ≤ level) (λ v. v.level ≤ suc level) (λ v is. omega arith) ws linked.pending_levels)
            (All-cons (λ v. v.level ≤ suc level) record { level = suc level; cell = c } [] (omega arith) (All-nil (λ v. v.level ≤ suc level)));
        pending_named = All-append (λ v. (i : ℕ) → v.level ≡ suc i → Names b i v.cell) ws (record { level = suc level; cell = c } ∷ [])
            (All-weaker (λ v. (i : ℕ) → v.level ≡ suc i → Names a i v.cell) (λ v. (i : ℕ) → v.level ≡ suc i → Names b i v.cell)
            (λ v is i e. let named : Names a i v.cell = is i e in
            Names-same a b i v.cell (ap level_of (u.others (key_of v.cell) (present-other (key_of v.cell) i named.level_is))) named) ws linked.pending_named)
            (All-cons (λ v. (i : ℕ) → v.level ≡ suc i → Names b i v.cell) record { level = suc level; cell = c } []
            (λ i e. let same : level ≡ i = omega arith in subst (λ y. Names b y c) same new-names)
            (All-nil (λ v. (i : ℕ) → v.level ≡ suc i → Names b i v.cell)));
      }
    where
      present-other : (x i : ℕ) → level_at a x ≡ Some i → x ≢ k
      present-other x i has e = none-some i (sym (ap level_of vacant) ∙ ap (level_at a) (sym e) ∙ has)

  -- a cell's box alone changes
  pub boxes-changed : (a b : Slab (NodeCells D)) (root level : ℕ) (ws : List (Pending D)) (k at : ℕ) (n : NodeCells D) (c : Cell D) →
      IsLinked a root level ws → get a k ≡ Some n → at < length n.cells → c.number ≡ (get_or n.cells at c).number →
      Updates a b k (Some (record n { cells = set n.cells at c })) → IsLinked b root level ws
  boxes-changed a b root level ws k at n c linked has within same_number u =
      let m = record n { cells = set n.cells at c } in
      let lv = same-at level_of a b k n m has u refl in
      let pr = same-at parent_of a b k n m has u refl in
      let level_k : level_at a k ≡ Some n.level = ap level_of has in
      let cells_k : cells_at a k ≡ n.cells = ap cells_of has in
      let counts : (x y : ℕ) → times_named x (inner_cells_at b y) ≡ times_named x (inner_cells_at a y) = λ x y. elim (cases_eq y k) [
        | inl here ↦ ap (λ z. times_named x (inner_cells_at b z)) here ∙ ap (times_named x) (ap inner_cells_of u.changed) ∙ set-counts x n.level
            ∙ sym (ap (times_named x) (ap inner_cells_of has)) ∙ ap (λ z. times_named x (inner_cells_at a z)) (sym here)
        | inr other ↦ ap (times_named x) (ap inner_cells_of (u.others y other))
      ] in
      record {
        root_level = lv root ∙ linked.root_level;
        root_parent = pr root ∙ linked.root_parent;
        root_waits_not = linked.root_waits_not;
        levels = λ x i e. linked.levels x i (sym (lv x) ∙ e);
        children = λ x i e.
            let all = All-weaker (NamesChild a i x) (NamesChild b i x) (λ q is. NamesChild-same a b i x q (lv (key_of q)) (pr (key_of q)) is) (cells_at a x)
            (linked.children x i (sym (lv x) ∙ e)) in
            elim (cases_eq x k) [
              | inl here ↦
                  let all_k : All (NamesChild b i x) n.cells = subst (All (NamesChild b i x)) cells_k (subst (λ y. All (NamesChild b i x) (cells_at a y)) here all) in
                  let old = all_k at c within in
                  subst (λ y. All (NamesChild b i x) (cells_at b y)) (sym here) (subst (All (NamesChild b i x)) (sym (ap cells_of u.changed))
                  (All-set (NamesChild b i x) n.cells at c (by-number b i x (get_or n.cells at c) c (sym same_number) old) all_k))
              | inr other ↦ subst (All (NamesChild b i x)) (sym (ap cells_of (u.others x other))) all
            ];
        named = λ x i e other. ap (λ t. t + times_named x (pending_nodes ws)) (above-counts x (parent_at a x) refl (pr x) (counts x))
            ∙ linked.named x i (sym (lv x) ∙ e) other;
        pending_levels = linked.pending_levels;
        pending_named = All-weaker (λ v. (l : ℕ) → v.level ≡ suc l → Names a l v.cell) (λ v. (l : ℕ) → v.level ≡ suc l → Names b l v.cell)
            (λ v is l e. Names-same a b l v.cell (lv (key_of v.cell)) (is l e)) ws linked.pending_named;
      }
    where
      set-counts : (x l : ℕ) → times_named x (inner_part l (set n.cells at c)) ≡ times_named x (inner_part l n.cells)
      set-counts x zero = refl
      set-counts x (suc l) =
          let step = sum_by-set (λ q. cond (names_key x q) 1 0) n.cells at c c within in
          let one : ℤ → ℕ = λ z. cond (nat_eq (unsigned_abs z) x) 1 0 in
          let same = ap one same_number in
          omega (arith, step, same)

      above-counts : (x : ℕ) (o : Option ℕ) → parent_at a x ≡ o → parent_at b x ≡ parent_at a x →
          ((y : ℕ) → times_named x (inner_cells_at b y) ≡ times_named x (inner_cells_at a y)) → times_named x (cells_above b x) ≡ times_named x (cells_above a x)
      above-counts x None f e same = ap (times_named x) (above-none b x (e ∙ f) ∙ sym (above-none a x f))
      above-counts x (Some p) f e same = ap (times_named x) (above-some b x p (e ∙ f)) ∙ same p ∙ sym (ap (times_named x) (above-some a x p f))

      by-number : (s : Slab (NodeCells D)) (i x : ℕ) (p q : Cell D) → p.number ≡ q.number → NamesChild s i x p → NamesChild s i x q
      by-number s i x p q e is = record {
        names = record { number_is = subst (λ z. z ≡ pos (unsigned_abs z)) e is.names.number_is; level_is = subst (λ z. level_at s (unsigned_abs z) ≡ Some i) e is.names.level_is };
        parent_is = subst (λ z. parent_at s (unsigned_abs z) ≡ Some x) e is.parent_is;
      }
