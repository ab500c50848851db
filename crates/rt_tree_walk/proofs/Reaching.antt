-- An admitted row's leaf is reached: its box lies in the cell of each node above it.
use Rattle.std.proofs.Common.{◌≡◌, ◌≢◌, ℕ, zero, suc, ◌+◌, ◌<◌, Bool, true, List, [], ◌∷◌, length, fold, get_or, Contains, Option, Some, None, arith, refl, ap, sym, ◌∙◌, subst, inl, inr}
use Rattle.std.specs.List.{All, count_by}
use Rattle.std.proofs.lemmas.Bool.{cases_eq}
use Rattle.std.proofs.lemmas.Option.{same_Some, none-some}
use Rattle.std.proofs.lemmas.List.{get_or-map}
use Rattle.std.proofs.lemmas.List.Elements.{All-cons, All-head, All-tail, All-contains_itself}
use Rattle.slab.specs.Slab.{Slab, get}
use Rattle.rt_box.specs.declared.interval.Interval.{Interval}
use Rattle.rt_box.specs.Rect.{IsBox, Holds, union_box}
use Rattle.rt_box.specs.Window.{Admits}
use Rattle.rt_box.proofs.Holding.{Holds_refl, Holds_trans, Holds-union_left, Holds-union_right}
use Rattle.rt_box.specs.Hull.{hull}
use Rattle.rt_tree_node.specs.declared.arena.Arena.{Arena}
use Rattle.rt_tree_node.specs.declared.cell.Cell.{Cell}
use Rattle.rt_tree_node.specs.Node.{NodeCells}
use Rattle.rt_tree_node.specs.Places.{key_of, rects, times_named, level_of, inner_part, leaf_part, cells_of, inner_cells_of, leaf_cells_of, cells_at, inner_cells_at, leaf_cells_at, level_at, parent_at, cells_above, hull_at}
use Rattle.rt_tree_node.specs.Sound.{IsLinked, NamesChild}
use Rattle.rt_tree_node.specs.Whole.{IsWhole}
use Rattle.rt_tree_node.proofs.Counts.{count-find}
use Rattle.rt_tree_node.proofs.Places.{names_key, named-find}
use Rattle.rt_tree_node.proofs.Links.{above-some, above-none}
use Rattle.rt_tree_walk.specs.Search.{IsReached}

-- what holds of all holds of what is there
pub All_contained : {X : Type 0} (P : X → Type 0) (xs : List X) (x : X) → All P xs → Contains xs x → P x
All_contained P xs x all h = subst P h.2 (all h.0 x h.1)

-- what is counted is there
pub counted-contained : {X : Type 0} (test : X → Bool) (xs : List X) → 0 < count_by test xs → (x : X) × Contains xs x × (test x ≡ true)
counted-contained test xs some = let r = count-find test (Contains xs) xs (All-contains_itself xs) some in (r.0, r.2, r.1)

-- ---- hulls
pub union-long : (n : ℕ) (a b : List Interval) → length a ≡ n → length b ≡ n → length (union_box a b) ≡ n
union-long zero [] b e f = refl
union-long zero (x ∷ a) b e f = absurd (omega arith)
union-long (suc n) [] b e f = absurd (omega arith)
union-long (suc n) (x ∷ a) [] e f = absurd (omega arith)
union-long (suc n) (x ∷ a) (y ∷ b) e f = let r = union-long n a b (omega arith) (omega arith) in omega arith

module _ (n : ℕ) where
  folded-first : (acc : List Interval) (bs : List (List Interval)) → length acc ≡ n → All (λ b. length b ≡ n) bs → Holds (fold union_box acc bs) acc
  folded-first acc [] e all = Holds_refl acc
  folded-first acc (b ∷ bs) e all =
      let f = All-head (λ x. length x ≡ n) b bs all in
      let up = folded-first (union_box acc b) bs (union-long n acc b e f) (All-tail (λ x. length x ≡ n) b bs all) in
      Holds_trans (fold union_box (union_box acc b) bs) (union_box acc b) acc up (Holds-union_left acc b (e ∙ sym f))

  folded-rest : (acc : List Interval) (bs : List (List Interval)) → length acc ≡ n → All (λ b. length b ≡ n) bs →
      (k : ℕ) (d : List Interval) → k < length bs → Holds (fold union_box acc bs) (get_or bs k d)
  folded-rest acc [] e all k d h = absurd (omega arith)
  folded-rest acc (b ∷ bs) e all zero d h =
      let f = All-head (λ x. length x ≡ n) b bs all in
      let up = folded-first (union_box acc b) bs (union-long n acc b e f) (All-tail (λ x. length x ≡ n) b bs all) in
      Holds_trans (fold union_box (union_box acc b) bs) (union_box acc b) b up (Holds-union_right acc b (e ∙ sym f))
  folded-rest acc (b ∷ bs) e all (suc k) d h =
      let f = All-head (λ x. length x ≡ n) b bs all in
      folded-rest (union_box acc b) bs (union-long n acc b e f) (All-tail (λ x. length x ≡ n) b bs all) k d (omega arith)

  -- the hull holds each of its boxes
  pub hull-holds : (bs : List (List Interval)) → All (λ b. length b ≡ n) bs → (k : ℕ) (d : List Interval) → k < length bs → Holds (hull bs) (get_or bs k d)
  hull-holds [] all k d h = absurd (omega arith)
  hull-holds (b ∷ bs) all zero d h = folded-first b bs (All-head (λ x. length x ≡ n) b bs all) (All-tail (λ x. length x ≡ n) b bs all)
  hull-holds (b ∷ bs) all (suc k) d h = folded-rest b bs (All-head (λ x. length x ≡ n) b bs all) (All-tail (λ x. length x ≡ n) b bs all) k d (omega arith)

module _ {D : ℕ} where
  pub boxes-long : (cells : List (Cell D)) → All (λ c. IsBox D c.rect) cells → All (λ b. length b ≡ D) (rects cells)
  boxes-long [] all = λ k d h. absurd (omega arith)
  boxes-long (c ∷ cs) all =
      All-cons (λ b. length b ≡ D) c.rect (rects cs) (All-head (λ x. IsBox D x.rect) c cs all).axes_are
      (boxes-long cs (All-tail (λ x. IsBox D x.rect) c cs all))

  contained-rect : (cells : List (Cell D)) (c : Cell D) → Contains cells c → All (λ x. IsBox D x.rect) cells → Holds (hull (rects cells)) c.rect
  contained-rect cells c h all =
      let e : get_or (rects cells) h.0 [] ≡ c.rect = get_or-map (λ x. x.rect) cells h.0 c [] h.1 ∙ ap (λ (x : Cell D). x.rect) h.2 in
      let within : h.0 < length (rects cells) = by cells h.0 h.1 in
      subst (Holds (hull (rects cells))) e (hull-holds D (rects cells) (boxes-long cells all) h.0 [] within)
    where
      by : (xs : List (Cell D)) (k : ℕ) → k < length xs → k < length (rects xs)
      by [] k h = absurd (omega arith)
      by (x ∷ xs) zero h = omega arith
      by (x ∷ xs) (suc k) h = let r = by xs k (omega arith) in omega arith

  -- the hull of a node holds each of its cells' boxes
  pub hull-contained : (t : Arena D) → IsWhole t → (k : ℕ) (c : Cell D) → Contains (cells_at t.nodes k) c → Holds (hull_at t.nodes k) c.rect
  hull-contained t whole k c h = contained-rect (cells_at t.nodes k) c h (whole.fitted.boxes k)

  -- ---- where a place has cells above the leaves, or rows
  pub record IsInner (a : Slab (NodeCells D)) (k l : ℕ) : Type 0 where
    pub level : level_at a k ≡ Some (suc l)
    pub cells : inner_cells_at a k ≡ cells_at a k

  inner-place : (s : Option (NodeCells D)) → 0 < length (inner_cells_of s) → (l : ℕ) × (level_of s ≡ Some (suc l)) × (inner_cells_of s ≡ cells_of s)
  inner-place None h = absurd (omega arith)
  inner-place (Some n) h = by n.level refl h
    where
      by : (m : ℕ) → n.level ≡ m → 0 < length (inner_part m n.cells) →
          (l : ℕ) × (level_of (Some n) ≡ Some (suc l)) × (inner_cells_of (Some n) ≡ cells_of (Some n))
      by zero e some = absurd (omega arith)
      by (suc l) e some = (l, ap Some e, ap (λ m. inner_part m n.cells) e)

  pub inner-level : (a : Slab (NodeCells D)) (k : ℕ) → 0 < length (inner_cells_at a k) → (l : ℕ) × IsInner a k l
  inner-level a k h = let r = inner-place (get a k) h in (r.0, record { level = r.1; cells = r.2 })

  leaf-place : (s : Option (NodeCells D)) → 0 < length (leaf_cells_of s) → (level_of s ≡ Some 0) × (leaf_cells_of s ≡ cells_of s)
  leaf-place None h = absurd (omega arith)
  leaf-place (Some n) h = by n.level refl h
    where
      by : (m : ℕ) → n.level ≡ m → 0 < length (leaf_part m n.cells) →
          (level_of (Some n) ≡ Some 0) × (leaf_cells_of (Some n) ≡ cells_of (Some n))
      by zero e some = (ap Some e, ap (λ m. leaf_part m n.cells) e)
      by (suc l) e some = absurd (omega arith)

  pub leaf-level : (a : Slab (NodeCells D)) (k : ℕ) → 0 < length (leaf_cells_at a k) → (level_at a k ≡ Some 0) × (leaf_cells_at a k ≡ cells_at a k)
  leaf-level a k h = leaf-place (get a k) h

  -- ---- the parent
  -- the cell by which the parent names a node
  pub record IsNamedBy (a : Slab (NodeCells D)) (k l p : ℕ) (c : Cell D) : Type 0 where
    pub parent_is : parent_at a k ≡ Some p
    pub level_is : level_at a p ≡ Some (suc l)
    pub there : Contains (cells_at a p) c
    pub names : key_of c ≡ k

  module _ (a : Slab (NodeCells D)) (root level : ℕ) (linked : IsLinked a root level []) where
    -- each node but the root has a parent on the next level, and is named by one of its cells
    pub named-by : (k l : ℕ) → level_at a k ≡ Some l → k ≢ root → (p : ℕ) × (c : Cell D) × IsNamedBy a k l p c
    named-by k l lev ne = by (parent_at a k) refl
      where
        one : times_named k (cells_above a k) ≡ 1
        one = let h = linked.named k l lev ne in omega arith

        by : (o : Option ℕ) → parent_at a k ≡ o → (p : ℕ) × (c : Cell D) × IsNamedBy a k l p c
        by None e = let n = ap (times_named k) (above-none a k e) in absurd (omega (arith, n, one))
        by (Some p) e =
            let same = ap (times_named k) (above-some a k p e) in
            let found = counted-contained (names_key k) (inner_cells_at a p) (omega (arith, same, one)) in
            let some : 0 < length (inner_cells_at a p) = let h = found.1.1 in omega arith in
            let inner = inner-level a p some in
            let there : Contains (cells_at a p) found.0 = subst (λ (xs : List (Cell D)). Contains xs found.0) inner.1.cells found.1 in
            let named = named-find k (Contains (inner_cells_at a p)) (inner_cells_at a p) (All-contains_itself (inner_cells_at a p)) (omega (arith, same, one)) in
            let there2 : Contains (cells_at a p) named.0 = subst (λ (xs : List (Cell D)). Contains xs named.0) inner.1.cells named.2 in
            let child = All_contained (NamesChild a inner.0 p) (cells_at a p) named.0 (linked.children p inner.0 inner.1.level) there2 in
            let levels : inner.0 ≡ l = same_Some inner.0 l (sym child.names.level_is ∙ ap (level_at a) named.1 ∙ lev) in (
              p,
              named.0,
              record {
                parent_is = e;
                level_is = inner.1.level ∙ ap (λ m. Some (suc m)) levels;
                there = there2;
                names = named.1;
              },
            )

  module _ (t : Arena D) (window : List Interval) (whole : IsWhole t) (none : t.pending.items ≡ []) where
    linked-alone : IsLinked t.nodes t.root t.level []
    linked-alone = subst (IsLinked t.nodes t.root t.level) none whole.linked

    -- the cell that names a node has its hull
    pub named-hull : (k l p : ℕ) (c : Cell D) → IsNamedBy t.nodes k l p c → c.rect ≡ hull_at t.nodes k
    named-hull k l p c is =
        All_contained (λ x. (None ≡ Some (key_of x) → ⊥) → x.rect ≡ hull_at t.nodes (key_of x)) (cells_at t.nodes p) c
        (whole.fitted.hulls p l is.level_is) is.there (none-some (key_of c))
        ∙ ap (hull_at t.nodes) is.names

    module _ (b : List Interval) (box : IsBox D b) (yes : Admits window b) where
      up-one : (k l p : ℕ) (c : Cell D) → IsNamedBy t.nodes k l p c → Holds (hull_at t.nodes k) b → Holds c.rect b
      up-one k l p c is holds = subst (λ (r : List Interval). Holds r b) (sym (named-hull k l p c is)) holds

      up-two : (k l p : ℕ) (c : Cell D) → IsNamedBy t.nodes k l p c → Holds (hull_at t.nodes k) b → Holds (hull_at t.nodes p) b
      up-two k l p c is holds =
          Holds_trans (hull_at t.nodes p) c.rect b (hull-contained t whole p c is.there) (up-one k l p c is holds)

      down-one : (k l p : ℕ) (c : Cell D) → IsNamedBy t.nodes k l p c → Holds (hull_at t.nodes k) b → IsReached t window p → IsReached t window k
      down-one k l p c is holds above =
          IsReached.child l above is.level_is (c, is.there, is.names, (b, box, up-one k l p c is holds, yes))

      -- a node whose hull holds an admitted box is reached
      pub reached-up : (n k l : ℕ) → level_at t.nodes k ≡ Some l → l + n ≡ t.level → Holds (hull_at t.nodes k) b → IsReached t window k
      reached-up zero k l lev up holds = elim (cases_eq k t.root) [
        | inl e ↦ subst (IsReached t window) (sym e) IsReached.root
        | inr ne ↦
            let p = named-by t.nodes t.root t.level linked-alone k l lev ne in
            let high = linked-alone.levels p.0 (suc l) p.2.level_is in
            absurd (omega arith)
      ]
      reached-up (suc n) k l lev up holds = elim (cases_eq k t.root) [
        | inl e ↦ subst (IsReached t window) (sym e) IsReached.root
        | inr ne ↦
            let p = named-by t.nodes t.root t.level linked-alone k l lev ne in
            down-one k l p.0 p.1 p.2 holds (reached-up n p.0 (suc l) p.2.level_is (omega arith) (up-two k l p.0 p.1 p.2 holds))
      ]
