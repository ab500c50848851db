-- The sums of the nodes, after each kind of change.
use Rattle.std.proofs.Common.{replicate, ◌≡◌, ◌≢◌, ◌⊎◌, ℕ, zero, suc, ◌+◌, ◌-◌, ◌<◌, ◌≤◌, Bool, false, List, [], ◌∷◌, ◌++◌, length, get_or, set, unsigned_abs, Option, Some, None, IsSome, arith, refl, ap, ap₂, ◌∙◌, sym, subst, inl, inr}
use Rattle.std.specs.List.{All, AllZip, Contains, sum_by, flat_map}
use Rattle.std.proofs.lemmas.Bool.{cases_eq, cases_lt}
use Rattle.std.proofs.lemmas.Option.{same_Some, none-some}
use Rattle.std.proofs.lemmas.List.{get_or-set_same, get_or-set_other, length-set, get_or_past, get_or_append_left, get_or-append_right, get_or-replicate, length-replicate}
use Rattle.std.proofs.lemmas.List.Concat.{length-flat_map}
use Rattle.std.proofs.lemmas.List.Elements.{All-head, All-tail, All-weaker, Contains-push_cases}
use Rattle.std.proofs.Math.Path.{fun_ext}
use Rattle.std.proofs.lemmas.List.Sums.{sum_by-cons, sum_by-set}
use Rattle.slab.specs.Slab.{Slab, get, Updates, with_value, IsSlotClone}
use Rattle.slab.proofs.SlabLemmas.{Updates-with_value}
use Rattle.rt_tree_node.specs.declared.cell.Cell.{Cell}
use Rattle.rt_tree_node.specs.Node.{NodeCells}
use Rattle.rt_tree_node.specs.Places.{key_of, times_named, inner_part, inner_cells_of, inner_cells_at, cells_of, cells_at, level_of, level_at, parent_at}
use Rattle.rt_tree_node.specs.Sound.{IsLinked, NamesChild}
use Rattle.rt_tree_node.specs.Sums.{sum_at, total_of, total, AddUp, AddUpBelow, Logs, Misses, Learns}
use Rattle.rt_tree_node.specs.Below.{rows_below}
use Rattle.rt_tree_node.proofs.Counts.{count-append}
use Rattle.rt_tree_node.proofs.Places.{names_key, inner-all, named-none, named-one, named-other}
use Rattle.rt_tree_node.proofs.Links.{above-some, unnamed-elsewhere}

module _ {D : ℕ} (a b : Slab (NodeCells D)) (sums : List ℕ) (k : ℕ) where
  -- a place that is stale from now on got something else
  pub written : (old new : List ℕ) (was is : Bool) → ((x : ℕ) → x ≢ k → get b x ≡ get a x) → Logs old new was is k →
      (was ≡ false → AddUp a sums (Contains old)) → is ≡ false → AddUp b sums (Contains new)
  written old new was is same logs so known x n here fresh = elim (cases_eq x k) [
    | inl e ↦ absurd (fresh (subst (Contains new) (sym e) (logs.here known)))
    | inr other ↦ so (logs.kept known) x n (sym (same x other) ∙ here) (λ stale. fresh (logs.others x stale))
  ]

  -- a place is vacant now
  pub vacated : (odd : ℕ → Type 0) → Updates a b k None → AddUp a sums odd → AddUp b sums odd
  vacated odd u so x n here fresh = elim (cases_eq x k) [
    | inl same ↦ absurd (none-some n (sym u.changed ∙ ap (get b) (sym same) ∙ here))
    | inr other ↦ so x n (sym (u.others x other) ∙ here) fresh
  ]

  -- a node was written whose sum is to be the same
  pub evenly : (odd : ℕ → Type 0) (old new : NodeCells D) → get a k ≡ Some old → total sums new ≡ total sums old →
      Updates a b k (Some new) → AddUp a sums odd → AddUp b sums odd
  evenly odd old new was is u so x n here fresh = elim (cases_eq x k) [
    | inl same ↦
        let e : new ≡ n = same_Some new n (sym u.changed ∙ ap (get b) (sym same) ∙ here) in
        so x old (ap (get a) same ∙ was) fresh ∙ sym is ∙ ap (total sums) e
    | inr other ↦ so x n (sym (u.others x other) ∙ here) fresh
  ]

-- another cell with the number of the one in its place
module _ {D : ℕ} (sums : List ℕ) (cells : List (Cell D)) (at : ℕ) (c d : Cell D) (within : at < length cells) (same : (get_or cells at d).number ≡ c.number) where
  level-set : (l : ℕ) → total_of sums l (set cells at c) ≡ total_of sums l cells
  level-set zero = length-set cells at c
  level-set (suc l) =
      let f : Cell D → ℕ = λ x. sum_at sums (key_of x) in
      let e = sum_by-set f cells at c d within in
      let here : f (get_or cells at d) ≡ f c = ap (λ n. sum_at sums (unsigned_abs n)) same in
      omega (arith, e, here)

  pub total-set : (n : NodeCells D) → n.cells ≡ cells → total sums (record n { cells = set n.cells at c }) ≡ total sums n
  total-set n is = ap (λ (xs : List (Cell D)). total_of sums n.level (set xs at c)) is ∙ level-set n.level ∙ ap (total_of sums n.level) (sym is)

module _ {D : ℕ} (a : Slab (NodeCells D)) (sums : List ℕ) (k i : ℕ) (e : i ≡ k) where
  -- a node that is stale from now on was written
  pub set-logged : (n : NodeCells D) (old new : List ℕ) (was is : Bool) → Logs old new was is k →
      (was ≡ false → AddUp a sums (Contains old)) → is ≡ false → AddUp (with_value a i n) sums (Contains new)
  set-logged n old new was is logs so =
      written a (with_value a i n) sums k old new was is (λ x other. get_or-set_other a.slots i x (Some n) None (λ f. other (f ∙ e))) logs so

  -- a node was written whose sum is to be the same
  pub set-even : (odd : ℕ → Type 0) (old new : NodeCells D) → get a i ≡ Some old → total sums new ≡ total sums old →
      AddUp a sums odd → AddUp (with_value a i new) sums odd
  set-even odd old new was is so =
      evenly a (with_value a i new) sums i odd old new was is (Updates-with_value a i new (by (get a i) was)) so
    where
      by : (o : Option (NodeCells D)) → o ≡ Some old → IsSome o
      by None f = absurd (none-some old f)
      by (Some m) f = refl

  -- another node
  pub written-new : (b : Slab (NodeCells D)) (old new : List ℕ) (was is : Bool) → ((x : ℕ) → x ≢ i → get b x ≡ get a x) → Logs old new was is k →
      (was ≡ false → AddUp a sums (Contains old)) → is ≡ false → AddUp b sums (Contains new)
  written-new b old new was is others logs so = written a b sums k old new was is (λ x other. others x (λ f. other (f ∙ e))) logs so

-- ---- the sum of a key is another one
module _ (sums : List ℕ) (k v : ℕ) (within : k < length sums) where
  now-here : sum_at (set sums k v) k ≡ v
  now-here = get_or-set_same sums k v 0 within

  now-other : (x : ℕ) → x ≢ k → sum_at (set sums k v) x ≡ sum_at sums x
  now-other x other = get_or-set_other sums k x v 0 other

module _ {D : ℕ} (sums : List ℕ) (k v : ℕ) (within : k < length sums) where
  cells-unnamed : (cells : List (Cell D)) → times_named k cells ≡ 0 → sum_by (λ c. sum_at (set sums k v) (key_of c)) cells ≡ sum_by (λ c. sum_at sums (key_of c)) cells
  cells-unnamed [] none = refl
  cells-unnamed (c ∷ cs) none =
      let split = count-append (names_key k) (c ∷ []) cs in
      let a = sum_by-cons (λ (x : Cell D). sum_at (set sums k v) (key_of x)) c cs in
      let b = sum_by-cons (λ (x : Cell D). sum_at sums (key_of x)) c cs in
      elim (cases_eq (key_of c) k) [
        | inl same ↦ absurd (omega (arith, split, named-one k c same))
        | inr other ↦ omega (arith, a, b, now-other sums k v within (key_of c) other, cells-unnamed cs (omega (arith, split)))
      ]

  cells-once : (cells : List (Cell D)) → times_named k cells ≡ 1 →
      sum_by (λ c. sum_at (set sums k v) (key_of c)) cells + sum_at sums k ≡ sum_by (λ c. sum_at sums (key_of c)) cells + v
  cells-once [] once = absurd (omega arith)
  cells-once (c ∷ cs) once =
      let split = count-append (names_key k) (c ∷ []) cs in
      let a = sum_by-cons (λ (x : Cell D). sum_at (set sums k v) (key_of x)) c cs in
      let b = sum_by-cons (λ (x : Cell D). sum_at sums (key_of x)) c cs in
      elim (cases_eq (key_of c) k) [
        | inl same ↦
            let rest = cells-unnamed cs (omega (arith, split, named-one k c same)) in
            omega (arith, a, b, rest, ap (sum_at (set sums k v)) same, now-here sums k v within, ap (sum_at sums) same)
        | inr other ↦ omega (arith, a, b, now-other sums k v within (key_of c) other, cells-once cs (omega (arith, split, named-other k c other)))
      ]

  level-unnamed : (l : ℕ) (cells : List (Cell D)) → times_named k (inner_part l cells) ≡ 0 → total_of (set sums k v) l cells ≡ total_of sums l cells
  level-unnamed zero cells none = refl
  level-unnamed (suc l) cells none = cells-unnamed cells none

  level-once : (l : ℕ) (cells : List (Cell D)) → times_named k (inner_part l cells) ≡ 1 → total_of (set sums k v) l cells + sum_at sums k ≡ total_of sums l cells + v
  level-once zero cells once = absurd (omega arith)
  level-once (suc l) cells once = cells-once cells once

  module _ (a : Slab (NodeCells D)) where
    -- a node whose cells don't name the key
    total-unnamed : (x : ℕ) (m : NodeCells D) → get a x ≡ Some m → times_named k (inner_cells_at a x) ≡ 0 → total (set sums k v) m ≡ total sums m
    total-unnamed x m here none = level-unnamed m.level m.cells (sym (ap (λ o. times_named k (inner_cells_of o)) here) ∙ none)

    -- the node of which one cell names the key
    total-once : (x : ℕ) (m : NodeCells D) → get a x ≡ Some m → times_named k (inner_cells_at a x) ≡ 1 → total (set sums k v) m + sum_at sums k ≡ total sums m + v
    total-once x m here once = level-once m.level m.cells (sym (ap (λ o. times_named k (inner_cells_of o)) here) ∙ once)

    stays : (x : ℕ) (m : NodeCells D) → get a x ≡ Some m → x ≢ k → times_named k (inner_cells_at a x) ≡ 0 → sum_at sums x ≡ total sums m → sum_at (set sums k v) x ≡ total (set sums k v) m
    stays x m here other none e = now-other sums k v within x other ∙ e ∙ sym (total-unnamed x m here none)

-- ---- a change goes up
module _ {D : ℕ} (a : Slab (NodeCells D)) (root level : ℕ) (linked : IsLinked a root level []) (k : ℕ) where
  -- no node of the level, or below it, names a node of the level
  unnamed-level : (l : ℕ) → level_at a k ≡ Some l → (x i : ℕ) → level_at a x ≡ Some i → i ≤ l → times_named k (inner_cells_at a x) ≡ 0
  unnamed-level l lev x i levx low = named-none k (inner_cells_at a x) (inner-all (λ c. key_of c ≢ k) a x (λ j e n d within same.
      let child = linked.children x j e n d within in
      let at = same_Some j l (sym child.names.level_is ∙ ap (level_at a) same ∙ lev) in
      let up = same_Some i (suc j) (sym levx ∙ e) in
      absurd (omega arith)))

  module _ (sums stale : List ℕ) (old new : ℕ) (misses : Misses a sums stale (record { key = k; old = old; new = new }))
      (n : NodeCells D) (here : get a k ≡ Some n) (fresh : Contains stale k → ⊥) (v : ℕ) (is : v + old ≡ sum_at sums k + new) (within : k < length sums) where
    itself-unnamed : times_named k (inner_cells_at a k) ≡ 0
    itself-unnamed = unnamed-level n.level (ap level_of here) k n.level (ap level_of here) (omega arith)

    own-right : (m : NodeCells D) → get a k ≡ Some m → sum_at (set sums k v) k ≡ total (set sums k v) m
    own-right m there =
        let e : sum_at sums k + new ≡ total sums m + old = misses.own m there fresh in
        let same = total-unnamed sums k v within a k m there itself-unnamed in
        omega (arith, e, same, now-here sums k v within)

    others-right : (x : ℕ) (m : NodeCells D) → get a x ≡ Some m → x ≢ k → parent_at a k ≢ Some x → (Contains stale x → ⊥) →
        sum_at (set sums k v) x ≡ total (set sums k v) m
    others-right x m there other apart fine =
        stays sums k v within a x m there other (unnamed-elsewhere a root level [] linked x k apart)
        (misses.rest x m there (λ either. elim either [ inl stale ↦ fine stale | inr same ↦ other same ]))

    -- there is no parent
    pub risen : parent_at a k ≡ None → AddUp a (set sums k v) (Contains stale)
    risen none x m there fine = elim (cases_eq x k) [
      | inl same ↦ subst (λ (y : ℕ). sum_at (set sums k v) y ≡ total (set sums k v) m) (sym same) (own-right m (ap (get a) (sym same) ∙ there))
      | inr other ↦ others-right x m there other (λ e. none-some x (sym none ∙ e)) fine
    ]

    module _ (p : ℕ) (parent : parent_at a k ≡ Some p) where
      once-above : times_named k (inner_cells_at a p) ≡ 1
      once-above =
          let not_root : k ≢ root = λ e. none-some p (sym linked.root_parent ∙ ap (parent_at a) (sym e) ∙ parent) in
          let one = linked.named k n.level (ap level_of here) not_root in
          let same = ap (times_named k) (above-some a k p parent) in
          omega (arith, one, same)

      apart : p ≢ k
      apart e = let one = ap (λ y. times_named k (inner_cells_at a y)) e in omega (arith, one, once-above, itself-unnamed)

      -- the parent's sum is to follow
      pub rises : Misses a (set sums k v) stale (record { key = p; old = sum_at sums k; new = v })
      rises = record {
        rest = λ x m there fine. elim (cases_eq x k) [
          | inl same ↦ subst (λ (y : ℕ). sum_at (set sums k v) y ≡ total (set sums k v) m) (sym same) (own-right m (ap (get a) (sym same) ∙ there))
          | inr other ↦ others-right x m there other (λ e. fine (inr (sym (same_Some p x (sym parent ∙ e))))) (λ stale. fine (inl stale))
        ];
        own = λ m there fine.
            let was : sum_at sums p ≡ total sums m = misses.rest p m there (λ either. elim either [ inl stale ↦ fine stale | inr same ↦ apart same ]) in
            omega (arith, was, now-other sums k v within p apart, total-once sums k v within a p m there once-above);
      }

-- ---- level by level
module _ {D : ℕ} (a : Slab (NodeCells D)) (root level : ℕ) (linked : IsLinked a root level []) (sums : List ℕ) where
  -- a node's sum is that of its cells now
  pub learned : (k l v : ℕ) (n : NodeCells D) → get a k ≡ Some n → n.level ≡ l → v ≡ total sums n → k < length sums →
      AddUpBelow a sums l → Learns a sums (set sums k v) l k
  learned k l v n here e is within lower = record {
    lower = λ x m there low.
        let other : x ≢ k = λ same.
        let lev = same_Some m.level n.level (sym (ap level_of there) ∙ ap (level_at a) same ∙ ap level_of here) in omega arith in
        stays sums k v within a x m there other
        (unnamed-level a root level linked k n.level (ap level_of here) x m.level (ap level_of there) (omega arith))
        (lower x m there low);
    same = λ x m there at either. elim (cases_eq x k) [
      | inl same ↦
          let one : m ≡ n = same_Some m n (sym there ∙ ap (get a) same ∙ here) in
          let none = unnamed-level a root level linked k n.level (ap level_of here) k n.level (ap level_of here) (omega arith) in
          ap (sum_at (set sums k v)) same ∙ now-here sums k v within ∙ is ∙ sym (total-unnamed sums k v within a k n here none) ∙ ap (total (set sums k v)) (sym one)
      | inr other ↦ elim either [
        | inl same ↦ absurd (other same)
        | inr right ↦
            stays sums k v within a x m there other
            (unnamed-level a root level linked k n.level (ap level_of here) x m.level (ap level_of there) (omega arith)) right
      ]
    ];
  }

-- no node's sum changes where there is none of the level
pub learned-none : {D : ℕ} (a : Slab (NodeCells D)) (sums : List ℕ) (k l : ℕ) →
    ((n : NodeCells D) → get a k ≡ Some n → n.level ≡ l → ⊥) → AddUpBelow a sums l → Learns a sums sums l k
learned-none a sums k l none lower = record {
  lower = lower;
  same = λ x m there at either. elim either [
    | inl same ↦ absurd (none m (ap (get a) (sym same) ∙ there) at)
    | inr right ↦ right
  ];
}

-- ---- what the sums say
module _ {D : ℕ} (a : Slab (NodeCells D)) (root level : ℕ) (linked : IsLinked a root level []) (sums : List ℕ) (odd : ℕ → Type 0)
    (none : (k : ℕ) → odd k → ⊥) (so : AddUp a sums odd) where
  abbrev Known : ℕ → Type 0
  Known l = (k : ℕ) → level_at a k ≡ Some l → sum_at sums k ≡ length (rows_below a l k)

  known-cells : (l : ℕ) → Known l → (cells : List (Cell D)) → All (λ c. level_at a (key_of c) ≡ Some l) cells →
      sum_by (λ c. sum_at sums (key_of c)) cells ≡ sum_by (λ c. length (rows_below a l (key_of c))) cells
  known-cells l by [] all = refl
  known-cells l by (c ∷ cs) all =
      let p = sum_by-cons (λ (x : Cell D). sum_at sums (key_of x)) c cs in
      let q = sum_by-cons (λ (x : Cell D). length (rows_below a l (key_of x))) c cs in
      omega (
        arith,
        p,
        q,
        by (key_of c) (All-head (λ x. level_at a (key_of x) ≡ Some l) c cs all),
        known-cells l by cs (All-tail (λ x. level_at a (key_of x) ≡ Some l) c cs all),
      )

  known-leaf : (k : ℕ) (o : Option (NodeCells D)) → get a k ≡ o → level_of o ≡ Some 0 → sum_at sums k ≡ length (cells_of o)
  known-leaf k None e lev = absurd (none-some 0 lev)
  known-leaf k (Some n) e lev = so k n e (none k) ∙ ap (λ i. total_of sums i n.cells) (same_Some n.level 0 lev)

  known-inner : (l k : ℕ) → Known l → (o : Option (NodeCells D)) → get a k ≡ o → level_of o ≡ Some (suc l) →
      All (λ c. level_at a (key_of c) ≡ Some l) (cells_of o) → sum_at sums k ≡ length (flat_map (λ c. rows_below a l (key_of c)) (cells_of o))
  known-inner l k by None e lev all = absurd (none-some (suc l) lev)
  known-inner l k by (Some n) e lev all =
      so k n e (none k) ∙ ap (λ i. total_of sums i n.cells) (same_Some n.level (suc l) lev) ∙ known-cells l by n.cells all
      ∙ sym (length-flat_map (λ c. rows_below a l (key_of c)) n.cells)

  pub known : (l k : ℕ) → level_at a k ≡ Some l → sum_at sums k ≡ length (rows_below a l k)
  known zero k lev = known-leaf k (get a k) refl lev
  known (suc l) k lev =
      known-inner l k (known l) (get a k) refl lev
      (All-weaker (NamesChild a l k) (λ c. level_at a (key_of c) ≡ Some l) (λ c is. is.names.level_is) (cells_at a k) (linked.children k l lev))

-- ---- a longer list of sums
pub padded-same : (xs : List ℕ) (m k : ℕ) → sum_at (xs ++ replicate m 0) k ≡ sum_at xs k
padded-same xs m k = elim (cases_lt k (length xs)) [
  | inl lt ↦ get_or_append_left xs (replicate m 0) 0 k lt
  | inr ge ↦ get_or-append_right xs (replicate m 0) (length xs) k 0 refl ge ∙ zeros (k - length xs) ∙ sym (get_or_past xs k 0 ge)
]
  where
    zeros : (i : ℕ) → ◌≡◌ {A = ℕ} (get_or (replicate m 0) i 0) 0
    zeros i = elim (cases_lt i m) [
      | inl lt ↦ get_or-replicate m i 0 0 lt
      | inr ge ↦ get_or_past (replicate m 0) i 0 (omega (arith, length-replicate {A = ℕ} m 0))
    ]

-- the same nodes, and the same sums
pub AddUp-same : {D : ℕ} (a b : Slab (NodeCells D)) (sums more : List ℕ) (odd : ℕ → Type 0) → b.slots ≡ a.slots → ((k : ℕ) → sum_at more k ≡ sum_at sums k) →
    AddUp a sums odd → AddUp b more odd
AddUp-same {D} a b sums more odd slots same so key n here fresh =
    same key ∙ so key n (ap (λ (xs : List (Option (NodeCells D))). get_or xs key None) (sym slots) ∙ here) fresh ∙ totals n.level n.cells
  where
    totals : (l : ℕ) (cells : List (Cell D)) → total_of sums l cells ≡ total_of more l cells
    totals zero cells = refl
    totals (suc l) cells = ap (λ (f : ℕ → ℕ). sum_by (λ c. f (key_of c)) cells) (fun_ext (λ k. sym (same k)))

-- a copy has the slots that were copied
pub slots-copied : {X : Type 0} (xs ys : List (Option X)) → AllZip (IsSlotClone (λ (x y : X). y ≡ x)) xs ys → ys ≡ xs
slots-copied [] [] h = refl
slots-copied [] (y ∷ ys) h = absurd h
slots-copied (x ∷ xs) [] h = absurd h
slots-copied {X} (None ∷ xs) (y ∷ ys) h = ap₂ (λ (o : Option X) (os : List (Option X)). o ∷ os) h.0 (slots-copied xs ys h.1)
slots-copied (Some x ∷ xs) (None ∷ ys) h = absurd h.0
slots-copied {X} (Some x ∷ xs) (Some y ∷ ys) h = ap₂ (λ (o : Option X) (os : List (Option X)). o ∷ os) (ap Some h.0) (slots-copied xs ys h.1)

-- no sum is stale
pub AddUp-all : {D : ℕ} (a : Slab (NodeCells D)) (sums stale : List ℕ) (odd : ℕ → Type 0) → length stale ≡ 0 → AddUp a sums (Contains stale) → AddUp a sums odd
AddUp-all a sums stale odd none so key n here fresh = so key n here (λ there. let some = there.1 in omega (arith, some, none))

-- each level's sums are right
pub AddUp-levels : {D : ℕ} (a : Slab (NodeCells D)) (sums : List ℕ) (top : ℕ) (odd : ℕ → Type 0) → ((k l : ℕ) → level_at a k ≡ Some l → l ≤ top) →
    AddUpBelow a sums (top + 1) → AddUp a sums odd
AddUp-levels a sums top odd levels so key n here fresh = so key n here (let low = levels key n.level (ap level_of here) in omega arith)

-- a key is stale no longer
pub AddUp-popped : {D : ℕ} (a : Slab (NodeCells D)) (sums stale rest : List ℕ) (k : ℕ) → stale ≡ rest ++ k ∷ [] → AddUp a sums (Contains stale) →
    AddUp a sums (λ x. Contains rest x ⊎ (x ≡ k))
AddUp-popped a sums stale rest k e so key n here fresh = so key n here (λ there.
    elim (Contains-push_cases rest k key (subst (λ (xs : List ℕ). Contains xs key) e there)) [
      | inl old ↦ fresh (inl old)
      | inr same ↦ fresh (inr (sym same))
    ])
