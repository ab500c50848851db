-- The map of leaves, after each kind of change.
use Rattle.std.proofs.Common.{◌≡◌, ◌≢◌, ◌⊎◌, ℕ, zero, suc, ◌+◌, Bool, true, false, ℤ, List, [], ◌∷◌, ◌++◌, slice_get, Option, Some, None, is_some, IsSome, arith, refl, ap, ◌∙◌, sym, inl, inr}
use Rattle.indexmap.specs.IndexMap.{IndexMap, IsUnique, with_value_at}
use Rattle.indexmap.proofs.CallerLemmas.{keys-with_value_at, index_map_len-with_value_at, updates-with_value_at}
use Rattle.std.proofs.lemmas.Cmp.{int_eq_equiv}
use Rattle.std.specs.Ordering.{int_eq}
use Rattle.std.proofs.lemmas.Option.{same_Some}
use Rattle.std.proofs.lemmas.Bool.{cases_eq, cases_Bool, true≢false}
use Rattle.std.proofs.lemmas.Bool.Decides.{Decides-int_eq}
use Rattle.slab.specs.Slab.{Slab, get, Updates}
use Rattle.rt_tree_node.specs.declared.cell.Cell.{Cell}
use Rattle.rt_tree_node.specs.declared.cell.Pending.{Pending}
use Rattle.rt_tree_node.specs.Node.{NodeCells}
use Rattle.rt_tree_node.specs.Places.{times_listed, leaf_part, leaf_cells_of, leaf_cells_at, pending_rows, pending_at}
use Rattle.rt_tree_node.specs.Sound.{HasHomes}
use Rattle.rt_tree_node.specs.Homes.{Moves}
use Rattle.rt_tree_node.proofs.Counts.{count-one_yes, count-one_no}
use Rattle.rt_tree_node.proofs.Places.{count-leaf_push, rows-middle, rows-joined, has_id}

pub same-id : (x y : ℤ) → (x ≡ y) ⊎ (x ≢ y)
same-id x y = elim (cases_Bool (int_eq x y)) [
  | inl holds ↦ inl ((Decides-int_eq x y).0 holds)
  | inr fails ↦ inr (λ e. true≢false (sym ((Decides-int_eq x y).1 e) ∙ fails))
]

module _ {D : ℕ} where
  pub listed-one : (id : ℤ) (c : Cell D) → id ≡ c.number → times_listed id (c ∷ []) ≡ 1
  listed-one id c e = count-one_yes (has_id id) c ((Decides-int_eq id c.number).1 e)

  pub listed-other : (id : ℤ) (c : Cell D) → id ≢ c.number → times_listed id (c ∷ []) ≡ 0
  listed-other id c differs = count-one_no (has_id id) c (by (int_eq id c.number) refl)
    where
      by : (b : Bool) → int_eq id c.number ≡ b → int_eq id c.number ≡ false
      by true e = absurd (differs ((Decides-int_eq id c.number).0 e))
      by false e = e

  listed-leaf_other : (id : ℤ) (l : ℕ) (c : Cell D) → id ≢ c.number → times_listed id (leaf_part l (c ∷ [])) ≡ 0
  listed-leaf_other id zero c e = listed-other id c e
  listed-leaf_other id (suc l) c e = refl

  -- the leaves have the rows that they had
  pub homes-same : (f : ℤ → Option ℕ) (a b : Slab (NodeCells D)) (ws : List (Pending D)) →
      ((key : ℕ) (id : ℤ) → times_listed id (leaf_cells_at b key) ≡ times_listed id (leaf_cells_at a key)) → HasHomes f a ws → HasHomes f b ws
  homes-same f a b ws same homes = record {
    home = λ key id some. let e = same key id in homes.home key id (omega arith);
    there = λ key id is. let e = same key id in let old = homes.there key id is in omega arith;
    pending = homes.pending;
  }

  -- the same where other cells wait, that aren't rows
  pub homes-pending : (f : ℤ → Option ℕ) (a : Slab (NodeCells D)) (ws vs : List (Pending D)) →
      ((id : ℤ) → times_listed id (pending_rows vs) ≡ times_listed id (pending_rows ws)) → HasHomes f a ws → HasHomes f a vs
  homes-pending f a ws vs same homes = record {
    home = homes.home;
    there = λ key id is. let e = same id in let old = homes.there key id is in omega arith;
    pending = λ id some. let e = same id in homes.pending id (omega arith);
  }

  -- a pending row is appended to a leaf, and its entry leads there
  pub homes-appended : (f g : ℤ → Option ℕ) (a b : Slab (NodeCells D)) (xs : List (Pending D)) (w : Pending D) (ys : List (Pending D)) (k : ℕ) (n : NodeCells D) →
      HasHomes f a (xs ++ w ∷ ys) → get a k ≡ Some n → n.level ≡ 0 → w.level ≡ 0 →
      g w.cell.number ≡ Some k → ((id : ℤ) → id ≢ w.cell.number → g id ≡ f id) →
      Updates a b k (Some (record n { cells = n.cells ++ w.cell ∷ [] })) → HasHomes g b (xs ++ ys)
  homes-appended f g a b xs w ys k n homes has leaf row here others u = record {
    home = λ key id some. elim (same-id id w.cell.number) [
      | inl same ↦ elim (cases_eq key k) [
        | inl at ↦ ap g same ∙ here ∙ ap Some (sym at)
        | inr other ↦
            let e = ap (times_listed id) (ap leaf_cells_of (u.others key other)) in
            let old_home = homes.home key id (omega arith) in
            let old = homes.there key id old_home in
            let step = waits id in let one = listed-one id w.cell same in let part = is-row id in
            absurd (omega arith)
      ]
      | inr differs ↦ others id differs ∙ elim (cases_eq key k) [
        | inl at ↦
            let e : times_listed id (leaf_cells_at b key) ≡ times_listed id (leaf_cells_at b k) = ap (λ y. times_listed id (leaf_cells_at b y)) at in
            let grown = leaf-grown id in let none = listed-other id w.cell differs in
            homes.home k id (omega arith) ∙ ap Some (sym at)
        | inr other ↦ homes.home key id (let e = ap (times_listed id) (ap leaf_cells_of (u.others key other)) in omega arith)
      ]
    ];
    there = λ key id is. elim (same-id id w.cell.number) [
      | inl same ↦
          let key_is : k ≡ key = same_Some k key (sym here ∙ ap g (sym same) ∙ is) in
          let e : times_listed id (leaf_cells_at b key) ≡ times_listed id (leaf_cells_at b k) = ap (λ y. times_listed id (leaf_cells_at b y)) (sym key_is) in
          let grown = leaf-grown id in let one = listed-one id w.cell same in
          let step = waits id in let part = is-row id in
          let once = waits-once id same in
          let gone = leaf-free id same in
          omega arith
      | inr differs ↦
          let old = homes.there key id (sym (others id differs) ∙ is) in
          let step = waits id in let part = is-row id in let none = listed-other id w.cell differs in
          elim (cases_eq key k) [
            | inl at ↦
                let e : times_listed id (leaf_cells_at b key) ≡ times_listed id (leaf_cells_at b k) = ap (λ y. times_listed id (leaf_cells_at b y)) at in
                let o : times_listed id (leaf_cells_at a key) ≡ times_listed id (leaf_cells_at a k) = ap (λ y. times_listed id (leaf_cells_at a y)) at in
                let grown = leaf-grown id in omega arith
            | inr other ↦ let e = ap (times_listed id) (ap leaf_cells_of (u.others key other)) in omega arith
          ]
    ];
    pending = λ id some. elim (same-id id w.cell.number) [
      | inl same ↦ ap is_some (ap g same ∙ here)
      | inr differs ↦ ap is_some (others id differs) ∙ homes.pending id (let step = waits id in omega arith)
    ];
  }
    where
      waits : (id : ℤ) → times_listed id (pending_rows (xs ++ w ∷ ys)) ≡ times_listed id (pending_rows (xs ++ ys)) + times_listed id (leaf_part w.level (w.cell ∷ []))
      waits id = rows-middle (has_id id) xs w ys

      is-row : (id : ℤ) → times_listed id (leaf_part w.level (w.cell ∷ [])) ≡ times_listed id (w.cell ∷ [])
      is-row id = ap (λ l. times_listed id (leaf_part l (w.cell ∷ []))) row

      leaf-grown : (id : ℤ) → times_listed id (leaf_cells_at b k) ≡ times_listed id (leaf_cells_at a k) + times_listed id (w.cell ∷ [])
      leaf-grown id =
          let p = ap (times_listed id) (ap leaf_cells_of u.changed) in
          let q = ap (times_listed id) (ap leaf_cells_of has) in
          let push = count-leaf_push (has_id id) n.level n.cells w.cell in
          let part = ap (λ l. times_listed id (leaf_part l (w.cell ∷ []))) leaf in
          omega arith

      -- the row waits once, and lies in no leaf
      entry : (id : ℤ) → id ≡ w.cell.number → (y : ℕ) × (f id ≡ Some y)
      entry id same = by (f id) refl (homes.pending id (let step = waits id in let one = listed-one id w.cell same in let part = is-row id in omega arith))
        where
          by : (o : Option ℕ) → f id ≡ o → IsSome o → (y : ℕ) × (f id ≡ Some y)
          by None e some = absurd (true≢false (sym some))
          by (Some y) e some = (y, e)

      waits-once : (id : ℤ) → id ≡ w.cell.number → times_listed id (pending_rows (xs ++ w ∷ ys)) ≡ 1
      waits-once id same =
          let old = homes.there (entry id same).0 id (entry id same).1 in
          let step = waits id in let one = listed-one id w.cell same in let part = is-row id in omega arith

      leaf-free : (id : ℤ) → id ≡ w.cell.number → times_listed id (leaf_cells_at a k) ≡ 0
      leaf-free id same = elim (cases_eq (times_listed id (leaf_cells_at a k)) 0) [
        | inl none ↦ none
        | inr some ↦ let old = homes.there k id (homes.home k id (omega arith)) in let once = waits-once id same in omega arith
      ]

  -- a node's cells are taken out, and wait
  pub homes-cleared : (f : ℤ → Option ℕ) (a b : Slab (NodeCells D)) (ws : List (Pending D)) (k : ℕ) (n : NodeCells D) →
      HasHomes f a ws → get a k ≡ Some n → Updates a b k (Some (record n { cells = [] })) → HasHomes f b (ws ++ pending_at n.level n.cells)
  homes-cleared f a b ws k n homes has u = record {
    home = λ key id some. elim (cases_eq key k) [
      | inl at ↦
          let e : times_listed id (leaf_cells_at b key) ≡ times_listed id (leaf_cells_at b k) = ap (λ y. times_listed id (leaf_cells_at b y)) at in
          let none = emptied id in absurd (omega arith)
      | inr other ↦ homes.home key id (let e = ap (times_listed id) (ap leaf_cells_of (u.others key other)) in omega arith)
    ];
    there = λ key id is.
        let old = homes.there key id is in
        let step = rows-joined (has_id id) ws n.level n.cells in
        let q = ap (times_listed id) (ap leaf_cells_of has) in
        elim (cases_eq key k) [
          | inl at ↦
              let e : times_listed id (leaf_cells_at b key) ≡ times_listed id (leaf_cells_at b k) = ap (λ y. times_listed id (leaf_cells_at b y)) at in
              let o : times_listed id (leaf_cells_at a key) ≡ times_listed id (leaf_cells_at a k) = ap (λ y. times_listed id (leaf_cells_at a y)) at in
              let none = emptied id in omega arith
          | inr other ↦
              let e = ap (times_listed id) (ap leaf_cells_of (u.others key other)) in
              let free : times_listed id (leaf_cells_at a k) ≡ 0 = elim (cases_eq (times_listed id (leaf_cells_at a k)) 0) [
                | inl none ↦ none
                | inr some ↦ absurd (other (same_Some key k (sym is ∙ homes.home k id (omega arith))))
              ] in omega arith
        ];
    pending = λ id some.
        let step = rows-joined (has_id id) ws n.level n.cells in
        let q = ap (times_listed id) (ap leaf_cells_of has) in
        elim (cases_eq (times_listed id (pending_rows ws)) 0) [
          | inl none ↦ ap is_some (homes.home k id (omega arith))
          | inr waited ↦ homes.pending id (omega arith)
        ];
  }
    where
      emptied : (id : ℤ) → times_listed id (leaf_cells_at b k) ≡ 0
      emptied id = ap (times_listed id) (ap leaf_cells_of u.changed ∙ no-cells n.level)
        where
          no-cells : (l : ℕ) → leaf_part {D = D} l [] ≡ []
          no-cells zero = refl
          no-cells (suc l) = refl

-- a row whose entry at that place was written
pub moved-at : {S : Type 0} (m : IndexMap ℤ ℕ S) (i : ℕ) (id : ℤ) (leaf old : ℕ) → IsUnique int_eq m → slice_get m.entries i ≡ Some (id, old) →
    Moves m (with_value_at m i leaf) id leaf
moved-at m i id leaf old unique at =
    let u = updates-with_value_at m i leaf int_eq_equiv unique id old at in record {
      keeps = record { ids = keys-with_value_at m i leaf; len = index_map_len-with_value_at m i leaf; room = refl };
      here = u.1;
      others = λ other differs. u.2 other (elim (cases_Bool (int_eq id other)) [
        | inl same ↦ absurd (differs (sym ((Decides-int_eq id other).0 same)))
        | inr fails ↦ fails
      ]);
    }
