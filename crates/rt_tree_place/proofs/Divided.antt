-- An arena after a node was split: it and the new node may be out of shape, and the new one's cell is on its way.
use Rattle.std.proofs.Common.{◌≡◌, ◌≢◌, ◌⊎◌, ℕ, zero, suc, ◌+◌, ◌<◌, ◌≤◌, Bool, pos, unsigned_abs, List, [], ◌∷◌, ◌++◌, get_or, Some, count_by, append_assoc, eq-eqb, arith, refl, ap, ◌∙◌, sym, subst, inl, inr}
use Rattle.std.specs.Ordering.{int_eq}
use Rattle.std.specs.List.{All}
use Rattle.std.specs.List.Sorted.{IsPermutation}
use Rattle.std.proofs.lemmas.Option.{none-some, same_Some}
use Rattle.std.proofs.lemmas.Bool.{cases_eq}
use Rattle.std.proofs.lemmas.List.Elements.{All-weaker}
use Rattle.std.proofs.lemmas.List.Sorted.{All-permutation}
use Rattle.indexmap.specs.IndexMap.{get as leaf_of}
use Rattle.slab.specs.Slab.{get, Updates, slab_len}
use Rattle.rt_box.specs.Rect.{IsBox}
use Rattle.rt_tree_choice.specs.Split.{first_group, second_group}
use Rattle.rt_tree_node.specs.declared.arena.Arena.{Arena}
use Rattle.rt_tree_node.specs.declared.cell.Cell.{Cell}
use Rattle.rt_tree_node.specs.declared.cell.Pending.{Pending}
use Rattle.rt_tree_node.specs.Node.{NodeCells}
use Rattle.rt_tree_node.specs.Places.{key_of, rects, picked, times_named, times_listed, cells_of, inner_part, leaf_part, leaf_cells_of, level_of, parent_of, level_at, parent_at, cells_at, pending_nodes, sum_over, count_rows, pending_at}
use Rattle.rt_tree_node.specs.Sound.{NamesChild, IsLinked, HasHomes}
use Rattle.rt_tree_node.specs.Open.{IsFittedBut, IsOpen}
use Rattle.rt_tree_node.specs.Homes.{KeepsIds}
use Rattle.rt_tree_node.proofs.Counts.{count-some}
use Rattle.rt_tree_node.proofs.Places.{nodes-joined, rows-joined, names_key, has_id}
use Rattle.rt_tree_node.proofs.Links.{same-at, new-at, created, All-right}
use Rattle.rt_tree_node.proofs.Homes.{homes-same, homes-pending}
use Rattle.rt_tree_node.proofs.Many.{linked-more, fitted-more, homes-more}
use Rattle.rt_tree_place.specs.Steps.{Splits}
use Rattle.rt_tree_place.proofs.Attached.{rows-updated}
use Rattle.rt_tree_place.proofs.Regroup.{regrouped-linked, regrouped-fitted, regrouped-homes, regrouped-rows}
use Rattle.rt_tree_place.proofs.Created.{no-leaf, leaves-alike, rows-alike, rows-created, fitted-created, fitted-alike, picked-groups}

-- one key more
abbrev pub or_key : (ℕ → Type 0) → ℕ → ℕ → Type 0
or_key E k x = E x ⊎ (x ≡ k)

pub decide-or : (E : ℕ → Type 0) (k : ℕ) → ((x : ℕ) → E x ⊎ (E x → ⊥)) → (x : ℕ) → or_key E k x ⊎ (or_key E k x → ⊥)
decide-or E k decide x = elim (decide x) [
  | inl odd ↦ inl (inl odd)
  | inr fine ↦ elim (cases_eq x k) [
    | inl same ↦ inl (inr same)
    | inr other ↦ inr (λ either. elim either [ inl odd ↦ fine odd | inr same ↦ other same ])
  ]
]

module _ {D : ℕ} (E : ℕ → Type 0) (decide : (x : ℕ) → E x ⊎ (E x → ⊥)) (old new : Arena D) (key : ℕ) (n : NodeCells D) (sibling : ℕ) (ws : List (Pending D))
    (was : IsOpen E old ws) (odd : E key) (has : get old.nodes key ≡ Some n) (below : suc n.level ≤ old.level) (done : Splits old new key n sibling)
    (c : Cell D) (number_is : c.number ≡ pos sibling) (box : IsBox D c.rect) where
  abbrev first : List (Cell D)
  first = picked n.cells (first_group (rects n.cells) done.cut)

  abbrev second : List (Cell D)
  second = picked n.cells (second_group (rects n.cells) done.cut)

  abbrev made_node : NodeCells D
  made_node = record { level = n.level; parent = n.parent; cells = [] }

  abbrev arrival : Pending D
  arrival = record { level = suc n.level; cell = c }

  abbrev mid_pending : List (Pending D)
  mid_pending = ws ++ pending_at n.level second

  abbrev F : ℕ → Type 0
  F = or_key E sibling

  parted : IsPermutation n.cells (first ++ second)
  parted = picked-groups n.cells done.cut

  key_is : key_of c ≡ sibling
  key_is = ap unsigned_abs number_is

  joined : (mid_pending ++ arrival ∷ []) ≡ ws ++ (pending_at n.level second ++ arrival ∷ [])
  joined = append_assoc ws (pending_at n.level second) (arrival ∷ [])

  -- the second group's cells name the node's children
  second-children : (l : ℕ) → n.level ≡ suc l → All (NamesChild old.nodes l key) second
  second-children l e =
      let children = subst (All (NamesChild old.nodes l key)) (ap cells_of has) (was.linked.children key l (ap level_of has ∙ ap Some e)) in
      All-right (NamesChild old.nodes l key) first second (All-permutation (NamesChild old.nodes l key) n.cells (first ++ second) parted children)

  second-apart : (l : ℕ) → n.level ≡ suc l → All (λ q. key_of q ≢ sibling) second
  second-apart l e =
      let lv = same-at level_of old.nodes done.kept key n (record n { cells = first }) has done.keeps.updates refl in
      All-weaker (NamesChild old.nodes l key) (λ q. key_of q ≢ sibling)
      (λ q is same. none-some l (sym (ap level_of done.vacant) ∙ lv sibling ∙ ap (level_at old.nodes) (sym same) ∙ is.names.level_is)) second (second-children l e)

  second-waits : (l : ℕ) → n.level ≡ suc l → All (λ q. 0 < times_named (key_of q) (pending_nodes (mid_pending ++ arrival ∷ []))) second
  second-waits l e j d within =
      let x = key_of (get_or second j d) in
      let p = nodes-joined (names_key x) mid_pending (suc n.level) (c ∷ []) in
      let q = nodes-joined (names_key x) ws n.level second in
      let part = ap (λ i. times_named x (inner_part i second)) e in
      let counted : 0 < times_named x second = count-some (names_key x) second j d within (eq-eqb _ _ refl) in
      omega arith

  has_moved : get done.moved.nodes sibling ≡ Some made_node
  has_moved = by n.level refl
    where
      by : (l : ℕ) → n.level ≡ l → get done.moved.nodes sibling ≡ Some made_node
      by zero e = ap (λ s. get s sibling) ((done.takes.rows e).1) ∙ done.makes.changed
      by (suc l) e = (done.takes.children (omega arith)).0.others sibling (second-apart l e) ∙ done.makes.changed

  given : Updates done.moved.nodes new.nodes sibling (Some (record n { cells = [] ++ second }))
  given = (done.gives made_node has_moved).updates

  -- what the arena keeps
  pub root-kept : new.root ≡ old.root
  root-kept = ap (λ t. t.root) done.rest ∙ ap (λ t. t.root) done.takes.rest

  pub level-kept : new.level ≡ old.level
  level-kept = ap (λ t. t.level) done.rest ∙ ap (λ t. t.level) done.takes.rest

  pub capacity-kept : new.capacity ≡ old.capacity
  capacity-kept = ap (λ t. t.capacity) done.rest ∙ ap (λ t. t.capacity) done.takes.rest

  leaves-kept : new.leaves ≡ done.moved.leaves
  leaves-kept = ap (λ t. t.leaves) done.rest

  kept_linked : IsLinked done.kept old.root old.level mid_pending
  kept_linked = regrouped-linked old.nodes done.kept old.root old.level ws key n first second parted has done.keeps.updates was.linked

  made_linked : IsLinked done.made old.root old.level (mid_pending ++ arrival ∷ [])
  made_linked = created done.kept done.made old.root old.level mid_pending sibling n.level n.parent c kept_linked done.vacant below number_is key_is done.makes

  moved_linked : IsLinked done.moved.nodes old.root old.level (mid_pending ++ arrival ∷ [])
  moved_linked = by n.level refl
    where
      by : (l : ℕ) → n.level ≡ l → IsLinked done.moved.nodes old.root old.level (mid_pending ++ arrival ∷ [])
      by zero e = subst (λ s. IsLinked s old.root old.level (mid_pending ++ arrival ∷ [])) (sym ((done.takes.rows e).1)) made_linked
      by (suc l) e = (done.takes.children (omega arith)).0.linked old.root old.level (mid_pending ++ arrival ∷ []) made_linked (second-waits l e)

  new_linked : IsLinked new.nodes old.root old.level (ws ++ arrival ∷ [])
  new_linked = linked-more done.moved.nodes new.nodes old.root old.level ws second (arrival ∷ []) sibling made_node
      (subst (IsLinked done.moved.nodes old.root old.level) joined moved_linked) has_moved
      (λ l e j d within. (second-apart l e j d within, (done.takes.children (omega arith)).0.parents j d within)) given

  new_fitted : IsFittedBut F old.capacity new.nodes old.root (ws ++ arrival ∷ [])
  new_fitted =
      fitted-more F old.capacity done.moved.nodes new.nodes old.root ws second (arrival ∷ []) sibling made_node (decide-or E sibling decide)
      (subst (IsFittedBut F old.capacity done.moved.nodes old.root) joined (by n.level refl)) (inr refl) has_moved given
    where
      made_fitted : IsFittedBut F old.capacity done.made old.root (mid_pending ++ arrival ∷ [])
      made_fitted = fitted-created E F old.capacity done.kept done.made old.root mid_pending sibling n.level n.parent c (decide-or E sibling decide) (λ x e. inl e) (inr refl)
          (regrouped-fitted old.nodes done.kept old.root old.level ws key n first second parted has done.keeps.updates E old.capacity decide odd was.fitted)
          done.makes key_is box

      by : (l : ℕ) → n.level ≡ l → IsFittedBut F old.capacity done.moved.nodes old.root (mid_pending ++ arrival ∷ [])
      by zero e = subst (λ s. IsFittedBut F old.capacity s old.root (mid_pending ++ arrival ∷ [])) (sym ((done.takes.rows e).1)) made_fitted
      by (suc l) e =
          let adopts = (done.takes.children (omega arith)).0 in
          fitted-alike F old.capacity done.made done.moved.nodes old.root (mid_pending ++ arrival ∷ []) (decide-or E sibling decide) adopts.levels adopts.cells made_fitted

  made_homes : HasHomes (leaf_of int_eq old.leaves) done.made (mid_pending ++ arrival ∷ [])
  made_homes =
      let kept_homes = regrouped-homes old.nodes done.kept old.root old.level ws key n first second parted has done.keeps.updates (leaf_of int_eq old.leaves) was.homes in
      homes-pending (leaf_of int_eq old.leaves) done.made mid_pending (mid_pending ++ arrival ∷ [])
      (λ id. let p = rows-joined (has_id id) mid_pending (suc n.level) (c ∷ []) in omega arith)
      (homes-same (leaf_of int_eq old.leaves) done.kept done.made mid_pending
      (λ x id. ap (times_listed id) (new-at leaf_cells_of done.kept done.made sibling made_node done.vacant done.makes (no-leaf n.level) x)) kept_homes)

  new_homes : HasHomes (leaf_of int_eq new.leaves) new.nodes (ws ++ arrival ∷ [])
  new_homes = subst (λ m. HasHomes (leaf_of int_eq m) new.nodes (ws ++ arrival ∷ [])) (sym leaves-kept) (by n.level refl)
    where
      by : (l : ℕ) → n.level ≡ l → HasHomes (leaf_of int_eq done.moved.leaves) new.nodes (ws ++ arrival ∷ [])
      by zero e =
          let rows = done.takes.rows e in
          homes-more (leaf_of int_eq old.leaves) (leaf_of int_eq done.moved.leaves) done.moved.nodes new.nodes ws second (arrival ∷ []) sibling made_node
          (subst (HasHomes (leaf_of int_eq old.leaves) done.moved.nodes) joined (subst (λ s. HasHomes (leaf_of int_eq old.leaves) s (mid_pending ++ arrival ∷ [])) (sym rows.1) made_homes))
          has_moved e rows.0.here rows.0.others given
      by (suc l) e =
          let children = done.takes.children (omega arith) in
          let same : (x : ℕ) → leaf_cells_of (get new.nodes x) ≡ leaf_cells_of (get done.made x) = λ x.
          same-at leaf_cells_of done.moved.nodes new.nodes sibling made_node (record n { cells = [] ++ second }) has_moved given
          (ap (λ i. leaf_part i second) e ∙ sym (ap (λ i. leaf_part {D = D} i []) e)) x
          ∙ leaves-alike done.made done.moved.nodes children.0.levels children.0.cells x in
          subst (λ m. HasHomes (leaf_of int_eq m) new.nodes (ws ++ arrival ∷ [])) (sym children.1)
          (homes-pending (leaf_of int_eq old.leaves) new.nodes (mid_pending ++ arrival ∷ []) (ws ++ arrival ∷ [])
          (λ id.
          let p = rows-joined (has_id id) mid_pending (suc n.level) (c ∷ []) in
          let q = rows-joined (has_id id) ws n.level second in
          let r = rows-joined (has_id id) ws (suc n.level) (c ∷ []) in
          let part = ap (λ i. times_listed id (leaf_part i second)) e in omega arith)
          (homes-same (leaf_of int_eq old.leaves) done.made new.nodes (mid_pending ++ arrival ∷ []) (λ x id. ap (times_listed id) (same x)) made_homes))

  pub divided : IsOpen F new (ws ++ arrival ∷ [])
  divided = record {
    linked = subst (λ r. IsLinked new.nodes r new.level (ws ++ arrival ∷ [])) (sym root-kept)
        (subst (λ l. IsLinked new.nodes old.root l (ws ++ arrival ∷ [])) (sym level-kept) new_linked);
    fitted = subst (λ r. IsFittedBut F new.capacity new.nodes r (ws ++ arrival ∷ [])) (sym root-kept)
        (subst (λ m. IsFittedBut F m new.nodes old.root (ws ++ arrival ∷ [])) (sym capacity-kept) new_fitted);
    homes = new_homes;
  }

  rows-moved : (test : Cell D → Bool) → (l : ℕ) → n.level ≡ l →
      sum_over (λ place. count_by test (leaf_cells_of place)) done.moved.nodes ≡ sum_over (λ place. count_by test (leaf_cells_of place)) done.made
  rows-moved test zero e = ap (sum_over (λ place. count_by test (leaf_cells_of place))) ((done.takes.rows e).1)
  rows-moved test (suc l) e =
      let adopts = (done.takes.children (omega arith)).0 in
      rows-alike test done.made done.moved.nodes (leaves-alike done.made done.moved.nodes adopts.levels adopts.cells)

  pub rows-divided : (test : Cell D → Bool) → count_rows test new.nodes (ws ++ arrival ∷ []) ≡ count_rows test old.nodes ws
  rows-divided test =
      let one = regrouped-rows old.nodes done.kept old.root old.level ws key n first second parted has done.keeps.updates test in
      let two = rows-created test done.kept done.made sibling n.level n.parent done.vacant done.makes in
      let three = rows-moved test n.level refl in
      let joined_rows = rows-joined test ws n.level second in
      let empty = ap (count_by test) (no-leaf n.level) in
      let four = rows-updated test done.moved.nodes new.nodes sibling made_node (record n { cells = [] ++ second }) has_moved given mid_pending ws (omega arith) in
      let last = rows-joined test ws (suc n.level) (c ∷ []) in
      omega (arith, one, two, three, four, last)

  -- nodes that were there have their levels, and their cells except the one that was split
  kept-level : (x : ℕ) → level_at done.kept x ≡ level_at old.nodes x
  kept-level = same-at level_of old.nodes done.kept key n (record n { cells = first }) has done.keeps.updates refl

  kept-parent : (x : ℕ) → parent_at done.kept x ≡ parent_at old.nodes x
  kept-parent = same-at parent_of old.nodes done.kept key n (record n { cells = first }) has done.keeps.updates refl

  pub not-new : (x l : ℕ) → level_at old.nodes x ≡ Some l → x ≢ sibling
  not-new x l e same = none-some l (sym (ap level_of done.vacant) ∙ kept-level sibling ∙ ap (level_at old.nodes) (sym same) ∙ e)

  moved-level : (x l : ℕ) → n.level ≡ l → level_at done.moved.nodes x ≡ level_at done.made x
  moved-level x zero e = ap (λ s. level_at s x) ((done.takes.rows e).1)
  moved-level x (suc l) e = (done.takes.children (omega arith)).0.levels x

  moved-cells : (x l : ℕ) → n.level ≡ l → cells_at done.moved.nodes x ≡ cells_at done.made x
  moved-cells x zero e = ap (λ s. cells_at s x) ((done.takes.rows e).1)
  moved-cells x (suc l) e = (done.takes.children (omega arith)).0.cells x

  moved-parent : (x h l : ℕ) → level_at old.nodes x ≡ Some h → n.level ≤ h → n.level ≡ l → parent_at done.moved.nodes x ≡ parent_at done.made x
  moved-parent x h zero at high e = ap (λ s. parent_at s x) ((done.takes.rows e).1)
  moved-parent x h (suc l) at high e =
      ap parent_of ((done.takes.children (omega arith)).0.others x
      (All-weaker (NamesChild old.nodes l key) (λ q. key_of q ≢ x)
      (λ q is same. let differ = same_Some l h (sym is.names.level_is ∙ ap (level_at old.nodes) same ∙ at) in absurd (omega arith)) second (second-children l e)))

  pub levels-kept : (x l : ℕ) → level_at old.nodes x ≡ Some l → level_at new.nodes x ≡ Some l
  levels-kept x l e =
      ap level_of (given.others x (not-new x l e)) ∙ moved-level x n.level refl ∙ ap level_of (done.makes.others x (not-new x l e)) ∙ kept-level x ∙ e

  pub cells-kept : (x l : ℕ) → level_at old.nodes x ≡ Some l → x ≢ key → cells_at new.nodes x ≡ cells_at old.nodes x
  cells-kept x l e other =
      ap cells_of (given.others x (not-new x l e)) ∙ moved-cells x n.level refl ∙ ap cells_of (done.makes.others x (not-new x l e))
      ∙ ap cells_of (done.keeps.updates.others x other)

  pub parents-kept : (x h : ℕ) → level_at old.nodes x ≡ Some h → n.level ≤ h → parent_at new.nodes x ≡ parent_at old.nodes x
  parents-kept x h e high =
      ap parent_of (given.others x (not-new x h e)) ∙ moved-parent x h n.level e high refl ∙ ap parent_of (done.makes.others x (not-new x h e)) ∙ kept-parent x

  pub cells-first : cells_at new.nodes key ≡ first
  cells-first =
      let e : level_at old.nodes key ≡ Some n.level = ap level_of has in
      ap cells_of (given.others key (not-new key n.level e)) ∙ moved-cells key n.level refl ∙ ap cells_of (done.makes.others key (not-new key n.level e))
      ∙ ap cells_of done.keeps.updates.changed

  pub made-here : get new.nodes sibling ≡ Some (record n { cells = second })
  made-here = given.changed

  pub ids-kept : KeepsIds old.leaves new.leaves
  ids-kept = subst (KeepsIds old.leaves) (sym leaves-kept) (by n.level refl)
    where
      by : (l : ℕ) → n.level ≡ l → KeepsIds old.leaves done.moved.leaves
      by zero e = (done.takes.rows e).0.keeps
      by (suc l) e = subst (KeepsIds old.leaves) (sym ((done.takes.children (omega arith)).1)) record { ids = refl; len = refl; room = refl }

  pub len-kept : slab_len new.nodes ≡ slab_len old.nodes + 1
  len-kept = let step = done.gives made_node has_moved in omega (arith, step.len, by n.level refl, done.made_len, done.keeps.len)
    where
      by : (l : ℕ) → n.level ≡ l → slab_len done.moved.nodes ≡ slab_len done.made
      by zero e = ap slab_len ((done.takes.rows e).1)
      by (suc l) e = (done.takes.children (omega arith)).0.len

  pub room-kept : new.nodes.capacity ≡ old.nodes.capacity
  room-kept = (done.gives made_node has_moved).room ∙ by n.level refl ∙ done.made_room ∙ done.keeps.room
    where
      by : (l : ℕ) → n.level ≡ l → done.moved.nodes.capacity ≡ done.made.capacity
      by zero e = ap (λ s. s.capacity) ((done.takes.rows e).1)
      by (suc l) e = (done.takes.children (omega arith)).0.room

  pub pending-kept : new.pending ≡ old.pending
  pending-kept = ap (λ t. t.pending) done.rest ∙ ap (λ t. t.pending) done.takes.rest
