-- A split, and the new node's cell appended to the parent.
use Rattle.std.proofs.Common.{◌≡◌, ◌≢◌, ◌⊎◌, ℕ, suc, ◌+◌, ◌<◌, ◌≤◌, pos, unsigned_abs, [], ◌∷◌, ◌++◌, length, get_or, count_by, Some, is_some, IsSome, arith, refl, ap, ◌∙◌, sym, subst, inl, inr}
use Rattle.std.specs.Ordering.{int_eq}
use Rattle.std.specs.List.{All}
use Rattle.std.proofs.lemmas.Option.{same_Some}
use Rattle.std.proofs.lemmas.Bool.{cases_eq}
use Rattle.std.proofs.lemmas.Bool.Decides.{Decides-int_eq}
use Rattle.std.proofs.lemmas.List.{append-nil, length-append, length-map, length-take, length-drop}
use Rattle.std.proofs.lemmas.List.Elements.{All-weaker}
use Rattle.indexmap.specs.IndexMap.{get as leaf_of}
use Rattle.slab.specs.Slab.{get, ContainsKey}
use Rattle.rt_box.specs.Rect.{IsBox}
use Rattle.rt_tree_choice.specs.Split.{IsBestCut, sorting, first_group, second_group}
use Rattle.rt_tree_node.specs.declared.arena.Arena.{Arena}
use Rattle.rt_tree_node.specs.declared.cell.Cell.{Cell}
use Rattle.rt_tree_node.specs.declared.cell.Pending.{Pending}
use Rattle.rt_tree_node.specs.Node.{NodeCells}
use Rattle.rt_tree_node.specs.Places.{key_of, rects, picked, no_cell, cells_of, level_of, parent_of, level_at, cells_at, hull_at, count_rows}
use Rattle.rt_tree_node.specs.Sound.{NamesChild}
use Rattle.rt_tree_node.specs.Open.{IsFittedBut, IsOpen}
use Rattle.rt_tree_node.specs.Homes.{KeepsIds}
use Rattle.rt_tree_node.proofs.Counts.{count-some}
use Rattle.rt_tree_node.proofs.Places.{has_id, leaf-at_leaf}
use Rattle.rt_tree_node.proofs.Links.{same-at}
use Rattle.rt_tree_place.specs.Steps.{Splits, Attaches, IsPair, Divides}
use Rattle.rt_tree_place.proofs.Attached.{attached, rows-attached}
use Rattle.rt_tree_place.proofs.Groups.{sorting-long}
use Rattle.rt_tree_place.proofs.Divided.{or_key, divided, rows-divided, not-new, levels-kept, cells-kept, parents-kept, cells-first, made-here, ids-kept, len-kept, room-kept, pending-kept, root-kept, level-kept, capacity-kept}
use Rattle.rt_tree_place.proofs.Arrived.{arrived}
use Rattle.rt_tree_place.proofs.WayDown.{node-from_level, present}

abbrev pub either_key : ℕ → ℕ → ℕ → Type 0
either_key key parent x = (x ≡ key) ⊎ (x ≡ parent)

pub decide-either : (key parent x : ℕ) → either_key key parent x ⊎ (either_key key parent x → ⊥)
decide-either key parent x = elim (cases_eq x key) [
  | inl e ↦ inl (inl e)
  | inr p ↦ elim (cases_eq x parent) [ inl e ↦ inl (inr e) | inr q ↦ inr (λ odd. elim odd [ inl e ↦ p e | inr e ↦ q e ]) ]
]

module _ {D : ℕ} (old : Arena D) (key parent : ℕ) (pair : IsPair old key parent) where
  -- the children of the node are there, and others than it
  pub pair-children : (l : ℕ) → level_at old.nodes key ≡ Some (suc l) → All (λ c. ContainsKey old.nodes (key_of c) × (key_of c ≢ key)) (cells_at old.nodes key)
  pair-children l e = All-weaker (NamesChild old.nodes l key) (λ c. ContainsKey old.nodes (key_of c) × (key_of c ≢ key))
      (λ c is. (
        present old.nodes (key_of c) l is.names.level_is,
        λ same. let differ = same_Some l (suc l) (sym is.names.level_is ∙ ap (level_at old.nodes) same ∙ e) in absurd (omega arith),
      )) (cells_at old.nodes key) (pair.opened.linked.children key l e)

  -- the rows of a leaf are known
  pub pair-known : level_at old.nodes key ≡ Some 0 → All (λ c. IsSome (leaf_of int_eq old.leaves c.number)) (cells_at old.nodes key)
  pair-known e k d within =
      let c = get_or (cells_at old.nodes key) k d in
      let listed = count-some (has_id c.number) (cells_at old.nodes key) k d within ((Decides-int_eq c.number c.number).1 refl) in
      let same = ap (λ cells. count_by (has_id c.number) cells) (leaf-at_leaf old.nodes key e) in
      ap is_some (pair.opened.homes.home key c.number (omega arith))

  module _ (mid new : Arena D) (sibling : ℕ) (full : length (cells_at old.nodes key) ≡ old.capacity + 1) (n : NodeCells D) (has : get old.nodes key ≡ Some n)
      (done : Splits old mid key n sibling) where
    level_is : n.level ≡ pair.level
    level_is = same_Some n.level pair.level (sym (ap level_of has) ∙ pair.key_level)

    pub high : level_at old.nodes parent ≡ Some (suc n.level)
    high = pair.parent_level ∙ ap (λ l. Some (suc l)) (sym level_is)

    below : suc n.level ≤ old.level
    below = pair.opened.linked.levels parent (suc n.level) high

    pub apart : key ≢ parent
    apart e = let same = same_Some n.level (suc n.level) (sym (ap level_of has) ∙ ap (level_at old.nodes) e ∙ high) in omega arith

    long : length n.cells ≡ old.capacity + 1
    long = ap (λ s. length (cells_of s)) (sym has) ∙ full

    boxes-long : length (rects n.cells) ≡ old.capacity + 1
    boxes-long = length-map n.cells (λ q. q.rect) ∙ long

    first-long : length (picked n.cells (first_group (rects n.cells) done.cut)) ≡ done.cut.first
    first-long =
        let order = sorting (rects n.cells) done.cut.axis done.cut.upper in
        let is = done.best.is_cut.second_filled in
        omega (
          arith,
          length-map (first_group (rects n.cells) done.cut) (λ p. get_or n.cells p no_cell),
          length-take done.cut.first order,
          sorting-long (rects n.cells) done.cut.axis done.cut.upper,
          boxes-long,
        )

    second-long : length (picked n.cells (second_group (rects n.cells) done.cut)) + done.cut.first ≡ old.capacity + 1
    second-long =
        let order = sorting (rects n.cells) done.cut.axis done.cut.upper in
        let is = done.best.is_cut.second_filled in
        omega (
          arith,
          length-map (second_group (rects n.cells) done.cut) (λ p. get_or n.cells p no_cell),
          length-drop done.cut.first order,
          sorting-long (rects n.cells) done.cut.axis done.cut.upper,
          boxes-long,
        )

    module _ (c : Cell D) (number_is : c.number ≡ pos sibling) (box : IsBox D c.rect) where
      key_is : key_of c ≡ sibling
      key_is = ap unsigned_abs number_is

      split_open : IsOpen (or_key (either_key key parent) sibling) mid (old.pending.items ++ record { level = suc n.level; cell = c } ∷ [])
      split_open = divided (either_key key parent) (decide-either key parent) old mid key n sibling old.pending.items pair.opened (inl refl) has below done c number_is box

      sibling_is : get mid.nodes sibling ≡ Some (record n { cells = picked n.cells (second_group (rects n.cells) done.cut) })
      sibling_is = made-here (either_key key parent) (decide-either key parent) old mid key n sibling old.pending.items pair.opened (inl refl) has below done c number_is box

      parent_apart : parent ≢ sibling
      parent_apart = not-new (either_key key parent) (decide-either key parent) old mid key n sibling old.pending.items pair.opened (inl refl) has below done c number_is box
          parent (suc n.level) high

      parent_level : level_at mid.nodes parent ≡ Some (suc n.level)
      parent_level = levels-kept (either_key key parent) (decide-either key parent) old mid key n sibling old.pending.items pair.opened (inl refl) has below done c number_is box
          parent (suc n.level) high

      parent_cells : cells_at mid.nodes parent ≡ cells_at old.nodes parent
      parent_cells = cells-kept (either_key key parent) (decide-either key parent) old mid key n sibling old.pending.items pair.opened (inl refl) has below done c number_is box
          parent (suc n.level) high (λ e. apart (sym e))

      pub in-shape : c.rect ≡ hull_at mid.nodes sibling → IsOpen (either_key key parent) mid (old.pending.items ++ record { level = suc n.level; cell = c } ∷ [])
      in-shape rect_is =
          let cap = pair.opened.fitted.cap in
          let is = done.best.is_cut.second_filled in
          let is_first = done.best.is_cut.first_filled in
          let count = ap (λ s. length (cells_of s)) sibling_is in
          let long_2 = second-long in
          let capacity_is : mid.capacity ≡ old.capacity = capacity-kept (either_key key parent) (decide-either key parent) old mid key n sibling old.pending.items pair.opened (inl refl) has below done c number_is box in
          record {
            linked = split_open.linked;
            fitted = subst (λ m. IsFittedBut (either_key key parent) m mid.nodes mid.root (old.pending.items ++ record { level = suc n.level; cell = c } ∷ [])) (sym capacity_is)
                (arrived (either_key key parent) old.capacity mid.nodes mid.root mid.level old.pending.items sibling n.level c split_open.linked
                (subst (λ m. IsFittedBut (or_key (either_key key parent) sibling) m mid.nodes mid.root (old.pending.items ++ record { level = suc n.level; cell = c } ∷ [])) capacity_is split_open.fitted)
                key_is (ap level_of sibling_is) rect_is (omega (arith, cap, is, count, long_2)) (omega (arith, is, count, long_2)) (omega (arith, cap, is_first, count, long_2)));
            homes = split_open.homes;
          }

      pub divides : c.rect ≡ hull_at mid.nodes sibling → Attaches mid new parent record { level = suc n.level; cell = c } → Divides old new key parent
      divides rect_is at =
          let E = either_key key parent in
          let ws = old.pending.items in
          let w : Pending D = record { level = suc n.level; cell = c } in
          let above = node-from_level mid.nodes parent (suc n.level) parent_level in
          let m = above.0 in
          let s = record n { cells = picked n.cells (second_group (rects n.cells) done.cut) } in
          let parts = at.child (omega arith) in
          let first = parts.2 s (ap (get mid.nodes) key_is ∙ sibling_is) in
          let cell_apart : parent ≢ key_of c = λ e. parent_apart (e ∙ key_is) in
          let has_parent : get parts.1 parent ≡ Some m = first.updates.others parent cell_apart ∙ above.1 in
          let m_after = record m { cells = m.cells ++ c ∷ [] } in
          let second = parts.3 m has_parent in
          let opened = attached E (decide-either key parent) mid new parent m ws w [] (in-shape rect_is) (inr refl) above.1 (sym above.2) at in
          let pending_is : new.pending ≡ old.pending = ap (λ t. t.pending) at.rest
          ∙ pending-kept E (decide-either key parent) old mid key n sibling ws pair.opened (inl refl) has below done c number_is box in
          let items_are : ws ++ [] ≡ new.pending.items = append-nil ws ∙ ap (λ v. v.items) (sym pending_is) in
          let there : (x l : ℕ) → level_at old.nodes x ≡ Some l → x ≢ key_of c = λ x l e same.
          not-new E (decide-either key parent) old mid key n sibling ws pair.opened (inl refl) has below done c number_is box x l e (same ∙ key_is) in
          let key_level : level_at old.nodes key ≡ Some n.level = ap level_of has in
          let key_cells : cells_at new.nodes key ≡ picked n.cells (first_group (rects n.cells) done.cut) =
          ap cells_of (second.updates.others key apart) ∙ ap cells_of (first.updates.others key (there key n.level key_level))
          ∙ cells-first E (decide-either key parent) old mid key n sibling ws pair.opened (inl refl) has below done c number_is box in
          let key_long = ap length key_cells in
          let long_1 = first-long in
          let filled = done.best.is_cut.first_filled in
          let filled_2 = done.best.is_cut.second_filled in
          let cap = pair.opened.fitted.cap in
          record {
            trims = record {
              opened = subst (IsOpen E new) items_are opened;
              rows = λ test. ap (count_rows test new.nodes) (sym items_are)
                  ∙ rows-attached E (decide-either key parent) mid new parent m ws w [] (in-shape rect_is) (inr refl) above.1 (sym above.2) at test
                  ∙ rows-divided E (decide-either key parent) old mid key n sibling ws pair.opened (inl refl) has below done c number_is box test;
              least = omega (arith, key_long, long_1, filled);
              most = omega (arith, key_long, long_1, filled_2, cap);
              levels = λ x l e. same-at level_of parts.1 new.nodes parent m m_after has_parent second.updates refl x ∙ ap level_of (first.updates.others x (there x l e))
                  ∙ levels-kept E (decide-either key parent) old mid key n sibling ws pair.opened (inl refl) has below done c number_is box x l e;
              parents = λ x l i e f upward. same-at parent_of parts.1 new.nodes parent m m_after has_parent second.updates refl x ∙ ap parent_of (first.updates.others x (there x l e))
                  ∙ parents-kept E (decide-either key parent) old mid key n sibling ws pair.opened (inl refl) has below done c number_is box x l e
                  (let same = same_Some n.level i (sym key_level ∙ f) in omega arith);
              cells = λ x l e p q. ap cells_of (second.updates.others x q) ∙ ap cells_of (first.updates.others x (there x l e))
                  ∙ cells-kept E (decide-either key parent) old mid key n sibling ws pair.opened (inl refl) has below done c number_is box x l e p;
              ids = subst (KeepsIds old.leaves) (sym parts.0) (ids-kept E (decide-either key parent) old mid key n sibling ws pair.opened (inl refl) has below done c number_is box);
              root = ap (λ t. t.root) at.rest ∙ root-kept E (decide-either key parent) old mid key n sibling ws pair.opened (inl refl) has below done c number_is box;
              level = ap (λ t. t.level) at.rest ∙ level-kept E (decide-either key parent) old mid key n sibling ws pair.opened (inl refl) has below done c number_is box;
              capacity = ap (λ t. t.capacity) at.rest ∙ capacity-kept E (decide-either key parent) old mid key n sibling ws pair.opened (inl refl) has below done c number_is box;
              room = second.room ∙ first.room ∙ room-kept E (decide-either key parent) old mid key n sibling ws pair.opened (inl refl) has below done c number_is box;
            };
            grown = omega (arith, ap (λ o. length (cells_of o)) second.updates.changed, length-append m.cells (c ∷ []), ap (λ o. length (cells_of o)) above.1, ap length parent_cells);
            pending = pending_is;
            len = second.len ∙ first.len ∙ len-kept E (decide-either key parent) old mid key n sibling ws pair.opened (inl refl) has below done c number_is box;
            cell = c;
            appended = ap cells_of second.updates.changed ∙ ap (λ cs. cs ++ c ∷ []) (sym (ap cells_of above.1) ∙ parent_cells);
            apart = λ e. cell_apart (sym e);
            parts = record {
              cut = done.cut;
              best = subst (λ cs. IsBestCut D (rects cs) old.capacity done.cut) (sym (ap cells_of has)) done.best;
              first_is = key_cells ∙ ap (λ cs. picked cs (first_group (rects cs) done.cut)) (sym (ap cells_of has));
              second_is = ap cells_of (second.updates.others (key_of c) (λ e. cell_apart (sym e))) ∙ ap cells_of first.updates.changed
                  ∙ ap (λ cs. picked cs (second_group (rects cs) done.cut)) (sym (ap cells_of has));
            };
          }

    -- what the new node and the parent are like in between; any cell of the node has a box that serves
    sample : Cell D
    sample = record { number = pos sibling; rect = (get_or (cells_at old.nodes key) 0 no_cell).rect }

    sample_number : sample.number ≡ pos sibling
    unfolding sample
    sample_number = refl

    sample_box : IsBox D sample.rect
    unfolding sample
    sample_box = pair.opened.fitted.boxes key 0 no_cell (omega (arith, full))

    pub sibling-some : ContainsKey mid.nodes sibling × (1 ≤ length (cells_at mid.nodes sibling))
    sibling-some =
        let is = sibling_is sample sample_number sample_box in
        let count = ap (λ s. length (cells_of s)) is in
        let long_2 = second-long in
        let filled = done.best.is_cut.second_filled in
        let cap = pair.opened.fitted.cap in
        (ap is_some is, omega (arith, count, long_2, filled, cap))

    pub sibling-fits : sibling < old.nodes.capacity
    sibling-fits = omega (arith, done.key_fits, done.made_room, done.keeps.room)

    pub level-above_split : level_at mid.nodes parent ≡ Some (suc n.level)
    level-above_split = parent_level sample sample_number sample_box

    pub room-above : length (cells_at mid.nodes parent) < 52
    room-above =
        let same = ap length (parent_cells sample sample_number sample_box) in
        let cap = pair.opened.fitted.cap in
        let few = pair.few in
        omega (arith, same, cap, few)

    pub sibling-apart : parent ≢ sibling
    sibling-apart = parent_apart sample sample_number sample_box
