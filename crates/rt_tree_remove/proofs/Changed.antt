-- A slab in which the cells of one node changed.
use Rattle.std.proofs.Common.{◌≡◌, ◌≢◌, ℕ, ◌<◌, ℤ, List, length, map, set, get_or, None, Some, ap, sym, subst, ◌∙◌, inl, inr, arith}
use Rattle.std.specs.Prelude.{unsigned_abs}
use Rattle.std.proofs.lemmas.Option.{same_Some}
use Rattle.std.proofs.lemmas.List.{length-map, get_or-map, get_or_default}
use Rattle.rt_box.specs.Rect.{IsBox}
use Rattle.rt_tree_place.specs.Steps.{Refits}
use Rattle.rt_tree_remove.specs.Steps.{IsNamedAt, Dissolves}
use Rattle.std.proofs.lemmas.Bool.{cases_eq}
use Rattle.std.specs.List.{remove}
use Rattle.slab.specs.Slab.{Slab, get, Updates}
use Rattle.rt_tree_node.specs.declared.cell.Cell.{Cell}
use Rattle.rt_tree_node.specs.Node.{NodeCells}
use Rattle.rt_tree_node.specs.Changes.{Puts, Changes}
use Rattle.rt_tree_node.specs.Places.{key_of, cells_of, level_of, parent_of, cells_at, level_at, parent_at, hull_at}

module _ {D : ℕ} (a b : Slab (NodeCells D)) (key : ℕ) (n : NodeCells D) (cs : List (Cell D)) (was : get a key ≡ Some n) (puts : Puts a b key (record n { cells = cs })) where
  pub changed-levels : (k : ℕ) → level_at b k ≡ level_at a k
  changed-levels k = elim (cases_eq k key) [
    | inl e ↦ ap (level_at b) e ∙ ap level_of puts.updates.changed ∙ sym (ap level_of was) ∙ ap (level_at a) (sym e)
    | inr ne ↦ ap level_of (puts.updates.others k ne)
  ]

  pub changed-parents : (k : ℕ) → parent_at b k ≡ parent_at a k
  changed-parents k = elim (cases_eq k key) [
    | inl e ↦ ap (parent_at b) e ∙ ap parent_of puts.updates.changed ∙ sym (ap parent_of was) ∙ ap (parent_at a) (sym e)
    | inr ne ↦ ap parent_of (puts.updates.others k ne)
  ]

  pub changed-others : (k : ℕ) → k ≢ key → cells_at b k ≡ cells_at a k
  changed-others k ne = ap cells_of (puts.updates.others k ne)

  pub changed-cells : cells_at b key ≡ cs
  changed-cells = ap cells_of puts.updates.changed

module _ {D : ℕ} where
  pub cell-number : (cs : List (Cell D)) (ns : List ℤ) (at : ℕ) (d : Cell D) → ns ≡ map (λ c. c.number) cs → at < length ns →
      (get_or cs at d).number ≡ get_or ns at d.number
  cell-number cs ns at d is within =
      let long = length-map cs (λ c. c.number) in
      let same = ap length is in
      sym (get_or-map (λ c. c.number) cs at d d.number (omega arith)) ∙ sym (ap (λ ms. get_or ms at d.number) is)

  -- the place that was found among the numbers
  pub named-at : (cs : List (Cell D)) (ns : List ℤ) (key at : ℕ) → ns ≡ map (λ c. c.number) cs → at < length ns →
      ((d : ℤ) → unsigned_abs (get_or ns at d) ≡ key) → IsNamedAt cs key at
  named-at cs ns key at is within names =
      let long = length-map cs (λ c. c.number) in
      let same = ap length is in
      record {
        within = omega arith;
        names = λ d. ap unsigned_abs (cell-number cs ns at d is within) ∙ names d.number;
      }

  -- the parent's cell for the node, at the position, has the least box around the node's cells
  pub record RefitsAt (a b : Slab (NodeCells D)) (key parent at : ℕ) : Type 0 where
    pub place : IsNamedAt (cells_at a parent) key at
    pub cell : Cell D
    pub number : (d : Cell D) → cell.number ≡ (get_or (cells_at a parent) at d).number
    pub rect : cell.rect ≡ hull_at a key
    pub is_box : IsBox D cell.rect
    pub change : Changes (λ n. record n { cells = set n.cells at cell }) a b parent

  pub refits-at : (a b : Slab (NodeCells D)) (key parent : ℕ) (n : NodeCells D) → get a parent ≡ Some n → (r : Refits a b key parent n) → RefitsAt a b key parent r.at
  refits-at a b key parent n has r =
      let cells : cells_at a parent ≡ n.cells = ap cells_of has in
      let same : (d : Cell D) → (get_or n.cells r.at d).number ≡ r.cell.number =
      λ d. ap (λ c. c.number) (get_or_default n.cells r.at d r.cell r.within) ∙ sym r.same_number in
      record {
        place = record {
          within = subst (λ (cs : List (Cell D)). r.at < length cs) (sym cells) r.within;
          names = λ d. ap (λ cs. key_of (get_or cs r.at d)) cells ∙ ap unsigned_abs (same d ∙ r.number_is);
        };
        cell = r.cell;
        number = λ d. sym (ap (λ cs. (get_or cs r.at d).number) cells ∙ same d);
        rect = r.rect_is;
        is_box = r.is_box;
        change = λ m is. subst (λ (k : NodeCells D). Puts a b parent (record k { cells = set k.cells r.at r.cell })) (same_Some n m (sym has ∙ is)) r.nodes;
      }

  -- the node at the key leaves the slab after its cell left the parent
  pub child-removed : (a s b : Slab (NodeCells D)) (key parent at : ℕ) (p : NodeCells D) (ns : List ℤ) →
      get a parent ≡ Some p → key ≢ parent → ns ≡ map (λ x. x.number) p.cells → at < length ns →
      ((d : ℤ) → unsigned_abs (get_or ns at d) ≡ key) → Puts a s parent (record p { cells = remove p.cells at }) →
      Updates s b key None → b.capacity ≡ s.capacity → Dissolves a b key parent at
  child-removed a s b key parent at p ns above apart ns_is within names puts updates room =
      let cells : cells_at a parent ≡ p.cells = ap cells_of above in
      let place = named-at p.cells ns key at ns_is within names in
      record {
        place = subst (λ (xs : List (Cell D)). IsNamedAt xs key at) (sym cells) place;
        gone = updates.changed;
        levels = λ k ne. ap level_of (updates.others k ne) ∙ changed-levels a s parent p (remove p.cells at) above puts k;
        parents = λ k ne. ap parent_of (updates.others k ne) ∙ changed-parents a s parent p (remove p.cells at) above puts k;
        cells = λ k ne other. ap cells_of (updates.others k ne) ∙ changed-others a s parent p (remove p.cells at) above puts k other;
        shorter = ap cells_of (updates.others parent (λ e. apart (sym e))) ∙ changed-cells a s parent p (remove p.cells at) above puts ∙ ap (λ xs. remove xs at) (sym cells);
        room = room ∙ puts.room;
      }
