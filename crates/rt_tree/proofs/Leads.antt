-- Ways in a settled tree, said of the tree from outside.
use Rattle.std.proofs.Common.{◌≡◌, ◌≢◌, ℕ, zero, suc, ◌+◌, ◌<◌, ℤ, List, [], ◌∷◌, length, map, Option, Some, None, nat_eq, slice_get, arith, refl, ap, sym, ◌∙◌, subst}
use Rattle.std.specs.Option.{option_map, option_map_or}
use Rattle.std.proofs.lemmas.Option.{same_Some, none-some, slice_get-map, get_or_from_slice_get}
use Rattle.rt_box.specs.declared.interval.Interval.{Interval}
use Rattle.rt_check.specs.declared.node.NodeRow.{NodeRow}
use Rattle.rt_tree_subtree.specs.Subtree.{IsBestChild}
use Rattle.rt_tree_node.specs.declared.arena.Arena.{Arena}
use Rattle.rt_tree_node.specs.declared.cell.Cell.{Cell}
use Rattle.rt_tree_node.specs.Places.{key_of, rects, cells_at, level_at, parent_at}
use Rattle.rt_tree_place.specs.Path.{LeadsTo as LeadsDown}
use Rattle.rt_tree_remove.specs.Above.{way_up as way_above}
use Rattle.rt_tree_outside.specs.Outside.{cell_row, outside}
use Rattle.rt_tree_outside.specs.InOrder.{cells_of_number}
use Rattle.rt_tree_walk.proofs.Reaching.{named-by}
use Rattle.rt_tree_walk.proofs.Progress.{IsSettled, settled-linked}
use Rattle.rt_tree_walk.proofs.Listed.{levels-below}
use Rattle.rt_tree.specs.Way.{boxes_in, LeadsTo, way_up, parent_of_number}
use Rattle.rt_tree.proofs.Rows.{intervals-back}
use Rattle.rt_tree.proofs.Reading.{number, node-read, cells-read}

within : {X : Type 0} (xs : List X) (at : ℕ) (x : X) → slice_get xs at ≡ Some x → at < length xs
within [] at x e = absurd (none-some x e)
within (y ∷ xs) zero x e = omega arith
within (y ∷ xs) (suc at) x e = let h = within xs at x e in omega arith

module _ {D : ℕ} where
  pub boxes-back : (named : ℕ → ℤ) (l : ℕ) (cells : List (Cell D)) → boxes_in (map (cell_row named l) cells) ≡ rects cells
  boxes-back named l [] = refl
  boxes-back named l (c ∷ cs) = ap (λ b. b ∷ boxes_in (map (cell_row named l) cs)) (intervals-back c.rect) ∙ ap (λ bs. c.rect ∷ bs) (boxes-back named l cs)

  module _ (t : Arena D) (s : IsSettled t) where
    pub leads-read : (l key : ℕ) (rect : List Interval) (leaf : ℕ) (path : List ℕ) → level_at t.nodes key ≡ Some l → LeadsDown t.nodes 0 l key rect leaf path →
        LeadsTo (outside t).nodes l (number t key) rect (number t leaf) (map (number t) path)
    leads-read zero key rect leaf path e (is, path_is) = (ap (number t) is, ap (map (number t)) path_is)
    leads-read (suc l) key rect leaf path e (at, c, rest, best, found, path_is, more) =
        let cells = cells-read t s key (suc l) e in
        let boxes : boxes_in (cells_of_number (outside t).nodes (number t key)) ≡ rects (cells_at t.nodes key) =
        ap boxes_in cells ∙ boxes-back (number t) (suc l) (cells_at t.nodes key) in
        let inside = within (cells_at t.nodes key) at c found in
        let low : level_at t.nodes (key_of c) ≡ Some l =
        subst (λ (x : Cell D). level_at t.nodes (key_of x) ≡ Some l) (get_or_from_slice_get (cells_at t.nodes key) at c c found) (levels-below t s key l e at c inside) in (
          at,
          cell_row (number t) (suc l) c,
          map (number t) rest,
          subst (λ (bs : List (List Interval)). IsBestChild (nat_eq l 0) bs rect at) (sym boxes)
              (let same : 0 + l ≡ l = omega arith in subst (λ n. IsBestChild (nat_eq n 0) (rects (cells_at t.nodes key)) rect at) same best),
          ap (λ cs. slice_get cs at) cells ∙ slice_get-map (cell_row (number t) (suc l)) (cells_at t.nodes key) at ∙ ap (option_map (cell_row (number t) (suc l))) found,
          ap (map (number t)) path_is,
          leads-read l (key_of c) rect leaf rest low more,
        )

    parent-level : (k l p : ℕ) → level_at t.nodes k ≡ Some l → parent_at t.nodes k ≡ Some p → level_at t.nodes p ≡ Some (suc l)
    parent-level k l p e up =
        let ne : k ≢ t.root = λ same. none-some p (sym s.whole.linked.root_parent ∙ ap (parent_at t.nodes) (sym same) ∙ up) in
        let by = named-by t.nodes t.root t.level (settled-linked t s) k l e ne in
        subst (λ (q : ℕ). level_at t.nodes q ≡ Some (suc l)) (same_Some by.0 p (sym by.2.parent_is ∙ up)) by.2.level_is

    pub way-read : (n k l : ℕ) → level_at t.nodes k ≡ Some l → map (number t) (way_above t.nodes n k) ≡ way_up (outside t).nodes n (number t k)
    way-read zero k l e = refl
    way-read (suc n) k l e = ap (λ xs. number t k ∷ xs) (by (λ p m at. way-read n p m at) (parent_at t.nodes k) refl)
      where
        read : parent_of_number (outside t).nodes (number t k) ≡ option_map (number t) (parent_at t.nodes k)
        read = ap (λ o. option_map_or (λ (m : NodeRow D). m.parent) o None) (node-read t s k l e)

        by : ((p m : ℕ) → level_at t.nodes p ≡ Some m → map (number t) (way_above t.nodes n p) ≡ way_up (outside t).nodes n (number t p)) → (o : Option ℕ) → parent_at t.nodes k ≡ o →
            map (number t) (option_map_or (way_above t.nodes n) (parent_at t.nodes k) []) ≡ option_map_or (way_up (outside t).nodes n) (parent_of_number (outside t).nodes (number t k)) []
        by above None q =
            ap (λ o. map (number t) (option_map_or (way_above t.nodes n) o [])) q
            ∙ sym (ap (λ o. option_map_or (way_up (outside t).nodes n) o []) (read ∙ ap (option_map (number t)) q))
        by above (Some p) q =
            ap (λ o. map (number t) (option_map_or (way_above t.nodes n) o [])) q
            ∙ above p (suc l) (parent-level k l p e q)
            ∙ sym (ap (λ o. option_map_or (way_up (outside t).nodes n) o []) (read ∙ ap (option_map (number t)) q))

    -- the leaf that the way leads to
    pub leads-low : (l key : ℕ) (rect : List Interval) (leaf : ℕ) (path : List ℕ) → level_at t.nodes key ≡ Some l → LeadsDown t.nodes 0 l key rect leaf path → level_at t.nodes leaf ≡ Some 0
    leads-low zero key rect leaf path e (is, path_is) = ap (level_at t.nodes) is ∙ e
    leads-low (suc l) key rect leaf path e (at, c, rest, best, found, path_is, more) =
        let inside = within (cells_at t.nodes key) at c found in
        let low : level_at t.nodes (key_of c) ≡ Some l =
        subst (λ (x : Cell D). level_at t.nodes (key_of x) ≡ Some l) (get_or_from_slice_get (cells_at t.nodes key) at c c found) (levels-below t s key l e at c inside) in
        leads-low l (key_of c) rect leaf rest low more
