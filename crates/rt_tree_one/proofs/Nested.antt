-- Each sound tree in preorder shows a nested tree: the one that is read off its root.
use Rattle.std.proofs.Common.{◌≡◌, inl, inr, ℕ, zero, suc, ◌+◌, ℤ, pos, List, [], ◌∷◌, map, length, Option, Some, None, refl, sym, ap, ◌∙◌, subst, arith}
use Rattle.std.specs.List.{All}
use Rattle.std.proofs.lemmas.Bool.{cases_lt}
use Rattle.rt_box.specs.declared.interval.Interval.{Interval}
use Rattle.rt_box.specs.Capacity.{IsCapacity}
use Rattle.rt_box.specs.Hull.{hull}
use Rattle.rt_check.specs.declared.node.NodeRow.{NodeRow}
use Rattle.rt_check.specs.declared.node.RawCell.{RawCell}
use Rattle.rt_check.specs.Shadow.{ShadowLists}
use Rattle.rt_check.specs.Conditions.{IsSound}
use Rattle.rt_tree_outside.specs.InOrder.{nodes_in as size_in, AreInOrder, IsPreorder}
use Rattle.rt_tree_rules.specs.Nested.{Node, box, Tree}
use Rattle.rt_tree_rules.specs.Shadow.{node_count, starts, row_cell, child_cell, nodes_in, Shows}
use Rattle.rt_tree.specs.Lists.{box_in}
use Rattle.rt_tree_one.specs.Laws.{CellsHaveAxes, SoundTreesAreNested}
use Rattle.rt_tree_one.proofs.Entries.{Each}
use Rattle.rt_tree_one.proofs.Inserted.{one_shown}
use Rattle.rt_tree_one.proofs.Standing.{At, Stands, all-at, each-from, stands-append, stands-within, stands-whole}
use Rattle.rt_tree_one.proofs.Hulling.{IsLong, hull-box}
use Rattle.rt_tree_one.proofs.Children.{IsChild, number-at, root-first, children-at, followed-at, cells-at}
use Rattle.rt_tree_one.proofs.Reading.{below, nodes-long, row_of, node_at, counted, cell_is, node_is, rows_are, row_boxes}
use Rattle.rt_tree_one.proofs.Within.{none_behind}

module _ {D : ℕ} where
  module _ (s : ShadowLists D) (sound : IsSound s) (order : IsPreorder s) (capacity : IsCapacity s.capacity) (axes : CellsHaveAxes s) where
    long_at : (k : ℕ) (n : NodeRow D) → At s.nodes k n → Each IsLong n.cells
    long_at k n here =
        let all = all-at (λ (x : NodeRow D). All (IsLong {D = D}) x.cells) s.nodes k n axes here in
        each-from IsLong n.cells (λ j c there. all-at IsLong n.cells j c all there)

    -- ---- the boxes of a node's cells are those of the nested node
    abbrev Boxed : ℕ → Type 0
    Boxed l = (k : ℕ) (n : NodeRow D) (number : ℤ) → At s.nodes k n → n.level ≡ l → number ≡ pos (k + 1) → map (box l) (node_at s.nodes l number) ≡ map box_in n.cells

    child_box : (k l : ℕ) → Boxed l → (c : RawCell D) → IsChild s k l c → IsLong c → box (suc l) (node_at s.nodes l c.number) ≡ box_in c
    child_box k l boxed c child long =
        ap hull (boxed child.at child.node c.number child.here child.level child.number)
        ∙ hull-box c child.node.cells child.some long (long_at child.at child.node child.here) child.hull

    child_boxes : (k l : ℕ) → Boxed l → (cells : List (RawCell D)) → Each (IsChild s k l) cells → Each IsLong cells →
        map (box (suc l)) (map (λ c. node_at s.nodes l c.number) cells) ≡ map box_in cells
    child_boxes k l boxed [] all long = refl
    child_boxes k l boxed (c ∷ cs) all long =
        ap (λ (b : List Interval). b ∷ map (box (suc l)) (map (λ x. node_at s.nodes l x.number) cs)) (child_box k l boxed c all.0 long.0)
        ∙ ap (λ (bs : List (List Interval)). box_in c ∷ bs) (child_boxes k l boxed cs all.1 long.1)

    boxed : (l : ℕ) → Boxed l
    boxed zero k n number here level e = ap (λ (cs : List (RawCell D)). map (box zero) (map row_of cs)) (cells-at s sound order capacity k n here number e) ∙ row_boxes n.cells
    boxed (suc l) k n number here level e =
        ap (λ (cs : List (RawCell D)). map (box (suc l)) (map (λ c. node_at s.nodes l c.number) cs)) (cells-at s sound order capacity k n here number e)
        ∙ child_boxes k l (boxed l) n.cells (children-at s sound order capacity k l n here level) (long_at k n here)

    -- ---- the nodes of the nested node stand from its place on
    abbrev Standing : ℕ → Type 0
    Standing l = (k number : ℕ) (z : ℤ) (parent : Option ℤ) (n : NodeRow D) → At s.nodes k n → n.level ≡ l → number ≡ k + 1 → z ≡ pos number → n.parent ≡ parent →
        Stands s.nodes k (nodes_in l number parent (node_at s.nodes l z))

    record Follow (l place k : ℕ) (parent : Option ℤ) (cells : List (RawCell D)) : Type 0 where
      cells_are : cells ≡ map (child_cell l) (starts (node_count l) place (map (λ c. node_at s.nodes l c.number) cells))
      stand : Stands s.nodes k (below l parent place (map (λ c. node_at s.nodes l c.number) cells))

    follow : (l up : ℕ) → Standing l → (cells : List (RawCell D)) (place k : ℕ) → place ≡ k + 1 → Each (IsChild s up l) cells → Each IsLong cells →
        AreInOrder s.nodes l place cells → Follow l place k (Some (pos (up + 1))) cells
    follow l up standing [] place k at all long are = record { cells_are = refl; stand = tt }
    follow l up standing (c ∷ cs) place k at all long are =
        let parent = Some (pos (up + 1)) in
        let child = all.0 in
        let node = node_at s.nodes l c.number in
        let others = map (λ (x : RawCell D). node_at s.nodes l x.number) cs in
        let size = counted s.nodes l c.number in
        let same : pos place ≡ pos (child.at + 1) = sym are.0 ∙ child.number in
        let number : place ≡ child.at + 1 = cc in
        let here : At s.nodes k child.node = subst (λ (i : ℕ). At s.nodes i child.node) (omega (arith, number, at)) child.here in
        let mine = standing k place c.number parent child.node here child.level at are.0 child.parent in
        let later = follow l up standing cs (place + node_count l node) (k + node_count l node) (omega (arith, at)) all.1 long.1
        (subst (λ (i : ℕ). AreInOrder s.nodes l (place + i) cs) (sym size) are.1) in
        let own : c ≡ child_cell l (place, node) = cell_is c (pos place) (box (suc l) node) long.0 are.0 (child_box up l (boxed l) c child long.0) in
        let tail = later.cells_are in
        record {
          cells_are = ap (λ (x : RawCell D). x ∷ cs) own ∙ ap (λ (xs : List (RawCell D)). child_cell l (place, node) ∷ xs) tail;
          stand = stands-append s.nodes k (nodes_in l place parent node) (below l parent (place + node_count l node) others) mine
              (subst (λ (i : ℕ). Stands s.nodes i (below l parent (place + node_count l node) others)) (ap (λ (i : ℕ). k + i) (sym (nodes-long D l place parent node))) later.stand);
        }

    standing : (l : ℕ) → Standing l
    standing zero k number z parent n here level e is up =
        let cells : n.cells ≡ map row_cell (node_at s.nodes zero z)
        = rows_are n.cells (long_at k n here) ∙ ap (λ (cs : List (RawCell D)). map row_cell (map row_of cs)) (sym (cells-at s sound order capacity k n here z (is ∙ ap pos e))) in
        let same = node_is n (pos number) zero parent (map row_cell (node_at s.nodes zero z)) (number-at s sound order capacity k n here ∙ ap pos (sym e)) level up cells in
        (subst (At s.nodes k) same here, tt)
    standing (suc l) k number z parent n here level e is up =
        let known = cells-at s sound order capacity k n here z (is ∙ ap pos e) in
        let children = follow l k (standing l) n.cells (number + 1) (k + 1) (omega (arith, e)) (children-at s sound order capacity k l n here level) (long_at k n here)
        (subst (λ (i : ℕ). AreInOrder s.nodes l i n.cells) (omega (arith, e)) (followed-at s sound order capacity k l n here level)) in
        let nodes = ap (λ (cs : List (RawCell D)). map (λ c. node_at s.nodes l c.number) cs) (sym known) in
        let cells : n.cells ≡ map (child_cell l) (starts (node_count l) (number + 1) (node_at s.nodes (suc l) z))
        = children.cells_are ∙ ap (λ (xs : List (Node l)). map (child_cell l) (starts (node_count l) (number + 1) xs)) nodes in
        let same = node_is n (pos number) (suc l) parent (map (child_cell l) (starts (node_count l) (number + 1) (node_at s.nodes (suc l) z)))
        (number-at s sound order capacity k n here ∙ ap pos (sym e)) level up cells in
        let moved = subst (λ (xs : List (Node l)). Stands s.nodes (k + 1) (below l (Some (pos (k + 1))) (number + 1) xs)) nodes children.stand in
        let own = subst (λ (i : ℕ). Stands s.nodes (k + 1) (below l (Some (pos i)) (number + 1) (node_at s.nodes (suc l) z))) (sym e) moved in
        (subst (At s.nodes k) same here, subst (λ (i : ℕ). Stands s.nodes i (below l (Some (pos number)) (number + 1) (node_at s.nodes (suc l) z))) (omega arith) own)

    -- ---- and they are all
    shown : (tree : Tree) × Shows s tree
    shown =
        let (root, here, none) = root-first s sound order capacity in
        let node = node_at s.nodes root.level (pos 1) in
        let nodes = nodes_in {D = D} root.level 1 None node in
        let stands = standing root.level 0 1 (pos 1) None root here refl refl refl none in
        let within = stands-within s.nodes 0 nodes (omega arith) stands in
        let long = nodes-long D root.level 1 None node in
        let size = counted s.nodes root.level (pos 1) in
        let all : length s.nodes ≡ length nodes = elim (cases_lt (size_in s.nodes root.level (pos 1)) (length s.nodes)) [
          | inl past ↦ absurd (none_behind s sound order capacity root here past)
          | inr inside ↦ omega (arith, inside, within, long, size)
        ] in
        (record { level = root.level; root = node }, (order.root_first, stands-whole s.nodes nodes stands all))

pub nested : SoundTreesAreNested
nested axes s capacity have sound order =
    let found = shown s sound order capacity have in
    (found.0, found.1, λ other shows. one_shown s other found.0 shows found.1)
