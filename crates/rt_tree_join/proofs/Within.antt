-- What is below the nodes of one tree, and what the opening of a node against itself leaves due.
use Rattle.std.proofs.Common.{◌≡◌, ℕ, suc, ◌+◌, ◌-◌, ◌<◌, Bool, false, List, [], ◌∷◌, ◌++◌, length, map, get_or, Some, append-nil, arith, refl, ap, sym, ◌∙◌, subst}
use Rattle.std.specs.List.{All, count_by, sum_by, filter, flat_map}
use Rattle.std.proofs.lemmas.List.Elements.{All-nil, All-cons, All-head, All-tail, All-append, All-filter}
use Rattle.std.proofs.lemmas.List.Sums.{sum_by-append, sum_by-cons, sum_by_push}
use Rattle.slab.specs.Slab.{get}
use Rattle.rt_tree_node.specs.declared.arena.Arena.{Arena}
use Rattle.rt_tree_node.specs.declared.cell.Cell.{Cell}
use Rattle.rt_tree_node.specs.Node.{NodeCells}
use Rattle.rt_tree_node.specs.Places.{key_of, cells_at, level_at, hull_at, cells_of}
use Rattle.rt_tree_node.proofs.Counts.{count-append}
use Rattle.rt_tree_node.proofs.Links.{All-left, All-right}
use Rattle.rt_tree_walk.specs.declared.searching.Row.{Row}
use Rattle.rt_tree_walk.specs.Search.{row_of}
use Rattle.rt_tree_walk.specs.Preorder.{keys_in}
use Rattle.rt_tree_walk.proofs.Judging.{All-mapped}
use Rattle.rt_tree_walk.proofs.Progress.{IsSettled}
use Rattle.rt_tree_walk.specs.Rows.{rows_in}
use Rattle.rt_tree_walk.proofs.Below.{rows-leaf, rows_under, rows-none, rows-inner}
use Rattle.rt_tree_join.specs.declared.joining.Pair.{Pair}
use Rattle.rt_tree_join.specs.declared.due.Due.{Due}
use Rattle.rt_tree_join.specs.declared.due.Subtree.{Subtree}
use Rattle.rt_tree_join.specs.declared.due.Side.TheVariants.{Left, Right}
use Rattle.rt_tree_join.specs.Join.{touch, pairs_with, touching_pairs}
use Rattle.rt_tree_join.specs.Due.{subtree_of, child_due, pairs_of_row, IsSubtree, IsDue, IsRoot, count_due}
use Rattle.rt_tree_join.specs.Itself.{pairs_within, later_pairs, later_due, count_within, steps_within, StartsWithin, Splits}
use Rattle.rt_tree_join.proofs.Boxes.{touch-apart}
use Rattle.rt_tree_join.proofs.Counting.{sum-filtered, sum-mapped, additive, right-joined, right-none, with-joined, pairs-apart, row-pairs}
use Rattle.rt_tree_join.proofs.Below.{keys-inner, keys-some, node-level, children, whole-tree}

module _ {D : ℕ} where
  -- ---- lists of rows
  within-joined : (test : Pair → Bool) (a b : List (Row D)) →
      count_by test (pairs_within (a ++ b)) ≡ count_by test (pairs_within a) + count_by test (touching_pairs a b) + count_by test (pairs_within b)
  within-joined test [] b = omega arith
  within-joined test (r ∷ a) b =
      let here = ap (count_by test) (with-joined a b r) ∙ count-append test (pairs_with a r) (pairs_with b r) in
      omega (
        arith,
        here,
        count-append test (pairs_with (a ++ b) r) (pairs_within (a ++ b)),
        count-append test (pairs_with a r) (pairs_within a),
        count-append test (pairs_with b r) (touching_pairs a b),
        within-joined test a b,
      )

  leaf-within : (cells : List (Cell D)) → pairs_within (map row_of cells) ≡ later_pairs cells
  leaf-within [] = refl
  leaf-within (c ∷ cs) =
      ap (λ (ps : List Pair). ps ++ pairs_within (map row_of cs)) (row-pairs cs c) ∙ ap (λ (ps : List Pair). pairs_of_row Left cs c ++ ps) (leaf-within cs)

  -- ---- the children of a node
  module _ (t : Arena D) (l : ℕ) where
    abbrev below : Cell D → List (Row D)
    below c = rows_under t.nodes l (key_of c)

    abbrev IsChild : Cell D → Type 0
    IsChild c = IsSubtree t (subtree_of l c)

    -- one with the later ones
    beside : (test : Pair → Bool) (c : Cell D) (cells : List (Cell D)) → IsChild c → All IsChild cells →
        sum_by (count_due t t test) (map (child_due Right l (subtree_of l c)) (filter (λ e. touch c.rect e.rect) cells))
        ≡ count_by test (touching_pairs (below c) (flat_map below cells))
    beside test c cells child all =
        let f : Cell D → ℕ = λ e. count_by test (touching_pairs (below c) (below e)) in
        let n : List (Row D) → ℕ = λ others. count_by test (touching_pairs (below c) others) in
        let apart : All (λ e. touch c.rect e.rect ≡ false → f e ≡ 0) cells = λ i d h none.
        let e = get_or cells i d in
        ap (count_by test) (pairs-apart c.rect e.rect (λ a b p q. touch-apart c.rect e.rect a b p q none) (below c) (below e) child.holds (all i d h).holds) in
        sum-mapped (count_due t t test) (child_due Right l (subtree_of l c)) (filter (λ e. touch c.rect e.rect) cells)
        ∙ sum-filtered f (λ e. touch c.rect e.rect) cells apart
        ∙ sym (additive n (ap (count_by test) (right-none (below c))) (right-joined test (below c)) below cells)

    -- all of them
    within-children : (test : Pair → Bool) (cells : List (Cell D)) → All IsChild cells →
        sum_by (count_due t t test) (later_due l cells) + sum_by (count_within t test) (map (subtree_of l) cells) ≡ count_by test (pairs_within (flat_map below cells))
    within-children test [] all = omega arith
    within-children test (c ∷ cs) all =
        let child = All-head IsChild c cs all in
        let rest = All-tail IsChild c cs all in
        let own = map (child_due Right l (subtree_of l c)) (filter (λ e. touch c.rect e.rect) cs) in
        omega (
          arith,
          sum_by-append (count_due t t test) own (later_due l cs),
          sum_by-cons (count_within t test) (subtree_of l c) (map (subtree_of l) cs),
          beside test c cs child rest,
          within-joined test (below c) (flat_map below cs),
          within-children test cs rest,
        )

    dues-later : (cells : List (Cell D)) → All IsChild cells → All (IsDue t t) (later_due l cells)
    dues-later [] all = All-nil (IsDue t t)
    dues-later (c ∷ cs) all =
        let child = All-head IsChild c cs all in
        let rest = All-tail IsChild c cs all in
        let near : Cell D → Bool = λ e. touch c.rect e.rect in
        let one : All (λ e. IsDue t t (child_due Right l (subtree_of l c) e)) (filter near cs) =
        All-filter near (λ e. IsDue t t (child_due Right l (subtree_of l c) e)) cs (λ i d h. record { left = child; right = rest i d h }) in
        All-append (IsDue t t) (map (child_due Right l (subtree_of l c)) (filter near cs)) (later_due l cs)
        (All-mapped (IsDue t t) (child_due Right l (subtree_of l c)) (filter near cs) one) (dues-later cs rest)

  -- ---- a node
  module _ (t : Arena D) (s : IsSettled t) (next : Subtree D) (so : IsSubtree t next) (node : NodeCells D) (got : get t.nodes next.key ≡ Some node)
      (pairs pairs1 : List Pair) (nodes nodes1 : List (Subtree D)) (due due1 : List (Due D)) (none : due ≡ []) where
    module _ (l : ℕ) (high : next.level ≡ suc l) where
      at : level_at t.nodes next.key ≡ Some (suc l)
      at = so.there ∙ ap Some high

      cells-are : cells_at t.nodes next.key ≡ node.cells
      cells-are = ap cells_of got

      down : node.level - 1 ≡ l
      down = omega (arith, node-level t next.key (suc l) node got at)

      are-children : All (IsChild t l) node.cells
      are-children = subst (All (IsChild t l)) cells-are (children t s l next.key at)

      pub splits-inner : pairs1 ≡ pairs → nodes1 ≡ nodes ++ map (subtree_of (node.level - 1)) node.cells → due1 ≡ due ++ later_due (node.level - 1) node.cells →
          Splits t next pairs pairs1 nodes nodes1 due1
      splits-inner same is_nodes is_due =
          let due_is : due1 ≡ later_due l node.cells =
          is_due ∙ ap (λ (ds : List (Due D)). ds ++ later_due (node.level - 1) node.cells) none ∙ ap (λ k. later_due k node.cells) down in
          let own : rows_under t.nodes next.level next.key ≡ flat_map (below t l) node.cells =
          ap (λ k. rows_under t.nodes k next.key) high ∙ rows-inner t l next.key at ∙ ap (flat_map (below t l)) cells-are in
          record {
            more = map (subtree_of l) node.cells;
            is = is_nodes ∙ ap (λ k. nodes ++ map (subtree_of k) node.cells) down;
            subtrees = All-mapped (IsSubtree t) (subtree_of l) node.cells are-children;
            dues = subst (All (IsDue t t)) (sym due_is) (dues-later t l node.cells are-children);
            each = λ test.
                let below_all = within-children t l test node.cells are-children in
                let all = ap (λ (rows : List (Row D)). count_by test (pairs_within rows)) own in
                let dues = ap (sum_by (count_due t t test)) due_is in
                let kept = ap (count_by test) same in
                omega (arith, below_all, all, dues, kept);
            fewer =
                let mapped = sum-mapped (steps_within t) (subtree_of l) node.cells in
                let keys = ap (λ k. length (keys_in t.nodes k next.key)) high ∙ keys-inner t l next.key
                ∙ ap (λ cells. suc (sum_by (λ c. length (keys_in t.nodes l (key_of c))) cells)) cells-are in
                omega (arith, mapped, keys);
          }

    pub splits-leaf : next.level ≡ 0 → pairs1 ≡ pairs ++ later_pairs node.cells → nodes1 ≡ nodes → due1 ≡ due → Splits t next pairs pairs1 nodes nodes1 due1
    splits-leaf low is same_nodes same_due =
        let due_is : due1 ≡ [] = same_due ∙ none in
        let own : rows_under t.nodes next.level next.key ≡ map row_of node.cells =
        ap (λ k. rows_under t.nodes k next.key) low ∙ rows-leaf t.nodes next.key (so.there ∙ ap Some low) ∙ ap (λ o. map row_of (cells_of o)) got in
        record {
          more = [];
          is = same_nodes ∙ sym (append-nil nodes);
          subtrees = All-nil (IsSubtree t);
          dues = subst (All (IsDue t t)) (sym due_is) (All-nil (IsDue t t));
          each = λ test.
              let come = ap (count_by test) is ∙ count-append test pairs (later_pairs node.cells) in
              let all = ap (λ (rows : List (Row D)). count_by test (pairs_within rows)) own ∙ ap (count_by test) (leaf-within node.cells) in
              let dues = ap (sum_by (count_due t t test)) due_is in
              omega (arith, come, all, dues);
          fewer = keys-some t next.level next.key;
        }

  -- ---- how far a join has come
  -- the pairs so far and those below the nodes to come are all
  pub record Pairing (t : Arena D) (pairs : List Pair) (nodes : List (Subtree D)) : Type 0 where
    pub each : (test : Pair → Bool) → count_by test pairs + sum_by (count_within t test) nodes ≡ count_by test (pairs_within (rows_in t))
    pub subtrees : All (IsSubtree t) nodes

  module _ (t : Arena D) where
    pub starts-empty : IsSettled t → (nodes : List (Subtree D)) → cells_at t.nodes t.root ≡ [] → nodes ≡ [] → StartsWithin t nodes
    starts-empty s nodes none is =
        let no_rows : rows_in t ≡ [] = rows-none t t.level t.root s.whole.linked.root_level none in
        subst (StartsWithin t) (sym is) (record {
          each = λ test. sym (ap (λ (rows : List (Row D)). count_by test (pairs_within rows)) no_rows);
          subtrees = All-nil (IsSubtree t);
        })

    pub starts-root : IsSettled t → (nodes : List (Subtree D)) (root : Subtree D) → IsRoot t (Some root) → nodes ≡ root ∷ [] → StartsWithin t nodes
    starts-root s nodes root e is =
        subst (StartsWithin t) (sym (is ∙ ap (λ (r : Subtree D). r ∷ []) e)) (record {
          each = λ test. omega (arith, sum_by-cons (count_within t test) record { key = t.root; level = t.level; rect = hull_at t.nodes t.root } []);
          subtrees = All-cons (IsSubtree t) record { key = t.root; level = t.level; rect = hull_at t.nodes t.root } [] (whole-tree t s) (All-nil (IsSubtree t));
        })

    pub pairing-start : (pairs : List Pair) (nodes : List (Subtree D)) → pairs ≡ [] → StartsWithin t nodes → Pairing t pairs nodes
    pairing-start pairs nodes none so = record { each = λ test. omega (arith, ap (count_by test) none, so.each test); subtrees = so.subtrees }

    module _ (pairs : List Pair) (nodes rest : List (Subtree D)) (next : Subtree D) (so : Pairing t pairs nodes) (e : nodes ≡ rest ++ next ∷ []) where
      split : All (IsSubtree t) (rest ++ next ∷ [])
      split = subst (All (IsSubtree t)) e so.subtrees

      pub next-within : IsSubtree t next
      next-within = All-head (IsSubtree t) next [] (All-right (IsSubtree t) rest (next ∷ []) split)

      module _ (pairs1 pairs2 : List Pair) (nodes1 : List (Subtree D)) (due : List (Due D)) (splits : Splits t next pairs pairs1 rest nodes1 due) where
        pub pairing-step : ((test : Pair → Bool) → count_by test pairs2 ≡ count_by test pairs1 + sum_by (count_due t t test) due) → Pairing t pairs2 nodes1
        pairing-step come = record {
          each = λ test.
              let c = count_within t test in
              let before = ap (sum_by c) e ∙ sum_by_push c rest next in
              let after = ap (sum_by c) splits.is ∙ sum_by-append c rest splits.more in
              omega (arith, before, after, splits.each test, come test, so.each test);
          subtrees = subst (All (IsSubtree t)) (sym splits.is)
              (All-append (IsSubtree t) rest splits.more (All-left (IsSubtree t) rest (next ∷ []) split) splits.subtrees);
        }

        pub nodes-fewer : sum_by (steps_within t) nodes1 < sum_by (steps_within t) nodes
        nodes-fewer =
            let c = steps_within t in
            let before = ap (sum_by c) e ∙ sum_by_push c rest next in
            let after = ap (sum_by c) splits.is ∙ sum_by-append c rest splits.more in
            omega (arith, before, after, splits.fewer)

    pub pairing-end : (pairs : List Pair) (nodes : List (Subtree D)) → nodes ≡ [] → Pairing t pairs nodes → (test : Pair → Bool) →
        count_by test pairs ≡ count_by test (pairs_within (rows_in t))
    pairing-end pairs nodes none so test =
        let empty : sum_by (count_within t test) nodes ≡ 0 = ap (sum_by (count_within t test)) none in
        omega (arith, so.each test, empty)
