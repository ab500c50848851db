-- How far a search has come.
use Rattle.std.proofs.Common.{◌≡◌, ℕ, suc, ◌+◌, ◌^◌, ◌<◌, Bool, true, cond, not, List, [], ◌∷◌, ◌++◌, length, map, get_or, filter, nat_le, Some, append_assoc, arith, refl, ap, sym, ◌∙◌, subst}
use Rattle.std.specs.List.{All, count_by, sum_by, flat_map}
use Rattle.std.specs.List.Sorted.{IsPermutation}
use Rattle.std.specs.declared.cmp.Reverse.{Reverse}
use Rattle.std.proofs.lemmas.Bool.Decides.{nat_tests}
use Rattle.std.proofs.lemmas.List.Concat.{length-flat_map}
use Rattle.std.proofs.lemmas.List.Elements.{All-nil, All-head, All-tail, All-append, All-map, All-same, All-weaker, All-filter, filter_passes}
use Rattle.std.proofs.lemmas.List.{map-append}
use Rattle.std.proofs.lemmas.List.Sorted.{All-permutation, IsPermutation-map, IsPermutation-append_right, IsPermutation-filter_both, sum_by-IsPermutation}
use Rattle.std.proofs.lemmas.List.Sums.{sum_by-append, sum_by-cons}
use Rattle.slab.specs.Slab.{Slab}
use Rattle.rt_tree_node.specs.declared.arena.Arena.{Arena}
use Rattle.rt_tree_node.specs.declared.cell.Cell.{Cell}
use Rattle.rt_tree_node.specs.Node.{NodeCells}
use Rattle.rt_tree_node.specs.Places.{cells_at, level_at}
use Rattle.rt_tree_node.proofs.Counts.{count-append}
use Rattle.rt_tree_node.proofs.Links.{All-left, All-right}
use Rattle.rt_tree_walk.specs.declared.searching.Row.{Row}
use Rattle.rt_tree_walk.specs.Search.{row_of}
use Rattle.rt_tree_walk.proofs.Judging.{count-mapped}
use Rattle.rt_tree_walk.proofs.Progress.{IsSettled}
use Rattle.rt_tree_nearest.specs.declared.candidate.Candidate.{Candidate}
use Rattle.rt_tree_nearest.specs.declared.candidate.Branch.{Branch}
use Rattle.rt_tree_nearest.specs.declared.query.Query.{Query}
use Rattle.rt_tree_walk.specs.Rows.{rows_in}
use Rattle.rt_tree_nearest.specs.Nearest.{box_distance}
use Rattle.rt_tree_nearest.specs.Candidates.{queued, candidate_of, own_row, IsKept, IsReach, IsBeyond, IsOut, Keeps, Queues, is_near}
use Rattle.rt_tree_walk.proofs.Judging.{count-joined}
use Rattle.rt_tree_walk.proofs.Below.{rows-leaf}
use Rattle.rt_tree_nearest.proofs.Below.{rows_below, keys_below, rows-node, keys-node, rows-inner, keys-inner, IsNear, children-near}
use Rattle.rt_tree_nearest.proofs.Keeping.{out-far}

is-far : (n most : ℕ) → not (nat_le n most) ≡ true → most < n
is-far n most h = grind (arith, nat_tests)

module _ {D : ℕ} (q : Query D) (t : Arena D) where
  abbrev a : Slab (NodeCells D)
  a = t.nodes

  abbrev IsExact : Candidate D → Type 0
  IsExact c = c.distance ≡ box_distance c.rect q.target

  -- of the rows of the tree some are kept, others are out, and all others are below some branches
  pub record Searched (kept : List (Candidate D)) (branches : List (Reverse Branch)) : Type 0 where
    pub left : List (Candidate D)
    pub keeps : IsKept q kept
    pub near : All (IsNear t q.target) branches
    pub counts : (test : Row D → Bool) →
        (count_by (λ c. test (own_row c)) kept + count_by (λ c. test (own_row c)) left) + sum_by (λ e. count_by test (rows_below t.nodes e)) branches
        ≡ count_by test (rows_in t)
    pub exact : All (λ c. c.distance ≡ box_distance c.rect q.target) (kept ++ left)
    pub out : All (IsOut q kept) left

  pub Searched-moved : (kept : List (Candidate D)) (es fs : List (Reverse Branch)) → IsPermutation es fs → Searched kept es → Searched kept fs
  Searched-moved kept es fs moved so = record {
    left = so.left;
    keeps = so.keeps;
    near = All-permutation (IsNear t q.target) es fs moved so.near;
    counts = λ test. let f : Reverse Branch → ℕ = λ e. count_by test (rows_below a e) in omega (arith, so.counts test, sum_by-IsPermutation f es fs moved);
    exact = so.exact;
    out = so.out;
  }

  -- ---- rows
  -- the candidate that a row is
  abbrev pub as_candidate : Row D → Candidate D
  as_candidate r = record { distance = box_distance r.rect q.target; id = r.id; rect = r.rect }

  module _ (s : IsSettled t) where
    -- a leaf is seen
    module _ (kept kept1 : List (Candidate D)) (x : Reverse Branch) (rest : List (Reverse Branch)) (so : Searched kept (x ∷ rest))
        (at : level_at t.nodes x.0.key ≡ Some 0) (seen : Keeps q (map (candidate_of q.target) (cells_at t.nodes x.0.key)) kept kept1) where
      abbrev cells : List (Cell D)
      cells = cells_at a x.0.key

      abbrev candidates : List (Candidate D)
      candidates = map (candidate_of q.target) cells

      leaf-counts : (test : Row D → Bool) → count_by test (rows_below a x) ≡ count_by (λ c. test (own_row c)) candidates
      leaf-counts test =
          ap (count_by test) (rows-node a x 0 at ∙ rows-leaf a x.0.key at)
          ∙ count-mapped test row_of (λ c. test (row_of c)) cells (λ i d h. refl)
          ∙ sym (count-mapped (λ (c : Candidate D). test (own_row c)) (candidate_of q.target) (λ c. test (row_of c)) cells (λ i d h. refl))

      leaf-exact : All IsExact (kept1 ++ seen.left)
      leaf-exact = All-permutation IsExact (kept ++ candidates) (kept1 ++ seen.left) seen.same
          (All-append IsExact kept candidates (All-left IsExact kept so.left so.exact) (All-map IsExact (candidate_of q.target) cells (λ i d h. refl)))

      pub Searched-leaf : Searched kept1 rest
      Searched-leaf = record {
        left = so.left ++ seen.left;
        keeps = seen.kept;
        near = All-tail (IsNear t q.target) x rest so.near;
        counts = λ test.
            let own : Candidate D → Bool = λ c. test (own_row c) in
            let f : Reverse Branch → ℕ = λ e. count_by test (rows_below a e) in
            let both = sum_by-IsPermutation (λ c. cond (own c) 1 0) (kept ++ candidates) (kept1 ++ seen.left) seen.same in
            omega (
              arith,
              so.counts test,
              sum_by-cons f x rest,
              leaf-counts test,
              both,
              count-append own kept candidates,
              count-append own kept1 seen.left,
              count-append own so.left seen.left,
            );
        exact = All-append IsExact kept1 (so.left ++ seen.left) (All-left IsExact kept1 seen.left leaf-exact)
            (All-append IsExact so.left seen.left (All-right IsExact kept so.left so.exact) (All-right IsExact kept1 seen.left leaf-exact));
        out = All-append (IsOut q kept1) so.left seen.left (All-weaker (IsOut q kept) (IsOut q kept1) seen.stays so.left so.out) seen.out;
      }

    -- ---- nodes
    -- a node's children take its place
    module _ (kept : List (Candidate D)) (x : Reverse Branch) (rest : List (Reverse Branch)) (so : Searched kept (x ∷ rest)) (l : ℕ)
        (at : level_at t.nodes x.0.key ≡ Some (suc l)) where
      abbrev children : List (Reverse Branch)
      children = map (queued q.target) (cells_at a x.0.key)

      pub Searched-open : Searched kept (rest ++ children)
      Searched-open = record {
        left = so.left;
        keeps = so.keeps;
        near = All-append (IsNear t q.target) rest children (All-tail (IsNear t q.target) x rest so.near) (children-near t s q.target l x.0.key at);
        counts = λ test.
            let f : Reverse Branch → ℕ = λ e. count_by test (rows_below a e) in
            omega (
              arith,
              so.counts test,
              sum_by-cons f x rest,
              ap (count_by test) (rows-node a x (suc l) at ∙ rows-inner t s q.target l x.0.key at),
              count-joined test (rows_below a) children,
              sum_by-append f rest children,
            );
        exact = so.exact;
        out = so.out;
      }

    -- ---- what is too far
    module _ (kept : List (Candidate D)) (most : ℕ) (reach : IsReach q kept most) where
      rows-out : (es : List (Reverse Branch)) → All (IsNear t q.target) es → All (λ e. IsBeyond most e.0.distance) es →
          All (IsOut q kept) (map as_candidate (flat_map (rows_below a) es))
      rows-out [] near far = All-nil (IsOut q kept)
      rows-out (e ∷ es) near far =
          let one : All (IsOut q kept) (map as_candidate (rows_below a e)) = All-map (IsOut q kept) as_candidate (rows_below a e) (λ i d h.
          let n = All-head (λ y. IsBeyond most y.0.distance) e es far in
          let within = (All-head (IsNear t q.target) e es near).near i d h in
          out-far q kept most reach (as_candidate (get_or (rows_below a e) i d)) (n.0, n.1, n.2, omega (arith, within, n.3))) in
          All-same (IsOut q kept) (map as_candidate (rows_below a e ++ flat_map (rows_below a) es))
          (map as_candidate (rows_below a e) ++ map as_candidate (flat_map (rows_below a) es))
          (map-append as_candidate (rows_below a e) (flat_map (rows_below a) es))
          (All-append (IsOut q kept) (map as_candidate (rows_below a e)) (map as_candidate (flat_map (rows_below a) es)) one
          (rows-out es (All-tail (IsNear t q.target) e es near) (All-tail (λ y. IsBeyond most y.0.distance) e es far)))

      pub Searched-drop : (es fs : List (Reverse Branch)) → Searched kept (es ++ fs) → All (λ e. IsBeyond most e.0.distance) fs → Searched kept es
      Searched-drop es fs so far =
          let rows = flat_map (rows_below a) fs in
          let more = map as_candidate rows in
          record {
            left = so.left ++ more;
            keeps = so.keeps;
            near = All-left (IsNear t q.target) es fs so.near;
            counts = λ test.
                let f : Reverse Branch → ℕ = λ e. count_by test (rows_below a e) in
                let own : Candidate D → Bool = λ c. test (own_row c) in
                omega (
                  arith,
                  so.counts test,
                  sum_by-append f es fs,
                  count-joined test (rows_below a) fs,
                  count-mapped own as_candidate test rows (λ i d h. refl),
                  count-append own so.left more,
                );
            exact = All-append IsExact kept (so.left ++ more) (All-left IsExact kept so.left so.exact)
                (All-append IsExact so.left more (All-right IsExact kept so.left so.exact) (All-map IsExact as_candidate rows (λ i d h. refl)));
            out = All-append (IsOut q kept) so.left more so.out (rows-out fs (All-right (IsNear t q.target) es fs so.near) far);
          }

      -- of a node's children those are dropped that are too far
      module _ (x : Reverse Branch) (rest heap1 : List (Reverse Branch)) (so : Searched kept (x ∷ rest)) (l : ℕ)
          (at : level_at t.nodes x.0.key ≡ Some (suc l)) (queues : Queues q.target most (cells_at t.nodes x.0.key) rest heap1) where
        abbrev inner : List (Cell D)
        inner = cells_at a x.0.key

        abbrev test_near : Cell D → Bool
        test_near = is_near q.target most

        abbrev test_far : Cell D → Bool
        test_far c = not (is_near q.target most c)

        abbrev nears : List (Reverse Branch)
        nears = map (queued q.target) (filter test_near inner)

        abbrev fars : List (Reverse Branch)
        fars = map (queued q.target) (filter test_far inner)

        parted : IsPermutation (map (queued q.target) inner) (nears ++ fars)
        parted = subst (λ (es : List (Reverse Branch)). IsPermutation (map (queued q.target) inner) es)
            (map-append (queued q.target) (filter test_near inner) (filter test_far inner))
            (IsPermutation-map (queued q.target) inner (filter test_near inner ++ filter test_far inner) (IsPermutation-filter_both test_near test_far (λ c. refl) inner))

        fars-beyond : (cs : List (Cell D)) → All (λ c. box_distance c.rect q.target < 2 ^ 128) cs →
            All (λ e. IsBeyond most e.0.distance) (map (queued q.target) (filter test_far cs))
        fars-beyond cs fits = All-map (λ e. IsBeyond most e.0.distance) (queued q.target) (filter test_far cs) (λ i d h.
            let c = get_or (filter test_far cs) i d in
            let fit = All-filter test_far (λ c. box_distance c.rect q.target < 2 ^ 128) cs fits i d h in
            let far = is-far (box_distance c.rect q.target) most (filter_passes test_far cs i d h) in
            (box_distance c.rect q.target, fit, far, omega arith))

        pub Searched-node : Searched kept heap1
        Searched-node =
            let opened = Searched-open kept x rest so l at in
            let spread = Searched-moved kept (rest ++ map (queued q.target) inner) (rest ++ (nears ++ fars))
            (IsPermutation-append_right rest (map (queued q.target) inner) (nears ++ fars) parted) opened in
            let joined = subst (λ (es : List (Reverse Branch)). Searched kept es) (sym (append_assoc rest nears fars)) spread in
            Searched-moved kept (rest ++ nears) heap1 queues.moved (Searched-drop (rest ++ nears) fars joined (fars-beyond inner queues.fits))

        pub shorter-node : sum_by (λ e. length (keys_below a e)) heap1 < sum_by (λ e. length (keys_below a e)) (x ∷ rest)
        shorter-node =
            let g : Reverse Branch → ℕ = λ e. length (keys_below a e) in
            omega (
              arith,
              sum_by-cons g x rest,
              sum_by-IsPermutation g (rest ++ nears) heap1 queues.moved,
              sum_by-append g rest nears,
              sum_by-append g nears fars,
              sum_by-IsPermutation g (map (queued q.target) inner) (nears ++ fars) parted,
              ap length (keys-node a x (suc l) at ∙ keys-inner t s q.target l x.0.key at),
              length-flat_map (keys_below a) (map (queued q.target) inner),
            )

    pub shorter-leaf : (x : Reverse Branch) (rest : List (Reverse Branch)) → level_at t.nodes x.0.key ≡ Some 0 →
        sum_by (λ e. length (keys_below a e)) rest < sum_by (λ e. length (keys_below a e)) (x ∷ rest)
    shorter-leaf x rest at =
        let g : Reverse Branch → ℕ = λ e. length (keys_below a e) in
        omega (arith, sum_by-cons g x rest, ap length (keys-node a x 0 at))
