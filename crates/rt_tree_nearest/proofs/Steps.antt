-- One turn: the nearest node is seen, or all that is left is too far.
use Rattle.std.proofs.Common.{◌≡◌, ℕ, zero, suc, ◌^◌, ◌<◌, ◌≤◌, List, [], ◌∷◌, length, map, Option, Some, None, IfSome, arith, refl, ap, sym, ◌∙◌, subst}
use Rattle.std.specs.List.{All, count_by, sum_by}
use Rattle.std.specs.List.Sorted.{IsPermutation}
use Rattle.std.specs.BinaryHeap.{IsHeap, IsUpperBound}
use Rattle.std.specs.declared.cmp.Reverse.{Reverse}
use Rattle.std.proofs.lemmas.List.Elements.{All-nil, All-cons, All-head, All-weaker}
use Rattle.std.proofs.lemmas.List.Sorted.{sum_by-IsPermutation, All-permutation}
use Rattle.std.proofs.lemmas.List.Sums.{sum_by-cons}
use Rattle.slab.specs.Slab.{get, ContainsKey}
use Rattle.rt_tree_node.specs.declared.arena.Arena.{Arena}
use Rattle.rt_tree_node.specs.declared.cell.Cell.{Cell}
use Rattle.rt_tree_node.specs.Node.{NodeCells}
use Rattle.rt_tree_node.specs.Places.{cells_of, cells_at, level_of, level_at}
use Rattle.rt_tree_walk.proofs.Progress.{IsSettled, level-some}
use Rattle.rt_tree_nearest.specs.declared.candidate.Candidate.{Candidate}
use Rattle.rt_tree_nearest.specs.declared.candidate.Branch.{Branch}
use Rattle.rt_tree_nearest.specs.declared.keep.Kept.{Kept}
use Rattle.rt_tree_nearest.specs.declared.narrow.Near.{Near}
use Rattle.rt_tree_nearest.specs.declared.query.Query.{Query}
use Rattle.rt_tree_nearest.specs.Nearest.{box_distance}
use Rattle.rt_tree_nearest.specs.Candidates.{candidate_of, candidates_of, items_in, compare_branches, IsReach, IsBeyond, IsOut, Keeps, KeepsFrom, IsKeptAfter, Queues, Explores}
use Rattle.rt_tree_nearest.proofs.Orders.{top-nearest}
use Rattle.rt_tree_walk.proofs.Below.{rows_under}
use Rattle.rt_tree_nearest.proofs.Below.{rows_below, keys_below, rows-node, IsNear}
use Rattle.rt_tree_nearest.proofs.Searched.{Searched, Searched-moved, Searched-leaf, Searched-drop, Searched-node, shorter-leaf, shorter-node}

module _ {D : ℕ} (q : Query D) (t : Arena D) (s : IsSettled t) where
  -- ---- the start: nothing is seen
  pub start : (root : Reverse Branch) (es : List (Reverse Branch)) → root.0.distance ≡ 0 → root.0.key ≡ t.root → IsPermutation (root ∷ []) es →
      (kept : List (Candidate D)) → kept ≡ [] → Searched q t kept es
  start root es none at moved kept empty =
      let level : level_at t.nodes root.0.key ≡ Some t.level = ap (level_at t.nodes) at ∙ s.whole.linked.root_level in
      Searched-moved q t kept (root ∷ []) es moved (subst (λ (cs : List (Candidate D)). Searched q t cs (root ∷ [])) (sym empty) (record {
        left = [];
        keeps = record {
          few = omega arith;
          within = All-nil (λ (c : Candidate D). c.distance ≤ q.limit);
        };
        near = All-cons (IsNear t q.target) root [] (record {
          near = λ i d h. omega (arith, none);
          node = (t.level, level);
        }) (All-nil (IsNear t q.target));
        counts = λ test.
            let f : Reverse Branch → ℕ = λ e. count_by test (rows_below t.nodes e) in
            omega (arith, sum_by-cons f root [], ap (count_by test) (rows-node t.nodes root t.level level ∙ ap (rows_under t.nodes t.level) at));
        exact = All-nil (λ (c : Candidate D). c.distance ≡ box_distance c.rect q.target);
        out = All-nil (IsOut q []);
      }))

  -- ---- a node is seen
  module _ (kept kept1 : List (Candidate D)) (es rest es1 : List (Reverse Branch)) (x : Reverse Branch) (n : NodeCells D) (so : Searched q t kept es)
      (popped : IsPermutation es (x ∷ rest)) (heaped : IsHeap compare_branches rest) (got : get t.nodes x.0.key ≡ Some n)
      (explores : Explores q n kept kept1 rest es1) where
    pub record IsTurn : Type 0 where
      pub searched : Searched q t kept1 es1
      pub ordered : IsHeap compare_branches es1
      pub shorter : sum_by (λ e. length (keys_below t.nodes e)) es1 < sum_by (λ e. length (keys_below t.nodes e)) es

    abbrev keys : Reverse Branch → ℕ
    keys e = length (keys_below t.nodes e)

    first : Searched q t kept (x ∷ rest)
    first = Searched-moved q t kept es (x ∷ rest) popped so

    cells_are : cells_at t.nodes x.0.key ≡ n.cells
    cells_are = ap cells_of got

    at-level : (l : ℕ) → n.level ≡ l → level_at t.nodes x.0.key ≡ Some l
    at-level l e = ap level_of got ∙ ap Some e

    turn-at : (l : ℕ) → n.level ≡ l → IsTurn
    turn-at zero e =
        let seen = explores.rows e in
        let same : rest ≡ es1 = sym seen.1 in
        record {
          searched = subst (λ (fs : List (Reverse Branch)). Searched q t kept1 fs) same
              (Searched-leaf q t s kept kept1 x rest first (at-level 0 e)
              (subst (λ (cs : List (Cell D)). Keeps q (map (candidate_of q.target) cs) kept kept1) (sym cells_are) seen.0));
          ordered = subst (IsHeap compare_branches) same heaped;
          shorter = omega (arith, ap (sum_by keys) same, shorter-leaf q t s x rest (at-level 0 e), sum_by-IsPermutation keys es (x ∷ rest) popped);
        }
    turn-at (suc l) e =
        let seen = explores.nodes l e in
        let most = seen.1.0 in
        let queues : Queues q.target most (cells_at t.nodes x.0.key) rest es1 =
        subst (λ (cs : List (Cell D)). Queues q.target most cs rest es1) (sym cells_are) seen.1.2 in
        record {
          searched = subst (λ (cs : List (Candidate D)). Searched q t cs es1) (sym seen.0) (Searched-node q t s kept most seen.1.1 x rest es1 first l (at-level (suc l) e) queues);
          ordered = queues.order heaped;
          shorter = omega (arith, shorter-node q t s kept most seen.1.1 x rest es1 first l (at-level (suc l) e) queues, sum_by-IsPermutation keys es (x ∷ rest) popped);
        }

    pub turn : IsTurn
    turn = turn-at n.level refl

  -- the nearest node is there
  pub first-there : (kept : List (Candidate D)) (es rest : List (Reverse Branch)) (x : Reverse Branch) → Searched q t kept es → IsPermutation es (x ∷ rest) →
      ContainsKey t.nodes x.0.key
  first-there kept es rest x so popped =
      let node = (All-head (IsNear t q.target) x rest (All-permutation (IsNear t q.target) es (x ∷ rest) popped so.near)).node in
      level-some t.nodes x.0.key node.0 node.1

  -- ---- all that is left is too far
  pub stop : (kept : List (Candidate D)) (es rest : List (Reverse Branch)) (x : Reverse Branch) (most : ℕ) → Searched q t kept es → IsPermutation es (x ∷ rest) →
      IsUpperBound compare_branches x rest → IsReach q kept most → most < x.0.distance → x.0.distance < 2 ^ 128 → Searched q t kept []
  stop kept es rest x most so popped top reach far fits =
      let beyond : All (λ e. IsBeyond most e.0.distance) (x ∷ rest) =
      All-cons (λ e. IsBeyond most e.0.distance) x rest (x.0.distance, fits, far, omega arith)
      (All-weaker (λ e. x.0.distance ≤ e.0.distance) (λ e. IsBeyond most e.0.distance) (λ e h. (x.0.distance, fits, far, h)) rest (top-nearest x rest top)) in
      Searched-drop q t s kept most reach [] (x ∷ rest) (Searched-moved q t kept es (x ∷ rest) popped so) beyond

-- ---- the near leaf
module _ {D : ℕ} (t : Arena D) (q : Query D) where
  -- what is kept after its rows, where it comes
  pub known-here : (kept : Kept D) (n : NodeCells D) (key : ℕ) (near : Option (Near D)) → get t.nodes key ≡ Some n →
      IfSome near (IsKeptAfter t q (items_in kept)) → IfSome near (λ l. l.leaf ≡ key → KeepsFrom q (candidates_of q n) kept l.kept)
  known-here kept n key None got known = known
  known-here kept n key (Some l) got known = λ same. record {
    keeps = subst (λ (cells : List (Cell D)). Keeps q (map (candidate_of q.target) cells) (items_in kept) (items_in l.kept)) (ap (cells_at t.nodes) same ∙ ap cells_of got) known.keeps;
    shape = known.shape;
  }

  -- another node leaves the rows kept as they are
  pub known-later : (kept kept1 : List (Candidate D)) (heap heap1 : List (Reverse Branch)) (n : NodeCells D) (near near1 : Option (Near D)) →
      Explores q n kept kept1 heap heap1 → (n.level ≡ 0 → near1 ≡ None) → ((l : ℕ) → n.level ≡ suc l → near1 ≡ near) →
      IfSome near (IsKeptAfter t q kept) → IfSome near1 (IsKeptAfter t q kept1)
  known-later kept kept1 heap heap1 n near near1 explores leaf inner known = by n.level refl
    where
      by : (l : ℕ) → n.level ≡ l → IfSome near1 (IsKeptAfter t q kept1)
      by zero e = subst (λ (o : Option (Near D)). IfSome o (IsKeptAfter t q kept1)) (sym (leaf e)) tt
      by (suc l) e =
          subst (λ (o : Option (Near D)). IfSome o (IsKeptAfter t q kept1)) (sym (inner l e))
          (subst (λ (cs : List (Candidate D)). IfSome near (IsKeptAfter t q cs)) (sym (explores.nodes l e).0) known)
