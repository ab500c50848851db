-- A level of nodes, some of which are made.
use Rattle.std.proofs.Common.{◌≡◌, ℕ, zero, suc, ◌<◌, ◌≤◌, List, [], ◌∷◌, ◌++◌, take, drop, length, IsSome, append_assoc, arith, refl, ap, ◌∙◌, sym, subst}
use Rattle.std.specs.Ordering.{int_eq}
use Rattle.std.specs.List.{All}
use Rattle.std.proofs.lemmas.List.{length_push, map-append, take-append-drop, length-take-le}
use Rattle.indexmap.specs.IndexMap.{get as leaf_of}
use Rattle.slab.specs.Slab.{get, ContainsKey}
use Rattle.rt_tree_node.specs.declared.arena.Arena.{Arena}
use Rattle.rt_tree_node.specs.declared.cell.Cell.{Cell}
use Rattle.rt_tree_node.specs.declared.cell.Pending.{Pending}
use Rattle.rt_tree_node.specs.Places.{key_of, cells_of, pending_at, count_rows}
use Rattle.rt_tree_node.specs.Open.{IsOpen}
use Rattle.rt_tree_pack.specs.Steps.{is_top, above, MayPack, PacksNode}
use Rattle.rt_tree_pack.proofs.Filled.{split-pending}
use Rattle.rt_tree_pack.proofs.NewNode.{known-rows, named-nodes}
use Rattle.rt_map.specs.LevelSteps.{FitsNext, RestoresUpTo}

module _ {D : ℕ} where
  -- the cells that name nodes, and one more
  above-more : (l : ℕ) (ws : List (Pending D)) (next : List (Cell D)) (c : Cell D) → (ws ++ above l next) ++ above l (c ∷ []) ≡ ws ++ above l (next ++ c ∷ [])
  above-more l ws next c =
      let at : Cell D → Pending D = λ q. record { level = suc l; cell = q } in
      append_assoc ws (above l next) (above l (c ∷ [])) ∙ ap (λ vs. ws ++ vs) (sym (map-append at next (c ∷ [])))

  module _ (s t : Arena D) (level k n : ℕ) (cells left run rest next : List (Cell D)) (front : run ≡ take k left) (back : rest ≡ drop k left)
      (before : RestoresUpTo s t level cells left next) (count : n ≡ length left) (fits : FitsNext t k n) where
    joined : run ++ rest ≡ left
    joined = ap (λ r. r ++ rest) front ∙ ap (λ r. take k left ++ r) back ∙ take-append-drop k left

    so_far : RestoresUpTo s t level cells (run ++ rest) next
    so_far = subst (λ l. RestoresUpTo s t level cells l next) (sym joined) before

    long : length run ≡ k
    long = ap length front ∙ length-take-le k left (omega (arith, count, fits.within))

    same_root : t.root ≡ s.root
    same_root = ap (λ v. v.root) so_far.frame

    same_level : t.level ≡ s.level
    same_level = ap (λ v. v.level) so_far.frame

    abbrev ys : List (Pending D)
    ys = pending_at level rest ++ above level next

    pub was : IsOpen (is_top t.root) t (pending_at level run ++ ys)
    was = subst (λ r. IsOpen (is_top r) t (pending_at level run ++ ys)) (sym same_root)
        (subst (IsOpen (is_top s.root) t) (split-pending level run rest (above level next)) so_far.opened)

    known : (l : ℕ) → level ≡ l → l ≡ 0 → All (λ c. IsSome (leaf_of int_eq t.leaves c.number)) run
    known zero at none = known-rows (leaf_of int_eq t.leaves) run (pending_at 0 rest ++ above 0 next)
        (subst (λ l. IsOpen (is_top t.root) t (pending_at l run ++ (pending_at l rest ++ above l next))) at was).homes.pending
    known (suc l) at none = absurd (omega (arith, none))

    named : (l : ℕ) → level ≡ l → 1 ≤ l → All (λ c. ContainsKey t.nodes (key_of c)) run
    named zero at some = absurd (omega (arith, some))
    named (suc l) at some = named-nodes t.nodes t.root t.level l run (pending_at (suc l) rest ++ above (suc l) next)
        (subst (λ i. IsOpen (is_top t.root) t (pending_at i run ++ (pending_at i rest ++ above i next))) at was).linked

    pub may-pack : level < s.level → MayPack t level run
    may-pack below = record {
      cap = was.fitted.cap;
      least = omega (arith, long, fits.least);
      most = omega (arith, long, fits.most);
      below = omega (arith, same_level, below);
      rows = known level refl;
      children = named level refl;
    }

    pub restores-more : (u : Arena D) (c : Cell D) → PacksNode t u level run c → RestoresUpTo s u level cells rest (next ++ c ∷ [])
    restores-more u c step =
        let with : Arena D → Arena D = λ v. record v { nodes = u.nodes; leaves = u.leaves } in
        let order = above-more level (pending_at level rest) next c in
        record {
          frame = step.rest ∙ ap with so_far.frame;
          ids = record { ids = step.ids.ids ∙ so_far.ids.ids; len = step.ids.len ∙ so_far.ids.len; room = step.ids.room ∙ so_far.ids.room };
          len = omega (arith, step.len, so_far.len, length_push next c);
          room = step.room ∙ so_far.room;
          opened = subst (IsOpen (is_top s.root) u) order (subst (λ r. IsOpen (is_top r) u ((pending_at level rest ++ above level next) ++ above level (c ∷ []))) same_root (step.opened ys was));
          empty = ap cells_of (ap (get u.nodes) (sym same_root) ∙ step.top ys was ∙ ap (get t.nodes) same_root) ∙ so_far.empty;
          rows = λ test.
              ap (count_rows test u.nodes) (sym order) ∙ step.rows ys was test
              ∙ ap (count_rows test t.nodes) (sym (split-pending level run rest (above level next))) ∙ so_far.rows test;
        }
