-- A level of nodes, some of which are made.
use Rattle.std.proofs.Common.{◌≡◌, ◌⊎◌, ℕ, zero, suc, ◌+◌, ◌*◌, ◌<◌, ◌≤◌, List, [], ◌∷◌, ◌++◌, length, IsSome, append_assoc, length-append, arith, refl, ap, ◌∙◌, sym, subst, inl, inr}
use Rattle.std.proofs.Math.Nat.{mul_comm, mul-add, suc-mul}
use Rattle.std.specs.Ordering.{int_eq}
use Rattle.std.specs.List.{All}
use Rattle.std.proofs.lemmas.Bool.{cases_lt}
use Rattle.std.proofs.lemmas.List.{append-nil, map-append}
use Rattle.indexmap.specs.IndexMap.{get as leaf_of}
use Rattle.slab.specs.Slab.{get, slab_len, ContainsKey, HasRoomFor}
use Rattle.rt_box.specs.Capacity.{IsCapacity, least_fill}
use Rattle.rt_tree_node.specs.declared.arena.Arena.{Arena}
use Rattle.rt_tree_node.specs.declared.cell.Cell.{Cell}
use Rattle.rt_tree_node.specs.declared.cell.Pending.{Pending}
use Rattle.rt_tree_node.specs.Places.{key_of, cells_of, pending_at, count_rows}
use Rattle.rt_tree_node.specs.Open.{IsOpen}
use Rattle.rt_tree_place.proofs.Few.{least-two}
use Rattle.rt_tree_pack.specs.Steps.{is_top, above, IsRun, MayPack, PacksNode, IsBelowRoot, PacksUpTo, HasRoomToPack}
use Rattle.rt_tree_pack.proofs.Filled.{split-pending}
use Rattle.rt_tree_pack.proofs.NewNode.{known-rows, named-nodes}
use Rattle.rt_tree_pack.proofs.Numbers.{below-product}

within-or_over : (m n : ℕ) → (n ≤ m) ⊎ (m < n)
within-or_over m n = elim (cases_lt m n) [ inl less ↦ inr less | inr more ↦ inl more ]

module _ {D : ℕ} where
  -- the cells that name nodes, and one more
  above-more : (l : ℕ) (ws : List (Pending D)) (next : List (Cell D)) (c : Cell D) → (ws ++ above l next) ++ above l (c ∷ []) ≡ ws ++ above l (next ++ c ∷ [])
  above-more l ws next c =
      let at : Cell D → Pending D = λ q. record { level = suc l; cell = q } in
      append_assoc ws (above l next) (above l (c ∷ [])) ∙ ap (λ vs. ws ++ vs) (sym (map-append at next (c ∷ [])))

  pub packs-none : (t : Arena D) (level : ℕ) (cells : List (Cell D)) → IsBelowRoot t level cells → t.capacity < length cells → PacksUpTo t t level cells cells []
  packs-none t level cells below over =
      let none = sym (append-nil (pending_at level cells)) in
      let cap = below.opened.fitted.cap in
      record {
        frame = refl;
        ids = record { ids = refl; len = refl; room = refl };
        room = refl;
        opened = subst (IsOpen (is_top t.root) t) none below.opened;
        empty = below.empty;
        rows = λ test. ap (count_rows test t.nodes) (sym none);
        len = omega arith;
        filled = λ some. omega (arith, over);
        many = omega arith;
        full = λ more. omega arith;
        more = λ some. omega (arith, over);
        few = omega (arith, over);
      }

  module _ (s t : Arena D) (level : ℕ) (cells run rest next : List (Cell D)) (so_far : PacksUpTo s t level cells (run ++ rest) next) where
    same_root : t.root ≡ s.root
    same_root = ap (λ v. v.root) so_far.frame

    same_level : t.level ≡ s.level
    same_level = ap (λ v. v.level) so_far.frame

    same_capacity : t.capacity ≡ s.capacity
    same_capacity = ap (λ v. v.capacity) so_far.frame

    abbrev ys : List (Pending D)
    ys = pending_at level rest ++ above level next

    was : IsOpen (is_top t.root) t (pending_at level run ++ ys)
    was = subst (λ r. IsOpen (is_top r) t (pending_at level run ++ ys)) (sym same_root)
        (subst (IsOpen (is_top s.root) t) (split-pending level run rest (above level next)) so_far.opened)

    long : length (run ++ rest) ≡ length run + length rest
    long = length-append run rest

    known : (l : ℕ) → level ≡ l → l ≡ 0 → All (λ c. IsSome (leaf_of int_eq t.leaves c.number)) run
    known zero at none = known-rows (leaf_of int_eq t.leaves) run (pending_at 0 rest ++ above 0 next)
        (subst (λ l. IsOpen (is_top t.root) t (pending_at l run ++ (pending_at l rest ++ above l next))) at was).homes.pending
    known (suc l) at none = absurd (omega (arith, none))

    named : (l : ℕ) → level ≡ l → 1 ≤ l → All (λ c. ContainsKey t.nodes (key_of c)) run
    named zero at some = absurd (omega (arith, some))
    named (suc l) at some = named-nodes t.nodes t.root t.level l run (pending_at (suc l) rest ++ above (suc l) next)
        (subst (λ i. IsOpen (is_top t.root) t (pending_at i run ++ (pending_at i rest ++ above i next))) at was).linked

    pub may-pack : level < s.level → IsRun s.capacity (length (run ++ rest)) (length run) → MayPack t level run
    may-pack below is = record {
      cap = was.fitted.cap;
      least = omega (arith, ap least_fill same_capacity, is.least);
      most = omega (arith, same_capacity, is.most);
      below = omega (arith, same_level, below);
      rows = known level refl;
      children = named level refl;
    }

    pub room-for_node : 1 ≤ length run → HasRoomToPack s cells → HasRoomFor t.nodes 1
    room-for_node some room =
        let p = so_far.more (omega (arith, some, long)) in
        let q : (slab_len s.nodes + length next) * s.capacity ≡ slab_len s.nodes * s.capacity + length next * s.capacity =
        mul_comm (slab_len s.nodes + length next) s.capacity ∙ mul-add s.capacity (slab_len s.nodes) (length next)
        ∙ ap (λ k. k + s.capacity * length next) (mul_comm s.capacity (slab_len s.nodes)) ∙ ap (λ k. slab_len s.nodes * s.capacity + k) (mul_comm s.capacity (length next)) in
        let less = below-product (slab_len s.nodes + length next) s.nodes.capacity s.capacity 0 (omega (arith, p, q, room)) in
        omega (arith, less, so_far.len, so_far.room)

    pub packs-more : (u : Arena D) (c : Cell D) → PacksNode t u level run c → IsRun s.capacity (length (run ++ rest)) (length run) → PacksUpTo s u level cells rest (next ++ c ∷ [])
    packs-more u c step is =
        let with : Arena D → Arena D = λ v. record v { nodes = u.nodes; leaves = u.leaves } in
        let order = above-more level (pending_at level rest) next c in
        let low = least-two s.capacity (subst IsCapacity same_capacity was.fitted.cap) in
        let over = within-or_over s.capacity (length (run ++ rest)) in
        let grown : length (next ++ c ∷ []) ≡ suc (length next) = length-append next (c ∷ []) ∙ omega arith in
        let product : length (next ++ c ∷ []) * s.capacity ≡ length next * s.capacity + s.capacity = ap (λ k. k * s.capacity) grown ∙ suc-mul (length next) s.capacity in
        record {
          frame = step.rest ∙ ap with so_far.frame;
          ids = record { ids = step.ids.ids ∙ so_far.ids.ids; len = step.ids.len ∙ so_far.ids.len; room = step.ids.room ∙ so_far.ids.room };
          room = step.room ∙ so_far.room;
          opened = subst (IsOpen (is_top s.root) u) order (subst (λ r. IsOpen (is_top r) u ((pending_at level rest ++ above level next) ++ above level (c ∷ []))) same_root (step.opened ys was));
          empty = ap cells_of (ap (get u.nodes) (sym same_root) ∙ step.top ys was ∙ ap (get t.nodes) same_root) ∙ so_far.empty;
          rows = λ test.
              ap (count_rows test u.nodes) (sym order) ∙ step.rows ys was test
              ∙ ap (count_rows test t.nodes) (sym (split-pending level run rest (above level next))) ∙ so_far.rows test;
          len = omega (arith, step.len, so_far.len, grown);
          filled = λ some. elim over [ inl fits ↦ absurd (omega (arith, some, long, is.last fits)) | inr more ↦ omega (arith, long, is.enough more) ];
          many = omega (arith, product, long, is.most, so_far.many);
          full = λ more.
              let large : s.capacity + least_fill s.capacity ≤ length (run ++ rest) = omega (arith, more, long, is.least) in
              omega (arith, product, long, is.full large, so_far.full (omega (arith, more, long)));
          more = λ some. elim over [ inl fits ↦ absurd (omega (arith, some, long, is.last fits)) | inr more ↦ omega (arith, product, long, more, so_far.full more) ];
          few = omega (arith, product, so_far.more (omega (arith, long, is.least, low)));
        }
