-- A tree whose levels are restored, one after the other.
use Rattle.std.proofs.Common.{◌≡◌, ◌≢◌, ℕ, zero, suc, ◌≤◌, List, [], ◌++◌, length, None, IsSome, arith, refl, ap, ◌∙◌, sym, subst, inl, inr}
use Rattle.std.specs.Ordering.{int_eq}
use Rattle.std.specs.List.{All}
use Rattle.std.proofs.lemmas.Option.{none-some}
use Rattle.std.proofs.lemmas.Bool.{cases_eq}
use Rattle.std.proofs.lemmas.List.{append-nil}
use Rattle.indexmap.specs.IndexMap.{get as leaf_of, keys, index_map_len, spare}
use Rattle.slab.specs.Slab.{ContainsKey}
use Rattle.rt_tree_node.specs.declared.arena.Arena.{Arena}
use Rattle.rt_tree_node.specs.declared.cell.Cell.{Cell}
use Rattle.rt_tree_node.specs.Places.{key_of, cells_of, cells_at, parent_at, pending_at, count_rows}
use Rattle.rt_tree_node.specs.Open.{IsOpen}
use Rattle.rt_tree_node.specs.Sound.{IsLinked, IsFitted, HasHomes}
use Rattle.rt_tree_node.specs.Whole.{IsWhole}
use Rattle.rt_tree.specs.Bare.{IsBare}
use Rattle.rt_tree_node.proofs.Fitted.{fitted-weaker}
use Rattle.rt_tree_place.proofs.WayDown.{node-from_level, present}
use Rattle.rt_tree_pack.specs.Packing.{AreEntered}
use Rattle.rt_tree_pack.specs.Steps.{is_top, is_top_or, MayFill, Fills, IsBelowRoot, LiftsRoot}
use Rattle.rt_tree_pack.proofs.Ready.{ready, ready-rows}
use Rattle.rt_tree_pack.proofs.Lifted.{lifted, lifted-rows}
use Rattle.rt_tree_pack.proofs.NewNode.{known-rows, named-nodes, named-others}
use Rattle.rt_map.specs.Levels.{Restores}
use Rattle.rt_map.specs.LevelSteps.{FitsRoot, RestoresUpTo, RestoresBelow}

module _ {D : ℕ} where
  pub below-none : (t : Arena D) (rows : List (Cell D)) → IsBare t → AreEntered t rows → RestoresBelow t t rows rows
  below-none t rows bare entered = record {
    frame = refl;
    ids = record { ids = refl; len = refl; room = refl };
    room = refl;
    opened = subst (λ l. IsOpen (is_top t.root) t (pending_at l rows)) (sym bare.level) (ready t rows bare entered);
    empty = ap cells_of bare.leaf;
    rows_are = λ test. ap (λ l. count_rows test t.nodes (pending_at l rows)) bare.level ∙ ready-rows t rows bare entered test;
  }

  module _ (s t : Arena D) (rows cells : List (Cell D)) (so_far : RestoresBelow s t rows cells) where
    pub root-present : ContainsKey t.nodes t.root
    root-present = present t.nodes t.root t.level so_far.opened.linked.root_level

    same_capacity : t.capacity ≡ s.capacity
    same_capacity = ap (λ x. x.capacity) so_far.frame

    module _ (v : Arena D) (lift : LiftsRoot t v) where
      v_root : v.root ≡ t.root
      v_root = ap (λ x. x.root) lift.rest

      v_leaves : v.leaves ≡ t.leaves
      v_leaves = ap (λ x. x.leaves) lift.rest

      spelled : record t { nodes = v.nodes; level = suc t.level } ≡ v
      spelled = let at_level : ℕ → Arena D = λ l. record t { nodes = v.nodes; level = l } in ap at_level (sym lift.level) ∙ sym lift.rest

      v-open : IsOpen (is_top v.root) v (pending_at t.level cells)
      v-open = subst (λ x. IsOpen (is_top x.root) x (pending_at t.level cells)) spelled
          (lifted t v.nodes (pending_at t.level cells) so_far.opened so_far.empty lift.puts.updates)

      pub below-root : IsBelowRoot v t.level cells
      below-root = record {
        opened = v-open;
        empty = ap (cells_at v.nodes) v_root ∙ ap cells_of lift.puts.updates.changed;
        below = omega (arith, lift.level);
      }

      pub lifted-room : v.nodes.capacity ≡ s.nodes.capacity
      lifted-room = lift.puts.room ∙ so_far.room

      pub below-more : (u : Arena D) (next : List (Cell D)) → RestoresUpTo v u t.level cells [] next → RestoresBelow s u rows next
      below-more u next made =
          let with : Arena D → Arena D = λ x. record x { nodes = u.nodes; leaves = u.leaves; level = u.level } in
          let u_root : u.root ≡ v.root = ap (λ x. x.root) made.frame in
          let u_level : u.level ≡ suc t.level = ap (λ x. x.level) made.frame ∙ lift.level in
          record {
            frame = ap with made.frame ∙ ap with lift.rest ∙ ap with so_far.frame;
            ids = record {
              ids = made.ids.ids ∙ ap keys v_leaves ∙ so_far.ids.ids;
              len = made.ids.len ∙ ap index_map_len v_leaves ∙ so_far.ids.len;
              room = made.ids.room ∙ ap spare v_leaves ∙ so_far.ids.room;
            };
            room = made.room ∙ lift.puts.room ∙ so_far.room;
            opened = subst (λ l. IsOpen (is_top u.root) u (pending_at l next)) (sym u_level) (subst (λ r. IsOpen (is_top r) u (pending_at (suc t.level) next)) (sym u_root) made.opened);
            empty = ap (cells_at u.nodes) u_root ∙ made.empty;
            rows_are = λ test.
                ap (λ l. count_rows test u.nodes (pending_at l next)) u_level ∙ made.rows test
                ∙ lifted-rows t v.nodes (pending_at t.level cells) so_far.opened so_far.empty lift.puts.updates test ∙ so_far.rows_are test;
          }

    -- the root gets the cells that are left
    module _ (fits : FitsRoot t (length cells)) where
      top-open : IsOpen (is_top_or t.root t.root) t (pending_at t.level cells ++ [])
      top-open =
          let wide = fitted-weaker (is_top t.root) (is_top_or t.root t.root) (λ x e. inl e) t.capacity t.nodes t.root (pending_at t.level cells) so_far.opened.fitted in
          subst (IsOpen (is_top_or t.root t.root) t) (sym (append-nil (pending_at t.level cells)))
          record { linked = so_far.opened.linked; fitted = wide; homes = so_far.opened.homes }

      known : (l : ℕ) → t.level ≡ l → l ≡ 0 → All (λ c. IsSome (leaf_of int_eq t.leaves c.number)) cells
      known zero at none = known-rows (leaf_of int_eq t.leaves) cells []
          (subst (λ l. IsOpen (is_top_or t.root t.root) t (pending_at l cells ++ [])) at top-open).homes.pending
      known (suc l) at none = absurd (omega (arith, none))

      named : (l : ℕ) → t.level ≡ l → 1 ≤ l → All (λ c. ContainsKey t.nodes (key_of c) × (key_of c ≢ t.root)) cells
      named zero at some = absurd (omega (arith, some))
      named (suc l) at some =
          let linked : IsLinked t.nodes t.root t.level (pending_at (suc l) cells ++ []) =
          (subst (λ i. IsOpen (is_top_or t.root t.root) t (pending_at i cells ++ [])) at top-open).linked in
          let there = named-nodes t.nodes t.root t.level l cells [] linked in
          let others = named-others t.nodes t.root t.level (suc l) cells [] linked some in
          λ j d within. (there j d within, others j d within)

      pub may-fill : MayFill t t.root t.level cells
      may-fill = record { rows = known t.level refl; children = named t.level refl }

      pub none-yet : length (cells_at t.nodes t.root) ≡ 0
      none-yet = ap length so_far.empty

      pub restored : (u : Arena D) → Fills t u t.root t.level cells → s.pending.items ≡ [] → Restores s u rows
      restored u fills idle =
          let top = node-from_level t.nodes t.root t.level so_far.opened.linked.root_level in
          let empty : top.0.cells ≡ [] = sym (ap cells_of top.1) ∙ so_far.empty in
          let here : cells_at u.nodes t.root ≡ cells = ap cells_of (fills.here top.0 top.1) ∙ ap (λ cs. cs ++ cells) empty in
          let is = fills.opened top.0 [] top.1 top.2 top-open in
          let u_root : u.root ≡ t.root = ap (λ x. x.root) fills.rest in
          let u_level : u.level ≡ t.level = ap (λ x. x.level) fills.rest in
          let u_capacity : u.capacity ≡ t.capacity = ap (λ x. x.capacity) fills.rest in
          let u_pending : u.pending ≡ s.pending = ap (λ x. x.pending) fills.rest ∙ ap (λ x. x.pending) so_far.frame in
          let none : u.pending.items ≡ [] = ap (λ p. p.items) u_pending ∙ idle in
          let long : length (cells_at u.nodes u.root) ≡ length cells = ap (λ r. length (cells_at u.nodes r)) u_root ∙ ap length here in
          let more = fits.branched in
          let inner : 1 ≤ u.level → 2 ≤ length (cells_at u.nodes u.root) = λ some. omega (arith, long, more (omega (arith, some, u_level))) in
          record {
            whole = whole-now u fills is u_root none (λ some. omega (arith, inner some)) (omega (arith, long, fits.most, u_capacity));
            branched = inner;
            pending = u_pending;
            rows_are = λ test.
                ap (count_rows test u.nodes) none ∙ fills.rows top.0 [] top.1 top.2 top-open test
                ∙ ap (count_rows test t.nodes) (append-nil (pending_at t.level cells)) ∙ so_far.rows_are test;
            ids = record { ids = fills.ids.ids ∙ so_far.ids.ids; len = fills.ids.len ∙ so_far.ids.len; room = fills.ids.room ∙ so_far.ids.room };
            capacity = u_capacity ∙ same_capacity;
            room = fills.room ∙ so_far.room;
          }
        where
          whole-now : (u : Arena D) → Fills t u t.root t.level cells → IsOpen (is_top_or t.root t.root) u [] → u.root ≡ t.root → u.pending.items ≡ [] →
              (1 ≤ u.level → 1 ≤ length (cells_at u.nodes u.root)) → length (cells_at u.nodes u.root) ≤ u.capacity → IsWhole u
          whole-now u fills is u_root none some few =
              let fine : (x : ℕ) → x ≢ u.root → is_top_or t.root t.root x → ⊥ = λ x other odd. elim odd [ inl e ↦ other (e ∙ sym u_root) | inr e ↦ other (e ∙ sym u_root) ] in
              let linked = is.linked in
              record {
                linked = subst (IsLinked u.nodes u.root u.level) (sym none) linked;
                fitted = subst (λ ws. IsFitted u.capacity u.nodes u.root ws None) (sym none) record {
                  cap = is.fitted.cap;
                  some = λ x l e. elim (cases_eq x u.root) [
                    | inl here ↦ subst (λ y. 1 ≤ length (cells_at u.nodes y)) (sym here) (some (omega (arith, linked.levels x (suc l) e)))
                    | inr other ↦ is.fitted.some x l e (fine x other)
                  ];
                  least = λ x l e other odd. is.fitted.least x l e other (fine x other);
                  most = λ x l e odd. elim (cases_eq x u.root) [
                    | inl here ↦ subst (λ y. length (cells_at u.nodes y) ≤ u.capacity) (sym here) few
                    | inr other ↦ is.fitted.most x l e (fine x other)
                  ];
                  boxes = is.fitted.boxes;
                  hulls = λ x l e j d within odd. is.fitted.hulls x l e j d within
                      (fine _ (λ same. none-some x (sym linked.root_parent ∙ ap (parent_at u.nodes) (sym same) ∙ (linked.children x l e j d within).parent_is)));
                  pending_boxes = λ j d within. absurd (omega (arith, within));
                  pending_hulls = λ j d within. absurd (omega (arith, within));
                };
                homes = subst (HasHomes (leaf_of int_eq u.leaves) u.nodes) (sym none) is.homes;
              }
