-- The steps up from a leaf that lost a row.
use Rattle.std.proofs.Common.{◌≡◌, ◌≢◌, ℕ, zero, suc, ◌-◌, ◌*◌, ◌≤◌, [], ◌∷◌, length, Some, None, arith, refl, ap, sym, subst, ◌∙◌, inl, inr}
use Rattle.std.specs.List.{All, Contains}
use Rattle.std.specs.Option.{option_map_or}
use Rattle.std.proofs.lemmas.Option.{same_Some, none-some}
use Rattle.std.proofs.Math.Nat.{mul-le-mul_left}
use Rattle.std.proofs.lemmas.Bool.{cases_eq}
use Rattle.slab.specs.Slab.{Slab}
use Rattle.rt_box.specs.Capacity.{least_fill}
use Rattle.rt_tree_node.specs.declared.arena.Arena.{Arena}
use Rattle.rt_tree_node.specs.Node.{NodeCells}
use Rattle.rt_tree_node.specs.Places.{cells_at, level_at, parent_at}
use Rattle.rt_tree_node.specs.Whole.{IsWhole}
use Rattle.rt_tree_place.proofs.Rested.{rested-whole}
use Rattle.rt_tree_place.proofs.Shapes.{shape-none, shape-then}
use Rattle.rt_tree_remove.specs.Above.{way_up}
use Rattle.rt_tree_remove.specs.Steps.{IsSoundBut, KeepsHomes, Adjusts, Climbs, IsCondensed, Spares, CondensesTo, IsClimbing, Condenses}
use Rattle.rt_tree_remove.proofs.Climbs.{parent-level}
use Rattle.rt_tree_remove.proofs.Dissolved.{unnamed-below, parent-named}

module _ {D : ℕ} where
  pub KeepsHomes-none : (t : Arena D) → KeepsHomes t t
  KeepsHomes-none t = record { rows = λ test. refl; leaves = refl; root = refl; level = refl; capacity = refl; room = refl; pending_room = refl }

  pub KeepsHomes-then : (s t u : Arena D) → KeepsHomes s t → KeepsHomes t u → KeepsHomes s u
  KeepsHomes-then s t u p q = record {
    rows = λ test. q.rows test ∙ p.rows test;
    leaves = q.leaves ∙ p.leaves;
    root = q.root ∙ p.root;
    level = q.level ∙ p.level;
    capacity = q.capacity ∙ p.capacity;
    room = q.room ∙ p.room;
    pending_room = q.pending_room ∙ p.pending_room;
  }

  pub way_up-first : (a : Slab (NodeCells D)) (levels key : ℕ) → Contains (way_up a levels key) key
  way_up-first a zero key = (0, omega arith, refl)
  way_up-first a (suc l) key = (0, omega arith, refl)

  -- what is above the parent is above the node
  pub way_up-parent : (a : Slab (NodeCells D)) (levels key parent k : ℕ) → parent_at a key ≡ Some parent → Contains (way_up a levels parent) k → Contains (way_up a (suc levels) key) k
  way_up-parent a levels key parent k up on =
      let rest : option_map_or (way_up a levels) (parent_at a key) [] ≡ way_up a levels parent = ap (λ o. option_map_or (way_up a levels) o []) up in
      subst (λ ks. Contains (key ∷ ks) k) (sym rest) (suc on.0, (let w = on.1 in omega arith), on.2)

  -- the root, where the steps end
  pub ends-at_root : (t : Arena D) (key : ℕ) → IsSoundBut t key → parent_at t.nodes key ≡ None → key ≡ t.root
  ends-at_root t key but none = elim (cases_eq key t.root) [
    | inl e ↦ e
    | inr away ↦
        let linked = but.sound.linked in
        let low : All (λ w. w.level ≤ but.level) t.pending.items = λ k d within. let lower = but.below k d within in omega arith in
        let found = parent-named t.nodes t.root t.level t.pending.items linked key but.level but.here away
        (unnamed-below t.nodes key but.level t.pending.items but.here low linked.pending_named) in
        absurd (none-some found.0 (sym none ∙ found.1))
  ]

  -- at the root no node is out of shape
  pub whole-at_root : (t : Arena D) (key : ℕ) → IsSoundBut t key → key ≡ t.root → IsWhole t
  whole-at_root t key but e =
      let linked = but.sound.linked in
      let fitted = but.sound.fitted in
      record {
        linked = linked;
        fitted = record {
          cap = fitted.cap;
          some = fitted.some;
          least = λ k l here away odd. fitted.least k l here away (λ s. away (sym (same_Some key k s) ∙ e));
          most = λ k l here odd. elim (cases_eq k key) [
            | inl same ↦ let long = ap (λ y. length (cells_at t.nodes y)) same in let most = but.most in omega arith
            | inr other ↦ fitted.most k l here (λ s. other (sym (same_Some key k s)))
          ];
          boxes = fitted.boxes;
          hulls = λ k l here j x within odd. fitted.hulls k l here j x within (λ s.
              none-some k (sym linked.root_parent ∙ ap (parent_at t.nodes) (sym e ∙ same_Some key _ s) ∙ (linked.children k l here j x within).parent_is));
          pending_boxes = fitted.pending_boxes;
          pending_hulls = fitted.pending_hulls;
        };
        homes = but.sound.homes;
      }

  pub climbing-start : (t : Arena D) (leaf : ℕ) → IsSoundBut t leaf → level_at t.nodes leaf ≡ Some 0 → IsClimbing t t leaf leaf
  climbing-start t leaf but bottom = record {
    but = but;
    keeps = KeepsHomes-none t;
    steps = CondensesTo.none;
    exact = λ roomy. record {
      pending = refl;
      shape = shape-none t.nodes (way_up t.nodes t.level leaf);
      full = roomy;
      levels = t.level;
      level = 0;
      here = bottom;
      height = omega arith;
      above = λ k on. on;
    };
  }

  -- a filled node stays
  adjusted : (t u : Arena D) (key parent : ℕ) → Climbs t u key parent → least_fill t.capacity ≤ length (cells_at t.nodes key) → Adjusts t u key parent
  adjusted t u key parent climbs filled = elim climbs.condenses [ inl a ↦ a | inr e ↦ absurd (omega (arith, e.underfull)) ]

  spares-more : (s t u : Arena D) (leaf key parent : ℕ) → IsSoundBut t key → parent_at t.nodes key ≡ Some parent → KeepsHomes s t → Climbs t u key parent →
      Spares s t leaf key → key ≢ t.root → Spares s u leaf parent
  spares-more s t u leaf key parent but up keeps climbs so_far away =
      let exact = adjusted t u key parent climbs (so_far.full away) in
      let on = so_far.above key (way_up-first s.nodes so_far.levels key) in
      let new_level = climbs.up so_far.level so_far.here in
      let high = climbs.next.sound.linked.levels parent (suc so_far.level) new_level in
      let top = climbs.keeps.level in
      let top2 = keeps.level in
      let height = so_far.height in
      let fewer : so_far.levels ≡ suc (so_far.levels - 1) = omega arith in
      record {
        pending = exact.pending ∙ so_far.pending;
        shape = λ k. shape-then s.nodes t.nodes u.nodes (way_up s.nodes s.level leaf) k (so_far.shape k) (exact.shape (way_up s.nodes s.level leaf) on k);
        full = exact.full;
        levels = so_far.levels - 1;
        level = suc so_far.level;
        here = new_level;
        height = omega arith;
        above = λ k in_rest. so_far.above k (subst (λ n. Contains (way_up s.nodes n key) k) (sym fewer)
            (way_up-parent s.nodes (so_far.levels - 1) key parent k (sym ((so_far.shape key).parent) ∙ up) in_rest));
      }

  pub climbing-more : (s t u : Arena D) (leaf key parent : ℕ) → IsClimbing s t leaf key → parent_at t.nodes key ≡ Some parent → Climbs t u key parent →
      IsClimbing s u leaf parent
  climbing-more s t u leaf key parent so_far up climbs =
      let away : key ≢ t.root = λ e. none-some parent (sym so_far.but.sound.linked.root_parent ∙ ap (parent_at t.nodes) (sym e) ∙ up) in
      record {
        but = climbs.next;
        keeps = KeepsHomes-then s t u so_far.keeps climbs.keeps;
        steps = CondensesTo.step so_far.steps climbs;
        exact = λ roomy. spares-more s t u leaf key parent so_far.but up so_far.keeps climbs (so_far.exact roomy) away;
      }

  pub climbing-end : (s t : Arena D) (leaf key : ℕ) → IsClimbing s t leaf key → parent_at t.nodes key ≡ None → Condenses s t leaf
  climbing-end s t leaf key so_far none =
      let but = so_far.but in
      let at_root = ends-at_root t key but none in
      let level_is : but.level ≡ t.level = same_Some _ _ (sym but.here ∙ ap (level_at t.nodes) at_root ∙ but.sound.linked.root_level) in
      record {
        whole = whole-at_root t key but at_root;
        keeps = so_far.keeps;
        few = subst (λ l. length t.pending.items ≤ (least_fill t.capacity - 1) * l) level_is but.few;
        last = key;
        steps = so_far.steps;
        ends = inl at_root;
        pending = λ roomy. (so_far.exact roomy).pending;
        shape = λ roomy. (so_far.exact roomy).shape;
      }

  -- the steps may end below the root
  pub climbing-condensed : (s t : Arena D) (leaf key parent : ℕ) → IsClimbing s t leaf key → parent_at t.nodes key ≡ Some parent → IsCondensed t key parent → Condenses s t leaf
  climbing-condensed s t leaf key parent so_far up condensed =
      let but = so_far.but in
      let above = parent-level t key parent but up in
      let high : but.level ≤ t.level = but.sound.linked.levels key but.level but.here in
      let product : (least_fill t.capacity - 1) * but.level ≤ (least_fill t.capacity - 1) * t.level = mul-le-mul_left (least_fill t.capacity - 1) high in
      let few = but.few in
      record {
        whole = rested-whole t key parent but.level but.sound but.here up above condensed.filled but.most condensed.box;
        keeps = so_far.keeps;
        few = omega arith;
        last = key;
        steps = so_far.steps;
        ends = inr (parent, up, condensed);
        pending = λ roomy. (so_far.exact roomy).pending;
        shape = λ roomy. (so_far.exact roomy).shape;
      }
