-- A way up that ends early: a node that isn't overfull, and whose cell above has the least box, leaves nothing to be
-- done.
use Rattle.std.proofs.Common.{◌≡◌, ◌≢◌, ℕ, zero, suc, ◌+◌, ◌<◌, ◌≤◌, List, length, get_or, Some, None, arith, refl, ap, ◌∙◌, sym, subst, inl, inr}
use Rattle.std.specs.List.{Contains}
use Rattle.std.proofs.lemmas.Bool.{cases_eq}
use Rattle.std.proofs.lemmas.Option.{none-some, same_Some}
use Rattle.rt_box.specs.Capacity.{least_fill}
use Rattle.rt_tree_node.specs.declared.arena.Arena.{Arena}
use Rattle.rt_tree_node.specs.declared.arena.Work.{Work}
use Rattle.rt_tree_node.specs.declared.cell.Cell.{Cell}
use Rattle.rt_tree_node.specs.Places.{key_of, times_named, cells_at, level_at, parent_at, hull_at}
use Rattle.rt_tree_node.specs.Whole.{IsSound, IsWhole}
use Rattle.rt_tree_node.proofs.Places.{inner-at_inner}
use Rattle.rt_tree_node.proofs.Links.{above-some}
use Rattle.rt_tree_place.specs.Rise.{IsUpward, KeepsAllBut, HasRisen}
use Rattle.rt_tree_place.specs.Steps.{HasLeastBox, IsRising, Rests}
use Rattle.rt_tree_place.specs.Way.{LeadsUp}
use Rattle.rt_tree_place.proofs.Lifted.{key-not_root, parent-level}
use Rattle.rt_tree_place.proofs.Refitted.{named-at_once}

module _ {D : ℕ} (t : Arena D) (key parent level : ℕ) (sound : IsSound t (Some key)) (here : level_at t.nodes key ≡ Some level)
    (up : parent_at t.nodes key ≡ Some parent) (above : level_at t.nodes parent ≡ Some (suc level))
    (filled : least_fill t.capacity ≤ length (cells_at t.nodes key)) (most : length (cells_at t.nodes key) ≤ t.capacity)
    (box : HasLeastBox t.nodes key parent) where
  not_root : key ≢ t.root
  not_root same = none-some parent (sym sound.linked.root_parent ∙ ap (parent_at t.nodes) (sym same) ∙ up)

  -- the parent names the node once
  once : times_named key (cells_at t.nodes parent) ≤ 1
  once =
      let one = sound.linked.named key level here not_root in
      let same = ap (times_named key) (above-some t.nodes key parent up ∙ inner-at_inner t.nodes parent level above) in
      omega arith

  hull-here : (x i : ℕ) → level_at t.nodes x ≡ Some (suc i) → (j : ℕ) (d : Cell D) → j < length (cells_at t.nodes x) →
      key_of (get_or (cells_at t.nodes x) j d) ≡ key → (get_or (cells_at t.nodes x) j d).rect ≡ hull_at t.nodes key
  hull-here x i e j d within same =
      let is : x ≡ parent = same_Some x parent (sym (sound.linked.children x i e j d within).parent_is ∙ ap (parent_at t.nodes) same ∙ up) in
      let at : j ≡ box.at = named-at_once key (cells_at t.nodes parent) j box.at d (subst (λ y. j < length (cells_at t.nodes y)) is within) box.within once
      (ap (λ y. key_of (get_or (cells_at t.nodes y) j d)) (sym is) ∙ same) (box.names d) in
      ap (λ y. (get_or (cells_at t.nodes y) j d).rect) is ∙ ap (λ k. (get_or (cells_at t.nodes parent) k d).rect) at ∙ box.rect d

  pub rested-whole : IsWhole t
  rested-whole =
      let fitted = sound.fitted in
      record {
        linked = sound.linked;
        fitted = record {
          cap = fitted.cap;
          some = fitted.some;
          least = λ x l e away odd. elim (cases_eq x key) [
            | inl same ↦ subst (λ y. least_fill t.capacity ≤ length (cells_at t.nodes y)) (sym same) filled
            | inr other ↦ fitted.least x l e away (λ s. other (sym (same_Some key x s)))
          ];
          most = λ x l e odd. elim (cases_eq x key) [
            | inl same ↦ subst (λ y. length (cells_at t.nodes y) ≤ t.capacity) (sym same) most
            | inr other ↦ fitted.most x l e (λ s. other (sym (same_Some key x s)))
          ];
          boxes = fitted.boxes;
          hulls = λ x i e j d within odd. elim (cases_eq (key_of (get_or (cells_at t.nodes x) j d)) key) [
            | inl same ↦ hull-here x i e j d within same ∙ ap (hull_at t.nodes) (sym same)
            | inr other ↦ fitted.hulls x i e j d within (λ s. other (sym (same_Some key _ s)))
          ];
          pending_boxes = fitted.pending_boxes;
          pending_hulls = fitted.pending_hulls;
        };
        homes = sound.homes;
      }

-- what is whole is sound, whichever node is excepted
whole-but : {D : ℕ} (t : Arena D) (key : ℕ) → IsWhole t → IsSound t (Some key)
whole-but t key whole =
    let fitted = whole.fitted in
    let none : (x : ℕ) → None ≢ Some x = λ x s. none-some x s in
    record {
      linked = whole.linked;
      fitted = record {
        cap = fitted.cap;
        some = fitted.some;
        least = λ x l e away odd. fitted.least x l e away (none x);
        most = λ x l e odd. fitted.most x l e (none x);
        boxes = fitted.boxes;
        hulls = λ x i e j d within odd. fitted.hulls x i e j d within (none _);
        pending_boxes = fitted.pending_boxes;
        pending_hulls = fitted.pending_hulls;
      };
      homes = whole.homes;
    }

module _ {D : ℕ} (s t : Arena D) (from key parent marks marks1 : ℕ) (work work1 : Work)
    (so_far : HasRisen s t from key marks marks1 work work1) (up : parent_at t.nodes key ≡ Some parent) (rests : Rests t key parent) where
  abbrev rising : IsRising t key
  rising = so_far.rising

  away : key ≢ t.root
  away = key-not_root t key parent rising up

  above : level_at t.nodes parent ≡ Some (suc rising.level)
  above = parent-level t key parent rising up

  whole : IsWhole t
  whole = rested-whole t key parent rising.level rising.sound rising.here up above (rising.filled away) rests.fits rests.box

  high : suc rising.level ≤ t.level
  high = whole.linked.levels parent (suc rising.level) above

  top-fits : length (cells_at t.nodes t.root) ≤ t.capacity
  top-fits = whole.fitted.most t.root t.level whole.linked.root_level (λ e. none-some t.root e)

  top-some : (l : ℕ) → level_at t.nodes t.root ≡ Some l → 1 ≤ l → 1 ≤ length (cells_at t.nodes t.root)
  top-some zero e some = absurd (omega arith)
  top-some (suc l) e some = whole.fitted.some t.root l e

  abbrev top-rising : IsRising t t.root
  top-rising = record {
    sound = whole-but t t.root whole;
    level = t.level;
    here = whole.linked.root_level;
    steps = 0;
    way = refl;
    some = top-some t.level whole.linked.root_level (let below = high in omega arith);
    filled = λ other. absurd (other refl);
    most = let few = top-fits in omega arith;
  }

  -- the path goes on up to the root
  climbs-on : (path : List ℕ) → ((k p : ℕ) → Contains path k → parent_at t.nodes k ≡ Some p → Contains path p) →
      (n k : ℕ) → LeadsUp t.nodes t.root n k → Contains path k → Contains path t.root
  climbs-on path upward zero k way on = subst (Contains path) way on
  climbs-on path upward (suc n) k way on = climbs-on path upward n way.0 way.3 (upward k way.0 on way.1)

  exact-top : (path : List ℕ) → IsUpward s.nodes path → KeepsAllBut s t path key work work1 → KeepsAllBut s t path t.root work work1
  exact-top path upward is = record {
    shape = is.shape;
    leaves = is.leaves;
    on = climbs-on path (λ k p on e. upward k p on (sym (is.shape k).parent ∙ e)) rising.steps key rising.way is.on;
    fits = top-fits;
    splits = is.splits;
    reinsertions = is.reinsertions;
  }

  few-splits : work1.splits ≤ work.splits + t.level
  few-splits = let few = so_far.few in let below = high in omega arith

  pub risen-rests : HasRisen s t from t.root marks marks1 work work1
  risen-rests = record {
    rising = top-rising;
    keeps = so_far.keeps;
    waits = elim so_far.waits [ inl both ↦ inl (both.0, top-fits) | inr none ↦ inr none ];
    placements = so_far.placements;
    splits = so_far.splits;
    few = few-splits;
    len = so_far.len;
    exact = λ fits path upward on. exact-top path upward (so_far.exact fits path upward on);
    first = inr record {
      higher = let below = high in omega arith;
      again = λ full unmarked. elim so_far.first [
        | inl at ↦
            let long : length (cells_at t.nodes key) ≡ length (cells_at s.nodes from) = ap (λ k. length (cells_at t.nodes k)) at.key_is ∙ ap (λ a. length (cells_at a.nodes from)) at.same in
            absurd (omega (arith, rests.fits, long, full, so_far.keeps.capacity))
        | inr before ↦ before.again full unmarked
      ];
    };
  }
