-- One step up from a node that lost a cell.
use Rattle.std.proofs.Common.{◌≡◌, ◌≢◌, ℕ, suc, ◌+◌, ◌-◌, ◌*◌, ◌<◌, ◌≤◌, List, ◌++◌, length, get_or, set, Option, Some, None, is_some, vec_capacity, arith, refl, ap, sym, subst, ◌∙◌, inl, inr, length-append}
use Rattle.std.specs.List.{All, Contains}
use Rattle.std.specs.Ordering.{int_eq}
use Rattle.std.proofs.Math.Nat.{mul-suc, mul-le-mul_left}
use Rattle.std.proofs.lemmas.Option.{same_Some, none-some}
use Rattle.std.proofs.lemmas.Bool.{cases_eq}
use Rattle.std.proofs.lemmas.List.{length-map, map-set, set-get_or, get_or-map, get_or-set_other}
use Rattle.std.proofs.lemmas.List.Edits.{length-remove}
use Rattle.std.proofs.lemmas.List.Elements.{All-append, All-map}
use Rattle.slab.specs.Slab.{Slab, get, ContainsKey}
use Rattle.indexmap.specs.IndexMap.{get as leaf_of}
use Rattle.rt_box.specs.Capacity.{least_fill}
use Rattle.rt_tree_node.specs.declared.arena.Arena.{Arena}
use Rattle.rt_tree_node.specs.declared.cell.Cell.{Cell}
use Rattle.rt_tree_node.specs.declared.cell.Pending.{Pending}
use Rattle.rt_tree_node.specs.Node.{NodeCells}
use Rattle.rt_tree_node.specs.Places.{key_of, numbers, times_named, cells_of, level_of, cells_at, level_at, parent_at, count_rows, pending_at}
use Rattle.rt_tree_place.specs.Path.{KeepsShape}
use Rattle.rt_tree_node.specs.Sound.{IsLinked, IsFitted, HasHomes}
use Rattle.rt_tree_remove.specs.Steps.{Dissolves, IsSoundBut, Climbs}
use Rattle.rt_tree_remove.proofs.Changed.{RefitsAt}
use Rattle.rt_tree_remove.proofs.Dissolved.{unnamed-below, parent-named, dissolved-linked, dissolved-fitted, dissolved-homes, dissolved-rows}
use Rattle.rt_tree_remove.proofs.Refitted.{refitted-levels, refitted-parents, refitted-others, refitted-cells, refitted-leaves, refitted-long, refitted-linked, refitted-fitted, refitted-homes, refitted-rows}

module _ {D : ℕ} where
  there-of : (s : Option (NodeCells D)) (l : ℕ) → level_of s ≡ Some l → (n : NodeCells D) × (s ≡ Some n)
  there-of None l e = absurd (none-some l e)
  there-of (Some n) l e = (n, refl)

  -- a place with a level has a node
  pub node-there : (a : Slab (NodeCells D)) (key l : ℕ) → level_at a key ≡ Some l → (n : NodeCells D) × (get a key ≡ Some n)
  node-there a key l e = there-of (get a key) l e

  pub key-there : (a : Slab (NodeCells D)) (key l : ℕ) → level_at a key ≡ Some l → ContainsKey a key
  key-there a key l e = ap is_some (node-there a key l e).1

module _ {D : ℕ} (t : Arena D) (key parent : ℕ) (but : IsSoundBut t key) (up : parent_at t.nodes key ≡ Some parent) where
  linked : IsLinked t.nodes t.root t.level t.pending.items
  linked = but.sound.linked

  fitted : IsFitted t.capacity t.nodes t.root t.pending.items (Some key)
  fitted = but.sound.fitted

  pub key-not_root : key ≢ t.root
  key-not_root e = none-some parent (sym linked.root_parent ∙ ap (parent_at t.nodes) (sym e) ∙ up)

  low : All (λ w. w.level ≤ but.level) t.pending.items
  low = λ k d within. let lower = but.below k d within in omega arith

  found : (p : ℕ) × (parent_at t.nodes key ≡ Some p) × (level_at t.nodes p ≡ Some (suc but.level)) × (times_named key (cells_at t.nodes p) ≡ 1)
  found = parent-named t.nodes t.root t.level t.pending.items linked key but.level but.here key-not_root
      (unnamed-below t.nodes key but.level t.pending.items but.here low linked.pending_named)

  is-parent : found.0 ≡ parent
  is-parent = same_Some _ _ (sym found.1 ∙ up)

  pub parent-level : level_at t.nodes parent ≡ Some (suc but.level)
  parent-level = ap (level_at t.nodes) (sym is-parent) ∙ found.2

  pub named-above : times_named key (cells_at t.nodes parent) ≡ 1
  named-above = ap (λ p. times_named key (cells_at t.nodes p)) (sym is-parent) ∙ found.3

  pub key-not_parent : key ≢ parent
  key-not_parent e = let same = same_Some _ _ (sym but.here ∙ ap (level_at t.nodes) e ∙ parent-level) in omega arith

  parent-least : parent ≢ t.root → least_fill t.capacity ≤ length (cells_at t.nodes parent)
  parent-least away = fitted.least parent (suc but.level) parent-level away (λ s. key-not_parent (same_Some key parent s))

  parent-most : length (cells_at t.nodes parent) ≤ t.capacity
  parent-most = fitted.most parent (suc but.level) parent-level (λ s. key-not_parent (same_Some key parent s))

  more-few : (least_fill t.capacity - 1) * suc but.level ≡ (least_fill t.capacity - 1) * but.level + (least_fill t.capacity - 1)
  more-few = mul-suc (least_fill t.capacity - 1) but.level

  -- what waits and one thin node more find room
  pub waits-fit : (cells : List (Cell D)) → length cells < least_fill t.capacity → (least_fill t.capacity - 1) * t.level ≤ vec_capacity t.pending →
      length t.pending.items + length cells ≤ vec_capacity t.pending
  waits-fit cells thin room =
      let few = but.few in
      let more = more-few in
      let high = linked.levels parent (suc but.level) parent-level in
      let whole = mul-le-mul_left (least_fill t.capacity - 1) high in
      omega arith

  module _ (b : Slab (NodeCells D)) (at : ℕ) (r : RefitsAt t.nodes b key parent at) where
    abbrev p : NodeCells D
    p = (node-there t.nodes parent (suc but.level) parent-level).0

    has : get t.nodes parent ≡ Some p
    has = (node-there t.nodes parent (suc but.level) parent-level).1

    same-levels : (k : ℕ) → level_at b k ≡ level_at t.nodes k
    same-levels = refitted-levels t.nodes b t.root t.level t.pending.items key parent at but.level p linked but.here up has parent-level named-above low r

    same-parents : (k : ℕ) → parent_at b k ≡ parent_at t.nodes k
    same-parents = refitted-parents t.nodes b t.root t.level t.pending.items key parent at but.level p linked but.here up has parent-level named-above low r

    same-others : (k : ℕ) → k ≢ parent → cells_at b k ≡ cells_at t.nodes k
    same-others = refitted-others t.nodes b t.root t.level t.pending.items key parent at but.level p linked but.here up has parent-level named-above low r

    new-cells : cells_at b parent ≡ set (cells_at t.nodes parent) at r.cell
    new-cells = refitted-cells t.nodes b t.root t.level t.pending.items key parent at but.level p linked but.here up has parent-level named-above low r

    same-long : (k : ℕ) → length (cells_at b k) ≡ length (cells_at t.nodes k)
    same-long = refitted-long t.nodes b t.root t.level t.pending.items key parent at but.level p linked but.here up has parent-level named-above low r

    same-numbers : numbers (set (cells_at t.nodes parent) at r.cell) ≡ numbers (cells_at t.nodes parent)
    same-numbers =
        let cs = cells_at t.nodes parent in
        let was : r.cell.number ≡ get_or (numbers cs) at r.cell.number = r.number r.cell ∙ sym (get_or-map (λ c. c.number) cs at r.cell r.cell.number r.place.within) in
        map-set (λ c. c.number) cs at r.cell ∙ ap (set (numbers cs) at) was ∙ set-get_or (numbers cs) at r.cell.number

    keeps-shape : (path : List ℕ) → Contains path key → (k : ℕ) → KeepsShape t.nodes b path k
    keeps-shape path on k = record {
      level = same-levels k;
      parent = same-parents k;
      rows = refitted-leaves t.nodes b t.root t.level t.pending.items key parent at but.level p linked but.here up has parent-level named-above low r k;
      numbers_same = elim (cases_eq k parent) [
        | inl e ↦ ap (λ y. numbers (cells_at b y)) e ∙ ap numbers new-cells ∙ same-numbers ∙ ap (λ y. numbers (cells_at t.nodes y)) (sym e)
        | inr other ↦ ap numbers (same-others k other)
      ];
      boxes = λ j x off. elim (cases_eq k parent) [
        | inl e ↦
            ap (λ y. get_or (cells_at b y) j x) e ∙ ap (λ cs. get_or cs j x) new-cells
            ∙ get_or-set_other (cells_at t.nodes parent) at j r.cell x (λ same. off (subst (Contains path)
            (sym (ap (λ y. key_of (get_or (cells_at t.nodes y) j x)) e ∙ ap (λ y. key_of (get_or (cells_at t.nodes parent) y x)) same ∙ r.place.names x)) on))
            ∙ ap (λ y. get_or (cells_at t.nodes y) j x) (sym e)
        | inr other ↦ ap (λ cs. get_or cs j x) (same-others k other)
      ];
    }

    pub climb-refit : least_fill t.capacity ≤ length (cells_at t.nodes key) → Climbs t (record t { nodes = b }) key parent
    climb-refit enough = record {
      next = record {
        axes = but.axes;
        sound = record {
          linked = refitted-linked t.nodes b t.root t.level t.pending.items key parent at but.level p linked but.here up has parent-level named-above low r;
          fitted = refitted-fitted t.nodes b t.root t.level t.pending.items key parent at but.level p linked but.here up has parent-level named-above low r
              t.capacity fitted (λ away. enough) but.most;
          homes = refitted-homes t.nodes b t.root t.level t.pending.items key parent at but.level p linked but.here up has parent-level named-above low r
              (leaf_of int_eq t.leaves) but.sound.homes;
        };
        level = suc but.level;
        here = same-levels parent ∙ parent-level;
        below = λ k d within. let lower = but.below k d within in omega arith;
        few = let few = but.few in let more = more-few in omega arith;
        nearly = λ away. let least = parent-least away in let long = same-long parent in omega arith;
        most = let most = parent-most in let long = same-long parent in omega arith;
        branched = λ away. let two = but.branched key-not_root in let long = same-long t.root in omega arith;
      };
      up = λ l e. same-levels parent ∙ parent-level ∙ ap (λ i. Some (suc i)) (same_Some _ _ (sym but.here ∙ e));
      keeps = record {
        rows = refitted-rows t.nodes b t.root t.level t.pending.items key parent at but.level p linked but.here up has parent-level named-above low r;
        leaves = refl;
        root = refl;
        level = refl;
        capacity = refl;
        room = (r.change p has).room;
        pending_room = refl;
      };
      parent_is = up;
      condenses = inl record {
        filled = enough;
        pending = refl;
        shape = keeps-shape;
        full = λ away. let least = parent-least away in let long = same-long parent in omega arith;
      };
    }

  pub climb-dissolve : (u : Arena D) (at : ℕ) (n : NodeCells D) → get t.nodes key ≡ Some n → Dissolves t.nodes u.nodes key parent at →
      length n.cells < least_fill t.capacity → u.pending.items ≡ t.pending.items ++ pending_at n.level n.cells → vec_capacity u.pending ≡ vec_capacity t.pending →
      Climbs t (record t { nodes = u.nodes; pending = u.pending }) key parent
  climb-dissolve u at n has d thin items room =
      let level_is : but.level ≡ n.level = same_Some _ _ (sym but.here ∙ ap level_of has) in
      let up_level : level_at t.nodes parent ≡ Some (suc n.level) = parent-level ∙ ap (λ i. Some (suc i)) level_is in
      let lower : All (λ w. w.level ≤ n.level) t.pending.items = λ k x within. let l = but.below k x within in omega arith in
      let ws = t.pending.items in
      let new = t.pending.items ++ pending_at n.level n.cells in
      let own : cells_at t.nodes key ≡ n.cells = ap cells_of has in
      let stays : parent ≢ key = λ e. key-not_parent (sym e) in
      record {
        next = record {
          axes = but.axes;
          sound = record {
            linked = subst (IsLinked u.nodes t.root t.level) (sym items) (dissolved-linked t.nodes u.nodes t.root t.level ws key parent at n linked has up up_level named-above lower d);
            fitted = subst (λ vs. IsFitted t.capacity u.nodes t.root vs (Some parent)) (sym items)
                (dissolved-fitted t.nodes u.nodes t.root t.level ws key parent at n linked has up up_level named-above lower d t.capacity fitted (but.branched key-not_root));
            homes = subst (HasHomes (leaf_of int_eq t.leaves) u.nodes) (sym items)
                (dissolved-homes t.nodes u.nodes t.root t.level ws key parent at n linked has up up_level named-above lower d (leaf_of int_eq t.leaves) but.sound.homes);
          };
          level = suc but.level;
          here = d.levels parent stays ∙ parent-level;
          below = subst (All (λ w. w.level < suc but.level)) (sym items) (All-append (λ w. w.level < suc but.level) ws (pending_at n.level n.cells)
              (λ k x within. let l = but.below k x within in omega arith)
              (All-map (λ w. w.level < suc but.level) (λ c. record { level = n.level; cell = c }) n.cells (λ k x within. omega arith)));
          few =
              let few = but.few in
              let more = more-few in
              let long = ap length items in
              let sum = length-append ws (pending_at n.level n.cells) in
              let same = length-map n.cells (λ (c : Cell D). let w : Pending D = record { level = n.level; cell = c } in w) in
              omega arith;
          nearly = λ away. let least = parent-least away in let fewer = length-remove (cells_at t.nodes parent) at d.place.within in let long = ap length d.shorter in omega arith;
          most = let most = parent-most in let fewer = length-remove (cells_at t.nodes parent) at d.place.within in let long = ap length d.shorter in omega arith;
          branched = λ away. let two = but.branched key-not_root in let long = ap length (d.cells t.root (λ e. key-not_root (sym e)) (λ e. away (sym e))) in omega arith;
        };
        up = λ l e. d.levels parent stays ∙ parent-level ∙ ap (λ i. Some (suc i)) (same_Some _ _ (sym but.here ∙ e));
        keeps = record {
          rows = λ test. ap (λ vs. count_rows test u.nodes vs) items ∙ dissolved-rows t.nodes u.nodes t.root t.level ws key parent at n linked has up up_level named-above lower d test;
          leaves = refl;
          root = refl;
          level = refl;
          capacity = refl;
          room = d.room;
          pending_room = room;
        };
        parent_is = up;
        condenses = inr record {
          underfull = omega (arith, ap length own);
          level = n.level;
          here = ap level_of has;
          at = at;
          dissolves = d;
          orphans = items ∙ ap (λ cs. ws ++ pending_at n.level cs) (sym own);
        };
      }
