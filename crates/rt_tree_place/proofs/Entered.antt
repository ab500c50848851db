-- A tree after a cell on its way was appended to a node of its level.
use Rattle.std.proofs.Common.{◌≡◌, ◌≢◌, ℕ, zero, suc, ◌-◌, ◌<◌, ◌≤◌, List, [], ◌∷◌, ◌++◌, length, Some, IsSome, arith, refl, ap, ◌∙◌, sym, subst, inl}
use Rattle.std.specs.Ordering.{int_eq}
use Rattle.std.proofs.lemmas.Bool.{cases_eq}
use Rattle.std.proofs.lemmas.Option.{same_Some}
use Rattle.std.proofs.lemmas.List.{append-nil, length-append}
use Rattle.indexmap.specs.IndexMap.{get as leaf_of}
use Rattle.slab.specs.Slab.{get, ContainsKey, slab_len}
use Rattle.rt_box.specs.Capacity.{least_fill}
use Rattle.rt_tree_node.specs.declared.arena.Arena.{Arena}
use Rattle.rt_tree_node.specs.declared.cell.Pending.{Pending}
use Rattle.rt_tree_node.specs.Changes.{Puts}
use Rattle.rt_tree_node.specs.Homes.{KeepsIds}
use Rattle.rt_tree_node.specs.Node.{NodeCells}
use Rattle.rt_tree_node.specs.Open.{IsOpen}
use Rattle.rt_tree_place.specs.Path.{LeadsTo}
use Rattle.rt_tree_node.specs.Places.{key_of, times_named, times_listed, cells_of, level_of, parent_of, cells_at, inner_cells_at, leaf_part, level_at, parent_at, count_rows}
use Rattle.rt_tree_node.specs.Sound.{Names}
use Rattle.rt_tree_node.proofs.Fitted.{fitted-weaker}
use Rattle.rt_tree_node.proofs.Homes.{listed-one}
use Rattle.rt_tree_node.proofs.Links.{same-at, All-at}
use Rattle.rt_tree_node.proofs.Places.{inner-at_inner, rows-middle, has_id}
use Rattle.rt_tree_place.specs.Rise.{IsPending, Enters}
use Rattle.rt_tree_place.specs.Steps.{IsPassable, Attaches, IsRising}
use Rattle.rt_tree_place.specs.Way.{LeadsUp}
use Rattle.rt_tree_place.proofs.Attached.{attached, rows-attached}
use Rattle.rt_tree_place.proofs.Closed.{closed}
use Rattle.rt_tree_place.proofs.Way.{way-settled, way-kept}
use Rattle.rt_tree_place.proofs.WayDown.{node-from_level, present}

module _ {D : ℕ} (old : Arena D) (w : Pending D) (was : IsPending old w) where
  abbrev ws : List (Pending D)
  ws = old.pending.items

  pub pending-passable : IsPassable old.nodes old.root old.level
  pending-passable = record {
    root_level = was.linked.root_level;
    some = λ key l e. was.fitted.some key l e (λ x. x);
    children = was.linked.children;
  }

  pub pending-below : w.level ≤ old.level
  pending-below = All-at (λ v. v.level ≤ old.level) ws w [] was.linked.pending_levels

  -- what the cell names is there: the row has an entry, the node a place, on the level below
  pub pending-row : w.level ≡ 0 → IsSome (leaf_of int_eq old.leaves w.cell.number)
  pending-row e =
      let step = rows-middle (has_id w.cell.number) ws w [] in
      let part = ap (λ l. times_listed w.cell.number (leaf_part l (w.cell ∷ []))) e in
      let one = listed-one w.cell.number w.cell refl in
      was.homes.pending w.cell.number (omega arith)

  pending-named : (l : ℕ) → w.level ≡ suc l → Names old.nodes l w.cell
  pending-named l e = All-at (λ v. (i : ℕ) → v.level ≡ suc i → Names old.nodes i v.cell) ws w [] was.linked.pending_named l e

  pub pending-child : 1 ≤ w.level → ContainsKey old.nodes (key_of w.cell)
  pending-child some = by w.level refl
    where
      by : (l : ℕ) → w.level ≡ l → ContainsKey old.nodes (key_of w.cell)
      by zero e = absurd (omega arith)
      by (suc l) e = present old.nodes (key_of w.cell) l ((pending-named l e).level_is)

  module _ (key : ℕ) (here : level_at old.nodes key ≡ Some w.level) where
    pub pending-apart : 1 ≤ w.level → key_of w.cell ≢ key
    pending-apart some same = by w.level refl
      where
        by : (l : ℕ) → w.level ≡ l → ⊥
        by zero e = absurd (omega arith)
        by (suc l) e = let differ = same_Some l w.level (sym ((pending-named l e).level_is) ∙ ap (level_at old.nodes) same ∙ here) in absurd (omega arith)

    pub pending-room : length (cells_at old.nodes key) < 52
    pending-room = let most = was.fitted.most key w.level here (λ x. x) in let cap = was.fitted.cap in omega arith

    module _ (new : Arena D) (at : Attaches old new key w) (n : NodeCells D) (has : get old.nodes key ≡ Some n) where
      abbrev m : NodeCells D
      m = record n { cells = n.cells ++ w.cell ∷ [] }

      n-level : w.level ≡ n.level
      n-level = same_Some w.level n.level (sym here ∙ ap level_of has)

      abbrev E : ℕ → Type 0
      E x = x ≡ key

      pending-is : new.pending ≡ old.pending
      pending-is = ap (λ a. a.pending) at.rest

      root-is : new.root ≡ old.root
      root-is = ap (λ a. a.root) at.rest

      capacity-is : new.capacity ≡ old.capacity
      capacity-is = ap (λ a. a.capacity) at.rest

      items-are : ws ++ [] ≡ new.pending.items
      items-are = append-nil ws ∙ ap (λ v. v.items) (sym pending-is)

      was-odd : IsOpen E old (ws ++ w ∷ [])
      was-odd = record {
        linked = was.linked;
        fitted = fitted-weaker (λ x. ⊥) E (λ x none. absurd none) old.capacity old.nodes old.root (ws ++ w ∷ []) was.fitted;
        homes = was.homes;
      }

      new-open : IsOpen E new new.pending.items
      new-open = subst (IsOpen E new) items-are (attached E (λ x. cases_eq x key) old new key n ws w [] was-odd refl has n-level at)

      -- levels stay, the cells of other nodes, and the parents of nodes that aren't lower
      abbrev Effect : Type 0
      Effect = ((x : ℕ) → level_at new.nodes x ≡ level_at old.nodes x) × ((x : ℕ) → x ≢ key → cells_at new.nodes x ≡ cells_at old.nodes x)
          × (cells_at new.nodes key ≡ n.cells ++ w.cell ∷ [])
          × ((x l : ℕ) → level_at old.nodes x ≡ Some l → w.level ≤ l → parent_at new.nodes x ≡ parent_at old.nodes x)
          × (slab_len new.nodes ≡ slab_len old.nodes) × (new.nodes.capacity ≡ old.nodes.capacity) × KeepsIds old.leaves new.leaves

      effect : Effect
      effect = by w.level refl
        where
          by : (l : ℕ) → w.level ≡ l → Effect
          by zero e =
              let puts : Puts old.nodes new.nodes key m = (at.row e).1 n has in
              let u = puts.updates in (
                same-at level_of old.nodes new.nodes key n m has u refl,
                λ x other. ap cells_of (u.others x other),
                ap cells_of u.changed,
                λ x l f high. same-at parent_of old.nodes new.nodes key n m has u refl x,
                puts.len,
                puts.room,
                (at.row e).0.keeps,
              )
          by (suc l) e =
              let parts = at.child (omega arith) in
              let named = pending-named l e in
              let child = node-from_level old.nodes (key_of w.cell) l named.level_is in
              let c = child.0 in
              let first = parts.2 c child.1 in
              let apart : key ≢ key_of w.cell = λ same. pending-apart (omega arith) (sym same) in
              let has_mid : get parts.1 key ≡ Some n = first.updates.others key apart ∙ has in
              let second = parts.3 n has_mid in
              let u = second.updates in
              let v = first.updates in
              let c_new = record c { parent = Some key } in (
                λ x. same-at level_of parts.1 new.nodes key n m has_mid u refl x ∙ same-at level_of old.nodes parts.1 (key_of w.cell) c c_new child.1 v refl x,
                λ x other. ap cells_of (u.others x other) ∙ same-at cells_of old.nodes parts.1 (key_of w.cell) c c_new child.1 v refl x,
                ap cells_of u.changed,
                λ x i f high. same-at parent_of parts.1 new.nodes key n m has_mid u refl x ∙ ap parent_of (v.others x (λ same.
                    let differ = same_Some l i (sym named.level_is ∙ ap (level_at old.nodes) (sym same) ∙ f) in absurd (omega arith))),
                second.len ∙ first.len,
                second.room ∙ first.room,
                subst (KeepsIds old.leaves) (sym parts.0) record { ids = refl; len = refl; room = refl },
              )

      inner-kept : (x i z : ℕ) → level_at old.nodes x ≡ Some i → w.level < i → times_named z (inner_cells_at new.nodes x) ≡ times_named z (inner_cells_at old.nodes x)
      inner-kept x zero z e high = absurd (omega arith)
      inner-kept x (suc i) z e high =
          let other : x ≢ key = λ same. let differ = same_Some (suc i) w.level (sym e ∙ ap (level_at old.nodes) same ∙ here) in absurd (omega arith) in
          ap (times_named z) (inner-at_inner new.nodes x i (effect.0 x ∙ e) ∙ effect.1 x other ∙ sym (inner-at_inner old.nodes x i e))

      module _ (steps : ℕ) (way : LeadsUp old.nodes old.root steps key) where
        new-way : LeadsUp new.nodes new.root steps key
        new-way = subst (λ y. LeadsUp new.nodes y steps key) (sym root-is)
            (way-kept old.nodes old.root old.level (ws ++ w ∷ []) was.linked new.nodes w.level steps key w.level way here (omega arith) effect.3 inner-kept)

        grown : length (cells_at new.nodes key) ≡ suc (length (cells_at old.nodes key))
        grown = omega (arith, ap length effect.2, length-append n.cells (w.cell ∷ []), ap (λ s. length (cells_of s)) has)

        pub entered-rising : IsRising new key
        entered-rising =
            let long = grown in
            let some : 1 ≤ length (cells_at new.nodes key) = omega arith in
            let c = capacity-is in
            record {
              sound = closed E (λ x. cases_eq x key) new key new-open (λ x e. inl e) some
                  (way-settled new.nodes new.root new.level new.pending.items new-open.linked steps key w.level new-way (effect.0 key ∙ here));
              level = w.level;
              here = effect.0 key ∙ here;
              steps = steps;
              way = new-way;
              some = some;
              filled = λ away.
                  let least = was.fitted.least key w.level here (λ e. away (e ∙ sym root-is)) (λ x. x) in
                  subst (λ k. least_fill k ≤ length (cells_at new.nodes key)) (sym capacity-is) (omega arith);
              most = let most = was.fitted.most key w.level here (λ x. x) in omega arith;
            }

        pub entered : (path : List ℕ) → LeadsTo old.nodes w.level (old.level - w.level) old.root w.cell.rect key path → Enters old new w key
        entered path leads = record {
          rising = entered-rising;
          level = here;
          path = path;
          leads = leads;
          rows = λ test. ap (count_rows test new.nodes) (sym items-are)
              ∙ rows-attached E (λ x. cases_eq x key) old new key n ws w [] was-odd refl has n-level at test;
          ids = effect.6;
          levels = effect.0;
          cells = effect.2 ∙ ap (λ s. cells_of s ++ w.cell ∷ []) (sym has);
          others = effect.1;
          pending = pending-is;
          root = root-is;
          height = ap (λ a. a.level) at.rest;
          capacity = capacity-is;
          len = effect.4;
          room = effect.5;
          row = at.row;
        }
