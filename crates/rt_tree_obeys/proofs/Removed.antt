-- A removal is one of the rules: the row leaves, the orphans are settled in turn, and a root with one child gives way.
use Rattle.std.proofs.Common.{◌≡◌, ◌≢◌, ◌⊎◌, inl, inr, ℕ, zero, suc, ◌≤◌, ℤ, List, [], ◌∷◌, ◌++◌, map, length, take, reverse, Option, Some, None, refl, sym, ap, ◌∙◌, subst, arith, length-append}
use Rattle.std.specs.List.{All, remove}
use Rattle.std.specs.List.Sorted.{IsPermutation}
use Rattle.std.specs.Ordering.{int_eq}
use Rattle.std.proofs.lemmas.Option.{same_Some, none-some, slice_get_within}
use Rattle.std.proofs.lemmas.List.{length-map, length-reverse, length-take-le, reverse-append, nil_from_length}
use Rattle.std.proofs.lemmas.List.Sorted.{IsPermutation-reverse, All-permutation}
use Rattle.indexmap.specs.IndexMap.{get as leaf_of}
use Rattle.slab.specs.Slab.{Slab, get}
use Rattle.rt_box.specs.declared.interval.Interval.{Interval}
use Rattle.rt_box.specs.Capacity.{least_fill}
use Rattle.rt_tree_node.specs.declared.arena.Arena.{Arena}
use Rattle.rt_tree_node.specs.declared.arena.Work.{Work as Counts}
use Rattle.rt_tree_node.specs.declared.cell.Cell.{Cell}
use Rattle.rt_tree_node.specs.declared.cell.Pending.{Pending}
use Rattle.rt_tree_node.specs.Node.{NodeCells}
use Rattle.rt_tree_node.specs.Changes.{Puts}
use Rattle.rt_tree_node.specs.Places.{key_of, cells_of, level_of, cells_at, level_at, hull_at}
use Rattle.rt_tree_node.specs.Sound.{IsLinked, NamesChild, HasHomes}
use Rattle.rt_tree_node.specs.Whole.{IsWhole}
use Rattle.rt_tree_place.specs.Turns.{PlacesInTurn}
use Rattle.rt_tree_remove.specs.Steps.{Takes, Condenses, SettlesInTurn, GivesWay, ShortensTree}
use Rattle.rt_tree_remove.proofs.Reordered.{reordered-linked}
use Rattle.rt_tree_rules.specs.Nested.{Node, Tree, Waiting}
use Rattle.rt_tree_rules.specs.Placing.{Settles}
use Rattle.rt_tree_rules.specs.Removing.{Thinned, take_out, shorten, SettleInTurn}
use Rattle.rt_tree_obeys.specs.View.{entry_in, node_in, tree_in, waiting_in, waiting_cells}
use Rattle.rt_tree_obeys.specs.Laws.{Stands, RemovalObeys}
use Rattle.rt_tree_obeys.proofs.Frames.{below, frame_entered}
use Rattle.rt_tree_obeys.proofs.Settled.{settling, stands_whole}
use Rattle.rt_tree_obeys.proofs.Thinning.{Out, out_moved, condensed, thinned}
use Rattle.rt_tree_obeys.proofs.Thinned.{Thins, steps_up, linked_of}
use Rattle.rt_tree_obeys.proofs.Treated.{map_reverse}
use Rattle.rt_tree_obeys.proofs.Finished.{tree_is}
use Rattle.rt_tree_obeys.proofs.Found.{found}

-- ---- the row leaves its leaf, and underfull nodes are eliminated
module _ {D : ℕ} (old taken condensed_tree : Arena D) (id : ℤ) (rect : List Interval) (leaf at : ℕ) (whole : IsWhole old) (idle : old.pending.items ≡ [])
    (takes : Takes old taken id leaf at rect) (condenses : Condenses taken condensed_tree leaf) where
  abbrev K : ℕ
  K = old.capacity

  abbrev R : ℕ
  R = old.root

  abbrev L : ℕ
  L = old.level

  abbrev a : Slab (NodeCells D)
  a = old.nodes

  abbrev b : Slab (NodeCells D)
  b = taken.nodes

  linked : IsLinked a R L []
  linked = subst (IsLinked a R L) idle whole.linked

  homes : HasHomes (leaf_of int_eq old.leaves) a []
  homes = subst (HasHomes (leaf_of int_eq old.leaves) a) idle whole.homes

  put : (n : NodeCells D) × (get a leaf ≡ Some n) × Puts a b leaf (record n { cells = remove n.cells at })
  put = by (get a leaf) refl
    where
      by : (o : Option (NodeCells D)) → get a leaf ≡ o → (n : NodeCells D) × (get a leaf ≡ Some n) × Puts a b leaf (record n { cells = remove n.cells at })
      by None e =
          let none = ap cells_of e in
          let within = slice_get_within (cells_at a leaf) at record { number = id; rect = rect } takes.cell in
          absurd (omega (arith, ap (length {A = Cell D}) none))
      by (Some n) e = (n, e, takes.change n e)

  left : cells_at b leaf ≡ remove (cells_at a leaf) at
  left = ap cells_of put.2.updates.changed ∙ ap (λ o. remove (cells_of o) at) (sym put.1)

  others : (x : ℕ) → x ≢ leaf → cells_at b x ≡ cells_at a x
  others x other = ap cells_of (put.2.updates.others x other)

  bottom : level_at a leaf ≡ Some 0
  bottom = by put.0 put.1 put.2
    where
      by : (n : NodeCells D) → get a leaf ≡ Some n → Puts a b leaf (record n { cells = remove n.cells at }) → level_at a leaf ≡ Some 0
      by n e puts = ap level_of e ∙ sym (ap level_of puts.updates.changed) ∙ takes.bottom

  abbrev r : Thinned L
  r = take_out K L id (node_in a L R)

  start : Thins K R L r taken leaf
  start =
      let cell : Cell D = record { number = id; rect = rect } in
      let out = found K R L a linked (leaf_of int_eq old.leaves) homes id leaf at cell takes.home bottom takes.cell refl in
      let frame = (frame_entered a b 0 leaf linked.children bottom others).0 in
      let moved = out_moved K a R L r [] linked b 0 leaf (thinned (map (entry_in a zero) (remove (cells_at a leaf) at)) []) frame out in
      record {
        but = takes.but;
        root_is = takes.root;
        height_is = takes.level;
        capacity_is = takes.capacity;
        l = 0;
        orphans = [];
        out = subst (λ (n : Node zero). Out K b R L r zero leaf (thinned n [])) (sym (ap (map (entry_in b zero)) left)) moved;
        pending_is = ap (λ v. map (waiting_in b) v.items) takes.pending ∙ ap (map (waiting_in b)) idle;
      }

  abbrev c : Arena D
  c = condensed_tree

  pub up : Thins K R L r c condenses.last
  up = steps_up K R L r taken leaf start c condenses.last condenses.steps

  pub thinned_is : r ≡ thinned (node_in c.nodes L R) up.orphans
  thinned_is =
      condensed K c.nodes R L r c.pending.items (linked_of K R L r c condenses.last up) up.orphans up.l condenses.last (thinned (node_in c.nodes up.l condenses.last) up.orphans)
      (λ x j here other. let fills = condenses.whole.fitted.least x j here (λ e. other (e ∙ up.root_is)) (λ e. none-some _ e) in omega (arith, up.capacity_is, ap least_fill up.capacity_is))
      refl fits up.out
    where
      fits : (condenses.last ≡ R) ⊎ (least_fill K ≤ length (cells_at c.nodes condenses.last))
      fits = elim condenses.ends [
        | inl root ↦ inl (root ∙ up.root_is)
        | inr ends ↦ inr (omega (arith, ends.2.filled, ap least_fill up.capacity_is))
      ]

turned_stands : {D : ℕ} (c turned : Arena D) → IsWhole c → turned ≡ record c { pending = turned.pending } → turned.pending.items ≡ reverse c.pending.items → Stands turned
turned_stands {D = D} c turned whole is reversed =
    let moved : IsPermutation c.pending.items turned.pending.items
    = subst (λ (ws : List (Pending D)). IsPermutation c.pending.items ws) (sym reversed) (IsPermutation-reverse c.pending.items) in
    let own = stands_whole c whole in
    subst Stands (sym is) record {
      linked = reordered-linked c.nodes c.pending.items turned.pending.items moved c.root c.level own.linked;
      hulls = own.hulls;
      pending_hulls = All-permutation (λ w. (l : ℕ) → w.level ≡ suc l → w.cell.rect ≡ hull_at c.nodes (key_of w.cell)) c.pending.items turned.pending.items moved own.pending_hulls;
    }

-- ---- the orphans are settled in turn
module _ {D : ℕ} (K : ℕ) (turned : Arena D) (orphans : List Waiting) (capacity_is : turned.capacity ≡ K) (stands : Stands turned) (pending_is : waiting_cells turned ≡ reverse orphans) where
  record Turned (t : Arena D) : Type 0 where
    rest : List Waiting
    pending : waiting_cells t ≡ reverse rest
    standing : Stands t
    capacity : t.capacity ≡ K
    settles : (final : Tree) → SettleInTurn D K (tree_in t) rest final → SettleInTurn D K (tree_in turned) orphans final

  one_more : (t u : Arena D) (n marks : ℕ) (work : Counts) → Turned t → suc n ≡ length t.pending.items → PlacesInTurn t n u marks work →
      u.pending.items ≡ take n t.pending.items → Turned u
  one_more t u n marks work so_far long turns few = by so_far.rest refl
    where
      by : (rest : List Waiting) → so_far.rest ≡ rest → Turned u
      by [] is =
          let none = ap (length {A = Waiting}) (so_far.pending ∙ ap reverse is) in
          absurd (omega (arith, length-map t.pending.items (waiting_in t.nodes)))
      by (w ∷ rest) is =
          let pending : waiting_cells t ≡ reverse rest ++ w ∷ [] = so_far.pending ∙ ap reverse is ∙ reverse-append (w ∷ []) rest in
          let many = sym (length-map t.pending.items (waiting_in t.nodes)) ∙ ap (length {A = Waiting}) pending ∙ length-append (reverse rest) (w ∷ []) in
          let n_is : n ≡ length (reverse rest) = omega arith in
          let left = ap (length {A = Pending D}) few ∙ length-take-le n t.pending.items (omega arith) in
          let settled = settling D t u marks work (reverse rest) w so_far.standing pending (subst (λ (k : ℕ). PlacesInTurn t k u marks work) n_is turns) (left ∙ n_is) in
          record {
            rest = rest;
            pending = settled.pending;
            standing = stands_whole u settled.whole;
            capacity = settled.capacity ∙ so_far.capacity;
            settles = λ final h.
                let settles_here = subst (λ (k : ℕ). Settles D k (tree_in t) w (tree_in u) settled.effort) so_far.capacity settled.settles in
                so_far.settles final (subst (λ (ws : List Waiting). SettleInTurn D K (tree_in t) ws final) (sym is) (tree_in u, settled.effort, settles_here, h));
          }

  all_turned : (t : Arena D) → SettlesInTurn turned t → Turned t
  all_turned t (SettlesInTurn.none) = record { rest = orphans; pending = pending_is; standing = stands; capacity = capacity_is; settles = λ final h. h }
  all_turned t (SettlesInTurn.next {t = m} {base = n} {marks = marks} {work = work} before long turns few) = one_more m t n marks work (all_turned m before) long turns few

  pub settled_in_turn : (placed : Arena D) → SettlesInTurn turned placed → placed.pending.items ≡ [] →
      SettleInTurn D K (tree_in turned) orphans (tree_in placed) × Stands placed × (placed.capacity ≡ K)
  settled_in_turn placed turns none =
      let end = all_turned placed turns in
      let empty : end.rest ≡ [] = nil_from_length end.rest (
      sym (length-reverse end.rest) ∙ ap (length {A = Waiting}) (sym end.pending ∙ ap (map (waiting_in placed.nodes)) none)) in
      (end.settles (tree_in placed) (subst (λ (ws : List Waiting). SettleInTurn D K (tree_in placed) ws (tree_in placed)) (sym empty) refl), end.standing, end.capacity)

-- ---- a root with one child gives way
stays_tall : (level : ℕ) (root : Node level) → (1 ≤ level → 2 ≤ length root) → shorten level root ≡ record { level = level; root = root }
stays_tall zero root many = refl
stays_tall (suc l) [] many = absurd (omega (arith, many (omega arith)))
stays_tall (suc l) (x ∷ []) many = absurd (omega (arith, many (omega arith)))
stays_tall (suc l) (x ∷ y ∷ xs) many = refl

module _ {D : ℕ} (placed new : Arena D) (stands : Stands placed) where
  shortens : ShortensTree placed new → tree_in new ≡ shorten placed.level (node_in placed.nodes placed.level placed.root)
  shortens short =
      let l = new.level in
      let a = placed.nodes in
      let root_level : level_at a placed.root ≡ Some (suc l) = stands.linked.root_level ∙ ap Some short.level in
      let low = below a new.nodes (suc l) stands.linked.children (λ x j here less. short.nodes.cells x (λ e.
      let same = same_Some j (suc l) (sym here ∙ ap (level_at a) e ∙ root_level) in
      absurd (omega arith))) in
      let child : NamesChild a l placed.root short.cell = subst (λ (cs : List (Cell D)). All (NamesChild a l placed.root) cs) short.only (stands.linked.children placed.root l root_level) 0 short.cell (omega arith) in
      let node : node_in new.nodes l new.root ≡ node_in a l (key_of short.cell)
      = ap (node_in new.nodes l) short.root ∙ low (key_of short.cell) l child.names.level_is (omega arith) in
      let top : node_in a (suc l) placed.root ≡ node_in a l (key_of short.cell) ∷ [] = ap (map (entry_in a (suc l))) short.only in
      ap (λ (n : Node l). record { level = l; root = n }) node
      ∙ sym (
      ap (λ (k : ℕ). shorten k (node_in a k placed.root)) short.level
      ∙ ap (shorten (suc l)) top
      )

  gives : GivesWay placed new → tree_in new ≡ shorten placed.level (node_in placed.nodes placed.level placed.root)
  gives way = elim way.way [
    | inl stays ↦
        let long = length-map (cells_at placed.nodes placed.root) (entry_in placed.nodes placed.level) in
        ap tree_in stays.1 ∙ sym (stays_tall placed.level (node_in placed.nodes placed.level placed.root) (λ high. omega (arith, stays.0 high)))
    | inr short ↦ shortens short
  ]

pub removal : RemovalObeys
removal axes before after id rect whole idle steps =
    let K = before.capacity in
    let c = steps.condensed in
    let end = up before steps.taken c id rect steps.leaf steps.at whole idle steps.takes steps.condenses in
    let is = thinned_is before steps.taken c id rect steps.leaf steps.at whole idle steps.takes steps.condenses in
    let reversed : waiting_cells steps.turned ≡ reverse end.orphans
    = ap (λ (x : Arena axes). map (waiting_in x.nodes) steps.turned.pending.items) steps.turned_is
    ∙ ap (map (waiting_in c.nodes)) steps.reversed ∙ map_reverse (waiting_in c.nodes) c.pending.items ∙ ap reverse end.pending_is in
    let capacity : steps.turned.capacity ≡ K = ap (λ (x : Arena axes). x.capacity) steps.turned_is ∙ end.capacity_is in
    let tree : tree_in steps.turned ≡ record { level = before.level; root = node_in c.nodes before.level before.root }
    = ap tree_in steps.turned_is ∙ tree_is c before.root before.level end.root_is end.height_is in
    let settled = settled_in_turn K steps.turned end.orphans capacity (turned_stands c steps.turned steps.condenses.whole steps.turned_is steps.reversed) reversed steps.placed steps.places steps.none_left in (
      record {
        settled = tree_in steps.placed;
        settle = subst (λ (x : Thinned before.level). SettleInTurn axes K record { level = before.level; root = x.node } x.orphans (tree_in steps.placed)) (sym is)
            (subst (λ (x : Tree). SettleInTurn axes K x end.orphans (tree_in steps.placed)) tree settled.0);
        shortened = gives steps.placed after settled.1 steps.gives_way;
      },
      steps.gives_way.whole,
      ap (λ v. v.items) steps.gives_way.pending ∙ steps.none_left,
      steps.gives_way.capacity ∙ settled.2,
    )
