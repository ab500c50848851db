-- One step up: the node is relieved, and the cell above it is given the least box.
use Rattle.std.proofs.Common.{◌≡◌, ◌≢◌, ℕ, zero, suc, ◌<◌, ◌≤◌, pos, List, [], ◌∷◌, length, get_or, set, Some, unsigned_abs, cond, count_by, eqb-true, arith, refl, ap, ◌∙◌, sym, subst, inl, inr}
use Rattle.std.specs.Ordering.{int_eq}
use Rattle.std.specs.List.{All, Contains}
use Rattle.std.proofs.lemmas.Option.{none-some, same_Some}
use Rattle.std.proofs.lemmas.Bool.{cases_eq, cases_Bool}
use Rattle.std.proofs.lemmas.List.{length-set, map-set, set-get_or, get_or-map, get_or_default, get_or-set_other}
use Rattle.std.proofs.lemmas.List.Elements.{All-head, All-tail, All-weaker}
use Rattle.indexmap.specs.IndexMap.{get as leaf_of}
use Rattle.slab.specs.Slab.{Slab, get, Updates}
use Rattle.rt_box.specs.Capacity.{least_fill}
use Rattle.rt_tree_node.specs.declared.arena.Arena.{Arena}
use Rattle.rt_tree_node.specs.declared.arena.Work.{Work}
use Rattle.rt_tree_node.specs.declared.cell.Cell.{Cell}
use Rattle.rt_tree_node.specs.Node.{NodeCells}
use Rattle.rt_tree_node.specs.Places.{key_of, times_named, times_listed, numbers, cells_of, leaf_cells_of, level_of, parent_of, level_at, parent_at, cells_at, inner_cells_of, inner_cells_at, pending_nodes}
use Rattle.rt_tree_node.specs.Sound.{NamesChild, IsLinked}
use Rattle.rt_tree_node.specs.Whole.{IsSound}
use Rattle.rt_tree_place.specs.Path.{KeepsShape}
use Rattle.rt_tree_node.proofs.Counts.{count-cons}
use Rattle.rt_tree_node.proofs.Places.{inner-at_inner, names_key}
use Rattle.rt_tree_node.proofs.Links.{same-at, above-some, boxes-changed}
use Rattle.rt_tree_node.proofs.Fitted.{fitted-weaker, opened}
use Rattle.rt_tree_node.proofs.Homes.{homes-same}
use Rattle.rt_tree_place.specs.Rules.{ReInserts, Parts}
use Rattle.rt_tree_place.specs.Steps.{IsNamedAt, Refits, IsPair, Relieves, Treats, IsRising, KeepsRows, Lifts}
use Rattle.rt_tree_place.specs.Way.{LeadsUp}
use Rattle.rt_tree_place.proofs.Attached.{leaf-none, rows-updated}
use Rattle.rt_tree_place.proofs.Divides.{either_key}
use Rattle.rt_tree_place.proofs.Refitted.{refitted-fitted}
use Rattle.rt_tree_place.proofs.Way.{way-settled, level-above, way-kept}

module _ {D : ℕ} where
  -- where a cell that names the node is
  pub named-at : (key : ℕ) (cs : List (Cell D)) → All (λ c. c.number ≡ pos (key_of c)) cs → 0 < times_named key cs → (at : ℕ) × IsNamedAt cs at key
  named-at key [] all some = absurd (omega arith)
  named-at key (c ∷ cs) all some = elim (cases_Bool (names_key key c)) [
    | inl holds ↦ (0, (omega arith, All-head (λ q. q.number ≡ pos (key_of q)) c cs all ∙ ap pos (eqb-true _ _ holds)))
    | inr fails ↦
        let here : ◌≡◌ {A = ℕ} (cond (names_key key c) 1 0) 0 = ap (λ b. cond b 1 0) fails in
        let rest = named-at key cs (All-tail (λ q. q.number ≡ pos (key_of q)) c cs all) (omega (arith, here, count-cons (names_key key) c cs, some)) in
        (suc rest.0, (omega (arith, rest.1.0), rest.1.1))
  ]

module _ {D : ℕ} (t : Arena D) (key parent : ℕ) (rising : IsRising t key) (up : parent_at t.nodes key ≡ Some parent) where
  pub key-not_root : key ≢ t.root
  key-not_root same = none-some parent (sym rising.sound.linked.root_parent ∙ ap (parent_at t.nodes) (sym same) ∙ up)

  above-way : (steps : ℕ) → LeadsUp t.nodes t.root steps key → (n : ℕ) × LeadsUp t.nodes t.root n parent × (0 < times_named key (inner_cells_at t.nodes parent))
  above-way zero way = absurd (key-not_root way)
  above-way (suc n) way =
      let same : way.0 ≡ parent = same_Some way.0 parent (sym way.1 ∙ up) in
      (n, subst (LeadsUp t.nodes t.root n) same way.3, subst (λ p. 0 < times_named key (inner_cells_at t.nodes p)) same way.2)

  found : (n : ℕ) × LeadsUp t.nodes t.root n parent × (0 < times_named key (inner_cells_at t.nodes parent))
  found = above-way rising.steps rising.way

  pub parent-level : level_at t.nodes parent ≡ Some (suc rising.level)
  parent-level = level-above t.nodes t.root t.level t.pending.items rising.sound.linked parent key rising.level rising.here found.2

  pub parent-named : 0 < times_named key (cells_at t.nodes parent)
  parent-named = let same = ap (times_named key) (inner-at_inner t.nodes parent rising.level parent-level) in let some = found.2 in omega arith

  -- the parent names the node once
  pub rising-once : times_named key (cells_at t.nodes parent) ≤ 1
  rising-once =
      let one = rising.sound.linked.named key rising.level rising.here key-not_root in
      let same = ap (times_named key) (above-some t.nodes key parent up ∙ inner-at_inner t.nodes parent rising.level parent-level) in
      omega arith

  pub rising-named_at : (at : ℕ) × IsNamedAt (cells_at t.nodes parent) at key
  rising-named_at = named-at key (cells_at t.nodes parent)
      (All-weaker (NamesChild t.nodes rising.level parent) (λ c. c.number ≡ pos (key_of c)) (λ c is. is.names.number_is) (cells_at t.nodes parent)
      (rising.sound.linked.children parent rising.level parent-level)) parent-named

  pub apart : key ≢ parent
  apart e = let same = same_Some rising.level (suc rising.level) (sym rising.here ∙ ap (level_at t.nodes) e ∙ parent-level) in omega arith

  pub parent-most : length (cells_at t.nodes parent) ≤ t.capacity
  parent-most = rising.sound.fitted.most parent (suc rising.level) parent-level (λ e. apart (same_Some key parent e))

  pub rising-pair : IsPair t key parent
  rising-pair = record {
    opened = record {
      linked = rising.sound.linked;
      fitted = fitted-weaker (λ x. Some key ≡ Some x) (either_key key parent) (λ x e. inl (sym (same_Some key x e))) t.capacity t.nodes t.root t.pending.items
          (opened t.capacity t.nodes t.root t.pending.items (Some key) rising.sound.fitted);
      homes = rising.sound.homes;
    };
    level = rising.level;
    key_level = rising.here;
    parent_level = parent-level;
    up = up;
    few = parent-most;
  }

  module _ (mid : Arena D) (r : Relieves t mid key parent) where
    pub mid-key_level : level_at mid.nodes key ≡ Some rising.level
    mid-key_level = r.trims.levels key rising.level rising.here

    pub mid-parent_level : level_at mid.nodes parent ≡ Some (suc rising.level)
    mid-parent_level = r.trims.levels parent (suc rising.level) parent-level

    mid-up : parent_at mid.nodes key ≡ Some parent
    mid-up = r.trims.parents key rising.level rising.level rising.here rising.here (omega arith) ∙ up

    mid-not_root : key ≢ mid.root
    mid-not_root e = key-not_root (e ∙ r.trims.root)

    pub mid-some : 1 ≤ length (cells_at mid.nodes key)
    mid-some = let cap = rising.sound.fitted.cap in let least = r.trims.least in omega arith

    mid-named : 0 < times_named key (cells_at mid.nodes parent)
    mid-named = let named = parent-named in let more = r.names key in omega arith

    pub mid-named_at : (at : ℕ) × IsNamedAt (cells_at mid.nodes parent) at key
    mid-named_at = named-at key (cells_at mid.nodes parent)
        (All-weaker (NamesChild mid.nodes rising.level parent) (λ c. c.number ≡ pos (key_of c)) (λ c is. is.names.number_is) (cells_at mid.nodes parent)
        (r.trims.opened.linked.children parent rising.level mid-parent_level)) mid-named

    mid-waits_not : times_named key (pending_nodes mid.pending.items) ≡ 0
    mid-waits_not =
        let one = r.trims.opened.linked.named key rising.level mid-key_level mid-not_root in
        let above = ap (times_named key) (above-some mid.nodes key parent mid-up ∙ inner-at_inner mid.nodes parent rising.level mid-parent_level) in
        let named = mid-named in
        omega arith

    inner-kept : (x i z : ℕ) → level_at t.nodes x ≡ Some i → suc rising.level < i → times_named z (inner_cells_at mid.nodes x) ≡ times_named z (inner_cells_at t.nodes x)
    inner-kept x zero z e high = absurd (omega arith)
    inner-kept x (suc i) z e high =
        let p : x ≢ key = λ same. let differ = same_Some (suc i) rising.level (sym e ∙ ap (level_at t.nodes) same ∙ rising.here) in absurd (omega arith) in
        let q : x ≢ parent = λ same. let differ = same_Some (suc i) (suc rising.level) (sym e ∙ ap (level_at t.nodes) same ∙ parent-level) in absurd (omega arith) in
        ap (times_named z) (inner-at_inner mid.nodes x i (r.trims.levels x (suc i) e) ∙ r.trims.cells x (suc i) e p q ∙ sym (inner-at_inner t.nodes x i e))

    pub mid-once : times_named key (cells_at mid.nodes parent) ≤ 1
    mid-once =
        let one = r.trims.opened.linked.named key rising.level mid-key_level mid-not_root in
        let above = ap (times_named key) (above-some mid.nodes key parent mid-up ∙ inner-at_inner mid.nodes parent rising.level mid-parent_level) in
        omega arith

    mid-way : LeadsUp mid.nodes mid.root found.0 parent
    mid-way = subst (λ y. LeadsUp mid.nodes y found.0 parent) (sym r.trims.root)
        (way-kept t.nodes t.root t.level t.pending.items rising.sound.linked mid.nodes (suc rising.level) found.0 parent (suc rising.level) found.1 parent-level (omega arith)
        (λ x i e high. r.trims.parents x i rising.level e rising.here (omega arith)) inner-kept)

    mid-parent_waits_not : times_named parent (pending_nodes mid.pending.items) ≡ 0
    mid-parent_waits_not = way-settled mid.nodes mid.root mid.level mid.pending.items r.trims.opened.linked found.0 parent (suc rising.level) mid-way mid-parent_level

    mid-parent_some : 1 ≤ length (cells_at mid.nodes parent)
    mid-parent_some = let old = rising.sound.fitted.some parent rising.level parent-level in let kept = r.kept in omega arith

    module _ (b : Slab (NodeCells D)) (n : NodeCells D) (has : get mid.nodes parent ≡ Some n) (done : Refits mid.nodes b key parent n) where
      abbrev m : NodeCells D
      m = record n { cells = set n.cells done.at done.cell }

      u : Updates mid.nodes b parent (Some m)
      u = done.nodes.updates

      lv : (x : ℕ) → level_at b x ≡ level_at mid.nodes x
      lv = same-at level_of mid.nodes b parent n m has u refl

      pr : (x : ℕ) → parent_at b x ≡ parent_at mid.nodes x
      pr = same-at parent_of mid.nodes b parent n m has u refl

      n-level : n.level ≡ suc rising.level
      n-level = same_Some n.level (suc rising.level) (sym (ap level_of has) ∙ mid-parent_level)

      leaves-same : (x : ℕ) → leaf_cells_of (get b x) ≡ leaf_cells_of (get mid.nodes x)
      leaves-same = same-at leaf_cells_of mid.nodes b parent n m has u
          (let e = n-level in leaf-none n.level (set n.cells done.at done.cell) (omega arith) ∙ sym (leaf-none n.level n.cells (omega arith)))

      long : length (cells_at b parent) ≡ length (cells_at mid.nodes parent)
      long = ap (λ s. length (cells_of s)) u.changed ∙ length-set n.cells done.at done.cell ∙ ap (λ s. length (cells_of s)) (sym has)

      pub refitted-linked : IsLinked b mid.root mid.level mid.pending.items
      refitted-linked = boxes-changed mid.nodes b mid.root mid.level mid.pending.items parent done.at n done.cell r.trims.opened.linked has done.within done.same_number u

      refitted-way : LeadsUp b mid.root found.0 parent
      refitted-way = way-kept mid.nodes mid.root mid.level mid.pending.items r.trims.opened.linked b (suc rising.level) found.0 parent (suc rising.level) mid-way mid-parent_level (omega arith)
          (λ x i e high. pr x)
          (λ x i z e high.
          let q : x ≢ parent = λ same. let differ = same_Some i (suc rising.level) (sym e ∙ ap (level_at mid.nodes) same ∙ mid-parent_level) in absurd (omega arith) in
          ap (λ s. times_named z (inner_cells_of s)) (u.others x q))

      refitted-sound : IsSound (record mid { nodes = b }) (Some parent)
      refitted-sound = record {
        linked = refitted-linked;
        fitted = refitted-fitted mid.capacity mid.nodes b mid.root mid.level mid.pending.items key parent rising.level n r.trims.opened.linked r.trims.opened.fitted has
            mid-parent_level mid-key_level mid-up mid-not_root (subst (λ c. least_fill c ≤ length (cells_at mid.nodes key)) (sym r.trims.capacity) r.trims.least)
            (subst (λ c. length (cells_at mid.nodes key) ≤ c) (sym r.trims.capacity) r.trims.most) mid-some mid-parent_waits_not mid-waits_not done
            (subst (λ s. 1 ≤ length (cells_of s)) has mid-parent_some);
        homes = homes-same (leaf_of int_eq mid.leaves) mid.nodes b mid.pending.items (λ x id. ap (times_listed id) (leaves-same x)) r.trims.opened.homes;
      }

      next : IsRising (record mid { nodes = b }) parent
      next = record {
        sound = refitted-sound;
        level = suc rising.level;
        here = lv parent ∙ mid-parent_level;
        steps = found.0;
        way = refitted-way;
        some = let some = mid-parent_some in let same = long in omega arith;
        filled = λ away.
            let least = rising.sound.fitted.least parent (suc rising.level) parent-level (λ e. away (e ∙ sym r.trims.root)) (λ e. apart (same_Some key parent e)) in
            let same = long in
            let kept = r.kept in
            subst (λ c. least_fill c ≤ length (cells_at b parent)) (sym r.trims.capacity) (omega arith);
        most = let few = parent-most in let same = long in let grown = r.grown in let c = r.trims.capacity in omega arith;
      }

      top-kept : length (cells_at t.nodes t.root) ≤ length (cells_at b mid.root)
      top-kept = elim (cases_eq t.root parent) [
        | inl here ↦
            let was = ap (λ y. length (cells_at t.nodes y)) here in
            let is = ap (λ y. length (cells_at b y)) (r.trims.root ∙ here) in
            let same = long in
            let kept = r.kept in
            omega arith
        | inr other ↦
            let same = ap length (ap (cells_at b) r.trims.root ∙ ap cells_of (u.others t.root other)
            ∙ r.trims.cells t.root t.level rising.sound.linked.root_level (λ e. key-not_root (sym e)) other) in
            omega arith
      ]

      keeps : KeepsRows t (record mid { nodes = b })
      keeps = record {
        rows = λ test.
            let e = n-level in
            let none-m = ap (count_by test) (leaf-none n.level (set n.cells done.at done.cell) (omega arith)) in
            let none-n = ap (count_by test) (leaf-none n.level n.cells (omega arith)) in
            rows-updated test mid.nodes b parent n m has u mid.pending.items mid.pending.items (omega arith) ∙ r.trims.rows test;
        ids = r.trims.ids;
        root = r.trims.root;
        level = r.trims.level;
        capacity = r.trims.capacity;
        room = done.nodes.room ∙ r.trims.room;
        pending_room = r.pending_room;
        top = top-kept;
      }

      same-numbers : numbers (set n.cells done.at done.cell) ≡ numbers n.cells
      same-numbers =
          let was : done.cell.number ≡ get_or (numbers n.cells) done.at done.cell.number =
          done.same_number ∙ sym (get_or-map (λ c. c.number) n.cells done.at done.cell done.cell.number done.within) in
          map-set (λ c. c.number) n.cells done.at done.cell ∙ ap (set (numbers n.cells) done.at) was ∙ set-get_or (numbers n.cells) done.at done.cell.number

      numbers-same : numbers (cells_at b parent) ≡ numbers (cells_at mid.nodes parent)
      numbers-same = ap (λ o. numbers (cells_of o)) u.changed ∙ same-numbers ∙ ap (λ o. numbers (cells_of o)) (sym has)

      key-same : cells_at b key ≡ cells_at mid.nodes key
      key-same = ap cells_of (u.others key apart)

      treated : (marks marks1 : ℕ) (work work1 : Work) → Treats t mid key parent marks marks1 work work1 → Treats t (record mid { nodes = b }) key parent marks marks1 work work1
      treated marks marks1 work work1 either = elim either [
        | inl is ↦ inl record {
          fits = is.fits;
          pending = is.pending;
          leaves = is.leaves;
          len = done.nodes.len ∙ is.len;
          above = long ∙ is.above;
          marks_same = is.marks_same;
          placements = is.placements;
          splits = is.splits;
          reinsertions = is.reinsertions;
        }
        | inr others ↦ elim others [
          | inl is ↦ inr (inl record {
            full = is.full;
            level = is.level;
            here = is.here;
            marked = is.marked;
            cell = is.cell;
            parts = subst (λ xs. Parts t.capacity (cells_at t.nodes key) xs (cells_at b (key_of is.cell))) (sym key-same)
                (subst (λ xs. Parts t.capacity (cells_at t.nodes key) (cells_at mid.nodes key) xs) (sym (ap cells_of (u.others (key_of is.cell) is.apart))) is.parts);
            apart = is.apart;
            appended = numbers-same ∙ is.appended;
            pending = is.pending;
            len = done.nodes.len ∙ is.len;
            above = long ∙ is.above;
            marks_same = is.marks_same;
            placements = is.placements;
            splits = is.splits;
            reinsertions = is.reinsertions;
          })
          | inr is ↦ inr (inr record {
            full = is.full;
            level = is.level;
            here = is.here;
            unmarked = is.unmarked;
            marked = is.marked;
            far = is.far;
            chosen = subst (λ xs. ReInserts t.capacity (cells_at t.nodes key) xs is.far) (sym key-same) is.chosen;
            share = is.share;
            pending = is.pending;
            beside = numbers-same ∙ is.beside;
            len = done.nodes.len ∙ is.len;
            above = long ∙ is.above;
            placements = is.placements;
            splits = is.splits;
            reinsertions = is.reinsertions;
          })
        ]
      ]

      refit-shape : (path : List ℕ) → Contains path key → (k : ℕ) → KeepsShape mid.nodes b path k
      refit-shape path on k = record {
        level = lv k;
        parent = pr k;
        rows = leaves-same k;
        numbers_same = elim (cases_eq k parent) [
          | inl e ↦ ap (λ y. numbers (cells_at b y)) e ∙ numbers-same ∙ ap (λ y. numbers (cells_at mid.nodes y)) (sym e)
          | inr other ↦ ap (λ s. numbers (cells_of s)) (u.others k other)
        ];
        boxes = λ j x off. elim (cases_eq k parent) [
          | inl e ↦
              let names : key_of (get_or n.cells done.at x) ≡ key =
              ap key_of (get_or_default n.cells done.at x done.cell done.within) ∙ ap unsigned_abs (sym done.same_number ∙ done.number_is) in
              let differs : j ≢ done.at = λ same. off (subst (Contains path)
              (sym (ap (λ y. key_of (get_or (cells_at mid.nodes y) j x)) e ∙ ap (λ s. key_of (get_or (cells_of s) j x)) has ∙ ap (λ y. key_of (get_or n.cells y x)) same ∙ names)) on) in
              ap (λ y. get_or (cells_at b y) j x) e ∙ ap (λ s. get_or (cells_of s) j x) u.changed ∙ get_or-set_other n.cells done.at j done.cell x differs
              ∙ ap (λ s. get_or (cells_of s) j x) (sym has) ∙ ap (λ y. get_or (cells_at mid.nodes y) j x) (sym e)
          | inr other ↦ ap (λ s. get_or (cells_of s) j x) (u.others k other)
        ];
      }

      pub lifted : (marks marks1 : ℕ) (work work1 : Work) → Treats t mid key parent marks marks1 work work1 → Lifts t (record mid { nodes = b }) key parent marks marks1 work work1
      lifted marks marks1 work work1 treats = record {
        next = next;
        parent_is = up;
        up = λ l e. lv parent ∙ mid-parent_level ∙ ap (λ i. Some (suc i)) (same_Some rising.level l (sym rising.here ∙ e));
        keeps = keeps;
        treats = treated marks marks1 work work1 treats;
        others = λ x l e p q. ap cells_of (u.others x q) ∙ r.trims.cells x l e p q;
        shape = λ fits path on k. subst (λ s. KeepsShape s.nodes b path k) (r.still fits) (refit-shape path on k);
      }
