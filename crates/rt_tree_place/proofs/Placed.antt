-- The whole of a placement.
use Rattle.std.proofs.Common.{◌≡◌, ◌≢◌, ◌⊎◌, ℕ, suc, ◌+◌, ◌-◌, ◌<◌, ◌≤◌, List, [], ◌∷◌, ◌++◌, length, get_or, Some, vec_capacity, arith, refl, ap, ◌∙◌, sym, subst, inl, inr}
use Rattle.std.specs.Ordering.{int_eq}
use Rattle.std.specs.List.{Contains}
use Rattle.std.proofs.lemmas.Bool.{cases_eq}
use Rattle.std.proofs.lemmas.Option.{none-some, same_Some}
use Rattle.std.proofs.lemmas.List.{length-append}
use Rattle.indexmap.specs.IndexMap.{get as leaf_of}
use Rattle.slab.specs.Slab.{Slab, get, slab_len}
use Rattle.rt_box.specs.Capacity.{reinsertion_share}
use Rattle.rt_tree_choice.specs.Split.{IsBestCut, first_group, second_group}
use Rattle.rt_tree_node.specs.declared.arena.Arena.{Arena}
use Rattle.rt_tree_node.specs.declared.arena.Work.{Work}
use Rattle.rt_tree_node.specs.declared.cell.Pending.{Pending}
use Rattle.rt_tree_node.specs.Node.{NodeCells}
use Rattle.rt_tree_place.specs.Path.{LeadsTo, KeepsShape}
use Rattle.rt_tree_node.specs.Places.{picked, rects, numbers, cells_of, leaf_cells_of, level_of, parent_of, cells_at, level_at, parent_at, count_rows, pending_at}
use Rattle.rt_tree_node.specs.Whole.{IsWhole, IsBranched}
use Rattle.rt_tree_node.specs.Open.{IsOpen}
use Rattle.rt_tree_node.proofs.Links.{same-at}
use Rattle.rt_tree_node.proofs.Places.{leaf-at_leaf}
use Rattle.rt_tree_place.specs.Placement.{JoinsLeaf, HalvesRoot, TakesRow, PlacesLast}
use Rattle.rt_tree_place.specs.Rise.{IsUpward, KeepsAllBut, StaysRoot, SplitsRoot, InsertsAgain, InsertsNone, Grows, Ascends, HasRisen, IsPending, Enters}
use Rattle.rt_tree_place.proofs.Shapes.{shape-then}
use Rattle.rt_tree_place.proofs.Upward.{path-last, path-upward}
use Rattle.rt_tree_place.proofs.WayDown.{node-from_level}

module _ {D : ℕ} where
  -- a tree whose last pending cell was taken off the list
  pub pending-from : (old s : Arena D) (entry : Pending D) → IsWhole old → old.pending.items ≡ s.pending.items ++ entry ∷ [] →
      IsPending (record old { pending = s.pending }) entry
  pending-from old s entry whole was =
      subst (IsOpen (λ x. ⊥) (record old { pending = s.pending })) was record {
        linked = whole.linked;
        fitted = record {
          cap = whole.fitted.cap;
          some = λ x l e fine. whole.fitted.some x l e;
          least = λ x l e away fine. whole.fitted.least x l e away (λ s. none-some x s);
          most = λ x l e fine. whole.fitted.most x l e (λ s. none-some x s);
          boxes = whole.fitted.boxes;
          hulls = λ x l e j d within fine. whole.fitted.hulls x l e j d within (λ s. none-some _ s);
          pending_boxes = whole.fitted.pending_boxes;
          pending_hulls = λ j d within l e fine. whole.fitted.pending_hulls j d within l e;
        };
        homes = whole.homes;
      }

  shape-same : (a b : Slab (NodeCells D)) (path : List ℕ) (k : ℕ) → get b k ≡ get a k → KeepsShape a b path k
  shape-same a b path k e = record {
    level = ap level_of e;
    parent = ap parent_of e;
    rows = ap leaf_cells_of e;
    numbers_same = ap (λ o. numbers (cells_of o)) e;
    boxes = λ at d off. ap (λ o. get_or (cells_of o) at d) e;
  }

module _ {D : ℕ} (old s0 s t u : Arena D) (entry : Pending D) (key marks marks1 : ℕ) (work work1 work2 work3 : Work)
    (whole : IsWhole old) (was : old.pending.items ≡ s0.pending.items ++ entry ∷ []) (room : vec_capacity s0.pending ≡ vec_capacity old.pending)
    (enters : Enters (record old { pending = s0.pending }) s entry key) (rises : HasRisen s t key t.root marks marks1 work work1) (ascends : Ascends s t key marks marks1) (grows : Grows t u work1 work2)
    (placements : work3.placements ≡ suc work2.placements) (splits : work3.splits ≡ work2.splits) (reinsertions : work3.reinsertions ≡ work2.reinsertions) where
  grown : length (cells_at s.nodes key) ≡ suc (length (cells_at old.nodes key))
  grown = ap length enters.cells ∙ length-append (cells_at old.nodes key) (entry.cell ∷ []) ∙ omega arith

  abbrev left : List (Pending D)
  left = s0.pending.items

  s-items : s.pending.items ≡ left
  s-items = ap (λ v. v.items) enters.pending

  waits : InsertsAgain old u left marks marks1 work work3 ⊎ InsertsNone u left marks marks1 work work3
  waits = elim rises.waits [
    | inl both ↦
        let is = both.0 in
        let level : t.level ≤ u.level = elim grows.split [ inl same ↦ (let e = ap (λ a. a.level) same.same in omega arith) | inr split ↦ (let e = split.height in omega arith) ] in
        let inner = is.inner in
        inl record {
          level = is.level;
          unmarked = is.unmarked;
          marked = is.marked;
          inner = omega arith;
          far = is.far;
          share = is.share ∙ ap reinsertion_share enters.capacity;
          pending = ap (λ v. v.items) grows.pending ∙ is.pending ∙ ap (λ ws. ws ++ pending_at is.level is.far) s-items;
          counted = reinsertions ∙ grows.reinsertions ∙ is.counted;
        }
    | inr is ↦ inr record {
      marked = is.marked;
      pending = ap (λ v. v.items) grows.pending ∙ is.pending ∙ s-items;
      counted = reinsertions ∙ grows.reinsertions ∙ is.counted;
    }
  ]

  root-is : t.root ≡ old.root
  root-is = rises.keeps.root ∙ enters.root

  level-is : t.level ≡ old.level
  level-is = rises.keeps.level ∙ enters.height

  top-kept : length (cells_at old.nodes old.root) ≤ length (cells_at t.nodes t.root)
  top-kept =
      let top = rises.keeps.top in
      let same = ap (λ y. length (cells_at s.nodes y)) enters.root in
      elim (cases_eq old.root key) [
        | inl here ↦
            let long = grown in
            let a = ap (λ y. length (cells_at old.nodes y)) here in
            let b = ap (λ y. length (cells_at s.nodes y)) here in
            omega arith
        | inr other ↦ let e = ap length (enters.others old.root other) in omega arith
      ]

  abbrev Ends : Type 0
  Ends = ((u.level ≡ old.level) ⊎ (u.level ≡ suc old.level)) × (work.splits ≤ work3.splits)
      × (slab_len u.nodes + work.splits + old.level ≡ slab_len old.nodes + work3.splits + u.level) × (IsBranched old → IsBranched u)

  ends : Ends
  ends =
      let level = level-is in
      let more = rises.splits in
      let len = rises.len in
      let first = enters.len in
      let same = splits in
      elim grows.split [
        | inl stays ↦
            let e = stays.same in
            let l = ap (λ a. a.level) e in
            let n = ap (λ a. slab_len a.nodes) e in
            let w = ap (λ v. v.splits) stays.work_same in
            let top = top-kept in
            let long = ap (λ a. length (cells_at a.nodes a.root)) e in
            (inl (l ∙ level), omega arith, omega arith, λ branched high. let two = branched (omega arith) in omega arith)
        | inr split ↦
            let l = split.height in
            let n = split.len in
            let w = split.splits in
            let long = ap length split.top in
            (inr (omega arith), omega arith, omega arith, λ branched high. omega arith)
      ]

  module _ (row : entry.level ≡ 0) where
    abbrev path : List ℕ
    path = enters.path

    leads : LeadsTo old.nodes 0 old.level old.root entry.cell.rect key path
    leads =
        let all : old.level - 0 ≡ old.level = omega arith in
        subst (λ n. LeadsTo old.nodes 0 n old.root entry.cell.rect key path) all
        (subst (λ l. LeadsTo old.nodes l (old.level - l) old.root entry.cell.rect key path) row enters.leads)

    here : (n : NodeCells D) × (get old.nodes key ≡ Some n) × (n.level ≡ entry.level)
    here = node-from_level old.nodes key entry.level enters.level

    leaf-level : level_at old.nodes key ≡ Some 0
    leaf-level = enters.level ∙ ap Some row

    others-same : (k : ℕ) → k ≢ key → get s.nodes k ≡ get old.nodes k
    others-same k other = ((enters.row row).1 here.0 here.1).updates.others k other

    parents-same : (k : ℕ) → parent_at s.nodes k ≡ parent_at old.nodes k
    parents-same = same-at parent_of old.nodes s.nodes key here.0 (record (here.0) { cells = (here.0).cells ++ entry.cell ∷ [] }) here.1
        (((enters.row row).1 here.0 here.1).updates) refl

    upward : IsUpward s.nodes path
    upward k p on up = elim (path-upward old.nodes whole.linked.children entry.cell.rect old.level old.root key path leads whole.linked.root_level k p on (sym (parents-same k) ∙ up)) [
      | inl first ↦ absurd (none-some p (sym whole.linked.root_parent ∙ ap (parent_at old.nodes) (sym first) ∙ sym (parents-same k) ∙ up))
      | inr above ↦ above
    ]

    on-path : Contains path key
    on-path = path-last old.nodes whole.linked.children entry.cell.rect old.level old.root key path leads

    joins-from : KeepsAllBut s t path t.root work work1 → StaysRoot t u work1 work2 →
        JoinsLeaf old u key path entry.cell × (work3.splits ≡ work.splits) × (work3.reinsertions ≡ work.reinsertions)
    joins-from is stays =
        let leaf_s : level_at s.nodes key ≡ Some 0 = enters.levels key ∙ leaf-level in
        let leaf_t : level_at t.nodes key ≡ Some 0 = (is.shape key).level ∙ leaf_s in
        let moves = (enters.row row).0 in
        let joined : JoinsLeaf old t key path entry.cell = record {
          root = root-is;
          height = level-is;
          level = (is.shape key).level ∙ enters.levels key;
          parent = (is.shape key).parent ∙ parents-same key;
          cells = sym (leaf-at_leaf t.nodes key leaf_t) ∙ (is.shape key).rows ∙ leaf-at_leaf s.nodes key leaf_s ∙ enters.cells;
          others = λ k other. shape-then old.nodes s.nodes t.nodes path k (shape-same old.nodes s.nodes path k (others-same k other)) (is.shape k);
          home = ap (λ m. leaf_of int_eq m entry.cell.number) is.leaves ∙ moves.here;
          homes = λ other differs. ap (λ m. leaf_of int_eq m other) is.leaves ∙ moves.others other differs;
        } in (
          subst (λ a. JoinsLeaf old a key path entry.cell) (sym stays.same) joined,
          splits ∙ ap (λ w. w.splits) stays.work_same ∙ is.splits,
          reinsertions ∙ ap (λ w. w.reinsertions) stays.work_same ∙ is.reinsertions,
        )

    joins : length (cells_at old.nodes key) < old.capacity →
        JoinsLeaf old u key path entry.cell × (work3.splits ≡ work.splits) × (work3.reinsertions ≡ work.reinsertions)
    joins fits =
        let long = grown in
        let c = enters.capacity in
        let is = rises.exact (omega arith) path upward on-path in
        elim grows.split [
          | inl stays ↦ joins-from is stays
          | inr split ↦ absurd (omega (arith, split.full, is.fits))
        ]

    root-leaf : t.root ≡ key → old.level ≡ 0
    root-leaf same =
        let e : level_at old.nodes old.root ≡ Some 0 = ap (level_at old.nodes) (sym root-is ∙ same) ∙ leaf-level in
        same_Some old.level 0 (sym whole.linked.root_level ∙ e)

    halves-from : t ≡ s → t.root ≡ key → work1 ≡ work → old.level ≡ 0 → SplitsRoot t u work1 work2 →
        HalvesRoot old u entry.cell × (work3.splits ≡ suc work.splits) × (work3.reinsertions ≡ work.reinsertions)
    halves-from same at work_is bottom split =
        let root : key ≡ old.root = sym at ∙ root-is in
        let cells : cells_at t.nodes t.root ≡ cells_at old.nodes old.root ++ entry.cell ∷ [] =
        ap (cells_at t.nodes) at ∙ ap (λ a. cells_at a.nodes key) same ∙ enters.cells ∙ ap (λ y. cells_at old.nodes y ++ entry.cell ∷ []) root in
        let c : t.capacity ≡ old.capacity = rises.keeps.capacity ∙ enters.capacity in (
          record {
            first = split.first;
            second = split.second;
            parts = record {
              cut = split.parts.cut;
              best = subst (λ m. IsBestCut D (rects (cells_at old.nodes old.root ++ entry.cell ∷ [])) m split.parts.cut) c
                  (subst (λ cs. IsBestCut D (rects cs) t.capacity split.parts.cut) cells split.parts.best);
              first_is = split.parts.first_is ∙ ap (λ cs. picked cs (first_group (rects cs) split.parts.cut)) cells;
              second_is = split.parts.second_is ∙ ap (λ cs. picked cs (second_group (rects cs) split.parts.cut)) cells;
            };
            height = split.height ∙ ap suc (level-is ∙ bottom);
            top = split.top;
          },
          splits ∙ split.splits ∙ ap (λ w. suc w.splits) work_is,
          reinsertions ∙ grows.reinsertions ∙ ap (λ w. w.reinsertions) work_is,
        )

    rising-top : rises.rising.level ≡ old.level
    rising-top = same_Some rises.rising.level old.level (sym rises.rising.here ∙ rises.rising.sound.linked.root_level ∙ ap Some level-is)

    halves : old.level ≡ 0 → old.capacity ≤ length (cells_at old.nodes key) →
        HalvesRoot old u entry.cell × (work3.splits ≡ suc work.splits) × (work3.reinsertions ≡ work.reinsertions)
    halves bottom full = elim rises.first [
      | inl at ↦ elim grows.split [
        | inl stays ↦
            let long = grown in
            let e = ap (λ y. length (cells_at t.nodes y)) at.key_is in
            let f = ap (λ a. length (cells_at a.nodes key)) at.same in
            let c = rises.keeps.capacity in
            let d = enters.capacity in
            let fits = stays.fits in
            absurd (omega arith)
        | inr split ↦ halves-from at.same at.key_is at.work_is bottom split
      ]
      | inr stepped ↦ let higher = stepped.higher in let top = rising-top in absurd (omega arith)
    ]

    again : 1 ≤ old.level → old.capacity ≤ length (cells_at old.nodes key) → marks ≡ 0 → work3.reinsertions ≡ suc work.reinsertions
    again high full unmarked = elim rises.first [
      | inl at ↦ let bottom = root-leaf at.key_is in absurd (omega arith)
      | inr stepped ↦
          let long = grown in
          let c = enters.capacity in
          reinsertions ∙ grows.reinsertions ∙ stepped.again (omega arith) unmarked
    ]

    takes-row : TakesRow old u entry.cell marks work work3
    takes-row = record { leaf = key; path = path; leads = leads; joins = joins; halves = halves; again = again }

  pub placed : PlacesLast old u marks marks1 work work3
  placed = record {
    left = left;
    entry = entry;
    was = was;
    without = record old { pending = s0.pending };
    without_is = refl;
    left_waits = refl;
    inserts = record {
      key = key;
      entered = s;
      enters = enters;
      risen = t;
      ascends = ascends;
      work = work1;
      work1 = work2;
      grows = grows;
    };
    whole = grows.whole;
    rows = λ test. grows.rows test ∙ rises.keeps.rows test ∙ enters.rows test ∙ ap (count_rows test old.nodes) (sym was);
    ids = record {
      ids = grows.ids.ids ∙ rises.keeps.ids.ids ∙ enters.ids.ids;
      len = grows.ids.len ∙ rises.keeps.ids.len ∙ enters.ids.len;
      room = grows.ids.room ∙ rises.keeps.ids.room ∙ enters.ids.room;
    };
    capacity = grows.capacity ∙ rises.keeps.capacity ∙ enters.capacity;
    room = grows.room ∙ rises.keeps.room ∙ enters.room;
    pending_room =
        let a = ap (λ v. vec_capacity v) enters.pending in
        let b = rises.keeps.pending_room in
        let c = ap (λ v. vec_capacity v) grows.pending in
        omega (arith, a, b, c, room);
    branched = ends.3;
    height = ends.0;
    waits = waits;
    placements = placements ∙ ap suc (grows.placements ∙ rises.placements);
    splits = ends.1;
    len = ends.2;
    row = takes-row;
  }
