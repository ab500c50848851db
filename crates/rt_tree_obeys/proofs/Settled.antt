-- Placements one after the other are those of the rules.
use Rattle.std.proofs.Common.{◌≡◌, ◌≢◌, ◌+◌, ◌*◌, inl, inr, ℕ, zero, suc, ◌<◌, ◌≤◌, List, [], ◌∷◌, ◌++◌, map, length, reverse, refl, sym, ap, ◌∙◌, subst, arith, length-append}
use Rattle.std.proofs.Math.Nat.{mul-suc, le_of_mul-le-mul_left}
use Rattle.std.specs.List.{All}
use Rattle.rt_box.specs.Capacity.{IsCapacity, reinsertion_share}
use Rattle.std.proofs.lemmas.Option.{none-some}
use Rattle.std.proofs.lemmas.List.{append-nil, length-map, length-reverse, nil_from_length}
use Rattle.std.proofs.lemmas.List.Elements.{All-nil, All-cons}
use Rattle.rt_tree_node.specs.declared.arena.Arena.{Arena}
use Rattle.rt_tree_node.specs.declared.arena.Work.{Work as Counts}
use Rattle.rt_tree_node.specs.declared.cell.Cell.{Cell}
use Rattle.rt_tree_node.specs.declared.cell.Pending.{Pending}
use Rattle.rt_tree_node.specs.Places.{key_of, hull_at, pending_at}
use Rattle.rt_tree_node.specs.Sound.{IsLinked, Names}
use Rattle.rt_tree_node.specs.Whole.{IsWhole}
use Rattle.rt_tree_place.specs.NewRow.{AwaitsLeaf, pending_row}
use Rattle.rt_tree_place.specs.Placement.{PlacesLast}
use Rattle.rt_tree_place.specs.Turns.{PlacesInTurn}
use Rattle.rt_tree_rules.specs.Nested.{Tree, Waiting}
use Rattle.rt_tree_rules.specs.Placing.{Work, Standing, insert_one, place, places, start, Settles}
use Rattle.rt_tree_rules.proofs.Counted.{inserts}
use Rattle.rt_tree_obeys.specs.View.{tree_in, waiting_in, waiting_cells}
use Rattle.rt_tree_obeys.specs.Laws.{Stands, Obeys, CountsAs, SettlingObeys, InsertionObeys}
use Rattle.rt_tree_obeys.proofs.Placed.{placing}

places_more : (axes K n : ℕ) (s : Standing) → places axes K (suc n) s ≡ place axes K (places axes K n s)
places_more axes K zero s = refl
places_more axes K (suc n) s = places_more axes K n (place axes K s)

-- the share is one cell at least
share_some : (K : ℕ) → IsCapacity K → 0 < reinsertion_share K
share_some K valid = let low = valid.0 in omega arith

cancel : (k m n : ℕ) → 0 < k → k * m ≡ k * n → m ≡ n
cancel k m n some e =
    let up : m ≤ n = le_of_mul-le-mul_left (omega (arith, e)) some in
    let down : n ≤ m = le_of_mul-le-mul_left (omega (arith, e)) some in
    omega arith

pub stands_whole : {D : ℕ} (t : Arena D) → IsWhole t → Stands t
stands_whole t whole = record {
  linked = whole.linked;
  hulls = λ key l here k d within. whole.fitted.hulls key l here k d within (λ e. none-some _ e);
  pending_hulls = whole.fitted.pending_hulls;
}

module _ {D : ℕ} (old : Arena D) (base : List Waiting) (entry : Waiting) where
  -- so far, after a number of placements
  record SoFar (t : Arena D) (marks : ℕ) (work : Counts) : Type 0 where
    count : ℕ
    waits : List Waiting
    effort : Work
    is : places D old.capacity count (start D old.capacity (tree_in old) entry)
        ≡ record { tree = tree_in t; course = record { marks = marks; waiting = waits; work = effort } }
    pending : waiting_cells t ≡ base ++ reverse waits
    stands : Stands t
    capacity : t.capacity ≡ old.capacity
    counts : CountsAs work effort

  -- of the cells that waited one was placed, and a share of cells more waits if a node gave up cells
  counted : (t u : Arena D) (marks marks1 : ℕ) (work work1 : Counts) (so_far : SoFar t marks work) → PlacesLast t u marks marks1 work work1 →
      {w : Waiting} (rest : List Waiting) → so_far.waits ≡ w ∷ rest → (obeys : Obeys t u base rest marks marks1 w so_far.effort) →
      CountsAs work1 obeys.spent
  counted t u marks marks1 work work1 so_far last {w = w} rest is_waits obeys =
      let K = t.capacity in
      let share = reinsertion_share K in
      let valid : IsCapacity K = subst IsCapacity last.capacity last.whole.fitted.cap in
      let e = so_far.effort in
      let c = inserts D K valid (tree_in t) w record { marks = marks; waiting = rest; work = e } in
      let placements : obeys.spent.placements ≡ suc e.placements = sym (ap (λ (s : Standing). s.course.work.placements) obeys.inserted) ∙ c.placements in
      let waits : length obeys.waits + share * e.reinsertions ≡ length rest + share * obeys.spent.reinsertions
      = subst (λ (s : Standing). length s.course.waiting + share * e.reinsertions ≡ length rest + share * s.course.work.reinsertions) obeys.inserted c.waits in
      let was : length t.pending.items ≡ length base + suc (length rest)
      = sym (length-map t.pending.items (waiting_in t.nodes)) ∙ ap (length {A = Waiting}) (so_far.pending ∙ ap (λ vs. base ++ reverse vs) is_waits)
      ∙ length-append base (reverse (w ∷ rest)) ∙ ap (λ n. length base + n) (length-reverse (w ∷ rest)) in
      let is : length u.pending.items ≡ length base + length obeys.waits
      = sym (length-map u.pending.items (waiting_in u.nodes)) ∙ ap (length {A = Waiting}) obeys.pending
      ∙ length-append base (reverse obeys.waits) ∙ ap (λ n. length base + n) (length-reverse obeys.waits) in
      let left : length t.pending.items ≡ length last.left + 1 = ap (length {A = Pending D}) last.was ∙ length-append last.left (last.entry ∷ []) in
      let more : work1.reinsertions ≡ obeys.spent.reinsertions = elim last.waits [
        | inl again ↦
            let long : length u.pending.items ≡ length last.left + share
            = ap (length {A = Pending D}) again.pending ∙ length-append last.left (pending_at again.level again.far)
            ∙ ap (λ n. length last.left + n) (length-map again.far (λ (x : Cell D). record { level = again.level; cell = x }) ∙ again.share) in
            let step = mul-suc share e.reinsertions in
            let next : suc e.reinsertions ≡ obeys.spent.reinsertions
            = cancel share (suc e.reinsertions) obeys.spent.reinsertions (share_some K valid) (omega (arith, step, waits, was, is, left, long)) in
            again.counted ∙ ap suc so_far.counts.reinsertions ∙ next
        | inr none ↦
            let long : length u.pending.items ≡ length last.left = ap (length {A = Pending D}) none.pending in
            let same : e.reinsertions ≡ obeys.spent.reinsertions
            = cancel share e.reinsertions obeys.spent.reinsertions (share_some K valid) (omega (arith, waits, was, is, left, long)) in
            none.counted ∙ so_far.counts.reinsertions ∙ same
      ] in
      record { placements = last.placements ∙ ap suc so_far.counts.placements ∙ sym placements; reinsertions = more }

  more : (t u : Arena D) (marks marks1 : ℕ) (work work1 : Counts) → SoFar t marks work → length base < length t.pending.items → PlacesLast t u marks marks1 work work1 →
      SoFar u marks1 work1
  more t u marks marks1 work work1 so_far some last = by so_far.waits refl
    where
      by : (waits : List Waiting) → so_far.waits ≡ waits → SoFar u marks1 work1
      by [] none =
          let all = ap (length {A = Waiting}) (so_far.pending ∙ ap (λ vs. base ++ reverse vs) none ∙ append-nil base) in
          let long = length-map t.pending.items (waiting_in t.nodes) in
          absurd (omega arith)
      by (w ∷ rest) is_waits =
          let K = old.capacity in
          let obeys = placing D t u marks marks1 work work1 base rest w so_far.effort so_far.stands last (so_far.pending ∙ ap (λ vs. base ++ reverse vs) is_waits) in
          let s = start D K (tree_in old) entry in
          let is_next : places D K (suc so_far.count) s ≡ record { tree = tree_in u; course = record { marks = marks1; waiting = obeys.waits; work = obeys.spent } }
          = places_more D K so_far.count s ∙ ap (place D K) so_far.is
          ∙ ap (λ vs. place D K record { tree = tree_in t; course = record { marks = marks; waiting = vs; work = so_far.effort } }) is_waits
          ∙ ap (λ (k : ℕ). insert_one D k (tree_in t) w record { marks = marks; waiting = rest; work = so_far.effort }) (sym so_far.capacity)
          ∙ obeys.inserted in
          record {
            count = suc so_far.count;
            waits = obeys.waits;
            effort = obeys.spent;
            is = is_next;
            pending = obeys.pending;
            stands = stands_whole u last.whole;
            capacity = last.capacity ∙ so_far.capacity;
            counts = counted t u marks marks1 work work1 so_far last rest is_waits obeys;
          }

  in_turn : (n : ℕ) → n ≡ length base → Stands old → waiting_cells old ≡ base ++ entry ∷ [] → (t : Arena D) (marks : ℕ) (work : Counts) →
      PlacesInTurn old n t marks work → SoFar t marks work
  in_turn n n_is stands pending t marks work (PlacesInTurn.none) = record {
    count = 0;
    waits = entry ∷ [];
    effort = record { placements = 0; splits = 0; reinsertions = 0 };
    is = refl;
    pending = pending;
    stands = stands;
    capacity = refl;
    counts = record { placements = refl; reinsertions = refl };
  }
  in_turn n n_is stands pending t marks work (PlacesInTurn.next {t = m} {marks = marks0} {work = work0} before some last) =
      more m t marks0 marks work0 work (in_turn n n_is stands pending m marks0 work0 before) (omega arith) last

ends_whole : {D : ℕ} (old new : Arena D) (n marks : ℕ) (work : Counts) → PlacesInTurn old n new marks work → new ≢ old → IsWhole new
ends_whole old new n marks work (PlacesInTurn.none) differs = absurd (differs refl)
ends_whole old new n marks work (PlacesInTurn.next before some last) differs = last.whole

pub settling : SettlingObeys
settling axes old new marks work base entry stands pending turns few =
    let so_far = in_turn old base entry (length base) refl stands pending new marks work turns in
    let all = ap (length {A = Waiting}) so_far.pending ∙ length-append base (reverse so_far.waits) in
    let long = length-map new.pending.items (waiting_in new.nodes) in
    let turned = length-reverse so_far.waits in
    let start_long : length old.pending.items ≡ length base + 1
    = sym (length-map old.pending.items (waiting_in old.nodes)) ∙ ap (length {A = Waiting}) pending ∙ length-append base (entry ∷ []) in
    let none : so_far.waits ≡ [] = nil_from_length so_far.waits (omega arith) in
    record {
      effort = so_far.effort;
      counts = so_far.counts;
      settles = record {
        count = so_far.count;
        none_waits = ap (λ (s : Standing). s.course.waiting) so_far.is ∙ none;
        tree_is = sym (ap (λ (s : Standing). s.tree) so_far.is);
        work_is = sym (ap (λ (s : Standing). s.course.work) so_far.is);
      };
      pending = so_far.pending ∙ ap (λ vs. base ++ reverse vs) none ∙ append-nil base;
      whole = ends_whole old new (length base) marks work turns (λ e. absurd (omega (arith, ap (λ (t : Arena axes). length t.pending.items) e, start_long)));
      capacity = so_far.capacity;
    }

row_stands : {D : ℕ} (before awaiting : Arena D) (c : Cell D) → IsWhole before → before.pending.items ≡ [] → AwaitsLeaf before awaiting c → Stands awaiting
row_stands {D = D} before awaiting c whole idle awaits =
    let pending : awaiting.pending.items ≡ pending_row c ∷ [] = awaits.pending ∙ ap (λ ws. ws ++ pending_row c ∷ []) idle in
    let linked : IsLinked before.nodes before.root before.level [] = subst (IsLinked before.nodes before.root before.level) idle whole.linked in
    let named : Pending D → Type 0 = λ w. (l : ℕ) → w.level ≡ suc l → Names before.nodes l w.cell in
    let hulls_are : Pending D → Type 0 = λ w. (l : ℕ) → w.level ≡ suc l → w.cell.rect ≡ hull_at before.nodes (key_of w.cell) in
    let with_row : IsLinked before.nodes before.root before.level (pending_row c ∷ []) = record {
      root_level = linked.root_level;
      root_parent = linked.root_parent;
      root_waits_not = refl;
      levels = linked.levels;
      children = linked.children;
      named = linked.named;
      pending_levels = All-cons (λ w. w.level ≤ before.level) (pending_row c) [] (omega arith) (All-nil (λ w. w.level ≤ before.level));
      pending_named = All-cons named (pending_row c) [] (λ l e. absurd (omega arith)) (All-nil named);
    } in
    subst Stands (sym awaits.rest) record {
      linked = subst (IsLinked before.nodes before.root before.level) (sym pending) with_row;
      hulls = (stands_whole before whole).hulls;
      pending_hulls = subst (All hulls_are) (sym pending)
          (All-cons hulls_are (pending_row c) [] (λ l e. absurd (omega arith)) (All-nil hulls_are));
    }

record Ruled (axes K : ℕ) (old new : Tree) (row : Waiting) (work : Counts) : Type 0 where
  effort : Work
  settles : Settles axes K old row new effort
  counts : CountsAs work effort

pub insertion : InsertionObeys
insertion axes before awaiting after id rect marks work whole idle awaits turns none_waits =
    let c : Cell axes = record { number = id; rect = rect } in
    let pending : awaiting.pending.items ≡ pending_row c ∷ [] = awaits.pending ∙ ap (λ ws. ws ++ pending_row c ∷ []) idle in
    let stands = row_stands before awaiting c whole idle awaits in
    let row : Waiting = record { level = 0; entry = record { id = id; rect = rect } } in
    let settled = settling axes awaiting after marks work [] row stands (ap (map (waiting_in awaiting.nodes)) pending) turns (ap (length {A = Pending axes}) none_waits) in
    let tree : tree_in awaiting ≡ tree_in before = ap tree_in awaits.rest in
    let capacity : awaiting.capacity ≡ before.capacity = ap (λ (t : Arena axes). t.capacity) awaits.rest in
    let ruled : Ruled axes awaiting.capacity (tree_in awaiting) (tree_in after) row work
    = record { effort = settled.effort; settles = settled.settles; counts = settled.counts } in
    let moved = subst (λ (k : ℕ). Ruled axes k (tree_in before) (tree_in after) row work) capacity
    (subst (λ (x : Tree). Ruled axes awaiting.capacity x (tree_in after) row work) tree ruled) in
    record { effort = moved.effort; insertion = moved.settles; counts = moved.counts; whole = settled.whole; capacity = settled.capacity ∙ capacity }
