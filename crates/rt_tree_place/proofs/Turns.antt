-- The placing of pending cells, one turn after the other.
use Rattle.std.proofs.Common.{◌≡◌, ◌≢◌, ◌⊎◌, ℕ, suc, ◌+◌, ◌-◌, ◌*◌, ◌^◌, ◌<◌, ◌≤◌, Bool, true, List, [], ◌∷◌, length, take, vec_len, vec_capacity, arith, refl, ap, sym, subst, ◌∙◌, inl, inr, length-append}
use Rattle.std.proofs.Math.Nat.{mul-suc, mul-le-mul_right}
use Rattle.std.proofs.lemmas.Bool.{cases_lt}
use Rattle.std.proofs.lemmas.List.{same_from_push, take-append-le, take_all}
use Rattle.slab.specs.Slab.{slab_len, HasRoomFor}
use Rattle.rt_box.specs.Capacity.{IsCapacity, least_fill, reinsertion_share}
use Rattle.rt_tree_node.specs.declared.arena.Arena.{Arena}
use Rattle.rt_tree_node.specs.declared.arena.Work.{Work}
use Rattle.rt_tree_node.specs.declared.cell.Cell.{Cell}
use Rattle.rt_tree_node.specs.declared.cell.Pending.{Pending}
use Rattle.rt_tree_node.specs.Places.{no_cell, count_rows, pending_at}
use Rattle.rt_tree_node.specs.Whole.{IsWhole, IsBranched, HasRoom, row_count}
use Rattle.rt_tree_node.specs.Homes.{KeepsIds}
use Rattle.rt_tree_node.specs.Settles.{Settles}
use Rattle.rt_tree_place.specs.Placement.{PlacesLast, TakesRow}
use Rattle.rt_tree_place.specs.Rise.{InsertsAgain}
use Rattle.rt_tree_place.specs.Turns.{PlacesInTurn, CountsWork, PlacesRow}
use Rattle.rt_tree_place.proofs.Few.{few-levels, few-levels-waiting, few-pending, fewer-nodes_than_rows, room-for}

share-few : (capacity : ℕ) → IsCapacity capacity → reinsertion_share capacity ≤ 15
share-few capacity is = let high = is.1 in omega arith

-- none was done
abbrev no_work : Work
no_work = record { placements = 0; splits = 0; reinsertions = 0 }

module _ {D : ℕ} where
  long-pending : (l : ℕ) (cells : List (Cell D)) → length (pending_at l cells) ≡ length cells
  long-pending l [] = refl
  long-pending l (c ∷ cells) = ap suc (long-pending l cells)

  -- before the first turn
  pub record Unturned (old now : Arena D) (marks : ℕ) (work : Work) : Type 0 where
    pub same : now ≡ old
    pub unmarked : marks ≡ 0
    pub no_splits : work.splits ≡ 0
    pub no_reinsertions : work.reinsertions ≡ 0

  -- after the first turn, which placed a row that waited alone
  pub record Turned (old now : Arena D) (cell : Cell D) (work : Work) : Type 0 where
    pub places : PlacesRow old now cell work
    pub done : work.reinsertions ≡ 0 → vec_len now.pending ≡ 0

  -- as between two turns
  pub record Progress (old now : Arena D) (base marks : ℕ) (work : Work) : Type 0 where
    pub whole : IsWhole now
    pub base_waits : base ≤ vec_len now.pending
    pub first : take base now.pending.items ≡ take base old.pending.items
    pub rows : (test : Cell D → Bool) →
        count_rows test now.nodes now.pending.items ≡ count_rows test old.nodes old.pending.items
    pub ids : KeepsIds old.leaves now.leaves
    pub capacity : now.capacity ≡ old.capacity
    pub room : now.nodes.capacity ≡ old.nodes.capacity
    pub pending_room : vec_capacity now.pending ≡ vec_capacity old.pending
    pub branched : IsBranched old → IsBranched now
    pub turns : PlacesInTurn old base now marks work
    pub placements : vec_len now.pending + work.placements ≡ vec_len old.pending + reinsertion_share old.capacity * work.reinsertions
    pub few : work.reinsertions ≤ marks
    pub marked : marks ≤ now.level
    pub grown : old.level ≤ now.level
    pub nodes : slab_len now.nodes + old.level ≡ slab_len old.nodes + work.splits + now.level
    pub alone : (cell : Cell D) → old.pending.items ≡ record { level = 0; cell = cell } ∷ [] →
        Unturned old now marks work ⊎ Turned old now cell work

  pub progress-none : (t : Arena D) (base : ℕ) → IsWhole t → base < vec_len t.pending → Progress t t base 0 no_work
  progress-none t base whole waits = record {
    whole = whole;
    base_waits = omega arith;
    first = refl;
    rows = λ test. refl;
    ids = record { ids = refl; len = refl; room = refl };
    capacity = refl;
    room = refl;
    pending_room = omega arith;
    branched = λ h. h;
    turns = PlacesInTurn.none;
    placements = omega arith;
    few = omega arith;
    marked = omega arith;
    grown = omega arith;
    nodes = omega arith;
    alone = λ cell e. inl record { same = refl; unmarked = refl; no_splits = refl; no_reinsertions = refl };
  }

  module _ (old now new : Arena D) (base marks marks1 : ℕ) (work work1 : Work) (p : Progress old now base marks work)
      (more : base < vec_len now.pending) (places : PlacesLast now new marks marks1 work work1) where
    left-long : vec_len now.pending ≡ suc (length places.left)
    left-long = omega (arith, ap length places.was, length-append places.left (places.entry ∷ []))

    share-same : reinsertion_share now.capacity ≡ reinsertion_share old.capacity
    share-same = ap reinsertion_share p.capacity

    take-left : take base now.pending.items ≡ take base places.left
    take-left = ap (take base) places.was ∙ take-append-le base places.left (places.entry ∷ []) (omega (arith, left-long))

    again-long : InsertsAgain now new places.left marks marks1 work work1 → vec_len new.pending ≡ length places.left + reinsertion_share old.capacity
    again-long a = omega (
      arith,
      ap length a.pending,
      length-append places.left (pending_at a.level a.far),
      long-pending a.level a.far,
      a.share,
      share-same,
    )

    -- how many cells wait, and which levels are marked
    fewer : reinsertion_share old.capacity ≤ 15 → vec_len new.pending + 16 * (32 - marks1) < vec_len now.pending + 16 * (32 - marks) ⊎ (32 ≤ marks)
    fewer share = elim places.waits [
      | inl a ↦ elim (cases_lt marks 32) [
        | inl low ↦ inl (omega (arith, again-long a, left-long, a.unmarked, a.marked))
        | inr high ↦ inr high
      ]
      | inr n ↦ inl (omega (arith, ap length n.pending, left-long, ap (λ k. 16 * (32 - k)) n.marked))
    ]

    row-alone : (cell : Cell D) → old.pending.items ≡ record { level = 0; cell = cell } ∷ [] → Unturned old now marks work →
        (places.left ≡ []) × (places.entry ≡ record { level = 0; cell = cell })
    row-alone cell is u =
        same_from_push places.left [] places.entry record { level = 0; cell = cell }
        (sym places.was ∙ ap (λ (t : Arena D). t.pending.items) u.same ∙ is)

    first-taken : (cell : Cell D) → old.pending.items ≡ record { level = 0; cell = cell } ∷ [] → Unturned old now marks work →
        TakesRow old new cell marks work work1
    first-taken cell is u =
        let e = (row-alone cell is u).1 in
        let taken = places.row (ap (λ (w : Pending D). w.level) e) in
        subst (λ (t : Arena D). TakesRow t new cell marks work work1) u.same
        (subst (λ (w : Pending D). TakesRow now new w.cell marks work work1) e taken)

    first-done : (cell : Cell D) → old.pending.items ≡ record { level = 0; cell = cell } ∷ [] → Unturned old now marks work →
        work1.reinsertions ≡ 0 → vec_len new.pending ≡ 0
    first-done cell is u none = elim places.waits [
      | inl a ↦ absurd (omega (arith, a.counted, none))
      | inr n ↦ omega (arith, ap length n.pending, ap length (row-alone cell is u).0)
    ]

    first-turn : (cell : Cell D) → old.pending.items ≡ record { level = 0; cell = cell } ∷ [] → Unturned old now marks work → Turned old new cell work1
    first-turn cell is u =
        let taken = first-taken cell is u in
        record {
          places = record {
            leaf = taken.leaf;
            path = taken.path;
            leads = taken.leads;
            joins = λ room. let j = taken.joins room in (j.0, j.1 ∙ u.no_splits, j.2 ∙ u.no_reinsertions);
            halves = λ low full. let h = taken.halves low full in (h.0, h.1 ∙ ap suc u.no_splits, h.2 ∙ u.no_reinsertions);
            again = λ high full. omega (arith, taken.again high full u.unmarked);
          };
          done = first-done cell is u;
        }

    -- reinsertions are counted, and never taken back
    counted-on : work.reinsertions ≤ work1.reinsertions
    counted-on = elim places.waits [ inl a ↦ omega (arith, a.counted) | inr n ↦ omega (arith, n.counted) ]

    later-turn : (cell : Cell D) → Turned old now cell work → Turned old new cell work1
    later-turn cell t =
        let some : work.reinsertions ≢ 0 = λ none. let e = t.done none in omega arith in
        let on = counted-on in
        record {
          places = record {
            leaf = t.places.leaf;
            path = t.places.path;
            leads = t.places.leads;
            joins = λ room. absurd (some (t.places.joins room).2);
            halves = λ low full. absurd (some (t.places.halves low full).2);
            again = λ high full. omega (arith, t.places.again high full);
          };
          done = λ none. absurd (some (omega arith));
        }

    turn-placements : vec_len new.pending + work1.placements ≡ vec_len old.pending + reinsertion_share old.capacity * work1.reinsertions
    turn-placements =
        let before = p.placements in
        let one = places.placements in
        elim places.waits [
          | inl a ↦
              let step = ap (λ r. reinsertion_share old.capacity * r) a.counted ∙ mul-suc (reinsertion_share old.capacity) work.reinsertions in
              omega (arith, step, again-long a, left-long)
          | inr n ↦
              let step = ap (λ r. reinsertion_share old.capacity * r) n.counted in
              omega (arith, step, ap length n.pending, left-long)
        ]

    grows : now.level ≤ new.level
    grows = elim places.height [ inl same ↦ omega arith | inr higher ↦ omega arith ]

    pub progress-turn : Progress old new base marks1 work1
    progress-turn =
        let grown = grows in
        let few = p.few in
        let marked = p.marked in
        record {
          whole = places.whole;
          base_waits = elim places.waits [ inl a ↦ omega (arith, again-long a, left-long) | inr n ↦ omega (arith, ap length n.pending, left-long) ];
          first = elim places.waits [
            | inl a ↦ ap (take base) a.pending ∙ take-append-le base places.left (pending_at a.level a.far) (omega (arith, left-long)) ∙ sym take-left ∙ p.first
            | inr n ↦ ap (take base) n.pending ∙ sym take-left ∙ p.first
          ];
          rows = λ test. places.rows test ∙ p.rows test;
          ids = record { ids = places.ids.ids ∙ p.ids.ids; len = places.ids.len ∙ p.ids.len; room = places.ids.room ∙ p.ids.room };
          capacity = places.capacity ∙ p.capacity;
          room = places.room ∙ p.room;
          pending_room = let a = p.pending_room in let b = places.pending_room in omega arith;
          branched = λ h. places.branched (p.branched h);
          turns = PlacesInTurn.next p.turns (omega (arith, more)) places;
          placements = turn-placements;
          few = elim places.waits [ inl a ↦ omega (arith, a.counted, a.unmarked, a.marked) | inr n ↦ omega (arith, n.counted, n.marked) ];
          marked = elim places.waits [ inl a ↦ omega (arith, a.marked, a.inner) | inr n ↦ omega (arith, n.marked) ];
          grown = omega (arith, p.grown);
          nodes = let a = p.nodes in let b = places.len in omega arith;
          alone = λ cell is. inr (elim (p.alone cell is) [ inl u ↦ first-turn cell is u | inr t ↦ later-turn cell t ]);
        }

    pub measure-falls : row_count now ≤ 2 ^ 31 → vec_len new.pending + 16 * (32 - marks1) < vec_len now.pending + 16 * (32 - marks)
    measure-falls rows = elim (fewer (share-few old.capacity (subst IsCapacity p.capacity p.whole.fitted.cap))) [
      | inl falls ↦ falls
      | inr high ↦ let low = few-levels now p.whole 31 rows in let marked = p.marked in absurd (omega arith)
    ]

  -- what a turn takes is there
  pub record MayTurn (t : Arena D) (work : Work) : Type 0 where
    pub axes : D ≤ 3
    pub height : t.level ≤ 30
    pub room : HasRoomFor t.nodes 32
    pub keys : t.nodes.capacity ≤ 2 ^ 62
    pub pending_room : vec_len t.pending + 15 ≤ vec_capacity t.pending
    pub placements : work.placements + 1 < 2 ^ 32
    pub splits : work.splits ≤ 2 ^ 31
    pub reinsertions : work.reinsertions ≤ 2 ^ 31

  axes-known : (t : Arena D) → IsWhole t → 1 ≤ vec_len t.pending → D ≤ 3
  axes-known t whole waits = (whole.fitted.pending_boxes 0 record { level = 0; cell = no_cell } (omega arith)).few

  same-rows : (old now : Arena D) (base marks : ℕ) (work : Work) → Progress old now base marks work → row_count now ≡ row_count old
  same-rows old now base marks work p = p.rows (λ c. true)

  pub rows-bounded : (old now : Arena D) (base marks : ℕ) (work : Work) → Progress old now base marks work → row_count old ≤ 2 ^ 31 → row_count now ≤ 2 ^ 31
  rows-bounded old now base marks work p rows = omega (arith, same-rows old now base marks work p)

  -- as much room as before
  pub room-kept : (s t : Arena D) (m n : ℕ) → m ≤ n → t.capacity ≡ s.capacity → t.nodes.capacity ≡ s.nodes.capacity → HasRoom s n → HasRoom t m
  room-kept s t m n no_more same_capacity same_room room =
      let w = ap (λ M. (least_fill M - 1) * 33) same_capacity in
      let x = ap (λ M. (least_fill M - 1) * t.nodes.capacity) same_capacity in
      let y = ap (λ c. (least_fill s.capacity - 1) * c) same_room in
      let nodes = room.nodes in
      let keys = room.keys in
      record { nodes = omega arith; keys = omega arith }

  pub may-turn : (old now : Arena D) (base marks : ℕ) (work : Work) → Progress old now base marks work → IsWhole old → base < vec_len now.pending →
      row_count old ≤ 2 ^ 31 → HasRoom old (row_count old) → vec_len old.pending + 512 ≤ vec_capacity old.pending → MayTurn now work
  may-turn old now base marks work p whole more rows room pending_room =
      let rows_now = rows-bounded old now base marks work p rows in
      let low : now.level ≤ 30 = few-levels-waiting now p.whole 30 (omega arith) rows_now in
      let grown = p.grown in
      let share = share-few old.capacity whole.fitted.cap in
      let few = p.few in
      let marked = p.marked in
      let inserted : reinsertion_share old.capacity * work.reinsertions ≤ 15 * work.reinsertions = mul-le-mul_right work.reinsertions share in
      let placed = p.placements in
      let waited = few-pending old whole in
      let kept = p.pending_room in
      let nodes = p.nodes in
      record {
        axes = axes-known now p.whole (omega arith);
        height = omega arith;
        room = room-for now p.whole (room-kept old now (row_count now) (row_count old) (omega (arith, same-rows old now base marks work p)) p.capacity p.room room);
        keys = let keys = room.keys in let same = p.room in omega arith;
        pending_room = omega arith;
        placements = omega arith;
        splits = omega (arith, fewer-nodes_than_rows now p.whole);
        reinsertions = omega arith;
      }

  pub settles-end : (old now : Arena D) (base marks : ℕ) (work : Work) → Progress old now base marks work → vec_len now.pending ≤ base → Settles old now base
  settles-end old now base marks work p done =
      let waits = p.base_waits in
      record {
        whole = p.whole;
        pending = sym (take_all base now.pending.items (omega arith)) ∙ p.first;
        rows = p.rows;
        ids = p.ids;
        capacity = p.capacity;
        room = p.room;
        pending_room = p.pending_room;
        branched = p.branched;
      }

  pub counts-end : (old now : Arena D) (base marks : ℕ) (work : Work) → Progress old now base marks work → vec_len now.pending ≤ base → CountsWork old now base work
  counts-end old now base marks work p done =
      let waits = p.base_waits in
      let few = p.few in
      let marked = p.marked in
      let placed = p.placements in
      record {
        placements = omega arith;
        few = omega arith;
        nodes = p.nodes;
      }

  pub row-end : (old now : Arena D) (base marks : ℕ) (work : Work) → Progress old now base marks work → base < vec_len old.pending → vec_len now.pending ≤ base →
      (cell : Cell D) → old.pending.items ≡ record { level = 0; cell = cell } ∷ [] → PlacesRow old now cell work
  row-end old now base marks work p waits done cell is = elim (p.alone cell is) [
    | inl u ↦ absurd (omega (arith, ap (λ (t : Arena D). vec_len t.pending) u.same))
    | inr t ↦ t.places
  ]
