-- The steps up from a node that a cell was placed in, one after another.
use Rattle.std.proofs.Common.{◌≡◌, ◌⊎◌, ℕ, zero, suc, ◌+◌, ◌<◌, ◌≤◌, List, ◌++◌, length, Some, None, vec_capacity, arith, refl, ap, ◌∙◌, sym, inl, inr}
use Rattle.std.proofs.lemmas.Option.{none-some, same_Some}
use Rattle.slab.specs.Slab.{slab_len}
use Rattle.rt_box.specs.Capacity.{reinsertion_share}
use Rattle.rt_tree_node.specs.declared.arena.Arena.{Arena}
use Rattle.rt_tree_node.specs.declared.arena.Work.{Work}
use Rattle.rt_tree_node.specs.Places.{parent_at, cells_at, pending_at}
use Rattle.rt_tree_place.specs.Rise.{IsUpward, KeepsAllBut, StartsAt, HasStepped, InsertsAgain, InsertsNone, HasRisen}
use Rattle.rt_tree_place.specs.Steps.{IsRising, KeepsRows, Lifts}
use Rattle.rt_tree_place.specs.Way.{LeadsUp}
use Rattle.rt_tree_place.proofs.Lifted.{parent-level, parent-most}
use Rattle.rt_tree_place.proofs.Shapes.{shape-none, shape-then}

module _ {D : ℕ} where
  pub keeps-none : (t : Arena D) → KeepsRows t t
  keeps-none t = record {
    rows = λ test. refl;
    ids = record { ids = refl; len = refl; room = refl };
    root = refl;
    level = refl;
    capacity = refl;
    room = refl;
    pending_room = omega arith;
    top = omega arith;
  }

  pub keeps-then : (s t u : Arena D) → KeepsRows s t → KeepsRows t u → KeepsRows s u
  keeps-then s t u p q = record {
    rows = λ test. q.rows test ∙ p.rows test;
    ids = record { ids = q.ids.ids ∙ p.ids.ids; len = q.ids.len ∙ p.ids.len; room = q.ids.room ∙ p.ids.room };
    root = q.root ∙ p.root;
    level = q.level ∙ p.level;
    capacity = q.capacity ∙ p.capacity;
    room = q.room ∙ p.room;
    pending_room = omega (arith, p.pending_room, q.pending_room);
    top = omega (arith, p.top, q.top);
  }

  pub risen-start : (t : Arena D) (from marks : ℕ) (work : Work) → IsRising t from → HasRisen t t from from marks marks work work
  risen-start t from marks work rising = record {
    rising = rising;
    keeps = keeps-none t;
    waits = inr record { marked = refl; pending = refl; counted = refl };
    placements = refl;
    splits = omega arith;
    few = omega arith;
    len = refl;
    exact = λ fits path upward on. record { shape = shape-none t.nodes path; leaves = refl; on = on; fits = fits; splits = refl; reinsertions = refl };
    first = inl record { same = refl; key_is = refl; marks_is = refl; work_is = refl };
  }

  module _ (s t u : Arena D) (from key parent marks marks1 marks2 : ℕ) (work work1 work2 : Work)
      (so_far : HasRisen s t from key marks marks1 work work1) (up : parent_at t.nodes key ≡ Some parent)
      (step : Lifts t u key parent marks1 marks2 work1 work2) where
    abbrev rising : IsRising t key
    rising = so_far.rising

    next-level : step.next.level ≡ suc rising.level
    next-level = same_Some step.next.level (suc rising.level) (sym step.next.here ∙ step.up rising.level rising.here)

    above-fits : length (cells_at u.nodes parent) ≡ length (cells_at t.nodes parent) → length (cells_at u.nodes parent) ≤ u.capacity
    above-fits same = let few = parent-most t key parent rising up in let c = step.keeps.capacity in omega arith

    abbrev Waits : Type 0
    Waits = (InsertsAgain s u s.pending.items marks marks2 work work2 × (length (cells_at u.nodes parent) ≤ u.capacity)) ⊎ InsertsNone u s.pending.items marks marks2 work work2

    -- cells wait already: the node isn't overfull then
    waits-again : InsertsAgain s t s.pending.items marks marks1 work work1 → length (cells_at t.nodes key) ≤ t.capacity → Waits
    waits-again is fits = elim step.treats [
      | inl lets ↦ inl (
        record {
          level = is.level;
          unmarked = is.unmarked;
          marked = lets.marks_same ∙ is.marked;
          inner = let inner = is.inner in let l = step.keeps.level in omega arith;
          far = is.far;
          share = is.share;
          pending = ap (λ w. w.items) lets.pending ∙ is.pending;
          counted = lets.reinsertions ∙ is.counted;
        },
        above-fits lets.above,
      )
      | inr others ↦ elim others [
        | inl splits ↦ let full = splits.full in absurd (omega arith)
        | inr gives ↦ let full = gives.full in absurd (omega arith)
      ]
    ]

    waits-none : InsertsNone t s.pending.items marks marks1 work work1 → Waits
    waits-none is = elim step.treats [
      | inl lets ↦ inr record {
        marked = lets.marks_same ∙ is.marked;
        pending = ap (λ w. w.items) lets.pending ∙ is.pending;
        counted = lets.reinsertions ∙ is.counted;
      }
      | inr others ↦ elim others [
        | inl splits ↦ inr record {
          marked = splits.marks_same ∙ is.marked;
          pending = ap (λ w. w.items) splits.pending ∙ is.pending;
          counted = splits.reinsertions ∙ is.counted;
        }
        | inr gives ↦
            let same : rising.level ≡ gives.level = same_Some rising.level gives.level (sym rising.here ∙ gives.here) in
            let high = step.next.sound.linked.levels parent step.next.level step.next.here in
            let more = next-level in
            inl (
              record {
                level = gives.level;
                unmarked = omega (arith, gives.unmarked, is.marked);
                marked = gives.marked;
                inner = omega arith;
                far = gives.far;
                share = gives.share ∙ ap reinsertion_share so_far.keeps.capacity;
                pending = gives.pending ∙ ap (λ ws. ws ++ pending_at gives.level gives.far) is.pending;
                counted = gives.reinsertions ∙ ap suc is.counted;
              },
              above-fits gives.above,
            )
      ]
    ]

    waits : Waits
    waits = elim so_far.waits [ inl both ↦ waits-again both.0 both.1 | inr none ↦ waits-none none ]

    abbrev Counts : Type 0
    Counts = (work2.placements ≡ work.placements) × (work.splits ≤ work2.splits) × (work2.splits ≤ work.splits + step.next.level)
        × (slab_len u.nodes + work.splits ≡ slab_len s.nodes + work2.splits)

    counts : Counts
    counts =
        let p = so_far.placements in
        let a = so_far.splits in
        let b = so_far.few in
        let len = so_far.len in
        let more = next-level in
        elim step.treats [
          | inl is ↦ let c = is.splits in let l = is.len in (is.placements ∙ p, omega arith, omega arith, omega arith)
          | inr others ↦ elim others [
            | inl is ↦ let c = is.splits in let l = is.len in (is.placements ∙ p, omega arith, omega arith, omega arith)
            | inr is ↦ let c = is.splits in let l = is.len in (is.placements ∙ p, omega arith, omega arith, omega arith)
          ]
        ]

    exact-more : (path : List ℕ) → IsUpward s.nodes path → KeepsAllBut s t path key work work1 → KeepsAllBut s u path parent work work2
    exact-more path upward is =
        let on_parent = upward key parent is.on (sym ((is.shape key).parent) ∙ up) in
        elim step.treats [
          | inl lets ↦ record {
            shape = λ k. shape-then s.nodes t.nodes u.nodes path k (is.shape k) (step.shape is.fits path is.on k);
            leaves = lets.leaves ∙ is.leaves;
            on = on_parent;
            fits = above-fits lets.above;
            splits = lets.splits ∙ is.splits;
            reinsertions = lets.reinsertions ∙ is.reinsertions;
          }
          | inr others ↦ elim others [
            | inl other ↦ absurd (omega (arith, other.full, is.fits))
            | inr other ↦ absurd (omega (arith, other.full, is.fits))
          ]
        ]

    again-first : StartsAt s t from key marks marks1 work work1 → s.capacity < length (cells_at s.nodes from) → marks ≡ 0 → work2.reinsertions ≡ suc work.reinsertions
    again-first at full unmarked =
        let long : length (cells_at t.nodes key) ≡ length (cells_at s.nodes from) = ap (λ k. length (cells_at t.nodes k)) at.key_is ∙ ap (λ a. length (cells_at a.nodes from)) at.same in
        let c = so_far.keeps.capacity in
        elim step.treats [
          | inl lets ↦ absurd (omega (arith, lets.fits, long, full, c))
          | inr others ↦ elim others [
            | inl splits ↦ absurd (omega (arith, splits.marked, at.marks_is, unmarked))
            | inr gives ↦ gives.reinsertions ∙ ap (λ w. suc w.reinsertions) at.work_is
          ]
        ]

    again-later : work1.reinsertions ≡ suc work.reinsertions → work2.reinsertions ≡ suc work.reinsertions
    again-later counted = elim so_far.waits [
      | inl both ↦ elim step.treats [
        | inl lets ↦ lets.reinsertions ∙ counted
        | inr others ↦ elim others [
          | inl other ↦ absurd (omega (arith, other.full, both.1))
          | inr other ↦ absurd (omega (arith, other.full, both.1))
        ]
      ]
      | inr none ↦ absurd (omega (arith, none.counted, counted))
    ]

    stepped : HasStepped s from step.next.level marks work work2
    stepped = record {
      higher = let more = next-level in omega arith;
      again = λ full unmarked. elim so_far.first [
        | inl at ↦ again-first at full unmarked
        | inr before ↦ again-later (before.again full unmarked)
      ];
    }

    pub risen-more : HasRisen s u from parent marks marks2 work work2
    risen-more = record {
      rising = step.next;
      keeps = keeps-then s t u so_far.keeps step.keeps;
      waits = waits;
      placements = counts.0;
      splits = counts.1;
      few = counts.2;
      len = counts.3;
      exact = λ fits path upward on. exact-more path upward (so_far.exact fits path upward on);
      first = inr stepped;
    }

  -- the steps end at the root
  pub ends-at_root : (t : Arena D) (key : ℕ) → IsRising t key → parent_at t.nodes key ≡ None → key ≡ t.root
  ends-at_root t key rising none = by rising.steps rising.way
    where
      by : (n : ℕ) → LeadsUp t.nodes t.root n key → key ≡ t.root
      by zero way = way
      by (suc n) way = absurd (none-some way.0 (sym none ∙ way.1))

  -- another step finds room
  pub room-left : (s t : Arena D) (from key parent marks marks1 : ℕ) (work work1 : Work) (so_far : HasRisen s t from key marks marks1 work work1) → parent_at t.nodes key ≡ Some parent →
      s.level ≤ 30 → slab_len s.nodes + 30 ≤ s.nodes.capacity → (slab_len t.nodes + 1 ≤ t.nodes.capacity) × (work1.splits ≤ work.splits + 30) × (t.level ≤ 30)
  room-left s t from key parent marks marks1 work work1 so_far up low room =
      let high = so_far.rising.sound.linked.levels parent (suc so_far.rising.level) (parent-level t key parent so_far.rising up) in
      let l = so_far.keeps.level in
      let r = so_far.keeps.room in
      let few = so_far.few in
      let len = so_far.len in
      (omega arith, omega arith, omega arith)

  pub pending-room_left : (s t : Arena D) (from key marks marks1 : ℕ) (work work1 : Work) → HasRisen s t from key marks marks1 work work1 →
      length s.pending.items + 15 ≤ vec_capacity s.pending → t.capacity < length (cells_at t.nodes key) → length t.pending.items + 15 ≤ vec_capacity t.pending
  pending-room_left s t from key marks marks1 work work1 so_far room full = elim so_far.waits [
    | inl both ↦ absurd (omega (arith, both.1, full))
    | inr none ↦ omega (arith, ap length none.pending, room, so_far.keeps.pending_room)
  ]

  pub reinsertions-few : (s t : Arena D) (from key marks marks1 : ℕ) (work work1 : Work) → HasRisen s t from key marks marks1 work work1 → work1.reinsertions ≤ suc work.reinsertions
  reinsertions-few s t from key marks marks1 work work1 so_far = elim so_far.waits [
    | inl both ↦ omega (arith, both.0.counted)
    | inr none ↦ omega (arith, none.counted)
  ]
