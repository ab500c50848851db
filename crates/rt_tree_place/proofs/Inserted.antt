-- An insertion, from its steps.
use Rattle.std.proofs.Common.{◌≡◌, ◌⊎◌, ℕ, ◌+◌, ◌<◌, ◌≤◌, List, [], length, arith, ap, subst, ◌∙◌, inl, inr}
use Rattle.std.proofs.lemmas.Bool.{cases_lt}
use Rattle.rt_tree_node.specs.declared.arena.Arena.{Arena}
use Rattle.rt_tree_node.specs.declared.arena.Work.{Work}
use Rattle.rt_tree_node.specs.declared.cell.Cell.{Cell}
use Rattle.rt_tree_node.specs.Places.{cells_at}
use Rattle.rt_tree_node.specs.Whole.{IsBranched}
use Rattle.rt_tree_node.specs.Settles.{Settles}
use Rattle.rt_tree_place.specs.Placement.{JoinsLeaf, HalvesRoot}
use Rattle.rt_tree_place.specs.NewRow.{AwaitsLeaf}
use Rattle.rt_tree_place.specs.Turns.{PlacesInTurn, CountsWork, PlacesRow}
use Rattle.rt_tree_place.specs.Insertion.{Inserts}
use Rattle.rt_tree_place.proofs.NewRow.{awaiting_arena, waits-alone, rows-spelled, gains-id}

-- what comes of a row, by how many cells its leaf has and by the root's level before and after
record Outcome (cells capacity level level1 splits reinsertions : ℕ) : Type 0 where
  joins : cells < capacity → (level1 ≡ level) × (splits ≡ 0) × (reinsertions ≡ 0)
  halves : level ≡ 0 → capacity ≤ cells → (level1 ≡ 1) × (splits ≡ 1) × (reinsertions ≡ 0)
  again : 1 ≤ level → capacity ≤ cells → 1 ≤ reinsertions

module _ (cells capacity level level1 splits reinsertions : ℕ) (o : Outcome cells capacity level level1 splits reinsertions) where
  none-inserted : reinsertions ≡ 0 → (cells < capacity) ⊎ (level ≡ 0)
  none-inserted none = elim (cases_lt cells capacity) [
    | inl room ↦ inl room
    | inr full ↦ inr (elim (cases_lt 0 level) [ inl high ↦ let some = o.again high full in absurd (omega arith) | inr low ↦ omega arith ])
  ]

  inserted-none : (cells < capacity) ⊎ (level ≡ 0) → reinsertions ≡ 0
  inserted-none (inl room) = (o.joins room).2
  inserted-none (inr low) = elim (cases_lt cells capacity) [ inl room ↦ (o.joins room).2 | inr full ↦ (o.halves low full).2 ]

  height-plain : reinsertions ≡ 0 → level1 ≡ level + splits
  height-plain none = elim (cases_lt cells capacity) [
    | inl room ↦ let j = o.joins room in omega (arith, j.0, j.1)
    | inr full ↦ elim (cases_lt 0 level) [
      | inl high ↦ let some = o.again high full in absurd (omega arith)
      | inr low ↦ let root : level ≡ 0 = omega arith in let h = o.halves root full in omega (arith, h.0, h.1)
    ]
  ]

module _ {D : ℕ} where
  module _ (old mid new : Arena D) (c : Cell D) (work : Work) (awaits : AwaitsLeaf old mid c) (idle : old.pending.items ≡ [])
      (settled : Settles mid new 0) (turned : (marks : ℕ) × PlacesInTurn mid 0 new marks work) (counted : CountsWork mid new 0 work) (placed : PlacesRow mid new c work) where
    start : Arena D
    start = awaiting_arena old mid c awaits idle

    settles : Settles start new 0
    unfolding start
    settles = subst (λ t. Settles t new 0) awaits.rest settled

    counts : CountsWork start new 0 work
    unfolding start
    counts = subst (λ t. CountsWork t new 0 work) awaits.rest counted

    places : PlacesRow start new c work
    unfolding start
    places = subst (λ t. PlacesRow t new c work) awaits.rest placed

    joined : (leaf : ℕ) (path : List ℕ) → JoinsLeaf start new leaf path c → JoinsLeaf old new leaf path c
    unfolding start
    joined leaf path j = record {
      root = j.root;
      height = j.height;
      level = j.level;
      parent = j.parent;
      cells = j.cells;
      others = j.others;
      home = j.home;
      homes = λ other differs. j.homes other differs ∙ awaits.learns.others other differs;
    }

    halved : HalvesRoot start new c → HalvesRoot old new c
    unfolding start
    halved h = record {
      first = h.first;
      second = h.second;
      height = h.height;
      top = h.top;
      parts = h.parts;
    }

    -- the leaf has room, or the root is halved, or cells are inserted again
    which : Outcome (length (cells_at old.nodes places.leaf)) old.capacity old.level new.level work.splits work.reinsertions
    unfolding start
    which = record {
      joins = λ room. let j = places.joins room in (j.0.height, j.1, j.2);
      halves = λ low full. let h = places.halves low full in (h.0.height, h.1, h.2);
      again = places.again;
    }

    pub inserts : IsBranched old → Inserts old new c.number c.rect work
    unfolding start
    inserts branched =
        record {
          whole = settles.whole;
          branched = settles.branched branched;
          none_waits = settles.pending;
          rows = λ test. settles.rows test ∙ rows-spelled old mid c awaits idle test;
          ids = gains-id old.leaves mid.leaves new.leaves c.number awaits.leaf awaits.learns settles.ids;
          capacity = settles.capacity;
          room = settles.room;
          pending_room = let a = settles.pending_room in let b = awaits.pending_room in omega arith;
          awaiting = mid;
          awaits = awaits;
          marks = turned.0;
          turns = turned.1;
          leaf = places.leaf;
          path = places.path;
          leads = places.leads;
          joins = λ room. joined places.leaf places.path (places.joins room).0;
          halves = λ low full. halved (places.halves low full).0;
          placements = let a = counts.placements in omega (arith, a, ap length (waits-alone old mid c awaits idle));
          few = counts.few;
          nodes = counts.nodes;
          none = (none-inserted (length (cells_at old.nodes places.leaf)) old.capacity old.level new.level work.splits work.reinsertions which, inserted-none (length (cells_at old.nodes places.leaf)) old.capacity old.level new.level work.splits work.reinsertions which);
          plain = height-plain (length (cells_at old.nodes places.leaf)) old.capacity old.level new.level work.splits work.reinsertions which;
        }
