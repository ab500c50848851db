-- How pending cells are placed in turn, and what it takes (Beckmann, Kriegel, Schneider, Seeger 1990, section 4.3; the
-- counts own).
use Rattle.std.specs.Prelude.{◌≡◌, ℕ, ◌+◌, ◌*◌, ◌≤◌, ◌<◌, List, [], ◌∷◌, length}
use Rattle.slab.specs.Slab.{slab_len}
use Rattle.rt_box.specs.Capacity.{reinsertion_share}
use Rattle.rt_tree_node.specs.declared.arena.Arena.{Arena}
use Rattle.rt_tree_node.specs.declared.arena.Work.{Work}
use Rattle.rt_tree_node.specs.declared.cell.Cell.{Cell}
use Rattle.rt_tree_node.specs.Places.{cells_at}
use Rattle.rt_tree_place.specs.Path.{LeadsTo}
use Rattle.rt_tree_place.specs.Placement.{JoinsLeaf, HalvesRoot, PlacesLast}
use Rattle.rt_tree_place.specs.NewRow.{pending_row}

module _ {D : ℕ} where
  -- the pending cells except the first `base`, inserted one after the other, each time the last that is pending; levels
  -- below the marks are marked, none at first, and the work is that of these insertions alone
  pub data PlacesInTurn (old : Arena D) (base : ℕ) : Arena D → ℕ → Work → Type 0 where
    none : PlacesInTurn old base old 0 record { placements = 0; splits = 0; reinsertions = 0 }
    next : {t u : Arena D} {marks marks1 : ℕ} {work work1 : Work} → PlacesInTurn old base t marks work →
        base < length t.pending.items → PlacesLast t u marks marks1 work work1 → PlacesInTurn old base u marks1 work1

  -- All pending cells except the first `base` were placed, and each that was inserted again. A level gives up cells at
  -- most once; a split makes one node, and so does a new root.
  pub record CountsWork (old new : Arena D) (base : ℕ) (work : Work) : Type 0 where
    pub placements : base + work.placements
        ≡ length old.pending.items + reinsertion_share old.capacity * work.reinsertions
    pub few : work.reinsertions ≤ new.level
    pub nodes : slab_len new.nodes + old.level ≡ slab_len old.nodes + work.splits + new.level

  -- the row is the only pending cell
  abbrev pub IsOnlyPending : Arena D → Cell D → Type 0
  IsOnlyPending t cell = t.pending.items ≡ pending_row cell ∷ []

  -- A row goes to the leaf that best children lead its box to. It joins that leaf's rows if the leaf isn't full, a full
  -- root is halved, and of another full leaf cells are inserted again.
  pub record PlacesRow (old new : Arena D) (cell : Cell D) (work : Work) : Type 0 where
    pub leaf : ℕ
    pub path : List ℕ
    pub leads : LeadsTo old.nodes 0 old.level old.root cell.rect leaf path
    pub joins : length (cells_at old.nodes leaf) < old.capacity →
        JoinsLeaf old new leaf path cell × (work.splits ≡ 0) × (work.reinsertions ≡ 0)
    pub halves : old.level ≡ 0 → old.capacity ≤ length (cells_at old.nodes leaf) →
        HalvesRoot old new cell × (work.splits ≡ 1) × (work.reinsertions ≡ 0)
    pub again : 1 ≤ old.level → old.capacity ≤ length (cells_at old.nodes leaf) → 1 ≤ work.reinsertions
