-- A row whose removal moves no other: it moves, and its id keeps its entry.
use Rattle.std.proofs.Common.{◌≡◌, ◌≢◌, ℕ, ◌^◌, ◌≤◌, true, false, ℤ, List, [], ◌∷◌, ◌++◌, length, get_or, Option, Some, None, position, reverse, vec_len, vec_capacity, arith, refl, ap, sym, subst, ◌∙◌}
use Rattle.std.specs.List.{remove, swap_remove}
use Rattle.std.specs.Map.{keys_of}
use Rattle.std.specs.Ordering.{int_eq}
use Rattle.std.proofs.lemmas.Bool.{false_from_ne_true}
use Rattle.std.proofs.lemmas.Bool.Decides.{Decides-int_eq}
use Rattle.std.proofs.lemmas.Cmp.{int_eq_equiv}
use Rattle.std.proofs.lemmas.List.Edits.{length-remove}
use Rattle.std.proofs.lemmas.Option.{none-some, slice_get-get_or, slice_get_within}
use Rattle.slab.specs.Slab.{Slab, get}
use Rattle.indexmap.specs.IndexMap.{IndexMap, get as leaf_of, IsUnique, with_entries}
use Rattle.indexmap.proofs.MapLemmas.{Found-position, Missing-position}
use Rattle.indexmap.proofs.RemoveLemmas.{Out, swap_out}
use Rattle.rt_box.specs.declared.interval.Interval.{Interval}
use Rattle.rt_box.specs.Capacity.{least_fill}
use Rattle.rt_box.specs.Rect.{IsBox}
use Rattle.rt_tree_node.specs.declared.arena.Arena.{Arena}
use Rattle.rt_tree_node.specs.declared.cell.Cell.{Cell}
use Rattle.rt_tree_node.specs.Node.{NodeCells}
use Rattle.rt_tree_node.specs.Places.{cells_of, cells_at, level_at}
use Rattle.rt_tree_node.specs.Changes.{Changes}
use Rattle.rt_tree_node.specs.declared.arena.Work.{Work}
use Rattle.rt_tree_node.specs.Settles.{Settles}
use Rattle.rt_tree_node.specs.Whole.{IsWhole, IsBranched, HasRoom, row_count}
use Rattle.rt_tree_place.specs.NewRow.{Learns, AwaitsLeaf}
use Rattle.rt_tree_place.specs.Turns.{PlacesInTurn, CountsWork, PlacesRow}
use Rattle.rt_tree_place.proofs.NewRow.{waits-alone, whole-awaiting, rows-awaiting, waits-one}
use Rattle.rt_tree_place.proofs.Inserted.{inserts}
use Rattle.rt_tree_place.proofs.Turns.{room-kept}
use Rattle.rt_tree_remove.specs.declared.location.Location.{Location}
use Rattle.rt_tree_remove.specs.Steps.{Forgets, Takes, Condenses, IsLocationOf, MovesAlone, IsSoundButForMap, IsRoomy, HasLeastWhereInside, FitsAbove}
use Rattle.rt_tree_remove.specs.Removal.{Removes}
use Rattle.rt_tree_remove.specs.Replacement.{Replaces}
use Rattle.rt_tree_remove.proofs.Changed.{changed-cells}
use Rattle.rt_tree_remove.proofs.Climbs.{node-there}
use Rattle.rt_tree_remove.proofs.Inside.{inside-before}
use Rattle.rt_tree_remove.proofs.Placed.{placed-none}
use Rattle.rt_tree_remove.proofs.Removed.{removes, still-branched}
use Rattle.rt_tree_remove.proofs.Taken.{takes, leaf-level}
use Rattle.rt_tree_remove.proofs.WayGiven.{way-kept}

module _ {S : Type 0} (m : IndexMap ℤ ℕ S) (id : ℤ) (leaf : ℕ) (once : IsUnique int_eq m) (home : leaf_of int_eq m id ≡ Some leaf) where
  -- the map without the id
  pub record Forgotten : Type 0 where
    pub map : IndexMap ℤ ℕ S
    pub forgets : Forgets m map id
    pub learns : Learns map m id leaf
    pub unique : IsUnique int_eq map

  apart : (other : ℤ) → other ≢ id → int_eq id other ≡ false
  apart other differs = false_from_ne_true (int_eq id other) (λ e. differs (sym ((Decides-int_eq id other).0 e)))

  made : (i : ℕ) (p : ℤ × ℕ) → Out int_eq int_eq_equiv (int_eq id) m.entries (swap_remove m.entries i p) p → Forgotten
  made i p out = record {
    map = with_entries m (swap_remove m.entries i p);
    forgets = record {
      gone = out.updated.1;
      others = λ other differs. out.updated.2 other (apart other differs);
      len = out.len;
      room = omega arith;
    };
    learns = record {
      here = home;
      others = λ other differs. sym (out.updated.2 other (apart other differs));
      len = omega (arith, out.len);
      room = omega arith;
    };
    unique = out.unique;
  }

  pub forgotten : Forgotten
  forgotten = by (position (int_eq id) (keys_of m.entries)) refl
    where
      by : (o : Option ℕ) → position (int_eq id) (keys_of m.entries) ≡ o → Forgotten
      by None e = absurd (none-some leaf (sym (Missing-position (int_eq id) m.entries e).value ∙ home))
      by (Some i) e =
          let p = get_or m.entries i (id, leaf) in
          let at = slice_get-get_or m.entries i (id, leaf) (Found-position (int_eq id) m.entries i e).within in
          made i p (swap_out int_eq int_eq_equiv (int_eq id) (int_eq_equiv.congr id) m.entries i p e at once _ refl)

module _ {D : ℕ} where
  -- what the placement of a single pending row wants
  pub record IsReady (old t : Arena D) : Type 0 where
    pub whole : IsWhole t
    pub rows : row_count t ≡ row_count old
    pub room : HasRoom t (row_count t)
    pub one_waits : vec_len t.pending ≡ 1
    pub pending_room : vec_capacity t.pending ≡ vec_capacity old.pending

  -- the row is replaced by a placement that begins with the tree
  abbrev pub IsReplacedFrom : Arena D → ℤ → List Interval → List Interval → Arena D → Type 0
  IsReplacedFrom old id was rect t =
      (new : Arena D) (work : Work) → Settles t new 0 → (marks : ℕ) × PlacesInTurn t 0 new marks work → CountsWork t new 0 work →
      ((c : Cell D) → t.pending.items ≡ record { level = 0; cell = c } ∷ [] → PlacesRow t new c work) → Replaces old new id was rect

module _ {D : ℕ} (old : Arena D) (id : ℤ) (location : Location D) (b : Slab (NodeCells D)) (whole : IsWhole old) (branched : IsBranched old)
    (idle : old.pending.items ≡ []) (is : IsLocationOf old id location) (alone : MovesAlone old location) (unique : IsUnique int_eq old.leaves)
    (change : Changes (λ n. record n { cells = remove n.cells location.at }) old.nodes b location.leaf) where
  abbrev leaf : ℕ
  leaf = location.leaf

  abbrev cells : List (Cell D)
  cells = cells_at old.nodes leaf

  there : (n : NodeCells D) × (get old.nodes leaf ≡ Some n)
  there = node-there old.nodes leaf 0 (leaf-level old id leaf whole idle is.home)

  pub without : Forgotten old.leaves id leaf unique is.home
  without = forgotten old.leaves id leaf unique is.home

  -- the tree without the row, whose boxes above may be too large
  abbrev pub left : Arena D
  left = record old { nodes = b; leaves = without.map }

  taken : Takes old left id leaf location.at location.rect
  taken = takes old id leaf whole idle is.home b location.at there.0 location.rect there.1 is.cell (change there.0 there.1) branched
      (record old { leaves = without.map }) without.forgets change

  pub but : IsSoundButForMap (record old { nodes = b }) leaf
  but = (left, taken.but)

  pub bottom : level_at b leaf ≡ Some 0
  bottom = taken.bottom

  pub inside : HasLeastWhereInside b leaf location.rect
  inside = inside-before old left id leaf location.at location.rect there.0 there.1 whole taken

  pub keys : old.nodes.capacity ≤ 2 ^ 62 → b.capacity ≤ 2 ^ 62
  keys room = omega (arith, room, (change there.0 there.1).room)

  filled : least_fill old.capacity ≤ length (cells_at b leaf)
  filled =
      let within = slice_get_within cells location.at record { number = id; rect = location.rect } is.cell in
      let shorter = changed-cells old.nodes b leaf there.0 (remove there.0.cells location.at) there.1 (change there.0 there.1) in
      omega (arith, alone, ap length shorter, ap (λ s. length (remove (cells_of s) location.at)) there.1, length-remove cells location.at within)

  pub roomy : IsRoomy (record old { nodes = b }) leaf
  roomy away = filled

  -- the boxes above are fitted
  module _ (mid : Arena D) (fits : FitsAbove (record old { nodes = b }) mid leaf) where
    -- the tree without the row
    abbrev pub between : Arena D
    between = record old { nodes = mid.nodes; leaves = without.map }

    condensed : Condenses left between leaf
    condensed = subst (λ (t : Arena D). Condenses left (record t { leaves = without.map }) leaf) fits.rest (fits.condenses left taken.but)

    pub gone : Removes old between id location.rect
    gone =
        let none = ap length idle in
        removes old left between between between between id leaf location.at location.rect branched idle taken condensed
        (idle ∙ sym (ap reverse idle)) refl (placed-none between condensed.whole) (omega (arith, none))
        (way-kept between condensed.whole (still-branched old left between id leaf location.at location.rect taken condensed (λ away. filled) branched))

    -- the row waits with another box
    module _ (u : Arena D) (rect : List Interval) (box : IsBox D rect)
        (pushed : u.pending.items ≡ mid.pending.items ++ record { level = 0; cell = record { number = id; rect = rect } } ∷ [])
        (kept : vec_capacity u.pending ≡ vec_capacity mid.pending) where
      abbrev pub cell : Cell D
      cell = record { number = id; rect = rect }

      abbrev pub awaiting : Arena D
      awaiting = record old { nodes = mid.nodes; pending = u.pending }

      awaits : AwaitsLeaf between awaiting cell
      awaits = record {
        leaf = leaf;
        learns = without.learns;
        pending = pushed ∙ ap (λ (t : Arena D). t.pending.items ++ record { level = 0; cell = cell } ∷ []) fits.rest;
        pending_room = kept ∙ ap (λ (t : Arena D). vec_capacity t.pending) fits.rest;
        rest = refl;
      }

      -- the tree that the program has then
      pub is-awaiting : (record mid { pending = u.pending }) ≡ awaiting
      is-awaiting = ap (λ (t : Arena D). record t { pending = u.pending }) fits.rest

      whole_pending : IsWhole awaiting
      whole_pending = whole-awaiting between awaiting cell awaits idle gone.whole without.forgets.gone box

      rows_pending : row_count awaiting ≡ row_count old
      rows_pending =
          let more = rows-awaiting between awaiting cell awaits idle in
          let fewer = gone.rows (λ c. true) in omega arith

      pub ready : HasRoom old (row_count old) → IsReady old (record mid { pending = u.pending })
      ready room = subst (IsReady old) (sym is-awaiting) record {
        whole = whole_pending;
        rows = rows_pending;
        room = room-kept old awaiting (row_count awaiting) (row_count old) (omega (arith, rows_pending)) refl gone.room room;
        one_waits = waits-one between awaiting cell awaits idle;
        pending_room = awaits.pending_room;
      }

      -- and was placed
      placed-from : IsReplacedFrom old id location.rect rect awaiting
      placed-from new work settled turned counted placed = record {
        between = between;
        removes = gone;
        unique = without.unique;
        work = work;
        inserts = inserts between awaiting new cell work awaits idle settled turned counted (placed cell (waits-alone between awaiting cell awaits idle)) gone.branched;
      }

      pub replaces : IsReplacedFrom old id location.rect rect (record mid { pending = u.pending })
      replaces = subst (IsReplacedFrom old id location.rect rect) (sym is-awaiting) placed-from
