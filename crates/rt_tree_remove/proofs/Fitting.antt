-- The steps up from a leaf that lost a row and has enough cells: each fits a box.
use Rattle.std.proofs.Common.{◌≡◌, ◌≢◌, ℕ, suc, ◌-◌, ◌<◌, ◌≤◌, pos, length, unwrap_or, Some, arith, ap, sym, ◌∙◌}
use Rattle.std.proofs.lemmas.Option.{none-some}
use Rattle.std.proofs.lemmas.List.Elements.{All-weaker}
use Rattle.slab.specs.Slab.{Slab, ContainsKey, get}
use Rattle.rt_box.specs.Capacity.{least_fill}
use Rattle.rt_tree_node.specs.declared.arena.Arena.{Arena}
use Rattle.rt_tree_node.specs.Node.{NodeCells}
use Rattle.rt_tree_node.specs.Places.{key_of, times_named, cells_at, level_at, parent_at}
use Rattle.rt_tree_node.specs.Sound.{NamesChild}
use Rattle.rt_tree_place.specs.Steps.{IsNamedAt as IsNumberedAt, HasLeastBox, Refits}
use Rattle.rt_tree_place.proofs.Lifted.{named-at}
use Rattle.rt_tree_remove.specs.Steps.{IsSoundBut, IsRoomy, Climbs, IsClimbing, Condenses, HasLeastWhereInside, LiesInsideNode}
use Rattle.rt_tree_remove.proofs.Changed.{refits-at}
use Rattle.rt_tree_remove.proofs.Climbs.{key-there, node-there, parent-level, named-above, climb-refit}
use Rattle.rt_tree_remove.proofs.Condenses.{climbing-start, climbing-more, climbing-condensed}

module _ {D : ℕ} (t : Arena D) (key parent : ℕ) (but : IsSoundBut t key) (up : parent_at t.nodes key ≡ Some parent) where
  -- what the parent's cells say of the node
  pub record IsUnder : Type 0 where
    pub here : ContainsKey t.nodes key
    pub above : ContainsKey t.nodes parent
    pub named : (at : ℕ) × IsNumberedAt (cells_at t.nodes parent) at key
    pub once : times_named key (cells_at t.nodes parent) ≤ 1

  pub is-under : IsUnder
  is-under =
      let level = parent-level t key parent but up in
      let once = named-above t key parent but up in
      record {
        here = key-there t.nodes key but.level but.here;
        above = key-there t.nodes parent (suc but.level) level;
        named = named-at key (cells_at t.nodes parent)
            (All-weaker (NamesChild t.nodes but.level parent) (λ c. c.number ≡ pos (key_of c)) (λ c is. is.names.number_is) (cells_at t.nodes parent)
            (but.sound.linked.children parent but.level level)) (omega arith);
        once = omega arith;
      }

  pub not-root : key ≢ t.root
  not-root e = none-some parent (sym but.sound.linked.root_parent ∙ ap (parent_at t.nodes) (sym e) ∙ up)

module _ {D : ℕ} (s t : Arena D) (leaf key parent : ℕ) (roomy : IsRoomy s leaf) (so_far : IsClimbing s t leaf key)
    (up : parent_at t.nodes key ≡ Some parent) where
  pub filled : least_fill t.capacity ≤ length (cells_at t.nodes key)
  filled = (so_far.exact roomy).full (not-root t key parent so_far.but up)

  -- the box above fits already
  pub fits-already : HasLeastBox t.nodes key parent → Condenses s t leaf
  fits-already box = climbing-condensed s t leaf key parent so_far up record { filled = filled; box = box }

  -- the box above is fitted
  module _ (b : Slab (NodeCells D)) (refits : (n : NodeCells D) → get t.nodes parent ≡ Some n → Refits t.nodes b key parent n) where
    pub climbs : Climbs t (record t { nodes = b }) key parent
    climbs =
        let above = node-there t.nodes parent (suc so_far.but.level) (parent-level t key parent so_far.but up) in
        let fit = refits above.0 above.1 in
        climb-refit t key parent so_far.but up b fit.at (refits-at t.nodes b key parent above.0 above.1 fit) filled

    pub fits-one : IsClimbing s (record t { nodes = b }) leaf parent
    fits-one = climbing-more s t (record t { nodes = b }) leaf key parent so_far up climbs

    pub rises : (t.level - unwrap_or (level_at b parent) 0) < t.level - unwrap_or (level_at t.nodes key) 0
    rises =
        let new = climbs.up so_far.but.level so_far.but.here in
        let high = climbs.next.sound.linked.levels parent (suc so_far.but.level) new in
        let before = ap (λ o. unwrap_or o 0) so_far.but.here in
        let after = ap (λ o. unwrap_or o 0) new in
        omega arith

module _ {D : ℕ} (s : Arena D) (leaf : ℕ) (but : IsSoundBut s leaf) (bottom : level_at s.nodes leaf ≡ Some 0) (roomy : IsRoomy s leaf) where
  -- the row lay inside
  pub fits-inside : {rect : _} → (inside : LiesInsideNode s.nodes leaf rect) → HasLeastWhereInside s.nodes leaf rect → Condenses s s leaf
  fits-inside inside least =
      fits-already s s leaf leaf inside.parent roomy (climbing-start s leaf but bottom) inside.up (least inside)
