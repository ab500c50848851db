-- Steps up after a row left its leaf are those of the rules.
use Rattle.std.proofs.Common.{◌≡◌, ◌≢◌, inl, inr, ℕ, zero, suc, ◌<◌, ◌≤◌, List, [], ◌∷◌, ◌++◌, map, length, get_or, set, Some, slice_get, refl, sym, ap, ◌∙◌, subst, arith}
use Rattle.std.specs.List.{remove}
use Rattle.std.proofs.lemmas.Bool.{cases_eq}
use Rattle.std.proofs.lemmas.Option.{same_Some, none-some}
use Rattle.std.proofs.lemmas.List.{length-map, map-append}
use Rattle.slab.specs.Slab.{Slab}
use Rattle.rt_box.specs.Capacity.{least_fill}
use Rattle.rt_tree_node.specs.declared.arena.Arena.{Arena}
use Rattle.rt_tree_node.specs.declared.cell.Cell.{Cell}
use Rattle.rt_tree_node.specs.Node.{NodeCells}
use Rattle.rt_tree_node.specs.Places.{key_of, cells_at, level_at, parent_at, pending_at}
use Rattle.rt_tree_node.specs.Sound.{IsLinked, NamesChild}
use Rattle.rt_tree_remove.specs.Steps.{IsSoundBut, Climbs, Adjusts, Eliminates, CondensesTo}
use Rattle.rt_tree_rules.specs.Nested.{Node, Waiting}
use Rattle.rt_tree_rules.specs.Removing.{Thinned, condense}
use Rattle.rt_tree_obeys.specs.View.{entry_in, node_in, waiting_in, waiting_cells}
use Rattle.rt_tree_obeys.proofs.Lists.{AgreeBut, remove_map, remove_same}
use Rattle.rt_tree_obeys.proofs.Frames.{SameBelow, Frame, below, node_same, entries_same, same_level, map_same}
use Rattle.rt_tree_obeys.proofs.Ways.{child_at, named_once}
use Rattle.rt_tree_obeys.proofs.Boxes.{map_map}
use Rattle.rt_tree_obeys.proofs.Thinning.{Out, Higher, out_cases, level_of_out, out_moved, put_back, thinned, waits_of, condense_in, condense_out, nodes_kept, shape_frame}

-- a pending cell above the leaves looks the same if its node does
pub waiting_at : {D : ℕ} (a b : Slab (NodeCells D)) (l : ℕ) (c : Cell D) → ((i : ℕ) → l ≡ suc i → node_in b i (key_of c) ≡ node_in a i (key_of c)) →
    ◌≡◌ {A = Waiting} (record { level = l; entry = entry_in b l c }) (record { level = l; entry = entry_in a l c })
waiting_at a b zero c same = refl
waiting_at a b (suc i) c same = ap (λ (n : Node i). record { level = suc i; entry = n }) (same i refl)

module _ {D : ℕ} (K R L : ℕ) (r : Thinned L) where
  -- steps up have come to the node at the key, and from there the rules lead to what the root becomes
  pub record Thins (t : Arena D) (key : ℕ) : Type 0 where
    pub but : IsSoundBut t key
    pub root_is : t.root ≡ R
    pub height_is : t.level ≡ L
    pub capacity_is : t.capacity ≡ K
    pub l : ℕ
    pub orphans : List Waiting
    pub out : Out K t.nodes R L r l key (thinned (node_in t.nodes l key) orphans)
    pub pending_is : waiting_cells t ≡ orphans

  pub linked_of : (t : Arena D) (key : ℕ) → Thins t key → IsLinked t.nodes R L t.pending.items
  linked_of t key so_far =
      subst (λ (x : ℕ). IsLinked t.nodes x L t.pending.items) so_far.root_is
      (subst (λ (x : ℕ). IsLinked t.nodes t.root x t.pending.items) so_far.height_is so_far.but.sound.linked)

  module _ (t u : Arena D) (key parent : ℕ) (so_far : Thins t key) (climbs : Climbs t u key parent) where
    abbrev a : Slab (NodeCells D)
    a = t.nodes

    abbrev b : Slab (NodeCells D)
    b = u.nodes

    abbrev l : ℕ
    l = so_far.l

    linked : IsLinked a R L t.pending.items
    linked = linked_of t key so_far

    here : level_at a key ≡ Some l
    here = level_of_out K a R L r t.pending.items linked l key (thinned (node_in a l key) so_far.orphans) so_far.out

    -- what is pending belongs below the node
    pending_below : SameBelow a b l → map (waiting_in b) t.pending.items ≡ map (waiting_in a) t.pending.items
    pending_below low = map_same (waiting_in b) (waiting_in a) t.pending.items (λ k d within.
        let w = get_or t.pending.items k d in
        let less = so_far.but.below k d within in
        let level = same_level so_far.but.level l (level_at a key) so_far.but.here here in
        waiting_at a b w.level w.cell (λ i is. low (key_of w.cell) i (linked.pending_named k d within i is).level_is (omega arith)))

    module _ (higher : Higher K a R L r l key (thinned (node_in a l key) so_far.orphans)) where
      abbrev e : Thinned l
      e = thinned (node_in a l key) so_far.orphans

      p_level : level_at a higher.p ≡ Some (suc l)
      p_level = level_of_out K a R L r t.pending.items linked (suc l) higher.p (condense K l (node_in a (suc l) higher.p) higher.at e) higher.up

      child : NamesChild a l higher.p higher.c
      child = child_at a l higher.p higher.at higher.c linked.children p_level higher.get

      p_is : higher.p ≡ parent
      p_is = same_Some higher.p parent (sym child.parent_is ∙ ap (parent_at a) higher.is ∙ climbs.parent_is)

      above : level_at a parent ≡ Some (suc l)
      above = ap (level_at a) (sym p_is) ∙ p_level

      get : slice_get (cells_at a parent) higher.at ≡ Some higher.c
      get = ap (λ (q : ℕ). slice_get (cells_at a q) higher.at) (sym p_is) ∙ higher.get

      up : Out K a R L r (suc l) parent (condense K l (node_in a (suc l) parent) higher.at e)
      up = subst (λ (q : ℕ). Out K a R L r (suc l) q (condense K l (node_in a (suc l) q) higher.at e)) p_is higher.up

      long : length (node_in a l key) ≡ length (cells_at a key)
      long = length-map (cells_at a key) (entry_in a l)

      continue : (orphans : List Waiting) → Frame a b (suc l) parent → condense K l (node_in a (suc l) parent) higher.at e ≡ thinned (node_in b (suc l) parent) orphans →
          waiting_cells u ≡ orphans → Thins u parent
      continue orphans frame is pending = record {
        but = climbs.next;
        root_is = climbs.keeps.root ∙ so_far.root_is;
        height_is = climbs.keeps.level ∙ so_far.height_is;
        capacity_is = climbs.keeps.capacity ∙ so_far.capacity_is;
        l = suc l;
        orphans = orphans;
        out = subst (λ (y : Thinned (suc l)). Out K b R L r (suc l) parent y) is
            (out_moved K a R L r t.pending.items linked b (suc l) parent (condense K l (node_in a (suc l) parent) higher.at e) frame up);
        pending_is = pending;
      }

      adjusted : Adjusts t u key parent → Thins u parent
      adjusted adjusts =
          let shape = adjusts.shape (key ∷ []) (0, omega arith, refl) in
          let kept = nodes_kept a b key shape linked.children in
          let filled : least_fill K ≤ length (node_in a l key) = omega (arith, long, subst (λ (k : ℕ). least_fill k ≤ length (cells_at a key)) so_far.capacity_is adjusts.filled) in
          continue so_far.orphans (shape_frame a b key shape linked.children l parent here climbs.parent_is)
          (condense_in K l (node_in a (suc l) parent) higher.at e filled
          ∙ ap (λ (n : Node (suc l)). thinned n so_far.orphans)
          (ap (λ (k : ℕ). set (node_in a (suc l) parent) higher.at (node_in a l k)) (sym higher.is)
          ∙ put_back K a R L r t.pending.items linked l parent higher.at higher.c get ∙ sym (kept (suc l) parent above)))
          (ap (map (waiting_in b)) adjusts.pending ∙ pending_below (λ x j level less. kept j x level) ∙ so_far.pending_is)

      eliminated : Eliminates t u key parent → Thins u parent
      eliminated out =
          let level : out.level ≡ l = same_level out.level l (level_at a key) out.here here in
          let others : (x : ℕ) → x ≢ key → x ≢ parent → cells_at b x ≡ cells_at a x = out.dissolves.cells in
          let low : SameBelow a b l = below a b l linked.children (λ x j is less. others x
          (λ h. let same = same_level j l (level_at a key) (ap (level_at a) (sym h) ∙ is) here in absurd (omega arith))
          (λ h. let same = same_level j (suc l) (level_at a parent) (ap (level_at a) (sym h) ∙ is) above in absurd (omega arith))) in
          let side : (x : ℕ) → level_at a x ≡ Some l → x ≢ key → node_in b l x ≡ node_in a l x = λ x is other. beside x l is
          (others x other (λ h. let same = same_level l (suc l) (level_at a parent) (ap (level_at a) (sym h) ∙ is) above in absurd (omega arith))) low in
          let frame : Frame a b (suc l) parent = record {
            here = λ x is other. node_same a b l x linked.children is
                (others x (λ h. let same = same_level (suc l) l (level_at a key) (ap (level_at a) (sym h) ∙ is) here in absurd (omega arith)) other)
                (λ k d within.
                let own = linked.children x l is k d within in
                side (key_of (get_or (cells_at a x) k d)) own.names.level_is
                (λ h. other (same_Some x parent (sym own.parent_is ∙ ap (parent_at a) h ∙ climbs.parent_is))));
            above = λ x j is less. others x
                (λ h. let same = same_level j l (level_at a key) (ap (level_at a) (sym h) ∙ is) here in absurd (omega arith))
                (λ h. let same = same_level j (suc l) (level_at a parent) (ap (level_at a) (sym h) ∙ is) above in absurd (omega arith));
          } in
          let place : out.at ≡ higher.at = elim (cases_eq out.at higher.at) [
            | inl same ↦ same
            | inr differs ↦ absurd (named_once a R L t.pending.items linked l parent higher.at higher.c above get out.at higher.c
                out.dissolves.place.within differs (out.dissolves.place.names higher.c ∙ sym higher.is))
          ] in
          let agree : AgreeBut (entry_in b (suc l)) (entry_in a (suc l)) (cells_at a parent) higher.at = λ i d within other.
          side (key_of (get_or (cells_at a parent) i d)) (linked.children parent l above i d within).names.level_is
          (λ h. named_once a R L t.pending.items linked l parent higher.at higher.c above get i d within other (h ∙ sym higher.is)) in
          let node : node_in b (suc l) parent ≡ remove (node_in a (suc l) parent) higher.at
          = ap (map (entry_in b (suc l))) (out.dissolves.shorter ∙ ap (remove (cells_at a parent)) place)
          ∙ sym (remove_map (entry_in b (suc l)) (cells_at a parent) higher.at)
          ∙ remove_same (entry_in b (suc l)) (entry_in a (suc l)) (cells_at a parent) higher.at agree in
          let under : length (node_in a l key) < least_fill K = omega (arith, long, subst (λ (k : ℕ). length (cells_at a key) < least_fill k) so_far.capacity_is out.underfull) in
          let own : map (waiting_in b) (pending_at l (cells_at a key)) ≡ waits_of l (node_in a l key)
          = map_map (waiting_in b) (λ c. record { level = l; cell = c }) (cells_at a key)
          ∙ sym (map_map (λ n. record { level = l; entry = n }) (entry_in b l) (cells_at a key))
          ∙ ap (waits_of l) (entries_same a b l l (cells_at a key) low (omega arith)
          (λ i is k d within. (linked.children key i (here ∙ ap Some is) k d within).names.level_is)) in
          continue (so_far.orphans ++ waits_of l (node_in a l key)) frame
          (condense_out K l (node_in a (suc l) parent) higher.at e under
          ∙ ap (λ (n : Node (suc l)). thinned n (so_far.orphans ++ waits_of l (node_in a l key))) (sym node))
          (ap (map (waiting_in b)) (out.orphans ∙ ap (λ (i : ℕ). t.pending.items ++ pending_at i (cells_at a key)) level)
          ∙ map-append (waiting_in b) t.pending.items (pending_at l (cells_at a key))
          ∙ ap (λ ws. ws ++ map (waiting_in b) (pending_at l (cells_at a key))) (pending_below low ∙ so_far.pending_is)
          ∙ ap (λ ws. so_far.orphans ++ ws) own)
        where
          beside : (x i : ℕ) → level_at a x ≡ Some i → cells_at b x ≡ cells_at a x → SameBelow a b i → node_in b i x ≡ node_in a i x
          beside x zero is cells low = ap (map (entry_in b zero)) cells
          beside x (suc i) is cells low = node_same a b i x linked.children is cells
              (λ k d within. low (key_of (get_or (cells_at a x) k d)) i (linked.children x i is k d within).names.level_is (omega arith))

    pub step_up : Thins u parent
    step_up = elim (out_cases K a R L r l key (thinned (node_in a l key) so_far.orphans) so_far.out) [
      | inl is ↦ absurd (none-some parent (sym linked.root_parent ∙ ap (parent_at a) (sym is) ∙ climbs.parent_is))
      | inr higher ↦ elim climbs.condenses [ inl adjusts ↦ adjusted higher adjusts | inr out ↦ eliminated higher out ]
    ]

  pub steps_up : (s : Arena D) (leaf : ℕ) → Thins s leaf → (t : Arena D) (key : ℕ) → CondensesTo s leaf t key → Thins t key
  steps_up s leaf start t key (CondensesTo.none) = start
  steps_up s leaf start t key (CondensesTo.step {t = m} {key = k} steps climbs) = step_up m t k key (steps_up s leaf start m k steps) climbs
