-- Steps up in the arena, one after the other, are the way back up of the rules.
use Rattle.std.proofs.Common.{◌≡◌, ◌≢◌, inl, inr, ℕ, zero, suc, ◌<◌, ℤ, List, [], ◌∷◌, ◌++◌, map, get_or, set, reverse, Some, slice_get, refl, sym, ap, ◌∙◌, subst, arith}
use Rattle.std.specs.Prelude.{unsigned_abs}
use Rattle.std.proofs.lemmas.Bool.{cases_eq, cases_lt}
use Rattle.std.proofs.lemmas.Option.{same_Some, none-some}
use Rattle.std.proofs.lemmas.List.{map-append, append_assoc, reverse-reverse, reverse-append}
use Rattle.slab.specs.Slab.{Slab}
use Rattle.rt_tree_node.specs.declared.arena.Arena.{Arena}
use Rattle.rt_tree_node.specs.declared.arena.Work.{Work as Counts}
use Rattle.rt_tree_node.specs.declared.cell.Cell.{Cell}
use Rattle.rt_tree_node.specs.Node.{NodeCells}
use Rattle.rt_tree_node.specs.Places.{key_of, cells_at, level_at, parent_at, numbers, pending_at, times_named, cells_above}
use Rattle.rt_tree_node.specs.Sound.{IsLinked}
use Rattle.rt_tree_place.specs.Steps.{IsRising, Lifts}
use Rattle.rt_tree_place.specs.Rise.{ClimbsTo}
use Rattle.rt_tree_rules.specs.Nested.{Node, Waiting}
use Rattle.rt_tree_rules.specs.Placing.{Becomes, Course, treat, rejoin}
use Rattle.rt_tree_obeys.specs.View.{entry_in, node_in, waiting_in, waiting_cells}
use Rattle.rt_tree_obeys.proofs.Lists.{AgreeBut, map_but}
use Rattle.rt_tree_obeys.proofs.Frames.{SameBelow, Frame, below, node_same, same_level}
use Rattle.rt_tree_obeys.proofs.Ways.{Up, Above, up_cases, child_at, named_once, is_named, level_of_up, moved, stays}
use Rattle.rt_tree_obeys.proofs.Boxes.{HasHulls, boxes_kept}
use Rattle.rt_tree_obeys.proofs.Stepped.{plain, Treatment, treatment, waiting_same, KeepsWaiting, named_nodes, by_numbers}

module _ {D : ℕ} (K R L : ℕ) (r : Becomes L) (base : List Waiting) where
  -- steps up have come to the node at the key, and from there the rules lead to what the root becomes
  pub record Climbing (t : Arena D) (key marks : ℕ) : Type 0 where
    pub rising : IsRising t key
    pub root_is : t.root ≡ R
    pub height_is : t.level ≡ L
    pub capacity_is : t.capacity ≡ K
    pub l : ℕ
    pub course : Course
    pub up : Up K t.nodes R L r l key (plain (node_in t.nodes l key) course)
    pub marks_is : course.marks ≡ marks
    pub pending_is : waiting_cells t ≡ base ++ reverse course.waiting

  pub linked_of : (t : Arena D) (key marks : ℕ) → Climbing t key marks → IsLinked t.nodes R L t.pending.items
  linked_of t key marks so_far =
      subst (λ (x : ℕ). IsLinked t.nodes x L t.pending.items) so_far.root_is
      (subst (λ (x : ℕ). IsLinked t.nodes t.root x t.pending.items) so_far.height_is so_far.rising.sound.linked)

  module _ (t u : Arena D) (key parent marks marks1 : ℕ) (work work1 : Counts) (so_far : Climbing t key marks) (lifts : Lifts t u key parent marks marks1 work work1) where
    abbrev a : Slab (NodeCells D)
    a = t.nodes

    abbrev b : Slab (NodeCells D)
    b = u.nodes

    abbrev l : ℕ
    l = so_far.l

    linked : IsLinked a R L t.pending.items
    linked = linked_of t key marks so_far

    here : level_at a key ≡ Some l
    here = level_of_up K a R L r t.pending.items linked l key (plain (node_in a l key) so_far.course) so_far.up

    parent_level : level_at a parent ≡ Some (suc l) → (x j : ℕ) → level_at a x ≡ Some j → j ≢ suc l → x ≢ parent
    parent_level is x j level other e = other (same_level j (suc l) (level_at a parent) (ap (level_at a) (sym e) ∙ level) is)

    not_key : (x j : ℕ) → level_at a x ≡ Some j → j ≢ l → x ≢ key
    not_key x j level other e = other (same_level j l (level_at a key) (ap (level_at a) (sym e) ∙ level) here)

    module _ (above : level_at a parent ≡ Some (suc l)) where
      low : SameBelow a b l
      low = below a b l linked.children (λ x j level less. lifts.others x j level
          (not_key x j level (λ e. absurd (omega arith))) (parent_level above x j level (λ e. absurd (omega arith))))

      side : (x : ℕ) → level_at a x ≡ Some l → x ≢ key → node_in b l x ≡ node_in a l x
      side x level other = by l level (lifts.others x l level other (parent_level above x l level (λ e. absurd (omega arith)))) low
        where
          by : (i : ℕ) → level_at a x ≡ Some i → cells_at b x ≡ cells_at a x → SameBelow a b i → node_in b i x ≡ node_in a i x
          by zero level cells low = ap (map (entry_in b zero)) cells
          by (suc i) level cells low = node_same a b i x linked.children level cells
              (λ k d within. low (key_of (get_or (cells_at a x) k d)) i (linked.children x i level k d within).names.level_is (omega arith))

      frame : Frame a b (suc l) parent
      frame = record {
        here = λ x level other. node_same a b l x linked.children level
            (lifts.others x (suc l) level (not_key x (suc l) level (λ e. absurd (omega arith))) other) (λ k d within.
            let child = linked.children x l level k d within in
            side (key_of (get_or (cells_at a x) k d)) child.names.level_is
            (λ e. other (same_Some x parent (sym child.parent_is ∙ ap (parent_at a) e ∙ lifts.parent_is))));
        above = λ x j level less. lifts.others x j level
            (not_key x j level (λ e. absurd (omega arith))) (parent_level above x j level (λ e. absurd (omega arith)));
      }

      hulls : HasHulls a l
      hulls x j level low k d within =
          let child = linked.children x j level k d within in
          so_far.rising.sound.fitted.hulls x j level k d within
          (λ e. not_key (key_of (get_or (cells_at a x) k d)) j child.names.level_is (λ h. absurd (omega arith)) (sym (same_Some _ _ e)))

      treats : Treatment K t u l key parent marks1 so_far.course
      treats = treatment K t u l key parent marks marks1 work work1 so_far.course so_far.capacity_is here
          (low, λ i is k d within. (linked.children key i (here ∙ ap Some is) k d within).names.level_is)
          (boxes_kept a l linked.children hulls l key here (omega arith)) so_far.marks_is
          (λ fits k. lifts.shape fits (key ∷ []) (0, omega arith, refl) k) lifts.treats

      module _ (at : ℕ) (c : Cell D) (get : slice_get (cells_at a parent) at ≡ Some c) (is : key_of c ≡ key) where
        node_is : set (node_in a (suc l) parent) at (node_in b l key) ++ named_nodes b l treats.extra ≡ node_in b (suc l) parent
        node_is =
            let agree : AgreeBut (entry_in b (suc l)) (entry_in a (suc l)) (cells_at a parent) at = λ i d within other.
            side (key_of (get_or (cells_at a parent) i d)) (linked.children parent l above i d within).names.level_is
            (λ e. named_once a R L t.pending.items linked l parent at c above get i d within other (e ∙ sym is)) in
            let put = map_but (entry_in b (suc l)) (entry_in a (suc l)) (cells_at a parent) at c get agree in
            let named : node_in b l (key_of c) ≡ node_in b l key = ap (node_in b l) is in
            sym (
            by_numbers b l (cells_at b parent)
            ∙ ap (named_nodes b l) treats.numbers_are
            ∙ map-append (λ (n : ℤ). node_in b l (unsigned_abs n)) (numbers (cells_at a parent)) treats.extra
            ∙ ap (λ (ns : Node (suc l)). ns ++ named_nodes b l treats.extra)
            (sym (by_numbers b l (cells_at a parent)) ∙ put ∙ ap (λ (n : Node l). set (node_in a (suc l) parent) at n) named)
            )

        rejoin_is : rejoin D K l (node_in a (suc l) parent) at (treat D K l (node_in a l key) so_far.course)
            ≡ plain (node_in b (suc l) parent) treats.course1
        rejoin_is =
            ap (rejoin D K l (node_in a (suc l) parent) at) treats.treated
            ∙ ap (λ (n : Node (suc l)). plain n treats.course1) node_is

      waits_same : (e : Becomes (suc l)) → Up K a R L r (suc l) parent e → (0 < times_named key (cells_above a key)) → KeepsWaiting a b R
      waits_same e up named x j level other unnamed = elim (cases_lt j l) [
        | inl lower ↦ low x j level lower
        | inr high ↦ elim (cases_eq j l) [
          | inl same ↦ subst (λ (i : ℕ). node_in b i x ≡ node_in a i x) (sym same) (side x (level ∙ ap Some same) (λ h.
              let none : times_named key (cells_above a key) ≡ 0 = subst (λ (y : ℕ). times_named y (cells_above a y) ≡ 0) h unnamed in
              omega arith))
          | inr differs ↦ stays K a R L r t.pending.items linked b (suc l) parent e frame up x j (omega arith) level other unnamed
        ]
      ]

      pending_are : KeepsWaiting a b R → waiting_cells u ≡ base ++ reverse treats.course1.waiting
      pending_are keeps =
          let more = map (waiting_in b) (pending_at l treats.far) in
          let old = reverse so_far.course.waiting in
          ap (map (waiting_in b)) treats.pending_is
          ∙ map-append (waiting_in b) t.pending.items (pending_at l treats.far)
          ∙ ap (λ ws. ws ++ more) (waiting_same a b R L t.pending.items linked keeps ∙ so_far.pending_is)
          ∙ append_assoc base old more
          ∙ ap (λ ws. base ++ ws) (sym (
          ap reverse treats.waiting_is ∙ reverse-append (reverse more) so_far.course.waiting ∙ ap (λ ws. old ++ ws) (reverse-reverse more)))

    from_above : Above K a R L r l key (plain (node_in a l key) so_far.course) → Climbing u parent marks1
    from_above higher =
        let p = higher.p in
        let x = treat D K l (node_in a l key) so_far.course in
        let p_level = level_of_up K a R L r t.pending.items linked (suc l) p (rejoin D K l (node_in a (suc l) p) higher.at x) higher.up in
        let child = child_at a l p higher.at higher.c linked.children p_level higher.get in
        let same : p ≡ parent = same_Some p parent (sym child.parent_is ∙ ap (parent_at a) higher.is ∙ lifts.parent_is) in
        let above : level_at a parent ≡ Some (suc l) = ap (level_at a) (sym same) ∙ p_level in
        let found : slice_get (cells_at a parent) higher.at ≡ Some higher.c = ap (λ (q : ℕ). slice_get (cells_at a q) higher.at) (sym same) ∙ higher.get in
        let up_there : Up K a R L r (suc l) parent (rejoin D K l (node_in a (suc l) parent) higher.at x)
        = subst (λ (q : ℕ). Up K a R L r (suc l) q (rejoin D K l (node_in a (suc l) q) higher.at x)) same higher.up in
        let e = rejoin D K l (node_in a (suc l) parent) higher.at x in
        let is_there : 0 < times_named key (cells_above a key)
        = subst (λ (y : ℕ). 0 < times_named y (cells_above a y)) higher.is (is_named a R L t.pending.items linked l parent higher.at higher.c above found) in
        record {
          rising = lifts.next;
          root_is = lifts.keeps.root ∙ so_far.root_is;
          height_is = lifts.keeps.level ∙ so_far.height_is;
          capacity_is = lifts.keeps.capacity ∙ so_far.capacity_is;
          l = suc l;
          course = (treats above).course1;
          up = subst (λ (y : Becomes (suc l)). Up K b R L r (suc l) parent y) (rejoin_is above higher.at higher.c found higher.is)
              (moved K a R L r t.pending.items linked b (suc l) parent e (frame above) up_there);
          marks_is = (treats above).marks_is;
          pending_is = pending_are above (waits_same above e up_there is_there);
        }

    pub stepped : Climbing u parent marks1
    stepped = elim (up_cases K a R L r l key (plain (node_in a l key) so_far.course) so_far.up) [
      | inl is ↦ absurd (none-some parent (sym linked.root_parent ∙ ap (parent_at a) (sym is) ∙ lifts.parent_is))
      | inr higher ↦ from_above higher
    ]

  pub climbed : (s : Arena D) (from marks : ℕ) → Climbing s from marks → (t : Arena D) (key marks1 : ℕ) → ClimbsTo s from marks t key marks1 → Climbing t key marks1
  climbed s from marks start t key marks1 (ClimbsTo.none) = start
  climbed s from marks start t key marks1 (ClimbsTo.step {t = m} {key = k} {marks1 = marks2} {work1 = w} {work2 = v} steps lifts) =
      stepped m t k key marks2 marks1 w v (climbed s from marks start m k marks2 steps) lifts
