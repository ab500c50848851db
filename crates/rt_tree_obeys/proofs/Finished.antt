-- Where the way up ends, nothing is left to be done; and an overfull root is split as the rules split it.
use Rattle.std.proofs.Common.{◌≡◌, ◌≢◌, ◌⊎◌, inl, inr, ℕ, zero, suc, ◌<◌, ◌≤◌, true, false, List, [], ◌∷◌, ◌++◌, map, length, get_or, set, Some, refl, sym, ap, ◌∙◌, subst, arith}
use Rattle.std.specs.Prelude.{nat_le}
use Rattle.std.proofs.lemmas.Bool.Decides.{nat_tests}
use Rattle.std.proofs.lemmas.Option.{none-some, slice_get_within, get_or_from_slice_get}
use Rattle.std.proofs.lemmas.List.{length-map, append-nil, get_or-map, set-get_or}
use Rattle.slab.specs.Slab.{Slab}
use Rattle.rt_tree_node.specs.declared.arena.Arena.{Arena}
use Rattle.rt_tree_node.specs.declared.arena.Work.{Work as Counts}
use Rattle.rt_tree_node.specs.declared.cell.Pending.{Pending}
use Rattle.rt_tree_node.specs.Node.{NodeCells}
use Rattle.rt_tree_node.specs.Places.{key_of, cells_at, level_at, parent_at}
use Rattle.rt_tree_node.specs.Sound.{IsLinked}
use Rattle.rt_tree_place.specs.Rules.{Parts}
use Rattle.rt_tree_place.specs.Rise.{Grows, StaysRoot, SplitsRoot}
use Rattle.rt_tree_rules.specs.Nested.{Node, Tree}
use Rattle.rt_tree_rules.specs.Placing.{Becomes, Course, Standing, split, treat, rejoin, grow}
use Rattle.rt_tree_obeys.specs.View.{entry_in, node_in, tree_in, waiting_in, waiting_cells}
use Rattle.rt_tree_obeys.proofs.Frames.{SameBelow, below, node_same, same_level}
use Rattle.rt_tree_obeys.proofs.Ways.{Up, top, next, child_at, level_of_up}
use Rattle.rt_tree_obeys.proofs.Boxes.{HasHulls, boxes_kept}
use Rattle.rt_tree_obeys.proofs.Treated.{KeepsBelow, splits}
use Rattle.rt_tree_obeys.proofs.Stepped.{plain, treat_fits, KeepsWaiting, waiting_same}

module _ {D : ℕ} (K R L : ℕ) (r : Becomes L) (a : Slab (NodeCells D)) (ws : List (Pending D)) (linked : IsLinked a R L ws) where
  -- from a node that isn't overfull the rules leave all nodes up to the root as they are
  pub finished : (course : Course) (low l key : ℕ) (e : Becomes l) → ((x j : ℕ) → level_at a x ≡ Some j → low < j → length (cells_at a x) ≤ K) →
      low ≤ l → e ≡ plain (node_in a l key) course → (key ≡ R) ⊎ (length (cells_at a key) ≤ K) → Up K a R L r l key e →
      r ≡ plain (node_in a L R) course
  finished course low l key e fit_above lower is fits (top root) = is ∙ ap (λ (k : ℕ). plain (node_in a L k) course) root
  finished course low l key e fit_above lower is fits (next p at c get named up) =
      let here = level_of_up K a R L r ws linked (suc l) p (rejoin D K l (node_in a (suc l) p) at (treat D K l e.node e.course)) up in
      let child = child_at a l p at c linked.children here get in
      let fit : length (cells_at a key) ≤ K = elim fits [
        | inl root ↦ absurd (none-some p (sym linked.root_parent ∙ ap (parent_at a) (sym root ∙ sym named) ∙ child.parent_is))
        | inr fit ↦ fit
      ] in
      let long = length-map (cells_at a key) (entry_in a l) in
      let treated : treat D K l e.node e.course ≡ plain (node_in a l key) course
      = ap (λ (x : Becomes l). treat D K l x.node x.course) is ∙ treat_fits D K l (node_in a l key) course (omega arith) in
      let within = slice_get_within (cells_at a p) at c get in
      let own : get_or (node_in a (suc l) p) at [] ≡ node_in a l key
      = get_or-map (entry_in a (suc l)) (cells_at a p) at c [] within
      ∙ ap (entry_in a (suc l)) (get_or_from_slice_get (cells_at a p) at c c get) ∙ ap (node_in a l) named in
      let same : set (node_in a (suc l) p) at (node_in a l key) ++ [] ≡ node_in a (suc l) p
      = append-nil (set (node_in a (suc l) p) at (node_in a l key))
      ∙ ap (λ (n : Node l). set (node_in a (suc l) p) at n) (sym own) ∙ set-get_or (node_in a (suc l) p) at [] in
      finished course low (suc l) p (rejoin D K l (node_in a (suc l) p) at (treat D K l e.node e.course)) fit_above (omega arith)
      (ap (rejoin D K l (node_in a (suc l) p) at) treated ∙ ap (λ (n : Node (suc l)). plain n course) same)
      (inr (fit_above p (suc l) here (omega arith))) up

grow_fits : (axes K l : ℕ) (root : Node l) (course : Course) → length root ≤ K →
    grow axes K l root course ≡ record { tree = record { level = l; root = root }; course = course }
grow_fits axes K l root course fits = let e : nat_le (length root) K ≡ true = grind (arith, nat_tests) in rw (e, grow)

abbrev pub raised_tree : {l : ℕ} → Becomes l → Standing
raised_tree {l} halves = record { tree = record { level = suc l; root = halves.node ∷ halves.beside }; course = halves.course }

grow_splits : (axes K l : ℕ) (root : Node l) (course : Course) → K < length root →
    grow axes K l root course ≡ raised_tree (split axes K l root course)
grow_splits axes K l root course full = let e : nat_le (length root) K ≡ false = grind (arith, nat_tests) in rw (e, grow)

module _ {D : ℕ} where
  -- what the rules make of the root, and the cells that wait then
  pub record Growth (K : ℕ) (t u : Arena D) (R L : ℕ) (course : Course) : Type 0 where
    pub course1 : Course
    pub grown : grow D K L (node_in t.nodes L R) course ≡ record { tree = tree_in u; course = course1 }
    pub marks_same : course1.marks ≡ course.marks
    pub waiting_same : course1.waiting ≡ course.waiting
    pub pending_same : waiting_cells u ≡ waiting_cells t

  pub tree_is : (t : Arena D) (R L : ℕ) → t.root ≡ R → t.level ≡ L → tree_in t ≡ record { level = L; root = node_in t.nodes L R }
  tree_is t R L root level =
      ap (λ (k : ℕ). record { level = t.level; root = node_in t.nodes t.level k }) root
      ∙ ap (λ (l : ℕ). record { level = l; root = node_in t.nodes l R }) level

  module _ (K : ℕ) (t u : Arena D) (R L : ℕ) (course : Course) (root_is : t.root ≡ R) (level_is : t.level ≡ L) (capacity_is : t.capacity ≡ K)
      (linked : IsLinked t.nodes R L t.pending.items) where
    stays_root : (work work1 : Counts) → StaysRoot t u work work1 → Growth K t u R L course
    stays_root work work1 stays =
        let long = length-map (cells_at t.nodes R) (entry_in t.nodes L) in
        let fits : length (cells_at t.nodes R) ≤ K = subst (λ (k : ℕ). length (cells_at t.nodes k) ≤ K) root_is (omega (arith, stays.fits)) in
        record {
          course1 = course;
          grown = grow_fits D K L (node_in t.nodes L R) course (omega arith)
              ∙ ap (λ (x : Tree). record { tree = x; course = course }) (sym (tree_is t R L root_is level_is) ∙ ap tree_in (sym stays.same));
          marks_same = refl;
          waiting_same = refl;
          pending_same = ap waiting_cells stays.same;
        }

    module _ (work work1 : Counts) (splits_root : SplitsRoot t u work work1) (hulls : HasHulls t.nodes L) (pending : u.pending ≡ t.pending) where
      abbrev a : Slab (NodeCells D)
      a = t.nodes

      abbrev b : Slab (NodeCells D)
      b = u.nodes

      others : (x j : ℕ) → level_at a x ≡ Some j → x ≢ R → cells_at b x ≡ cells_at a x
      others x j here other = splits_root.others x j here (λ e. other (e ∙ root_is))

      low : SameBelow a b L
      low = below a b L linked.children (λ x j here less. others x j here (λ e.
          let same = same_level j L (level_at a R) (ap (level_at a) (sym e) ∙ here) linked.root_level in
          absurd (omega arith)))

      keeps : KeepsWaiting a b R
      keeps x j here other unnamed = by j here (linked.levels x j here)
        where
          by : (j : ℕ) → level_at a x ≡ Some j → j ≤ L → node_in b j x ≡ node_in a j x
          by zero here high = ap (map (entry_in b zero)) (others x zero here other)
          by (suc i) here high = node_same a b i x linked.children here (others x (suc i) here other)
              (λ k d within. low (key_of (get_or (cells_at a x) k d)) i (linked.children x i here k d within).names.level_is (omega arith))

      splits_as_ruled : Growth K t u R L course
      splits_as_ruled =
          let parts : Parts K (cells_at a R) (cells_at b (key_of splits_root.first)) (cells_at b (key_of splits_root.second))
          = subst (λ (k : ℕ). Parts K (cells_at a k) (cells_at b (key_of splits_root.first)) (cells_at b (key_of splits_root.second))) root_is
          (subst (λ (k : ℕ). Parts k (cells_at a t.root) (cells_at b (key_of splits_root.first)) (cells_at b (key_of splits_root.second))) capacity_is splits_root.parts) in
          let long = length-map (cells_at a R) (entry_in a L) in
          let full : K < length (cells_at a R) = subst (λ (k : ℕ). K < length (cells_at a k)) root_is (omega (arith, splits_root.full)) in
          let keeps_below : KeepsBelow K a b L R = (low, λ i is k d within. (linked.children R i (linked.root_level ∙ ap Some is) k d within).names.level_is) in
          let halves = splits K a b L R (key_of splits_root.first) (key_of splits_root.second) course keeps_below
          (boxes_kept a L linked.children hulls L R linked.root_level (omega arith)) parts in
          let course1 = record course { work = record course.work { splits = suc course.work.splits } } in
          let height : u.level ≡ suc L = splits_root.height ∙ ap suc level_is in
          let new_root : node_in b (suc L) u.root ≡ node_in b L (key_of splits_root.first) ∷ node_in b L (key_of splits_root.second) ∷ []
          = ap (map (entry_in b (suc L))) splits_root.top in
          let tree : tree_in u ≡ record { level = suc L; root = node_in b L (key_of splits_root.first) ∷ node_in b L (key_of splits_root.second) ∷ [] }
          = tree_is u u.root (suc L) refl height ∙ ap (λ (n : Node (suc L)). record { level = suc L; root = n }) new_root in
          record {
            course1 = course1;
            grown = grow_splits D K L (node_in a L R) course (omega arith) ∙ ap raised_tree halves ∙ ap (λ (x : Tree). record { tree = x; course = course1 }) (sym tree);
            marks_same = refl;
            waiting_same = refl;
            pending_same = ap (λ v. map (waiting_in b) v.items) pending ∙ waiting_same a b R L t.pending.items linked keeps;
          }

    pub growth : (work work1 : Counts) → Grows t u work work1 → (t.capacity < length (cells_at t.nodes t.root) → HasHulls t.nodes L) → Growth K t u R L course
    growth work work1 grows hulls = elim grows.split [
      | inl stays ↦ stays_root work work1 stays
      | inr splits_root ↦ splits_as_ruled work work1 splits_root (hulls splits_root.full) grows.pending
    ]
