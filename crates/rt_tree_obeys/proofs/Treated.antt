-- What becomes of a node in the arena is what the rules make of its nested view.
use Rattle.std.proofs.Common.{◌≡◌, ℕ, suc, ◌<◌, List, [], ◌∷◌, ◌++◌, map, length, get_or, reverse, Some, slice_get, refl, sym, ap, ◌∙◌, subst, arith}
use Rattle.std.specs.List.{All, range_with_len}
use Rattle.std.specs.List.Sorted.{IsPermutation}
use Rattle.std.proofs.lemmas.Option.{slice_get-map, slice_get-get_or}
use Rattle.std.proofs.lemmas.List.{length-map, map-append, reverse-reverse, reverse-append}
use Rattle.std.proofs.lemmas.List.Elements.{All-head, All-tail}
use Rattle.rt_box.specs.declared.interval.Interval.{Interval}
use Rattle.rt_tree_choice.specs.declared.split.Cut.{Cut}
use Rattle.rt_tree_choice.specs.Split.{first_group, second_group}
use Rattle.rt_tree_choice.specs.Sorting.{positions}
use Rattle.rt_tree_choice.specs.Reinsertion.{farthest_positions}
use Rattle.slab.specs.Slab.{Slab}
use Rattle.rt_tree_node.specs.declared.cell.Cell.{Cell}
use Rattle.rt_tree_node.specs.Node.{NodeCells}
use Rattle.rt_tree_node.specs.Places.{key_of, cells_at, level_at, rects, pending_at, no_cell, picked as picked_cells}
use Rattle.rt_tree_node.proofs.Links.{All-left, All-right}
use Rattle.rt_tree_place.specs.Rules.{Parts, ReInserts}
use Rattle.rt_tree_place.proofs.Groups.{front-below, back-below, All-picked}
use Rattle.rt_tree_place.proofs.Positions.{parted-within}
use Rattle.rt_tree_rules.specs.Nested.{Entry, Node, Waiting, boxes}
use Rattle.rt_tree_rules.specs.Placing.{picked, best_cut, near_positions, Becomes, Course, split, reinsert}
use Rattle.rt_tree_rules.proofs.Chosen.{cut as cut_taken}
use Rattle.rt_tree_obeys.specs.View.{entry_in, node_in, waiting_in}
use Rattle.rt_tree_obeys.proofs.Frames.{SameBelow, entries_same}
use Rattle.rt_tree_obeys.proofs.Boxes.{map_map}
use Rattle.rt_tree_obeys.proofs.Near.{near_stay}

picked_one : {X Y : Type 0} (f : X → Y) (d : X) (xs : List X) (p : ℕ) (ps : List ℕ) → p < length xs →
    picked (map f xs) (p ∷ ps) ≡ f (get_or xs p d) ∷ picked (map f xs) ps
picked_one f d xs p ps within =
    let here : slice_get (map f xs) p ≡ Some (f (get_or xs p d)) = slice_get-map f xs p ∙ rw (slice_get-get_or xs p d within) in
    rw here

-- the cells at some positions, seen nested
pub picked_map : {X Y : Type 0} (f : X → Y) (d : X) (xs : List X) (ps : List ℕ) → All (λ p. p < length xs) ps →
    picked (map f xs) ps ≡ map f (map (λ p. get_or xs p d) ps)
picked_map f d xs [] within = refl
picked_map f d xs (p ∷ ps) within =
    picked_one f d xs p ps (All-head (λ q. q < length xs) p ps within)
    ∙ ap (λ ys. f (get_or xs p d) ∷ ys) (picked_map f d xs ps (All-tail (λ q. q < length xs) p ps within))

abbrev pub halves : {l : ℕ} → Course → Node l → Node l → Becomes l
halves spent n m = record { node = n; beside = m ∷ []; course = spent }

abbrev pub relieved : {l : ℕ} → Course → Node l → List Waiting → Becomes l
relieved {l} course n ws = record {
  node = n;
  beside = [];
  course = record { marks = suc l; waiting = ws ++ course.waiting; work = record course.work { reinsertions = suc course.work.reinsertions } };
}

pub map_reverse : {X Y : Type 0} (f : X → Y) (xs : List X) → map f (reverse xs) ≡ reverse (map f xs)
map_reverse f [] = refl
map_reverse f (x ∷ xs) =
    ap (map f) (reverse-append (x ∷ []) xs) ∙ map-append f (reverse xs) (x ∷ []) ∙ ap (λ ys. ys ++ f x ∷ []) (map_reverse f xs)
    ∙ sym (reverse-append (f x ∷ []) (map f xs))

module _ {D : ℕ} (K : ℕ) (a b : Slab (NodeCells D)) (l key : ℕ) where
  -- what is below the node's cells is the same before and after
  abbrev pub KeepsBelow : Type 0
  KeepsBelow = SameBelow a b l × ((i : ℕ) → l ≡ suc i → All (λ c. level_at a (key_of c) ≡ Some i) (cells_at a key))

  picked_view : (ps : List ℕ) → KeepsBelow → All (λ p. p < length (cells_at a key)) ps →
      picked (node_in a l key) ps ≡ map (entry_in b l) (picked_cells (cells_at a key) ps)
  picked_view ps keeps within =
      picked_map (entry_in a l) no_cell (cells_at a key) ps within
      ∙ sym (entries_same a b l l (picked_cells (cells_at a key) ps) keeps.0 (omega arith)
      (λ i is. All-picked (λ c. level_at a (key_of c) ≡ Some i) (cells_at a key) ps within (keeps.1 i is)))

  pub splits : (first_key sibling : ℕ) (course : Course) → KeepsBelow → boxes l (node_in a l key) ≡ rects (cells_at a key) →
      Parts K (cells_at a key) (cells_at b first_key) (cells_at b sibling) →
      split D K l (node_in a l key) course ≡ record {
        node = node_in b l first_key;
        beside = node_in b l sibling ∷ [];
        course = record course { work = record course.work { splits = suc course.work.splits } };
      }
  splits first_key sibling course keeps same parts =
      let cells = cells_at a key in
      let long = length-map cells (λ (c : Cell D). c.rect) in
      let cut = parts.cut in
      let first = picked_view (first_group (rects cells) cut) keeps (front-below (rects cells) cut.axis cut.upper cut.first (length cells) long)
      ∙ ap (map (entry_in b l)) (sym parts.first_is) in
      let second = picked_view (second_group (rects cells) cut) keeps (back-below (rects cells) cut.axis cut.upper cut.first (length cells) long)
      ∙ ap (map (entry_in b l)) (sym parts.second_is) in
      let spent = record course { work = record course.work { splits = suc course.work.splits } } in
      let group = λ (bs : List (List Interval)) (c : Cut). halves spent (picked (node_in a l key) (first_group bs c)) (picked (node_in a l key) (second_group bs c)) in
      ap (λ (bs : List (List Interval)). group bs (best_cut D K bs)) same
      ∙ ap (group (rects cells)) (cut_taken D K (rects cells) cut parts.best)
      ∙ ap (λ (n : Node l). halves spent n (picked (node_in a l key) (second_group (rects cells) cut))) first
      ∙ ap (λ (n : Node l). halves spent (node_in b l first_key) n) second

  pub reinserts : (far : List (Cell D)) (course : Course) → KeepsBelow → boxes l (node_in a l key) ≡ rects (cells_at a key) →
      ReInserts K (cells_at a key) (cells_at b key) far →
      reinsert D K l (node_in a l key) course ≡ record {
        node = node_in b l key;
        beside = [];
        course = record {
          marks = suc l;
          waiting = reverse (map (waiting_in b) (pending_at l far)) ++ course.waiting;
          work = record course.work { reinsertions = suc course.work.reinsertions };
        };
      }
  reinserts far course keeps same chosen =
      let cells = cells_at a key in
      let long : length (rects cells) ≡ length cells = length-map cells (λ (c : Cell D). c.rect) in
      let away = farthest_positions (rects cells) K in
      let parted : IsPermutation (range_with_len 0 (length cells)) (away ++ chosen.kept) = chosen.parted in
      let parted_boxes : IsPermutation (positions (rects cells)) (away ++ chosen.kept)
      = subst (λ (n : ℕ). IsPermutation (range_with_len 0 n) (away ++ chosen.kept)) (sym long) parted in
      let within = parted-within (length cells) away chosen.kept parted in
      let near = near_stay (rects cells) K chosen.kept parted_boxes chosen.rising in
      let stay = picked_view chosen.kept keeps (All-right (λ p. p < length cells) away chosen.kept within) ∙ ap (map (entry_in b l)) (sym chosen.stay) in
      let leave = picked_view away keeps (All-left (λ p. p < length cells) away chosen.kept within) in
      let wait : Entry l → Waiting = λ e. record { level = l; entry = e } in
      let back : map wait (map (entry_in b l) (picked_cells cells away)) ≡ reverse (map (waiting_in b) (pending_at l far))
      = map_map wait (entry_in b l) (picked_cells cells away) ∙ map_map (λ (c : Cell D). wait (entry_in b l c)) (λ p. get_or cells p no_cell) away
      ∙ sym (
      ap (λ cs. reverse (map (waiting_in b) (pending_at l cs))) chosen.leave
      ∙ ap reverse (map_map (waiting_in b) (λ c. record { level = l; cell = c }) (picked_cells cells (reverse away))
      ∙ map_map (λ (c : Cell D). wait (entry_in b l c)) (λ p. get_or cells p no_cell) (reverse away)
      ∙ map_reverse (λ p. wait (entry_in b l (get_or cells p no_cell))) away)
      ∙ reverse-reverse (map (λ p. wait (entry_in b l (get_or cells p no_cell))) away)
      ) in
      let group = λ (bs : List (List Interval)) (ps : List ℕ).
      relieved course (picked (node_in a l key) ps) (map wait (picked (node_in a l key) (farthest_positions bs K))) in
      ap (λ (bs : List (List Interval)). group bs (near_positions K bs)) same
      ∙ ap (group (rects cells)) near
      ∙ ap (λ (n : Node l). relieved course n (map wait (picked (node_in a l key) away))) stay
      ∙ ap (λ (es : List (Entry l)). relieved course (node_in b l key) (map wait es)) leave
      ∙ ap (relieved course (node_in b l key)) back
