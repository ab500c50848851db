-- Which rows an insertion and a removal move, said of the tree from outside.
use Rattle.std.proofs.Common.{◌≡◌, ◌≢◌, ℕ, suc, ◌+◌, ℤ, pos, List, [], ◌∷◌, ◌++◌, length, map, get_or, take, drop, Some, None, slice_get, arith, refl, ap, sym, ◌∙◌, subst, inl, inr}
use Rattle.std.proofs.Math.ListN.{get_or-map}
use Rattle.std.specs.List.{All, flat_map, remove, drop-map, take-map}
use Rattle.std.specs.Option.{option_map}
use Rattle.std.specs.Ordering.{int_eq}
use Rattle.std.proofs.lemmas.Option.{slice_get-map}
use Rattle.std.proofs.lemmas.List.{length-map, map-append}
use Rattle.std.proofs.lemmas.List.Elements.{All-head, All-tail}
use Rattle.indexmap.specs.IndexMap.{get as leaf_of}
use Rattle.rt_box.specs.declared.interval.Interval.{Interval}
use Rattle.rt_check.specs.declared.node.RawCell.{RawCell}
use Rattle.rt_check.specs.declared.node.RowEntry.{RowEntry}
use Rattle.rt_tree_choice.specs.Split.{IsBestCut, first_group, second_group}
use Rattle.rt_tree_node.specs.declared.arena.Arena.{Arena}
use Rattle.rt_tree_node.specs.declared.arena.Work.{Work}
use Rattle.rt_tree_node.specs.declared.cell.Cell.{Cell}
use Rattle.rt_tree_node.specs.Places.{key_of, rects, picked as picked_at, no_cell as no_cell_at, cells_at, level_at}
use Rattle.rt_tree_place.specs.Placement.{JoinsLeaf as JoinsAt, HalvesRoot as HalvesAt}
use Rattle.rt_tree_place.specs.Insertion.{Inserts}
use Rattle.rt_tree_remove.specs.Removal.{Removes, LeavesLeaf as LeavesAt}
use Rattle.rt_tree_remove.specs.Above.{way_up as way_above}
use Rattle.rt_tree_walk.specs.Search.{times}
use Rattle.rt_tree_walk.specs.Preorder.{keys_in, tree_keys, number_in}
use Rattle.rt_tree_outside.specs.Outside.{outside}
use Rattle.rt_tree_outside.specs.InOrder.{cells_of_number}
use Rattle.rt_tree_walk.proofs.Totals.{times-cons, times-one}
use Rattle.rt_tree_outside.proofs.Numbering.{place-here, place-later}
use Rattle.rt_tree_walk.proofs.Progress.{IsSettled}
use Rattle.rt_tree_walk.proofs.Listed.{levels-below, listed-once}
use Rattle.rt_tree_outside.proofs.Judged.{row}
use Rattle.rt_tree_outside.proofs.Flawless.{numbering}
use Rattle.rt_tree.specs.Lists.{root_level}
use Rattle.rt_tree.specs.Way.{boxes_in, cell_with, LeadsTo, JoinsLeaf, LeavesLeaf, ChangesLeaf, way_up}
use Rattle.rt_tree.specs.Moving.{picked, overfull, HalvesRoot, TakesRow, DropsRow}
use Rattle.rt_tree.proofs.Shape.{root-high}
use Rattle.rt_tree.proofs.Reading.{number, cells-read}
use Rattle.rt_tree.proofs.Along.{tree-same, changes-leaf}
use Rattle.rt_tree.proofs.Entries.{entry-some, entry-none, entry-same}
use Rattle.rt_tree.proofs.Leads.{boxes-back, leads-read, leads-low, way-read}

module _ {D : ℕ} where
  -- a leaf's cell from outside
  abbrev outer : Cell D → RawCell D
  outer c = cell_with c.number c.rect

  picked-outer : (cells : List (Cell D)) (positions : List ℕ) → map outer (picked_at cells positions) ≡ picked (map outer cells) positions
  picked-outer cells [] = refl
  picked-outer cells (p ∷ ps) =
      ap (λ c. c ∷ map outer (picked_at cells ps)) (sym (get_or-map outer cells p no_cell_at))
      ∙ ap (λ cs. get_or (map outer cells) p (outer no_cell_at) ∷ cs) (picked-outer cells ps)

  module _ (t u : Arena D) (s : IsSettled t) (s1 : IsSettled u) where
    root-one : number t t.root ≡ pos 1
    root-one = let is = numbering t s in is.first

    leaf-long : (k : ℕ) → level_at t.nodes k ≡ Some 0 → length (cells_of_number (outside t).nodes (number t k)) ≡ length (cells_at t.nodes k)
    leaf-long k e = ap length (cells-read t s k 0 e) ∙ length-map (cells_at t.nodes k) outer

    joins-leaf : (leaf : ℕ) (path : List ℕ) (cell : Cell D) → level_at t.nodes leaf ≡ Some 0 → JoinsAt t u leaf path cell →
        JoinsLeaf (outside t) (outside u) (number t leaf) (map (number t) path) (outer cell)
    joins-leaf leaf path cell low j =
        let same : number u ≡ number t = ap number_in (tree-same t u s j.root j.height leaf path low j.level j.parent j.others) in
        let entry : ℤ → RowEntry = λ z. record { id = cell.number; leaf = z } in
        record {
          changes = changes-leaf t u s j.root j.height leaf path low j.level j.parent j.others (λ cells. cells ++ outer cell ∷ [])
              (ap (map outer) j.cells ∙ map-append outer (cells_at t.nodes leaf) (cell ∷ []));
          here = entry-some u cell.number leaf j.home ∙ ap (λ (f : ℕ → ℤ). Some (entry (f leaf))) same;
          others = λ other ne. entry-same t u other same (j.homes other ne);
        }

    leaves-leaf : (leaf at : ℕ) (cell : Cell D) → level_at t.nodes leaf ≡ Some 0 → leaf_of int_eq u.leaves cell.number ≡ None → LeavesAt t u leaf at cell →
        LeavesLeaf (outside t) (outside u) (number t leaf) at (outer cell)
    leaves-leaf leaf at cell low gone l =
        let path = way_above t.nodes t.level leaf in
        let same : number u ≡ number t = ap number_in (tree-same t u s l.root l.height leaf path low l.level l.parent l.others) in
        let way : map (number t) path ≡ way_up (outside t).nodes (root_level (outside t)) (number t leaf) =
        way-read t s t.level leaf 0 low ∙ ap (λ n. way_up (outside t).nodes n (number t leaf)) (sym (root-high t s)) in
        let xs = cells_at t.nodes leaf in
        let fewer : map outer (remove xs at) ≡ remove (map outer xs) at =
        map-append outer (take at xs) (drop (suc at) xs)
        ∙ ap (λ ys. ys ++ map outer (drop (suc at) xs)) (sym (take-map outer at xs))
        ∙ ap (λ ys. take at (map outer xs) ++ ys) (sym (drop-map outer (suc at) xs)) in
        record {
          was = ap (λ cs. slice_get cs at) (cells-read t s leaf 0 low) ∙ slice_get-map outer xs at ∙ ap (option_map outer) l.was;
          changes = subst (λ (ns : List ℤ). ChangesLeaf (outside t) (outside u) (number t leaf) ns (λ cells. remove cells at)) way
              (changes-leaf t u s l.root l.height leaf path low l.level l.parent l.others (λ cells. remove cells at) (ap (map outer) l.cells ∙ fewer));
          gone = entry-none u cell.number gone;
          others = λ other ne. entry-same t u other same (l.homes other ne);
        }

    -- ---- the root halved
    module _ (cell : Cell D) (low : t.level ≡ 0) (h : HalvesAt t u cell) where
      abbrev first : ℕ
      first = key_of h.first

      abbrev second : ℕ
      second = key_of h.second

      keys-are : tree_keys u ≡ u.root ∷ first ∷ second ∷ []
      keys-are =
          ap (λ l. keys_in u.nodes l u.root) h.height
          ∙ ap (λ (cs : List (Cell D)). u.root ∷ flat_map (λ c. keys_in u.nodes 0 (key_of c)) cs) h.top

      top-level : level_at u.nodes u.root ≡ Some 1
      top-level = s1.whole.linked.root_level ∙ ap Some h.height

      below : All (λ (c : Cell D). level_at u.nodes (key_of c) ≡ Some 0) (h.first ∷ h.second ∷ [])
      below = subst (λ (cs : List (Cell D)). All (λ c. level_at u.nodes (key_of c) ≡ Some 0) cs) h.top (levels-below u s1 u.root 0 top-level)

      first-low : level_at u.nodes first ≡ Some 0
      first-low = All-head (λ (c : Cell D). level_at u.nodes (key_of c) ≡ Some 0) h.first (h.second ∷ []) below

      second-low : level_at u.nodes second ≡ Some 0
      second-low =
          All-head (λ (c : Cell D). level_at u.nodes (key_of c) ≡ Some 0) h.second []
          (All-tail (λ (c : Cell D). level_at u.nodes (key_of c) ≡ Some 0) h.first (h.second ∷ []) below)

      counted : (k : ℕ) → times k (tree_keys u) ≡ times k (u.root ∷ []) + times k (first ∷ []) + times k (second ∷ [])
      counted k = ap (times k) keys-are ∙ omega (arith, times-cons k u.root (first ∷ second ∷ []), times-cons k first (second ∷ []))

      root-first : u.root ≢ first
      root-first e = absurd (omega (arith, counted first, listed-once u s1 first 0 first-low, times-one first u.root e, times-one first first refl))

      root-second : u.root ≢ second
      root-second e = absurd (omega (arith, counted second, listed-once u s1 second 0 second-low, times-one second u.root e, times-one second second refl))

      first-second : first ≢ second
      first-second e = absurd (omega (arith, counted second, listed-once u s1 second 0 second-low, times-one second first e, times-one second second refl))

      number-first : number u first ≡ pos 2
      number-first =
          ap (λ ks. number_in ks first) keys-are
          ∙ ap pos (omega (arith, place-later u.root first (first ∷ second ∷ []) root-first, place-here first first (second ∷ []) refl))

      number-second : number u second ≡ pos 3
      number-second =
          ap (λ ks. number_in ks second) keys-are
          ∙ ap pos (omega (
            arith,
            place-later u.root second (first ∷ second ∷ []) root-second,
            place-later first second (second ∷ []) first-second,
            place-here second second [] refl,
          ))

      all-cells : overfull (outside t) (outer cell) ≡ map outer (cells_at t.nodes t.root ++ cell ∷ [])
      all-cells =
          ap (λ z. cells_of_number (outside t).nodes z ++ outer cell ∷ []) (sym root-one)
          ∙ ap (λ cs. cs ++ outer cell ∷ []) (cells-read t s t.root 0 (s.whole.linked.root_level ∙ ap Some low))
          ∙ sym (map-append outer (cells_at t.nodes t.root) (cell ∷ []))

      all-boxes : boxes_in (overfull (outside t) (outer cell)) ≡ rects (cells_at t.nodes t.root ++ cell ∷ [])
      all-boxes = ap boxes_in all-cells ∙ boxes-back (number t) 0 (cells_at t.nodes t.root ++ cell ∷ [])

      -- a group of all cells
      group : (positions positions1 : List ℕ) → positions1 ≡ positions →
          map outer (picked_at (cells_at t.nodes t.root ++ cell ∷ []) positions) ≡ picked (overfull (outside t) (outer cell)) positions1
      group positions positions1 e =
          picked-outer (cells_at t.nodes t.root ++ cell ∷ []) positions
          ∙ ap (λ cs. picked cs positions) (sym all-cells)
          ∙ ap (picked (overfull (outside t) (outer cell))) (sym e)

      halves-root : HalvesRoot (outside t) (outside u) (outer cell)
      halves-root = record {
        cut = h.parts.cut;
        best = subst (λ (bs : List (List Interval)). IsBestCut D bs t.capacity h.parts.cut) (sym all-boxes) h.parts.best;
        height = root-high u s1 ∙ h.height;
        count = length-map (tree_keys u) (row u s1 (tree_keys u) (number u) (numbering u s1)) ∙ ap length keys-are;
        first = ap (cells_of_number (outside u).nodes) (sym number-first) ∙ cells-read u s1 first 0 first-low ∙ ap (map outer) h.parts.first_is
            ∙ group (first_group (rects (cells_at t.nodes t.root ++ cell ∷ [])) h.parts.cut) (first_group (boxes_in (overfull (outside t) (outer cell))) h.parts.cut)
            (ap (λ bs. first_group bs h.parts.cut) all-boxes);
        second = ap (cells_of_number (outside u).nodes) (sym number-second) ∙ cells-read u s1 second 0 second-low ∙ ap (map outer) h.parts.second_is
            ∙ group (second_group (rects (cells_at t.nodes t.root ++ cell ∷ [])) h.parts.cut) (second_group (boxes_in (overfull (outside t) (outer cell))) h.parts.cut)
            (ap (λ bs. second_group bs h.parts.cut) all-boxes);
      }

    pub takes-row : (id : ℤ) (rect : List Interval) (work : Work) → Inserts t u id rect work → TakesRow (outside t) (outside u) id rect work
    takes-row id rect work i =
        let cell : Cell D = record { number = id; rect = rect } in
        let high : level_at t.nodes t.root ≡ Some t.level = s.whole.linked.root_level in
        let low = leads-low t s t.level t.root rect i.leaf i.path high i.leads in
        let level = root-high t s in
        let level1 = root-high u s1 in
        let long = leaf-long i.leaf low in
        let way = leads-read t s t.level t.root rect i.leaf i.path high i.leads in
        record {
          leaf = number t i.leaf;
          path = map (number t) i.path;
          leads = subst (λ (z : ℤ). LeadsTo (outside t).nodes (root_level (outside t)) z rect (number t i.leaf) (map (number t) i.path)) root-one
              (subst (λ (l : ℕ). LeadsTo (outside t).nodes l (number t t.root) rect (number t i.leaf) (map (number t) i.path)) (sym level) way);
          joins = λ fits. joins-leaf i.leaf i.path cell low (i.joins (omega (arith, long, fits)));
          halves = λ flat full. let zero_level : t.level ≡ 0 = sym level ∙ flat in halves-root cell zero_level (i.halves zero_level (omega (arith, long, full)));
          placements = i.placements;
          few = omega (arith, i.few, level1);
          none = (
            λ e. elim (i.none.0 e) [ inl fits ↦ inl (omega (arith, long, fits)) | inr flat ↦ inr (level ∙ flat) ],
            λ h. elim h [ inl fits ↦ i.none.1 (inl (omega (arith, long, fits))) | inr flat ↦ i.none.1 (inr (sym level ∙ flat)) ],
          );
          plain = λ e. omega (arith, i.plain e, level, level1);
        }

    pub drops-row : (id : ℤ) (rect : List Interval) (k : ℕ) → leaf_of int_eq t.leaves id ≡ Some k → level_at t.nodes k ≡ Some 0 → Removes t u id rect →
        DropsRow (outside t) (outside u) id rect
    drops-row id rect k e low r =
        let cell : Cell D = record { number = id; rect = rect } in
        let is = numbering t s in
        record {
          leaf = number t k;
          entry = entry-some t id k e;
          leaves = λ h.
              let exact = r.exact k e (λ ne. elim h [
                | inl top ↦ absurd (ne (sym (is.apart k t.root (0, low) (top ∙ sym root-one))))
                | inr more ↦ omega (arith, more, leaf-long k low)
              ]) in
              (exact.0, leaves-leaf k exact.0 cell low r.ids.gone exact.1);
        }
