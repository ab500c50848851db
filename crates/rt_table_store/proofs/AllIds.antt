-- The ids of a tree are those of a table's rows: a list that has each of them, and no more elements, has each once.
use Rattle.std.proofs.Common.{◌≡◌, ℕ, zero, suc, ◌<◌, Bool, true, false, ◌||◌, cond, ℤ, List, [], ◌∷◌, length, map, get_or, Contains, Option, Some, None, arith, refl, ap, sym, ◌∙◌, subst}
use Rattle.std.specs.Prelude.{filter, find, is_some, ◌<ℤ◌}
use Rattle.std.specs.List.{list_any, remove}
use Rattle.std.specs.List.Sorted.{IsPermutation, IsSortedByKey}
use Rattle.std.specs.Option.{option_map}
use Rattle.std.specs.Ordering.{int_eq, int_cmp}
use Rattle.std.proofs.lemmas.Bool.{true≢false}
use Rattle.std.proofs.lemmas.List.{length-map}
use Rattle.std.proofs.lemmas.List.Elements.{All-from_recursion}
use Rattle.std.proofs.lemmas.List.Sorted.{IsPermutation-refl, IsPermutation-trans, IsPermutation-cons, IsPermutation-remove, length_permutation, list_any-IsPermutation}
use Rattle.indexmap.specs.IndexMap.{IndexMap}
use Rattle.rt_box.specs.Rect.{IsBox}
use Rattle.rt_check.specs.Shadow.{ShadowLists}
use Rattle.rt_tree_walk.specs.declared.searching.Row.{Row}
use Rattle.rt_sql_statement.specs.declared.value.Value.{Value}
use Rattle.rt_tree_sort.proofs.Buckets.{count-each}
use Rattle.rt_tree.specs.Boxes.{HasBoxes}
use Rattle.rt_tree.specs.Lists.{rows_of, box_of}
use Rattle.rt_tree.proofs.Members.{contains-map, contains-mapped}
use Rattle.rt_table_row.specs.Rows.{TableRow, AreRising}
use Rattle.rt_table_row.specs.Filters.{Placed, admits}
use Rattle.rt_table_store.specs.Trees.{leaf_row, IsTreeOf}
use Rattle.rt_table_store.specs.Picking.{picked_ids}
use Rattle.rt_table_store.proofs.Order.{eq_above, eq_same}
use Rattle.rt_table_store.proofs.Sorted.{Rises, rises}
use Rattle.rt_table_store.proofs.Alike.{count_permuted, sorted_climbs, counted_in_both, same_counts}
use Rattle.rt_table_store.proofs.Counted.{entries-counted}
use Rattle.rt_table_store.proofs.Ranking.{at-place}
use Rattle.rt_table_store.proofs.Found.{ids_rise, row_is_box, same_row, row_itself, row_same}
use Rattle.rt_table_store.proofs.Order.{eq_from}

first_or : (a b : Bool) → a ≡ true → (a || b) ≡ true
first_or true b e = refl
first_or false b e = absurd (true≢false (sym e))

second_or : (a b : Bool) → b ≡ true → (a || b) ≡ true
second_or true b e = refl
second_or false b e = e

other_or : (a b : Bool) → (a || b) ≡ true → a ≡ false → b ≡ true
other_or true b e no_a = absurd (true≢false no_a)
other_or false b e no_a = e

-- a list that has each of these numbers, and no more elements
each_once : (xs ys : List ℤ) → Rises (λ (z : ℤ). z) xs → ((q : ℤ) → list_any (int_eq q) xs ≡ true → list_any (int_eq q) ys ≡ true) → length ys ≡ length xs → IsPermutation ys xs
each_once [] [] rise inside long = IsPermutation-refl []
each_once [] (y ∷ ys) rise inside long = absurd (omega (arith, long))
each_once (x ∷ xs) ys rise inside long =
    let there : Contains ys x = at-place ys x (inside x (first_or (int_eq x x) (list_any (int_eq x) xs) (eq_same x))) in
    let left : List ℤ = remove ys there.0 in
    let moved : IsPermutation ys (x ∷ left) = IsPermutation-remove ys there.0 x there.1 (sym there.2) in
    let fewer : length left ≡ length xs = omega (arith, length_permutation ys (x ∷ left) moved, long) in
    let rest : (q : ℤ) → list_any (int_eq q) xs ≡ true → list_any (int_eq q) left ≡ true = λ q e.
    let later : Contains xs q = at-place xs q e in
    let above : x <ℤ q = subst (λ (z : ℤ). x <ℤ z) later.2 (All-from_recursion (λ (y : ℤ). x <ℤ y) xs rise.0 later.0 q later.1) in
    other_or (int_eq q x) (list_any (int_eq q) left)
    (sym (list_any-IsPermutation (int_eq q) ys (x ∷ left) moved) ∙ inside q (second_or (int_eq q x) (list_any (int_eq q) xs) e))
    (eq_above q x above) in
    IsPermutation-trans ys (x ∷ left) (x ∷ xs) moved (IsPermutation-cons x left xs (each_once xs left rise.1 rest fewer))

some-either : {X : Type 0} (b : Bool) (y : X) (o : Option X) → is_some o ≡ true → is_some (cond b (Some y) o) ≡ true
some-either true y o e = refl
some-either false y o e = e

found-some : {X : Type 0} (p : X → Bool) (xs : List X) (k : ℕ) (x : X) → k < length xs → x ≡ get_or xs k x → p x ≡ true → is_some (find p xs) ≡ true
found-some p [] k x within is e = absurd (omega (arith, within))
found-some p (y ∷ ys) zero x within is e = rw (ap p (sym is) ∙ e) refl
found-some p (y ∷ ys) (suc k) x within is e = some-either (p y) y (find p ys) (found-some p ys k x (omega (arith, within)) is e)

mapped-some : {X Y : Type 0} (f : X → Y) (o : Option X) → is_some o ≡ true → is_some (option_map f o) ≡ true
mapped-some f None e = e
mapped-some f (Some x) e = e

all-kept : (p : TableRow → Bool) (xs : List TableRow) → ((x : TableRow) → Contains xs x → p x ≡ true) → filter p xs ≡ xs
all-kept p [] all = refl
all-kept p (x ∷ xs) all =
    let first : p x ≡ true = all x (zero, omega arith, refl) in
    rw first (ap (λ ys. x ∷ ys) (all-kept p xs (λ y there. all y (suc there.0, omega (arith, there.1), there.2))))

module _ {D : ℕ} (rows : List TableRow) (tree : ShadowLists D) (rising : AreRising rows) (is : IsTreeOf rows tree) where
  in_tree : (q : ℤ) → list_any (int_eq q) (map (λ (row : TableRow). row.id) rows) ≡ true → is_some (box_of tree q) ≡ true
  in_tree q e =
      let listed = at-place (map (λ (row : TableRow). row.id) rows) q e in
      let row = contains-mapped (λ (row : TableRow). row.id) rows q listed in
      let there = counted_in_both (λ (r : Row D). r.id) same_row row_itself row_same (map leaf_row rows) (rows_of tree) (λ test. sym (is.each test)) (leaf_row row.0) (contains-map leaf_row rows row.0 row.1) in
      let same : int_eq q row.0.id ≡ true = ap (int_eq q) row.2 ∙ eq_same q in
      mapped-some (λ (r : Row D). r.rect) (find (λ (r : Row D). int_eq q r.id) (rows_of tree)) (found-some (λ (r : Row D). int_eq q r.id) (rows_of tree) there.0 (leaf_row row.0) there.1 (sym there.2) same)

  as_many : {S : Type 0} → IndexMap ℤ (List Value) S → length tree.rows ≡ length (map (λ (row : TableRow). row.id) rows)
  as_many auxiliary =
      let entries = entries-counted tree is.shape auxiliary in
      let same = is.each (λ (r : Row D). true) in
      let all = count-each (λ (r : Row D). true) (λ r. refl) (map leaf_row rows) in
      omega (arith, entries, same, all, length-map rows (leaf_row {D = D}), length-map rows (λ (row : TableRow). row.id))

  pub ids-of-all : {S : Type 0} → IndexMap ℤ (List Value) S → HasBoxes tree → (condition : Placed) → ((row : TableRow) → IsBox D row.box → admits condition row ≡ true) → (ids sorted : List ℤ)
      → ((q : ℤ) → list_any (int_eq q) ids ≡ is_some (box_of tree q)) → length ids ≡ length tree.rows → IsPermutation ids sorted → IsSortedByKey (λ (id : ℤ). id) int_cmp sorted
      → sorted ≡ picked_ids condition rows
  ids-of-all auxiliary boxes condition all ids sorted have long moved in_order =
      let rise : Rises (λ (id : ℤ). id) (map (λ (row : TableRow). row.id) rows) = ids_rise rows (rises (λ (row : TableRow). row.id) rows rising) in
      let once : IsPermutation ids (map (λ (row : TableRow). row.id) rows) =
      each_once (map (λ (row : TableRow). row.id) rows) ids rise (λ q e. have q ∙ in_tree q e) (long ∙ as_many auxiliary) in
      let kept : filter (admits condition) rows ≡ rows = all-kept (admits condition) rows (λ row there. all row (row_is_box rows tree rising is boxes row there)) in
      same_counts (λ (id : ℤ). id) int_eq eq_same eq_from sorted (map (λ (row : TableRow). row.id) rows) (sorted_climbs (λ (id : ℤ). id) sorted in_order) rise
      (λ test. count_permuted test ids sorted moved ∙ sym (count_permuted test ids (map (λ (row : TableRow). row.id) rows) once))
      ∙ ap (map (λ (row : TableRow). row.id)) (sym kept)
