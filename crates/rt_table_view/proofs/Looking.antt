-- The rows of a view, looked up by its ids.
use Rattle.std.proofs.Common.{◌≡◌, ℕ, ℤ, Bool, true, false, cond, ◌||◌, List, [], ◌∷◌, map, filter, Option, Some, None, refl, sym, ap, subst, ◌∙◌}
use Rattle.std.specs.Prelude.{find}
use Rattle.std.specs.List.{AllByRecursion, IsDistinct, count_by, list_any, filter_map, cons_option}
use Rattle.std.specs.List.Sorted.{IsPermutation, IsSortedByKey}
use Rattle.std.specs.Option.{option_map}
use Rattle.std.specs.Ordering.{int_eq, int_cmp}
use Rattle.rt_tree_walk.specs.declared.searching.Row.{Row}
use Rattle.rt_tree_walk.proofs.Judging.{count-mapped}
use Rattle.rt_table_row.specs.Rows.{TableRow, AreRising, row_at}
use Rattle.rt_table_store.specs.Trees.{leaf_row}
use Rattle.rt_table_store.proofs.Order.{eq_from}
use Rattle.rt_table_store.proofs.Sorted.{kept, at_key, rises, rises-filter, at_key-filter}
use Rattle.rt_table_store.proofs.Soundness.{found_in}
use Rattle.rt_table_store.proofs.Alike.{count_permuted, sorted_climbs, same_counts}
use Rattle.rt_table_store.proofs.Counted.{Distinct, same-counts}
use Rattle.rt_table_store.proofs.Found.{leaf_rises, same_row, row_itself, row_same}
use Rattle.rt_table_view.specs.Watching.{KeepsIds, is_picked}

-- ---- what is looked up stands at each id

-- the row of an id has it
own_id : (rows : List TableRow) (id : ℤ) (r : TableRow) → row_at rows id ≡ Some r → id ≡ r.id
own_id rows id r found = eq_from id r.id (found_in (λ (z : TableRow). int_eq id z.id) rows r found).1

abbrev at_id : List TableRow → ℤ → Option TableRow
at_id rows q = at_key (λ (r : TableRow). r.id) rows q

either_none : (b : Bool) → cond b None None ≡ (let none : Option TableRow = None in none)
either_none true = refl
either_none false = refl

module _ (rows : List TableRow) where
  none_named : (id q : ℤ) (later : Bool) → row_at rows id ≡ None → (b : Bool) → int_eq q id ≡ b → cond later (row_at rows q) None ≡ cond (b || later) (row_at rows q) None
  none_named id q later none true same =
      let here : row_at rows q ≡ None = subst (λ (z : ℤ). row_at rows z ≡ None) (sym (eq_from q id same)) none in
      ap (λ (o : Option TableRow). cond later o None) here ∙ either_none later ∙ sym here
  none_named id q later none false other = refl

  one_named : (id q : ℤ) (r : TableRow) (rest : Option TableRow) (later : Bool) → row_at rows id ≡ Some r → rest ≡ cond later (row_at rows q) None → (b : Bool) → int_eq q id ≡ b →
      cond b (Some r) rest ≡ cond (b || later) (row_at rows q) None
  one_named id q r rest later found is true same = sym (subst (λ (z : ℤ). row_at rows z ≡ Some r) (sym (eq_from q id same)) found)
  one_named id q r rest later found is false other = is

  named_next : (id q : ℤ) (ids : List ℤ) → at_id (filter_map (row_at rows) ids) q ≡ cond (list_any (int_eq q) ids) (row_at rows q) None → (o : Option TableRow) → row_at rows id ≡ o →
      at_id (cons_option o (filter_map (row_at rows) ids)) q ≡ cond (int_eq q id || list_any (int_eq q) ids) (row_at rows q) None
  named_next id q ids later None e = later ∙ none_named id q (list_any (int_eq q) ids) e (int_eq q id) refl
  named_next id q ids later (Some r) e =
      ap (λ (z : ℤ). cond (int_eq q z) (Some r) (at_id (filter_map (row_at rows) ids) q)) (sym (own_id rows id r e))
      ∙ one_named id q r (at_id (filter_map (row_at rows) ids) q) (list_any (int_eq q) ids) e later (int_eq q id) refl

  -- at each of the ids what the rows have there, and nothing elsewhere
  named_at : (ids : List ℤ) (q : ℤ) → at_id (filter_map (row_at rows) ids) q ≡ cond (list_any (int_eq q) ids) (row_at rows q) None
  named_at [] q = refl
  named_at (id ∷ ids) q = named_next id q ids (named_at ids q) (row_at rows id) refl

  not_any : (id : ℤ) (ids : List ℤ) → AllByRecursion (λ y. int_eq id y ≡ false) ids → list_any (int_eq id) ids ≡ false
  not_any id [] others = refl
  not_any id (y ∷ ids) others = rw others.0 (not_any id ids others.1)

  once_next : (id : ℤ) (ids : List ℤ) → list_any (int_eq id) ids ≡ false → Distinct (λ (r : TableRow). r.id) (filter_map (row_at rows) ids) → (o : Option TableRow) → row_at rows id ≡ o →
      Distinct (λ (r : TableRow). r.id) (cons_option o (filter_map (row_at rows) ids))
  once_next id ids alone later None e = later
  once_next id ids alone later (Some r) e = (
    named_at ids r.id ∙ ap (λ (b : Bool). cond b (row_at rows r.id) None) (subst (λ (z : ℤ). list_any (int_eq z) ids ≡ false) (own_id rows id r e) alone),
    later,
  )

  -- each row once, if each id is
  named_once : (ids : List ℤ) → IsDistinct int_eq ids → Distinct (λ (r : TableRow). r.id) (filter_map (row_at rows) ids)
  unfolding IsDistinct
  named_once [] once = tt
  named_once (id ∷ ids) once = once_next id ids (not_any id ids once.0) (named_once ids once.1) (row_at rows id) refl

  module _ (p : TableRow → Bool) (ids : List ℤ) (rise : AreRising rows) (keeps : KeepsIds p rows ids) where
    picked_kept : (o : Option TableRow) → cond (is_picked p o) o None ≡ kept p o
    picked_kept None = refl
    picked_kept (Some r) = refl

    same_kept : (q : ℤ) → at_id (filter_map (row_at rows) ids) q ≡ at_id (filter p rows) q
    same_kept q =
        named_at ids q ∙ ap (λ (b : Bool). cond b (row_at rows q) None) (keeps q) ∙ picked_kept (row_at rows q)
        ∙ sym (at_key-filter (λ (r : TableRow). r.id) p rows (rises (λ (r : TableRow). r.id) rows rise) q)

    -- sorted by id, the rows of ids that are kept are those that are picked
    pub sorted_kept : {D : ℕ} (found sorted : List (Row D)) → IsDistinct int_eq ids → found ≡ map leaf_row (filter_map (row_at rows) ids) → IsPermutation found sorted
        → IsSortedByKey (λ (r : Row D). r.id) int_cmp sorted → sorted ≡ map leaf_row (filter p rows)
    sorted_kept {D} found sorted once is moved in_order =
        same_counts (λ (r : Row D). r.id) same_row row_itself row_same sorted (map leaf_row (filter p rows)) (sorted_climbs (λ (r : Row D). r.id) sorted in_order)
        (leaf_rises D (filter p rows) (rises-filter (λ (r : TableRow). r.id) p rows (rises (λ (r : TableRow). r.id) rows rise)))
        (λ test. count_permuted test found sorted moved ∙ ap (count_by test) is ∙ counts test)
      where
        counts : (test : Row D → Bool) → count_by test (map leaf_row (filter_map (row_at rows) ids)) ≡ count_by test (map leaf_row (filter p rows))
        counts test =
            count-mapped test leaf_row (λ (r : TableRow). test (leaf_row r)) (filter_map (row_at rows) ids) (λ k d h. refl)
            ∙ same-counts (λ (r : TableRow). r.id) (λ (r : TableRow). test (leaf_row r)) (filter_map (row_at rows) ids) (filter p rows) (named_once ids once)
            (rises-filter (λ (r : TableRow). r.id) p rows (rises (λ (r : TableRow). r.id) rows rise)) same_kept
            ∙ sym (count-mapped test leaf_row (λ (r : TableRow). test (leaf_row r)) (filter p rows) (λ k d h. refl))

-- ---- one that is found in a mapped list

find_choice : {X Y : Type 0} (f : X → Y) (b : Bool) (x : X) (o : Option X) (p : Option Y) → p ≡ option_map f o → cond b (Some (f x)) p ≡ option_map f (cond b (Some x) o)
find_choice f true x o p same = refl
find_choice f false x o p same = same

pub find_mapped : {X Y : Type 0} (p : Y → Bool) (f : X → Y) (xs : List X) → find p (map f xs) ≡ option_map f (find (λ x. p (f x)) xs)
find_mapped p f [] = refl
find_mapped p f (x ∷ xs) = find_choice f (p (f x)) x _ _ (find_mapped p f xs)
