-- Rows inserted one after another.
use Rattle.std.proofs.Common.{◌≡◌, ℕ, ◌+◌, ◌<◌, true, false, ◌||◌, ℤ, List, [], ◌∷◌, ◌++◌, take, length, get_or, Option, None, Some, is_some, arith, refl, ap, sym, ◌∙◌}
use Rattle.std.specs.List.{count_by}
use Rattle.std.proofs.lemmas.Bool.{or_parts, false_from_ne_true, true≢false}
use Rattle.std.proofs.lemmas.List.{map-append, take-map, length-take-le}
use Rattle.std.proofs.lemmas.List.Elements.{All-nil, All-push}
use Rattle.rt_check.specs.Shadow.{ShadowLists}
use Rattle.rt_map.specs.Packing.{ids}
use Rattle.rt_tree.specs.Lists.{rows_of, box_of, GainsRow}
use Rattle.rt_tree_node.proofs.Counts.{count-append, count-cons}
use Rattle.rt_tree_nearest.proofs.Same.{count-all}
use Rattle.rt_tree_walk.specs.declared.searching.Row.{Row}
use Rattle.rt_tree_many.specs.Insertion.{has_id, is_among, AreNew, GainsRows}
use Rattle.rt_tree_many.proofs.Lists.{among-push, among-none, id-at}

some-none : {A : Type 0} (o : Option A) → is_some o ≡ false → o ≡ None
some-none None e = refl
some-none (Some x) e = absurd (true≢false e)

module _ {D : ℕ} where
  pub gains-none : (s : ShadowLists D) → GainsRows s s []
  gains-none s = record {
    counted = λ test. omega arith;
    here = All-nil (λ (r : Row D). box_of s r.id ≡ Some r.rect);
    others = λ other h. refl;
  }

  pub gains-more : (old mid new : ShadowLists D) (rows : List (Row D)) (row : Row D) → GainsRows old mid rows → GainsRow mid new row.id row.rect →
      is_among (ids rows) row.id ≡ false → GainsRows old new (rows ++ row ∷ [])
  gains-more old mid new rows row so gains fresh = record {
    counted = λ test. omega (arith, so.counted test, gains.rows test, count-append test rows (row ∷ []), count-cons test row []);
    here = All-push (λ (r : Row D). box_of new r.id ≡ Some r.rect) rows row
        (λ i d h. gains.others (get_or rows i d).id (among-none rows row.id fresh i d h) ∙ so.here i d h) gains.here;
    others = λ other h.
        let id : Row D → ℤ = λ r. r.id in
        let parts = among-push (ids rows) row.id other (ap (λ (those : List ℤ). is_among those other) (sym (map-append id rows (row ∷ []))) ∙ h) in
        gains.others other parts.1 ∙ so.others other parts.0;
  }

  -- as many rows more as are listed
  pub gains-long : (old new : ShadowLists D) (rows : List (Row D)) → GainsRows old new rows → length (rows_of new) ≡ length (rows_of old) + length rows
  gains-long old new rows so =
      let all : (xs : List (Row D)) → count_by (λ r. true) xs ≡ length xs = λ xs. count-all (λ (r : Row D). true) xs (λ i d h. refl) in
      omega (arith, so.counted (λ r. true), all (rows_of new), all (rows_of old), all rows)

  module _ (old mid : ShadowLists D) (rows : List (Row D)) (i : ℕ) (row : Row D) (within : i < length rows) (is : row ≡ get_or rows i row) (new : AreNew old rows) where
    fresh : (is_some (box_of old row.id) ≡ false) × (is_among (take i (ids rows)) row.id ≡ false)
    fresh =
        or_parts (has_id old row.id) (is_among (take i (ids rows)) row.id)
        (false_from_ne_true (has_id old row.id || is_among (take i (ids rows)) row.id)
        (λ e. new i (record { id = row.id; here = id-at rows i row within is; taken = e })))

    pub fresh-among : is_among (ids (take i rows)) row.id ≡ false
    fresh-among = let id : Row D → ℤ = λ r. r.id in ap (λ (those : List ℤ). is_among those row.id) (sym (take-map id i rows)) ∙ fresh.1

    -- the next row's id is in no tree so far
    pub fresh-absent : GainsRows old mid (take i rows) → box_of mid row.id ≡ None
    fresh-absent so = so.others row.id fresh-among ∙ some-none (box_of old row.id) fresh.0

    pub rows-so_far : GainsRows old mid (take i rows) → length (rows_of mid) ≡ length (rows_of old) + i
    rows-so_far so = let long = length-take-le i rows (omega arith) in omega (arith, long, gains-long old mid (take i rows) so)
