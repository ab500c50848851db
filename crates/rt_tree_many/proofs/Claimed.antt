-- Which rows' ids are taken, one row after another.
use Rattle.std.proofs.Common.{◌≡◌, ℕ, ◌+◌, ◌<◌, ◌≤◌, Bool, true, false, cond, not, ◌||◌, ℤ, List, [], ◌∷◌, ◌++◌, take, length, get_or, arith, refl, ap, sym, ◌∙◌, inl, inr}
use Rattle.std.specs.Prelude.{slice_get}
use Rattle.std.proofs.lemmas.Bool.{not-true, not-false, cases_eq, cases_lt, true≢false}
use Rattle.std.proofs.lemmas.Option.{none-some, same_Some, slice_get_past}
use Rattle.std.proofs.lemmas.List.{length-map}
use Rattle.std.specs.Ordering.{int_eq}
use Rattle.indexmap.specs.IndexSet.{insert_key}
use Rattle.rt_check.specs.Shadow.{ShadowLists}
use Rattle.rt_map.specs.Packing.{ids}
use Rattle.rt_tree_walk.specs.declared.searching.Row.{Row}
use Rattle.rt_tree_many.specs.Insertion.{has_id, is_among, IsTaken, IsFirstTaken, AreNew, Claims}
use Rattle.rt_tree_many.proofs.Lists.{id-at, ids-next}

module _ {D : ℕ} (s : ShadowLists D) (old new : List ℤ) (id : ℤ) where
  -- the tree has the id
  pub claims-held : has_id s id ≡ true → Claims s old new id false
  claims-held e = record {
    told = ap (λ (b : Bool). not (b || is_among old id)) (sym e);
    joined = λ is. absurd (true≢false (sym is));
  }

  -- the tree hasn't
  pub claims-free : (is_new : Bool) → has_id s id ≡ false → is_new ≡ not (is_among old id) → new ≡ insert_key int_eq old id → Claims s old new id is_new
  claims-free is_new e told joined = record {
    told = told ∙ ap (λ (b : Bool). not (b || is_among old id)) (sym e);
    joined = λ is.
        let fresh : is_among old id ≡ false = not-true (is_among old id) (sym told ∙ is) in
        joined ∙ ap (λ (b : Bool). cond b old (old ++ id ∷ [])) fresh;
  }

module _ {D : ℕ} (s : ShadowLists D) (rows : List (Row D)) where
  -- no row before the place is taken, and their ids are claimed
  pub record AreClaimed (claimed : List ℤ) (i : ℕ) : Type 0 where
    pub free : (at : ℕ) → at < i → ¬ IsTaken s rows at
    pub ids_are : claimed ≡ take i (ids rows)

  pub claimed-none : (claimed : List ℤ) → claimed ≡ [] → AreClaimed claimed 0
  claimed-none claimed e = record { free = λ at h. absurd (omega arith); ids_are = e }

  -- nothing is taken past the end
  past-free : (at : ℕ) → length rows ≤ at → ¬ IsTaken s rows at
  past-free at past is =
      let id : Row D → ℤ = λ r. r.id in
      none-some is.id (sym (slice_get_past (ids rows) at (omega (arith, length-map rows id, past))) ∙ is.here)

  pub claimed-all : (claimed : List ℤ) (i : ℕ) → length rows ≤ i → AreClaimed claimed i → AreNew s rows
  claimed-all claimed i all so at = elim (cases_lt at i) [
    | inl before ↦ so.free at before
    | inr past ↦ past-free at (omega (arith, past, all))
  ]

  module _ (claimed claimed1 : List ℤ) (i : ℕ) (row : Row D) (within : i < length rows) (is : row ≡ get_or rows i row) (so : AreClaimed claimed i) where
    test-same : (has_id s row.id || is_among claimed row.id) ≡ (has_id s row.id || is_among (take i (ids rows)) row.id)
    test-same = ap (λ (those : List ℤ). has_id s row.id || is_among those row.id) so.ids_are

    pub claimed-more : Claims s claimed claimed1 row.id true → AreClaimed claimed1 (i + 1)
    claimed-more claims =
        let free : (has_id s row.id || is_among (take i (ids rows)) row.id) ≡ false =
        sym test-same ∙ not-true (has_id s row.id || is_among claimed row.id) (sym claims.told) in
        record {
          free = λ at h. elim (cases_eq at i) [
            | inl same ↦ λ (taken : IsTaken s rows at).
                let id_is : taken.id ≡ row.id = same_Some taken.id row.id (sym taken.here ∙ ap (slice_get (ids rows)) same ∙ id-at rows i row within is) in
                let here : (has_id s taken.id || is_among (take at (ids rows)) taken.id) ≡ false =
                ap (λ (z : ℤ). has_id s z || is_among (take at (ids rows)) z) id_is
                ∙ ap (λ (n : ℕ). has_id s row.id || is_among (take n (ids rows)) row.id) same ∙ free in
                true≢false (sym taken.taken ∙ here)
            | inr ne ↦ so.free at (omega (arith, ne, h))
          ];
          ids_are = claims.joined refl ∙ ap (λ (those : List ℤ). those ++ row.id ∷ []) so.ids_are ∙ sym (ids-next rows i row within is);
        }

    pub taken-first : Claims s claimed claimed1 row.id false → IsFirstTaken s rows i
    taken-first claims = record {
      is = record {
        id = row.id;
        here = id-at rows i row within is;
        taken = sym test-same ∙ not-false (has_id s row.id || is_among claimed row.id) (sym claims.told);
      };
      first = so.free;
    }
