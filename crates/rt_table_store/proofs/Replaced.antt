-- A tree in which a row was replaced by one that keeps its id.
use Rattle.std.proofs.Common.{◌≡◌, ◌≢◌, ◌⊎◌, ℕ, ℤ, true, List, length, Option, Some, None, arith, refl, sym, ap, subst, ◌∙◌, inl, inr}
use Rattle.std.specs.Cmp.Lexicographic.{pointwise}
use Rattle.std.specs.Option.{option_map}
use Rattle.std.specs.Ordering.{int_eq}
use Rattle.std.proofs.lemmas.Bool.{cases_Bool, true≢false}
use Rattle.std.proofs.lemmas.Option.{same_Some, none-some}
use Rattle.indexmap.specs.IndexMap.{IndexMap}
use Rattle.rt_box.specs.declared.interval.Interval.{Interval}
use Rattle.rt_box.proofs.Equality.{interval_eq, Decides-box_eq}
use Rattle.rt_check.specs.Shadow.{ShadowLists}
use Rattle.rt_sql_statement.specs.declared.value.Value.{Value}
use Rattle.rt_tree.specs.Lists.{IsInShape, box_of}
use Rattle.rt_tree.specs.Replacing.{IsReplacement}
use Rattle.rt_table_row.specs.Rows.{TableRow, without_id}
use Rattle.rt_table_row.specs.Edits.{Becomes}
use Rattle.rt_table_store.specs.StoreInside.{rows_in}
use Rattle.rt_table_store.specs.Trees.{IsTreeOf, stays, Gains, Replaces, TakesStep}
use Rattle.rt_table_store.proofs.Order.{eq_same}
use Rattle.rt_table_store.proofs.Joined.{boxed, row-at}
use Rattle.rt_table_store.proofs.Counted.{is-tree}
use Rattle.rt_table_store.proofs.Moved.{its-box, rows-removed}
use Rattle.rt_table_store.proofs.Kept.{longer, one-fewer}
use Rattle.rt_table_store.proofs.Staying.{stays-box, stays-where}

-- a box is there or not
is-or-not : (o : Option (List Interval)) (rect : List Interval) → (o ≡ Some rect) ⊎ (o ≢ Some rect)
is-or-not None rect = inr (λ e. none-some rect e)
is-or-not (Some box) rect =
    let equal = Decides-box_eq box rect (pointwise interval_eq box rect) refl in
    elim (cases_Bool (pointwise interval_eq box rect)) [
      | inl e ↦ inl (ap Some (equal.0 e))
      | inr e ↦ inr (λ same. true≢false (sym (equal.1 (same_Some box rect same)) ∙ e))
    ]

module _ {D : ℕ} (s t : ShadowLists D) (id : ℤ) (row : TableRow) (same : box_of s id ≡ Some row.box → t ≡ s)
    (other : box_of s id ≢ Some row.box → IsReplacement s t id row.box) where
  pub box-here : box_of t id ≡ Some row.box
  box-here = elim (is-or-not (box_of s id) row.box) [
    | inl is ↦ ap (λ (u : ShadowLists D). box_of u id) (same is) ∙ is
    | inr differs ↦ (other differs).gains.here
  ]

  pub boxes-kept : (q : ℤ) → q ≢ id → box_of t q ≡ box_of s q
  boxes-kept q ne = elim (is-or-not (box_of s id) row.box) [
    | inl is ↦ ap (λ (u : ShadowLists D). box_of u q) (same is)
    | inr differs ↦ (other differs).gains.others q ne ∙ (other differs).loses.others q ne
  ]

  module _ (old : IsInShape s) {S : Type 0} (auxiliary : IndexMap ℤ (List Value) S) where
    pub as-many : IsInShape t → length t.rows ≡ length s.rows
    as-many new = elim (is-or-not (box_of s id) row.box) [
      | inl is ↦ ap (λ (u : ShadowLists D). length u.rows) (same is)
      | inr differs ↦
          let r = other differs in
          omega (arith, one-fewer s r.between old r.shape auxiliary id r.was r.loses, longer r.between t r.shape new auxiliary id row.box r.gains)
    ]

    abbrev rows : List TableRow
    rows = rows_in s auxiliary

    has-box : row.id ≡ id → box_of s id ≡ Some row.box → stays rows id row ≡ true
    has-box keeps is =
        stays-where rows id row (boxed s old auxiliary id) (λ b. refl) (ap (int_eq id) keeps ∙ eq_same id)
        (row-at s old auxiliary id ∙ ap (option_map (boxed s old auxiliary id)) is)

    replaces : row.id ≡ id → IsReplacement s t id row.box → Replaces rows id row s t
    replaces keeps r =
        let fewer : rows_in r.between auxiliary ≡ without_id rows id =
        rows-removed s r.between old r.shape auxiliary auxiliary id (r.loses.others, (λ q ne. refl)) r.loses.gone in
        let tree : IsTreeOf (without_id rows id) r.between = subst (λ (rs : List TableRow). IsTreeOf rs r.between) fewer (is-tree r.between r.shape auxiliary) in
        let gains : Gains row r.between t = rw keeps (r.work, r.insertion) in
        (r.between, (r.was, r.removal), tree, gains)

    pub takes-step : row.id ≡ id → TakesStep rows (Becomes id row) s t
    takes-step keeps = (
      (λ holds. same (its-box s old auxiliary id row.box (stays-box rows id row holds))),
      (λ fails. replaces keeps (other (λ is. true≢false (sym (has-box keeps is) ∙ fails)))),
    )
