-- Whether a row keeps its id and its box.
use Rattle.std.proofs.Common.{◌≡◌, ℤ, Bool, true, false, ◌&&◌, List, [], ◌∷◌, Option, Some, None, refl, sym, ap, ◌∙◌}
use Rattle.std.specs.Option.{option_map, option_map_or}
use Rattle.std.specs.Ordering.{int_eq}
use Rattle.std.specs.Cmp.Lexicographic.{pointwise}
use Rattle.rt_box.specs.declared.interval.Interval.{Interval}
use Rattle.rt_box.specs.Interval.{interval}
use Rattle.rt_box.proofs.Equality.{interval_eq, Decides-box_eq}
use Rattle.rt_table_row.specs.Rows.{TableRow, row_at}
use Rattle.rt_table_store.specs.Trees.{same_box, stays}
use Rattle.rt_table_store.proofs.Order.{eq_from}

grouped : (a b c : Bool) → ((a && b) && c) ≡ (a && (b && c))
grouped true b c = refl
grouped false b c = refl

-- boxes are equal by their intervals as by their coordinates
by-coordinates : (a b : List Interval) → pointwise interval_eq a b ≡ same_box a b
by-coordinates [] [] = refl
by-coordinates [] (j ∷ b) = refl
by-coordinates (i ∷ a) [] = refl
by-coordinates (i ∷ a) (j ∷ b) =
    ap (λ (c : Bool). interval_eq i j && c) (by-coordinates a b) ∙ grouped (int_eq i.lo j.lo) (int_eq i.hi j.hi) (same_box a b)

both : (a b : Bool) → (a && b) ≡ true → (a ≡ true) × (b ≡ true)
both true b e = (refl, e)
both false b e = absurd (let none : ⊥ = cc in none)

same-is : (a b : List Interval) → same_box a b ≡ true → a ≡ b
same-is [] [] e = refl
same-is [] (j ∷ b) e = absurd (let none : ⊥ = cc in none)
same-is (i ∷ a) [] e = absurd (let none : ⊥ = cc in none)
same-is (i ∷ a) (j ∷ b) e =
    let lo = both (int_eq i.lo j.lo) (int_eq i.hi j.hi && same_box a b) e in
    let hi = both (int_eq i.hi j.hi) (same_box a b) lo.1 in
    ap (λ (z : ℤ). interval z i.hi ∷ a) (eq_from i.lo j.lo lo.0) ∙ ap (λ (z : ℤ). interval j.lo z ∷ a) (eq_from i.hi j.hi hi.0) ∙ ap (λ c. j ∷ c) (same-is a b hi.1)

same-itself : (a : List Interval) → same_box a a ≡ true
same-itself a = (Decides-box_eq a a (same_box a a) (sym (by-coordinates a a))).1 refl

-- the boxes of rows are those that they were made with
pub of-rows : (row : List Interval → TableRow) → ((b : List Interval) → (row b).box ≡ b) → (o : Option (List Interval)) (rect : List Interval) →
    option_map_or (λ box. same_box box rect) o false ≡ option_map_or (λ (old : TableRow). same_box old.box rect) (option_map row o) false
of-rows row box None rect = refl
of-rows row box (Some b) rect = ap (λ (c : List Interval). same_box c rect) (sym (box b))

module _ (rows : List TableRow) (id : ℤ) (row : TableRow) where
  -- whether the row stays, by the box that is there
  stays-by : (f : List Interval → TableRow) → ((b : List Interval) → (f b).box ≡ b) → (o : Option (List Interval)) → int_eq id row.id ≡ true → row_at rows id ≡ option_map f o →
      option_map_or (λ box. same_box box row.box) o false ≡ stays rows id row
  stays-by f box o same at =
      of-rows f box o row.box
      ∙ sym (
      ap (λ (b : Bool). b && option_map_or (λ (old : TableRow). same_box old.box row.box) (row_at rows id) false) same
      ∙ ap (λ (x : Option TableRow). option_map_or (λ (old : TableRow). same_box old.box row.box) x false) at
      )

  pub stays-id : stays rows id row ≡ true → row.id ≡ id
  stays-id e = sym (eq_from id row.id (both (int_eq id row.id) (option_map_or (λ (old : TableRow). same_box old.box row.box) (row_at rows id) false) e).0)

  box-of : (o : Option TableRow) → option_map_or (λ (old : TableRow). same_box old.box row.box) o false ≡ true → option_map (λ (old : TableRow). old.box) o ≡ Some row.box
  box-of None e = absurd (let none : ⊥ = cc in none)
  box-of (Some old) e = ap Some (same-is old.box row.box e)

  pub stays-box : stays rows id row ≡ true → option_map (λ (old : TableRow). old.box) (row_at rows id) ≡ Some row.box
  stays-box e = box-of (row_at rows id) (both (int_eq id row.id) (option_map_or (λ (old : TableRow). same_box old.box row.box) (row_at rows id) false) e).1

  -- a row whose box is there stays
  pub stays-where : (f : List Interval → TableRow) → ((b : List Interval) → (f b).box ≡ b) → int_eq id row.id ≡ true → row_at rows id ≡ Some (f row.box) → stays rows id row ≡ true
  stays-where f box same at = sym (stays-by f box (Some row.box) same at) ∙ same-itself row.box
