-- Rows by rising id: what stands at each id, and what an edit of a tree makes of them.
use Rattle.std.proofs.Common.{◌≡◌, ◌≢◌, ℕ, ℤ, Bool, true, false, not, cond, List, [], ◌∷◌, Option, Some, None, refl, sym, ap, ◌∙◌, inl, inr}
use Rattle.std.specs.Prelude.{is_some}
use Rattle.std.specs.Option.{option_map}
use Rattle.std.specs.Ordering.{int_eq}
use Rattle.std.proofs.lemmas.Bool.{cases_Bool}
use Rattle.rt_box.specs.declared.interval.Interval.{Interval}
use Rattle.rt_check.specs.Shadow.{ShadowLists}
use Rattle.rt_tree_walk.specs.declared.searching.Row.{Row}
use Rattle.rt_tree.specs.Lists.{rows_of, GainsRow, LosesRow}
use Rattle.rt_tree.specs.Replacing.{IsReplacement}
use Rattle.rt_live.specs.Rows.{AreRising, box_at, placed, taken, with_box, by_id}
use Rattle.rt_live.proofs.Order.{eq_same, eq_from}
use Rattle.rt_live.proofs.Sorted.{at_key, Rises, rising, same_lists, at_key-placed, at_key-taken, rises-placed, rises-taken}

pub differs : (a b : ℤ) → int_eq a b ≡ false → a ≢ b
differs a b other same = let e : true ≡ false = sym (ap (int_eq a) (sym same) ∙ eq_same a) ∙ other in absurd (let none : ⊥ = cc in none)

pub turned : (a b : ℤ) → int_eq a b ≡ false → int_eq b a ≡ false
turned a b other = elim (cases_Bool (int_eq b a)) [
  | inl same ↦ absurd (differs a b other (sym (eq_from b a same)))
  | inr e ↦ e
]

pub turn : (id q : ℤ) (b : Bool) → int_eq q id ≡ b → int_eq id q ≡ b
turn id q true is = ap (int_eq id) (eq_from q id is) ∙ eq_same id
turn id q false is = turned q id is

module _ {D : ℕ} where
  abbrev pub id_of : Row D → ℤ
  id_of r = r.id

  pub rises-by_id : (rows : List (Row D)) → Rises id_of (by_id rows)
  rises-by_id [] = tt
  rises-by_id (r ∷ rows) = rises-placed id_of (by_id rows) r (rises-by_id rows)

  pub by_id-rising : (rows : List (Row D)) → AreRising (by_id rows)
  by_id-rising rows = rising id_of (by_id rows) (rises-by_id rows)

  pub at_key-by_id : (rows : List (Row D)) (q : ℤ) → at_key id_of (by_id rows) q ≡ at_key id_of rows q
  at_key-by_id [] q = refl
  at_key-by_id (r ∷ rows) q = at_key-placed id_of (by_id rows) r q ∙ ap (λ (o : Option (Row D)). cond (int_eq q r.id) (Some r) o) (at_key-by_id rows q)

  pub box_at-by_id : (rows : List (Row D)) (q : ℤ) → box_at (by_id rows) q ≡ box_at rows q
  box_at-by_id rows q = ap (option_map (λ (r : Row D). r.rect)) (at_key-by_id rows q)

  -- the row of an id is the id and its box
  abbrev pub boxed : ℤ → List Interval → Row D
  boxed id rect = record { id = id; rect = rect }

  row-step : (r : Row D) (q : ℤ) (o : Option (Row D)) → (b : Bool) → int_eq q r.id ≡ b → o ≡ option_map (boxed q) (option_map (λ x. x.rect) o)
      → cond b (Some r) o ≡ option_map (boxed q) (option_map (λ x. x.rect) (cond b (Some r) o))
  row-step r q o true is later = ap (λ (z : ℤ). Some (boxed z r.rect)) (sym (eq_from q r.id is))
  row-step r q o false is later = later

  pub row-at : (rows : List (Row D)) (q : ℤ) → at_key id_of rows q ≡ option_map (boxed q) (box_at rows q)
  row-at [] q = refl
  row-at (r ∷ rows) q = row-step r q (at_key id_of rows q) (int_eq q r.id) refl (row-at rows q)

  -- two rising lists with the same box at each id
  pub same_boxes : (xs ys : List (Row D)) → Rises id_of xs → Rises id_of ys → ((q : ℤ) → box_at xs q ≡ box_at ys q) → xs ≡ ys
  same_boxes xs ys xrise yrise same = same_lists id_of xs ys xrise yrise (λ q. row-at xs q ∙ ap (option_map (boxed q)) (same q) ∙ sym (row-at ys q))

  box-cond : (b : Bool) (r : Row D) (o : Option (Row D)) → option_map (λ (x : Row D). x.rect) (cond b (Some r) o) ≡ cond b (Some r.rect) (option_map (λ x. x.rect) o)
  box-cond true r o = refl
  box-cond false r o = refl

  none-cond : (b : Bool) (o : Option (Row D)) → option_map (λ (x : Row D). x.rect) (cond (not b) o None) ≡ cond b None (option_map (λ x. x.rect) o)
  none-cond true o = refl
  none-cond false o = refl

  pub box_at-placed : (rows : List (Row D)) (r : Row D) (q : ℤ) → box_at (placed rows r) q ≡ cond (int_eq q r.id) (Some r.rect) (box_at rows q)
  box_at-placed rows r q = ap (option_map (λ (x : Row D). x.rect)) (at_key-placed id_of rows r q) ∙ box-cond (int_eq q r.id) r (at_key id_of rows q)

  pub box_at-taken : (rows : List (Row D)) (id q : ℤ) → box_at (taken rows id) q ≡ cond (int_eq q id) None (box_at rows q)
  box_at-taken rows id q =
      ap (option_map (λ (x : Row D). x.rect)) (at_key-taken id_of rows id q)
      ∙ none-cond (int_eq id q) (at_key id_of rows q)
      ∙ ap (λ (b : Bool). cond b None (box_at rows q)) (turn id q (int_eq q id) refl)

  -- what stands at each id after an edit
  pub box_at-with_box : (rows : List (Row D)) (id : ℤ) (is : Option (List Interval)) (q : ℤ) → box_at (with_box rows id is) q ≡ cond (int_eq q id) is (box_at rows q)
  box_at-with_box rows id None q = box_at-taken rows id q
  box_at-with_box rows id (Some rect) q = box_at-placed rows (boxed id rect) q

  pub rises-with_box : (rows : List (Row D)) (id : ℤ) (is : Option (List Interval)) → Rises id_of rows → Rises id_of (with_box rows id is)
  rises-with_box rows id None rise = rises-taken id_of rows id rise
  rises-with_box rows id (Some rect) rise = rises-placed id_of rows (boxed id rect) rise

  -- a box that stands at an id already
  stays-there : (q id : ℤ) (o : Option (List Interval)) (rows : List (Row D)) → box_at rows id ≡ o → (b : Bool) → int_eq q id ≡ b → cond b o (box_at rows q) ≡ box_at rows q
  stays-there q id o rows was true is = sym (ap (box_at rows) (eq_from q id is) ∙ was)
  stays-there q id o rows was false is = refl

  pub with_box-same : (rows : List (Row D)) (id : ℤ) (o : Option (List Interval)) → Rises id_of rows → box_at rows id ≡ o → with_box rows id o ≡ rows
  with_box-same rows id o rise was =
      same_boxes (with_box rows id o) rows (rises-with_box rows id o rise) rise (λ q. box_at-with_box rows id o q ∙ stays-there q id o rows was (int_eq q id) refl)

  -- from one tree to another
  module _ (old new : List (Row D)) (id : ℤ) (is : Option (List Interval)) (here : box_at new id ≡ is) (others : (other : ℤ) → other ≢ id → box_at new other ≡ box_at old other) where
    each : (q : ℤ) (b : Bool) → int_eq q id ≡ b → box_at new q ≡ cond b is (box_at old q)
    each q true same = ap (box_at new) (eq_from q id same) ∙ here
    each q false other = others q (differs q id other)

    pub edited-by_id : by_id new ≡ with_box (by_id old) id is
    edited-by_id =
        same_boxes (by_id new) (with_box (by_id old) id is) (rises-by_id new) (rises-with_box (by_id old) id is (rises-by_id old))
        (λ q. box_at-by_id new q ∙ each q (int_eq q id) refl ∙ ap (λ (o : Option (List Interval)). cond (int_eq q id) is o) (sym (box_at-by_id old q)) ∙ sym (box_at-with_box (by_id old) id is q))

  module _ (old new : ShadowLists D) (id : ℤ) (rect : List Interval) where
    pub gained : GainsRow old new id rect → by_id (rows_of new) ≡ with_box (by_id (rows_of old)) id (Some rect)
    gained gains = edited-by_id (rows_of old) (rows_of new) id (Some rect) gains.here gains.others

    pub lost : LosesRow old new id rect → by_id (rows_of new) ≡ with_box (by_id (rows_of old)) id None
    lost loses = edited-by_id (rows_of old) (rows_of new) id None loses.gone loses.others

    pub replaced : IsReplacement old new id rect → by_id (rows_of new) ≡ with_box (by_id (rows_of old)) id (Some rect)
    replaced r = edited-by_id (rows_of old) (rows_of new) id (Some rect) r.gains.here (λ other ne. r.gains.others other ne ∙ r.loses.others other ne)

  -- what an empty tree has
  pub some-boxed : (rows : List (Row D)) (q : ℤ) → is_some (box_at (by_id rows) q) ≡ is_some (box_at rows q)
  some-boxed rows q = ap is_some (box_at-by_id rows q)
