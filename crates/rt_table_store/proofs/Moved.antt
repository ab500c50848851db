-- What inserting a row, removing one, and replacing one make of the rows.
use Rattle.std.proofs.Common.{◌≡◌, ◌≢◌, ℕ, ℤ, Bool, true, false, not, ◌||◌, cond, List, [], ◌∷◌, Option, Some, None, IsSome, inl, inr, refl, sym, ap, subst, ◌∙◌}
use Rattle.std.specs.Option.{is_some, option_map, unwrap_or}
use Rattle.std.specs.Ordering.{int_eq}
use Rattle.std.proofs.lemmas.Bool.{cases_Bool}
use Rattle.std.proofs.lemmas.Option.{same_Some}
use Rattle.indexmap.specs.IndexMap.{IndexMap, get}
use Rattle.rt_box.specs.declared.interval.Interval.{Interval}
use Rattle.rt_check.specs.Shadow.{ShadowLists}
use Rattle.rt_sql_statement.specs.declared.value.Value.{Value}
use Rattle.rt_table_row.specs.Rows.{TableRow, row_at, has_id, with_row, without_id}
use Rattle.rt_tree.specs.Lists.{IsInShape, box_of}
use Rattle.rt_tree_walk.specs.declared.searching.Row.{Row}
use Rattle.rt_table_store.specs.StoreInside.{rows_in}
use Rattle.rt_table_store.specs.Trees.{leaf_row}
use Rattle.rt_table_store.proofs.Order.{eq_same, eq_from}
use Rattle.rt_table_store.proofs.Sorted.{same_lists, at_key-taken, at_key-placed, rises-placed, rises-taken}
use Rattle.rt_table_store.proofs.Joined.{boxed, row-at, rows-rise}

has-step : (b : Bool) (x : TableRow) (h : Bool) (o : Option TableRow) → h ≡ is_some o → (b || h) ≡ is_some (cond b (Some x) o)
has-step true x h o e = refl
has-step false x h o e = e

-- whether an id is there
pub has-row : (rows : List TableRow) (id : ℤ) → has_id rows id ≡ is_some (row_at rows id)
has-row [] id = refl
has-row (r ∷ rows) id = has-step (int_eq id r.id) r (has_id rows id) (row_at rows id) (has-row rows id)

pub mapped : {X Y : Type 0} (f : X → Y) (o : Option X) → is_some (option_map f o) ≡ is_some o
mapped f None = refl
mapped f (Some x) = refl

-- a row that is there is taken
pub taken : {X : Type 0} (row : X → TableRow) (rows : List TableRow) (id : ℤ) (found : Option X) → option_map row found ≡ row_at rows id → has_id rows id ≡ true → IsSome found
taken row rows id found e there = sym (mapped row found) ∙ ap is_some e ∙ sym (has-row rows id) ∙ there

any-found : (rows : List TableRow) (id : ℤ) → has_id rows id ≡ true → IsSome (row_at rows id)
any-found [] id e = absurd (let none : ⊥ = cc in none)
any-found (r ∷ rs) id e = by (any-found rs id) (int_eq id r.id) e
  where
    by : (has_id rs id ≡ true → IsSome (row_at rs id)) → (b : Bool) → (b || has_id rs id) ≡ true → IsSome (cond b (Some r) (row_at rs id))
    by later true h = refl
    by later false h = later h

none-found : (rows : List TableRow) (id : ℤ) → has_id rows id ≡ false → row_at rows id ≡ None
none-found [] id e = refl
none-found (r ∷ rs) id e = by (none-found rs id) (int_eq id r.id) e
  where
    by : (has_id rs id ≡ false → row_at rs id ≡ None) → (b : Bool) → (b || has_id rs id) ≡ false → cond b (Some r) (row_at rs id) ≡ None
    by later true h = absurd (let none : ⊥ = cc in none)
    by later false h = later h

none-mapped : {X Y : Type 0} (f : X → Y) (o : Option X) → option_map f o ≡ None → o ≡ None
none-mapped f None e = refl
none-mapped f (Some x) e = absurd (let none : ⊥ = cc in none)

some-mapped : {X Y : Type 0} (f : X → Y) (o : Option X) → IsSome (option_map f o) → IsSome o
some-mapped f None some = some
some-mapped f (Some x) some = refl

pub differs : (a b : ℤ) → int_eq a b ≡ false → a ≢ b
differs a b other same = let e : true ≡ false = sym (ap (int_eq a) (sym same) ∙ eq_same a) ∙ other in absurd (let none : ⊥ = cc in none)

turned : (a b : ℤ) → int_eq a b ≡ false → int_eq b a ≡ false
turned a b other = elim (cases_Bool (int_eq b a)) [
  | inl same ↦ absurd (differs a b other (sym (eq_from b a same)))
  | inr e ↦ e
]

module _ {D : ℕ} (s : ShadowLists D) (shape : IsInShape s) {S : Type 0} (auxiliary : IndexMap ℤ (List Value) S) where
  -- an id that no row has is in no box of the tree
  pub no-box : (id : ℤ) → has_id (rows_in s auxiliary) id ≡ false → box_of s id ≡ None
  no-box id e = none-mapped (boxed s shape auxiliary id) (box_of s id) (sym (row-at s shape auxiliary id) ∙ none-found (rows_in s auxiliary) id e)

  pub a-box : (id : ℤ) → has_id (rows_in s auxiliary) id ≡ true → IsSome (box_of s id)
  a-box id e = some-mapped (boxed s shape auxiliary id) (box_of s id) (subst IsSome (row-at s shape auxiliary id) (any-found (rows_in s auxiliary) id e))

  -- a row whose box was found
  pub viewed : (row : Row D) → option_map leaf_row (row_at (rows_in s auxiliary) row.id) ≡ Some row → Some (boxed s shape auxiliary row.id row.rect) ≡ row_at (rows_in s auxiliary) row.id
  viewed row e = by (box_of s row.id) (sym (ap (option_map leaf_row) (row-at s shape auxiliary row.id)) ∙ e) ∙ sym (row-at s shape auxiliary row.id)
    where
      by : (o : Option (List Interval)) → option_map leaf_row (option_map (boxed s shape auxiliary row.id) o) ≡ Some row → Some (boxed s shape auxiliary row.id row.rect) ≡ option_map (boxed s shape auxiliary row.id) o
      by None h = absurd (let none : ⊥ = cc in none)
      by (Some b) h =
          let same : b ≡ row.rect = ap (λ (r : Row D). r.rect) (same_Some (leaf_row (boxed s shape auxiliary row.id b)) row h) in
          ap (λ (c : List Interval). Some (boxed s shape auxiliary row.id c)) (sym same)

  -- the box of a row is that of the tree
  box-back : (id : ℤ) (box : List Interval) (o : Option (List Interval)) → option_map (λ (r : TableRow). r.box) (option_map (boxed s shape auxiliary id) o) ≡ Some box → o ≡ Some box
  box-back id box None e = absurd (let none : ⊥ = cc in none)
  box-back id box (Some b) e = e

  pub its-box : (id : ℤ) (box : List Interval) → option_map (λ (r : TableRow). r.box) (row_at (rows_in s auxiliary) id) ≡ Some box → box_of s id ≡ Some box
  its-box id box e = box-back id box (box_of s id) (sym (ap (option_map (λ (r : TableRow). r.box)) (row-at s shape auxiliary id)) ∙ e)

-- from one tree and its auxiliary values to another
module _ {D : ℕ} (s t : ShadowLists D) (old : IsInShape s) (new : IsInShape t) {S : Type 0} (auxiliary more : IndexMap ℤ (List Value) S) where
  -- the rows of other ids stay
  abbrev pub KeepOthers : ℤ → Type 0
  KeepOthers id = ((other : ℤ) → other ≢ id → box_of t other ≡ box_of s other) × ((other : ℤ) → other ≢ id → get int_eq more other ≡ get int_eq auxiliary other)

  other-row : (id : ℤ) → KeepOthers id → (other : ℤ) → other ≢ id → row_at (rows_in t more) other ≡ row_at (rows_in s auxiliary) other
  other-row id keep other ne =
      let with_more : Option (List Value) → List Interval → TableRow = λ o box. record { id = other; box = box; auxiliary = unwrap_or o [] } in
      row-at t new more other
      ∙ ap (option_map (boxed t new more other)) (keep.0 other ne)
      ∙ ap (λ (o : Option (List Value)). option_map (with_more o) (box_of s other)) (keep.1 other ne)
      ∙ sym (row-at s old auxiliary other)

  row-here : (row : TableRow) → box_of t row.id ≡ Some row.box → unwrap_or (get int_eq more row.id) [] ≡ row.auxiliary → row_at (rows_in t more) row.id ≡ Some row
  row-here row box values =
      let with_more : List Value → TableRow = λ vs. record { id = row.id; box = row.box; auxiliary = vs } in
      row-at t new more row.id ∙ ap (option_map (boxed t new more row.id)) box ∙ ap (λ (vs : List Value). Some (with_more vs)) values

  -- a row came
  pub rows-inserted : (row : TableRow) → KeepOthers row.id → box_of t row.id ≡ Some row.box → unwrap_or (get int_eq more row.id) [] ≡ row.auxiliary → rows_in t more ≡ with_row (rows_in s auxiliary) row
  rows-inserted row keep box values =
      same_lists (λ (r : TableRow). r.id) (rows_in t more) (with_row (rows_in s auxiliary) row) (rows-rise t new more)
      (rises-placed (λ (r : TableRow). r.id) (rows_in s auxiliary) row (rows-rise s old auxiliary))
      (λ q. by q (int_eq q row.id) refl ∙ sym (at_key-placed (λ (r : TableRow). r.id) (rows_in s auxiliary) row q))
    where
      by : (q : ℤ) (b : Bool) → int_eq q row.id ≡ b → row_at (rows_in t more) q ≡ cond b (Some row) (row_at (rows_in s auxiliary) q)
      by q true is = ap (row_at (rows_in t more)) (eq_from q row.id is) ∙ row-here row box values
      by q false is = other-row row.id keep q (differs q row.id is)

  -- the row of an id left
  pub rows-removed : (id : ℤ) → KeepOthers id → box_of t id ≡ None → rows_in t more ≡ without_id (rows_in s auxiliary) id
  rows-removed id keep gone =
      same_lists (λ (r : TableRow). r.id) (rows_in t more) (without_id (rows_in s auxiliary) id) (rows-rise t new more)
      (rises-taken (λ (r : TableRow). r.id) (rows_in s auxiliary) id (rows-rise s old auxiliary))
      (λ q. by q (int_eq id q) refl ∙ sym (at_key-taken (λ (r : TableRow). r.id) (rows_in s auxiliary) id q))
    where
      by : (q : ℤ) (b : Bool) → int_eq id q ≡ b → row_at (rows_in t more) q ≡ cond (not b) (row_at (rows_in s auxiliary) q) None
      by q true is = ap (row_at (rows_in t more)) (sym (eq_from id q is)) ∙ row-at t new more id ∙ ap (option_map (boxed t new more id)) gone
      by q false is = other-row id keep q (differs q id (turned id q is))

  -- a row replaced the one of its id
  pub rows-replaced : (row : TableRow) → KeepOthers row.id → box_of t row.id ≡ Some row.box → unwrap_or (get int_eq more row.id) [] ≡ row.auxiliary →
      rows_in t more ≡ with_row (without_id (rows_in s auxiliary) row.id) row
  rows-replaced row keep box values =
      same_lists (λ (r : TableRow). r.id) (rows_in t more) (with_row (without_id (rows_in s auxiliary) row.id) row) (rows-rise t new more)
      (rises-placed (λ (r : TableRow). r.id) (without_id (rows_in s auxiliary) row.id) row (rises-taken (λ (r : TableRow). r.id) (rows_in s auxiliary) row.id (rows-rise s old auxiliary)))
      (λ q. by q (int_eq q row.id) refl ∙ sym (at_key-placed (λ (r : TableRow). r.id) (without_id (rows_in s auxiliary) row.id) row q))
    where
      kept-row : (q : ℤ) → int_eq q row.id ≡ false → row_at (rows_in s auxiliary) q ≡ row_at (without_id (rows_in s auxiliary) row.id) q
      kept-row q is =
          sym (at_key-taken (λ (r : TableRow). r.id) (rows_in s auxiliary) row.id q ∙ ap (λ (b : Bool). cond (not b) (row_at (rows_in s auxiliary) q) None) (turned q row.id is))

      by : (q : ℤ) (b : Bool) → int_eq q row.id ≡ b → row_at (rows_in t more) q ≡ cond b (Some row) (row_at (without_id (rows_in s auxiliary) row.id) q)
      by q true is = ap (row_at (rows_in t more)) (eq_from q row.id is) ∙ row-here row box values
      by q false is = other-row row.id keep q (differs q row.id is) ∙ kept-row q is
