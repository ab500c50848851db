-- A tree's rows and the rows that stand for them: as many pass each test.
use Rattle.std.proofs.Common.{◌≡◌, ℕ, ◌+◌, ◌≤◌, ℤ, Bool, true, false, not, cond, List, [], ◌∷◌, map, length, Option, Some, None, inl, inr, refl, sym, ap, subst, ◌∙◌, arith}
use Rattle.std.specs.Prelude.{count_by}
use Rattle.std.specs.Option.{option_map}
use Rattle.std.specs.Ordering.{int_eq}
use Rattle.std.proofs.lemmas.Bool.{cases_Bool}
use Rattle.std.proofs.lemmas.List.{length-map}
use Rattle.indexmap.specs.IndexMap.{IndexMap}
use Rattle.rt_check.specs.declared.node.RowEntry.{RowEntry}
use Rattle.rt_check.specs.Shadow.{ShadowLists}
use Rattle.rt_check.specs.Conditions.{entry_of}
use Rattle.rt_tree_node.proofs.Counts.{count-cons}
use Rattle.rt_sql_statement.specs.declared.value.Value.{Value}
use Rattle.rt_table_row.specs.Rows.{TableRow, row_at, without_id}
use Rattle.rt_tree_walk.specs.declared.searching.Row.{Row}
use Rattle.rt_tree.specs.Lists.{IsInShape, rows_of, box_of}
use Rattle.rt_tree.proofs.Members.{find-nothing}
use Rattle.rt_table_store.specs.StoreInside.{joined, rows_in}
use Rattle.rt_table_store.specs.Trees.{leaf_row, IsTreeOf}
use Rattle.rt_table_store.proofs.Order.{eq_same, eq_from}
use Rattle.rt_table_store.proofs.Sorted.{at_key, taken, Rises, none_below, at_key-taken}
use Rattle.rt_table_store.proofs.Joined.{find-map, rises-map, boxed, few-have, row-none, row-some, row-at, rows-rise}

module _ {X : Type 0} (key : X → ℤ) where
  -- no key is there twice
  abbrev pub AreUnique : List X → Type 0
  AreUnique xs = (q : ℤ) → count_by (λ x. int_eq q (key x)) xs ≤ 1

  -- nor at its key later on
  abbrev pub Distinct : List X → Type 0
  Distinct [] = Unit {0}
  Distinct (x ∷ xs) = (at_key key xs (key x) ≡ None) × Distinct xs

  distinct : (xs : List X) → AreUnique xs → Distinct xs
  distinct [] unique = tt
  distinct (x ∷ xs) unique =
      let here : ◌≡◌ {A = ℕ} (cond (int_eq (key x) (key x)) 1 0) 1 = ap (λ b. cond b 1 0) (eq_same (key x)) in (
        find-nothing (λ y. int_eq (key x) (key y)) xs (omega (arith, here, unique (key x), count-cons (λ y. int_eq (key x) (key y)) x xs)),
        distinct xs (λ q. omega (arith, unique q, count-cons (λ y. int_eq q (key y)) x xs)),
      )

  none-either : (b : Bool) → ◌≡◌ {A = Option X} (cond b None None) None
  none-either true = refl
  none-either false = refl

  absent-step : (k : ℤ) (x : X) (xs : List X) → (at_key key xs k ≡ None → taken key xs k ≡ xs) → (b : Bool) → cond b (Some x) (at_key key xs k) ≡ None →
      cond (not b) (x ∷ taken key xs k) (taken key xs k) ≡ x ∷ xs
  absent-step k x xs later true e = let none : ⊥ = cc in absurd none
  absent-step k x xs later false e = ap (λ ys. x ∷ ys) (later e)

  taken-absent : (k : ℤ) (xs : List X) → at_key key xs k ≡ None → taken key xs k ≡ xs
  taken-absent k [] e = refl
  taken-absent k (x ∷ xs) e = absent-step k x xs (taken-absent k xs) (int_eq k (key x)) e

  distinct-step : (k : ℤ) (x : X) (xs : List X) → at_key key xs (key x) ≡ None → Distinct (taken key xs k) → (b : Bool) → Distinct (cond (not b) (x ∷ taken key xs k) (taken key xs k))
  distinct-step k x xs alone later true = later
  distinct-step k x xs alone later false =
      (at_key-taken key xs k (key x) ∙ ap (λ (o : Option X). cond (not (int_eq k (key x))) o None) alone ∙ none-either (not (int_eq k (key x))), later)

  distinct-taken : (k : ℤ) (xs : List X) → Distinct xs → Distinct (taken key xs k)
  distinct-taken k [] d = tt
  distinct-taken k (x ∷ xs) d = distinct-step k x xs d.0 (distinct-taken k xs d.1) (int_eq k (key x))

  module _ (test : X → Bool) where
    count-step : (k : ℤ) (x y : X) (xs : List X) → at_key key xs (key x) ≡ None →
        (at_key key xs k ≡ Some y → count_by test xs ≡ cond (test y) 1 0 + count_by test (taken key xs k)) → (b : Bool) → int_eq k (key x) ≡ b → cond b (Some x) (at_key key xs k) ≡ Some y →
        count_by test (x ∷ xs) ≡ cond (test y) 1 0 + count_by test (cond (not b) (x ∷ taken key xs k) (taken key xs k))
    count-step k x y xs alone later true is e =
        let same : x ≡ y = cc in
        let absent : at_key key xs k ≡ None = subst (λ (z : ℤ). at_key key xs z ≡ None) (sym (eq_from k (key x) is)) alone in
        count-cons test x xs ∙ ap (λ (z : X). cond (test z) 1 0 + count_by test xs) same ∙ ap (λ (zs : List X). cond (test y) 1 0 + count_by test zs) (sym (taken-absent k xs absent))
    count-step k x y xs alone later false is e = omega (arith, count-cons test x xs, count-cons test x (taken key xs k), later e)

    count-taken : (k : ℤ) (y : X) (xs : List X) → Distinct xs → at_key key xs k ≡ Some y → count_by test xs ≡ cond (test y) 1 0 + count_by test (taken key xs k)
    count-taken k y [] d e = let none : ⊥ = cc in absurd none
    count-taken k y (x ∷ xs) d e = count-step k x y xs d.0 (count-taken k y xs d.1) (int_eq k (key x)) refl e

    other-way : (k q : ℤ) → int_eq k q ≡ false → int_eq q k ≡ false
    other-way k q e = elim (cases_Bool (int_eq q k)) [
      | inl same ↦
          let again : int_eq k q ≡ true = ap (int_eq k) (eq_from q k same) ∙ eq_same k in
          let none : ⊥ = cc in
          absurd none
      | inr other ↦ other
    ]

    rest-at : (y : X) (xs ys : List X) → Rises key (y ∷ ys) → ((q : ℤ) → at_key key xs q ≡ at_key key (y ∷ ys) q) → (q : ℤ) → (b : Bool) → int_eq (key y) q ≡ b →
        cond (not b) (at_key key xs q) None ≡ at_key key ys q
    rest-at y xs ys rise at q true is = subst (λ (z : ℤ). None ≡ at_key key ys z) (eq_from (key y) q is) (sym (none_below key ys (key y) rise.0))
    rest-at y xs ys rise at q false is = at q ∙ ap (λ (c : Bool). cond c (Some y) (at_key key ys q)) (other-way (key y) q is)

    -- lists that have the same at each key
    pub same-counts : (xs ys : List X) → Distinct xs → Rises key ys → ((q : ℤ) → at_key key xs q ≡ at_key key ys q) → count_by test xs ≡ count_by test ys
    same-counts [] [] d rise at = refl
    same-counts (x ∷ xs) [] d rise at =
        let some : Some x ≡ None = sym (ap (λ (c : Bool). cond c (Some x) (at_key key xs (key x))) (eq_same (key x))) ∙ at (key x) in
        let none : ⊥ = cc in
        absurd none
    same-counts xs (y ∷ ys) d rise at =
        let here : at_key key xs (key y) ≡ Some y = at (key y) ∙ ap (λ (c : Bool). cond c (Some y) (at_key key ys (key y))) (eq_same (key y)) in
        let rest = same-counts (taken key xs (key y)) ys (distinct-taken (key y) xs d) rise.1
        (λ q. at_key-taken key xs (key y) q ∙ rest-at y xs ys rise at q (int_eq (key y) q) refl) in
        omega (arith, count-taken (key y) y xs d here, rest, count-cons test y ys)

count-all : {X : Type 0} (xs : List X) → count_by (λ x. true) xs ≡ length xs
count-all [] = refl
count-all (x ∷ xs) = omega (arith, count-cons (λ x. true) x xs, count-all xs)

module _ {D : ℕ} (s : ShadowLists D) (shape : IsInShape s) {S : Type 0} (auxiliary : IndexMap ℤ (List Value) S) where
  leaf-at : (id : ℤ) → at_key (λ (r : Row D). r.id) (map leaf_row (rows_in s auxiliary)) id ≡ option_map leaf_row (option_map (boxed s shape auxiliary id) (box_of s id))
  leaf-at id = find-map leaf_row (λ (r : Row D). int_eq id r.id) (rows_in s auxiliary) ∙ ap (option_map leaf_row) (row-at s shape auxiliary id)

  same-at : (id : ℤ) → at_key (λ (r : Row D). r.id) (rows_of s) id ≡ at_key (λ (r : Row D). r.id) (map leaf_row (rows_in s auxiliary)) id
  same-at id = by (entry_of s.rows id) refl ∙ sym (leaf-at id)
    where
      by : (o : Option RowEntry) → entry_of s.rows id ≡ o → at_key (λ (r : Row D). r.id) (rows_of s) id ≡ option_map leaf_row (option_map (boxed s shape auxiliary id) (box_of s id))
      by None e =
          let none = row-none s shape id e in
          none ∙ sym (ap (λ (o : Option (Row D)). option_map leaf_row (option_map (boxed s shape auxiliary id) (option_map (λ r. r.rect) o))) none)
      by (Some x) e =
          let h = row-some s shape id x e in
          let with_id : ℤ → Row D = λ z. record { id = z; rect = h.0.rect } in
          h.2 ∙ ap (λ (z : ℤ). Some (with_id z)) h.1
          ∙ sym (ap (λ (o : Option (Row D)). option_map leaf_row (option_map (boxed s shape auxiliary id) (option_map (λ r. r.rect) o))) h.2)

  pub is-tree : IsTreeOf (rows_in s auxiliary) s
  is-tree = record {
    shape = shape;
    each = λ test. same-counts (λ (r : Row D). r.id) test (rows_of s) (map leaf_row (rows_in s auxiliary)) (distinct (λ (r : Row D). r.id) (rows_of s) (few-have s shape))
        (rises-map (λ (r : Row D). r.id) leaf_row (rows_in s auxiliary) (rows-rise s shape auxiliary)) same-at;
  }

  -- as many rows as entries
  pub entries-counted : length s.rows ≡ count_by (λ (r : Row D). true) (rows_of s)
  entries-counted =
      let same = is-tree.each (λ r. true) in
      let long = count-all (map (leaf_row {D = D}) (rows_in s auxiliary)) in
      omega (arith, same, long, length-map (rows_in s auxiliary) (leaf_row {D = D}), length-map s.rows (λ (e : RowEntry). joined s auxiliary e.id))

-- one row fewer
key-alone : {X : Type 0} (key : X → ℤ) (xs : List X) → Rises key xs → Distinct key xs
key-alone key [] rise = tt
key-alone key (x ∷ xs) rise = (none_below key xs (key x) rise.0, key-alone key xs rise.1)

pub shorter : (rows : List TableRow) (id : ℤ) (row : TableRow) → Rises (λ (r : TableRow). r.id) rows → row_at rows id ≡ Some row → length (without_id rows id) + 1 ≡ length rows
shorter rows id row rise at =
    let taken_one = count-taken (λ (r : TableRow). r.id) (λ r. true) id row rows (key-alone (λ (r : TableRow). r.id) rows rise) at in
    omega (arith, taken_one, count-all rows, count-all (without_id rows id))
