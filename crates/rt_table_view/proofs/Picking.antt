-- The rows that a condition picks, and their ids.
use Rattle.std.proofs.Common.{◌≡◌, ℕ, ◌+◌, ◌<◌, ℤ, pos, Bool, true, false, cond, ◌||◌, List, [], ◌∷◌, ◌++◌, map, filter, take, length, get_or, Option, Some, None, refl, sym, ap, ◌∙◌}
use Rattle.std.specs.Prelude.{is_some}
use Rattle.std.specs.List.{list_any, filter_map, cons_option}
use Rattle.std.specs.Ordering.{int_eq}
use Rattle.std.proofs.lemmas.List.Elements.{filter_map-append}
use Rattle.std.proofs.lemmas.List.{take_more, map-append, append-nil}
use Rattle.std.proofs.lemmas.Cmp.{int_eq_equiv}
use Rattle.rt_sql_statement.specs.declared.value.Value.{Value}
use Rattle.rt_table_row.specs.Rows.{TableRow, AreRising, row_at, values_of}
use Rattle.rt_tree_walk.specs.declared.searching.Row.{Row}
use Rattle.rt_table_store.specs.Trees.{leaf_row}
use Rattle.rt_table_store.proofs.Sorted.{kept, at_key, rises, at_key-filter}
use Rattle.rt_table_view.specs.Watching.{is_picked}

module _ {X : Type 0} (key : X → ℤ) where
  any_here : (b : Bool) (x : X) (later : Bool) (o : Option X) → later ≡ is_some o → (b || later) ≡ is_some (cond b (Some x) o)
  any_here true x later o same = refl
  any_here false x later o same = same

  pub any_at : (xs : List X) (q : ℤ) → list_any (int_eq q) (map key xs) ≡ is_some (at_key key xs q)
  any_at [] q = refl
  any_at (x ∷ xs) q = any_here (int_eq q (key x)) x _ _ (any_at xs q)

either_bool : (b : Bool) (r : TableRow) → is_some (cond b (Some r) None) ≡ b
either_bool true r = refl
either_bool false r = refl

some_kept : (p : TableRow → Bool) (o : Option TableRow) → is_some (kept p o) ≡ is_picked p o
some_kept p None = refl
some_kept p (Some r) = either_bool (p r) r

pub kept_ids : (p : TableRow → Bool) (rows : List TableRow) → AreRising rows → (q : ℤ) → list_any (int_eq q) (map (λ (r : TableRow). r.id) (filter p rows)) ≡ is_picked p (row_at rows q)
kept_ids p rows rise q =
    any_at (λ (r : TableRow). r.id) (filter p rows) q
    ∙ ap (λ (o : Option TableRow). is_some o) (at_key-filter (λ r. r.id) p rows (rises (λ r. r.id) rows rise) q)
    ∙ some_kept p (row_at rows q)

-- one id more
next_looked : (rows : List TableRow) (ids : List ℤ) (i : ℕ) (o : Option TableRow) → i < length ids → o ≡ row_at rows (get_or ids i (pos 0))
    → filter_map (row_at rows) (take (i + 1) ids) ≡ filter_map (row_at rows) (take i ids) ++ cons_option o []
next_looked rows ids i o within found =
    rw (take_more ids i (pos 0) within, found) (filter_map-append (row_at rows) (take i ids) (get_or ids i (pos 0) ∷ []))

pub none_looked : {D : ℕ} (rows : List TableRow) (ids : List ℤ) (i : ℕ) (found : List (Row D)) → i < length ids → None ≡ row_at rows (get_or ids i (pos 0))
    → found ≡ map leaf_row (filter_map (row_at rows) (take i ids)) → found ≡ map leaf_row (filter_map (row_at rows) (take (i + 1) ids))
none_looked rows ids i found within none so_far = so_far ∙ ap (map leaf_row) (sym (next_looked rows ids i None within none ∙ append-nil (filter_map (row_at rows) (take i ids))))

pub some_looked : {D : ℕ} (rows : List TableRow) (ids : List ℤ) (i : ℕ) (found : List (Row D)) (r : TableRow) (box : Row D) → i < length ids → Some r ≡ row_at rows (get_or ids i (pos 0))
    → box ≡ leaf_row r → found ≡ map leaf_row (filter_map (row_at rows) (take i ids)) → found ++ box ∷ [] ≡ map leaf_row (filter_map (row_at rows) (take (i + 1) ids))
some_looked rows ids i found r box within some copied so_far =
    rw (so_far, copied) (sym (ap (map leaf_row) (next_looked rows ids i (Some r) within some) ∙ map-append leaf_row (filter_map (row_at rows) (take i ids)) (r ∷ [])))

or_assoc : (a b c : Bool) → (a || (b || c)) ≡ ((a || b) || c)
or_assoc true b c = refl
or_assoc false b c = refl

one_more : (t b : Bool) → cond t true b ≡ (b || (t || false))
one_more true true = refl
one_more true false = refl
one_more false true = refl
one_more false false = refl

any_append : (p : ℤ → Bool) (xs ys : List ℤ) → list_any p (xs ++ ys) ≡ (list_any p xs || list_any p ys)
any_append p [] ys = refl
any_append p (x ∷ xs) ys = ap (λ (b : Bool). p x || b) (any_append p xs ys) ∙ or_assoc (p x) (list_any p xs) (list_any p ys)

-- one key more is listed
pub any_more : {X : Type 0} (key : X → ℤ) (xs : List X) (i : ℕ) (x : X) (q : ℤ) (b : Bool) → i < length xs → x ≡ get_or xs i x → b ≡ list_any (int_eq q) (map key (take i xs))
    → cond (int_eq (key x) q) true b ≡ list_any (int_eq q) (map key (take (i + 1) xs))
any_more {X} key xs i x q b within here same =
    ap (λ (t : Bool). cond t true b) (int_eq_equiv.symm (key x) q)
    ∙ one_more (int_eq q (key x)) b
    ∙ ap (λ (a : Bool). a || (int_eq q (key x) || false)) same
    ∙ sym (ap (λ ys. list_any (int_eq q) (map key ys)) (take_more xs i x within) ∙ ap (list_any (int_eq q)) (map-append key (take i xs) (get_or xs i x ∷ []))
    ∙ any_append (int_eq q) (map key (take i xs)) (key (get_or xs i x) ∷ []) ∙ ap (λ (z : X). list_any (int_eq q) (map key (take i xs)) || (int_eq q (key z) || false)) (sym here))

-- one more of what was found
pub found_more : {X : Type 0} (f : X → Option TableRow) (found : List X) (i : ℕ) (lists : List (List Value)) (x : X) (r : TableRow) (values : List Value) → i < length found → x ≡ get_or found i x
    → Some r ≡ f x → values ≡ values_of r → lists ≡ map values_of (filter_map f (take i found)) → lists ++ values ∷ [] ≡ map values_of (filter_map f (take (i + 1) found))
found_more f found i lists x r values within here is copied so_far =
    let next : filter_map f (take (i + 1) found) ≡ filter_map f (take i found) ++ r ∷ [] =
    ap (filter_map f) (take_more found i x within) ∙ filter_map-append f (take i found) (get_or found i x ∷ [])
    ∙ ap (λ (o : Option TableRow). filter_map f (take i found) ++ cons_option o []) (ap f (sym here) ∙ sym is) in
    rw (so_far, copied) (sym (ap (map values_of) next ∙ map-append values_of (filter_map f (take i found)) (r ∷ [])))
