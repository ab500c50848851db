-- What a window finds of a tree, as the rows whose boxes lie so to a box.
use Rattle.std.proofs.Common.{◌≡◌, ℕ, ◌+◌, Bool, true, false, cond, ◌&&◌, ℤ, List, [], ◌∷◌, All, count_by, if◌then◌else◌, arith, refl, sym, ap, ◌∙◌}
use Rattle.std.specs.List.{AllZip, filter}
use Rattle.std.specs.Prelude.{int_le}
use Rattle.std.proofs.lemmas.List.Elements.{All-head, All-tail, All-nil, All-map, All-weaker}
use Rattle.std.proofs.lemmas.List.Sums.{sum_by-cons}
use Rattle.rt_box.specs.declared.interval.Interval.{Interval}
use Rattle.rt_box.specs.Interval.{Includes}
use Rattle.rt_box.specs.Rect.{IsBox, coordinates}
use Rattle.rt_box.specs.Window.{Admits}
use Rattle.rt_check.specs.declared.node.NodeRow.{NodeRow}
use Rattle.rt_check.specs.declared.node.RawCell.{RawCell}
use Rattle.rt_check.specs.Shadow.{ShadowLists}
use Rattle.rt_check.specs.Conditions.{is_leaf, leaf_cells}
use Rattle.rt_tree.specs.Boxes.{HasBoxes}
use Rattle.rt_tree.specs.Lists.{box_in, row_in, rows_of}
use Rattle.rt_tree_walk.specs.declared.searching.Row.{Row}
use Rattle.rt_tree_walk.specs.Search.{AsksAdmitted}
use Rattle.rt_tree_walk.proofs.Ints.{int_le-true, int_le-from}
use Rattle.rt_tree_walk.proofs.Listed.{All-flat}
use Rattle.rt_calls.specs.Relations.{Relates, Picks, FindsRelated}
use Rattle.rt_calls.specs.Relations.Picks.{none, this, other}
use Rattle.rt_calls.specs.Windows.{AdmitsRelated}
use Rattle.rt_calls.specs.declared.relation.Relation.{Relation}
use Rattle.rt_calls.proofs.Reaching.{clash}

-- whether each coordinate is in its interval
abbrev admits : List Interval → List ℤ → Bool
admits [] [] = true
admits [] (z ∷ zs) = false
admits (i ∷ window) [] = false
admits (i ∷ window) (z ∷ zs) = int_le i.lo z && (int_le z i.hi && admits window zs)

pub both_true : (a b : Bool) → (a && b) ≡ true → (a ≡ true) × (b ≡ true)
both_true true b e = (refl, e)
both_true false b e = (e, clash false e refl)

true_both : (a b : Bool) → a ≡ true → b ≡ true → (a && b) ≡ true
true_both true b h k = k
true_both false b h k = h

admits-true : (window : List Interval) (zs : List ℤ) → admits window zs ≡ true → AllZip Includes window zs
admits-true [] [] e = tt
admits-true [] (z ∷ zs) e = clash false e refl
admits-true (i ∷ window) [] e = clash false e refl
admits-true (i ∷ window) (z ∷ zs) e =
    let first = both_true (int_le i.lo z) (int_le z i.hi && admits window zs) e in
    let second = both_true (int_le z i.hi) (admits window zs) first.1 in
    ((int_le-true i.lo z first.0, int_le-true z i.hi second.0), admits-true window zs second.1)

admits-from : (window : List Interval) (zs : List ℤ) → AllZip Includes window zs → admits window zs ≡ true
admits-from [] [] h = refl
admits-from [] (z ∷ zs) h = absurd h
admits-from (i ∷ window) [] h = absurd h
admits-from (i ∷ window) (z ∷ zs) h =
    true_both (int_le i.lo z) (int_le z i.hi && admits window zs) (int_le-from i.lo z h.0.0)
    (true_both (int_le z i.hi) (admits window zs) (int_le-from z i.hi h.0.1) (admits-from window zs h.1))

and_true : (a : Bool) → (a && true) ≡ a
and_true true = refl
and_true false = refl

and_false : (a : Bool) → (a && false) ≡ false
and_false true = refl
and_false false = refl

module _ {X : Type 0} where
  -- a test that tells what holds picks by it
  abbrev Tells : (X → Type 0) → (X → Bool) → X → Type 0
  Tells holds test x = (test x ≡ true → holds x) × (holds x → test x ≡ true)

  pick_more : (holds : X → Type 0) (test : X → Bool) (x : X) (xs picked : List X) (b : Bool) → test x ≡ b → Tells holds test x →
      Picks holds xs picked → Picks holds (x ∷ xs) (cond b (x ∷ picked) picked)
  pick_more holds test x xs picked true e tells rest = this (tells.0 e) rest
  pick_more holds test x xs picked false e tells rest = other (λ h. clash (test x) (tells.1 h) e) rest

  pick_by : (holds : X → Type 0) (test : X → Bool) (xs : List X) → All (Tells holds test) xs → Picks holds xs (filter test xs)
  pick_by holds test [] tells = none
  pick_by holds test (x ∷ xs) tells =
      pick_more holds test x xs (filter test xs) (test x) refl (All-head (Tells holds test) x xs tells)
      (pick_by holds test xs (All-tail (Tells holds test) x xs tells))

  count_more : (t : X → Bool) (x : X) (xs : List X) (b : Bool) → cond (t x && b) 1 0 + count_by t xs ≡ count_by t (cond b (x ∷ xs) xs)
  count_more t x xs true = ap (λ c. cond c 1 0 + count_by t xs) (and_true (t x)) ∙ sym (sum_by-cons (λ y. cond (t y) 1 0) x xs)
  count_more t x xs false = ap (λ c. cond c 1 0 + count_by t xs) (and_false (t x)) ∙ omega arith

  count_filtered : (t test : X → Bool) (xs : List X) → count_by (λ x. t x && test x) xs ≡ count_by t (filter test xs)
  count_filtered t test [] = refl
  count_filtered t test (x ∷ xs) = sum_by-cons (λ y. cond (t y && test y) 1 0) x xs
      ∙ ap (λ n. cond (t x && test x) 1 0 + n) (count_filtered t test xs) ∙ count_more t x (filter test xs) (test x)

  filter_all : (test : X → Bool) (xs : List X) → All (λ x. test x ≡ true) xs → filter test xs ≡ xs
  filter_all test [] all = refl
  filter_all test (x ∷ xs) all =
      ap (λ b. cond b (x ∷ filter test xs) (filter test xs)) (All-head (λ y. test y ≡ true) x xs all)
      ∙ ap (λ ys. x ∷ ys) (filter_all test xs (All-tail (λ y. test y ≡ true) x xs all))

module _ {D : ℕ} where
  cells_of_leaf : (P : RawCell D → Type 0) (b : Bool) (cells : List (RawCell D)) → All P cells → All P (if b then cells else [])
  cells_of_leaf P true cells all = all
  cells_of_leaf P false cells all = All-nil P

  -- each row has a box
  pub boxes_of_rows : (s : ShadowLists D) → HasBoxes s → All (λ r. IsBox D r.rect) (rows_of s)
  boxes_of_rows s has =
      let IsBoxed : RawCell D → Type 0 = λ c. IsBox D (box_in c) in let f : NodeRow D → List (RawCell D) = λ n. if is_leaf n then n.cells else [] in
      All-map (λ (r : Row D). IsBox D r.rect) row_in (leaf_cells s.nodes)
      (All-flat IsBoxed f s.nodes (All-weaker (λ (n : NodeRow D). All IsBoxed n.cells) (λ n. All IsBoxed (f n)) (λ n all. cells_of_leaf IsBoxed (is_leaf n) n.cells all) s.nodes has))

  pub finds_related : (relation : Relation) (s : ShadowLists D) (window : List Interval) (min max : List ℤ) (rows : List (Row D)) → HasBoxes s →
      AdmitsRelated D relation min max window → All (λ r. Admits window r.rect) rows →
      ((test : Row D → Bool) → AsksAdmitted window test → count_by test rows ≡ count_by test (rows_of s)) → FindsRelated relation s min max rows
  finds_related relation s window min max rows has related admitted each =
      let test : Row D → Bool = λ r. admits window (coordinates r.rect) in
      let Lies : Row D → Type 0 = λ r. Relates relation min max r.rect in
      let all : All (λ r. test r ≡ true) rows = All-weaker (λ (r : Row D). Admits window r.rect) (λ r. test r ≡ true) (λ r h. admits-from window (coordinates r.rect) h) rows admitted in record {
        picked = filter test (rows_of s);
        picks = pick_by Lies test (rows_of s) (All-weaker (λ (r : Row D). IsBox D r.rect) (Tells Lies test) (λ r is. (
          (λ e. (related r.rect is).0 (admits-true window (coordinates r.rect) e)),
          (λ h. admits-from window (coordinates r.rect) ((related r.rect is).1 h)),
        )) (rows_of s) (boxes_of_rows s has));
        same = λ t. ap (count_by t) (sym (filter_all test rows all)) ∙ sym (count_filtered t test rows)
            ∙ each (λ r. t r && test r) (λ r e. admits-true window (coordinates r.rect) (both_true (t r) (test r) e).1)
            ∙ count_filtered t test (rows_of s);
      }
