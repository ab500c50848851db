-- Nearest to a point, as nearest to the box that has the point alone.
use Rattle.std.proofs.Common.{◌≡◌, ◌≤ℤ◌, ℕ, ◌<◌, ◌≤◌, true, false, ℤ, List, [], ◌∷◌, take, filter, nat_le, arith, refl, ap, ◌∙◌}
use Rattle.std.specs.declared.cmp.Ordering.{Ordering}
use Rattle.std.specs.Ordering.{ordering_then, nat_cmp, int_cmp}
use Rattle.std.proofs.Math.Path.{fun_ext}
use Rattle.std.proofs.lemmas.Bool.Decides.{nat_tests}
use Rattle.std.specs.List.{AllZip}
use Rattle.std.proofs.lemmas.Int.{ints}
use Rattle.rt_box.specs.Interval.{interval}
use Rattle.rt_box.specs.Rect.{los, his}
use Rattle.rt_box.specs.declared.interval.Interval.{Interval}
use Rattle.rt_tree_choice.specs.Sorting.{sort_by}
use Rattle.rt_tree_walk.specs.declared.searching.Row.{Row}
use Rattle.rt_tree_nearest.specs.Nearest.{squared_distance, box_distance, box_at, by_nearness, by_nearness_to, nearest_rows, nearest_rows_to}
use Rattle.rt_tree_nearest.proofs.Distances.{distance-at}

pub filter-all : {X : Type 0} (xs : List X) → filter (λ x. true) xs ≡ xs
filter-all [] = refl
filter-all (x ∷ xs) = ap (λ ys. x ∷ ys) (filter-all xs)

pub is-no_farther : (n m : ℕ) → n ≤ m → nat_le n m ≡ true
is-no_farther n m h = grind (arith, nat_tests)

pub is-farther : (n m : ℕ) → m < n → nat_le n m ≡ false
is-farther n m h = grind (arith, nat_tests)

module _ {D : ℕ} (point : List ℤ) where
  nearness-of : (r s : Row D) → by_nearness_to (box_at point) r s ≡ by_nearness point r s
  nearness-of r s =
      ap (λ n. ordering_then (nat_cmp n (box_distance s.rect (box_at point))) (int_cmp r.id s.id)) (distance-at r.rect point)
      ∙ ap (λ n. ordering_then (nat_cmp (squared_distance r.rect point) n) (int_cmp r.id s.id)) (distance-at s.rect point)

  pub nearness-at : by_nearness_to {D = D} (box_at point) ≡ by_nearness point
  nearness-at = fun_ext (λ r. fun_ext (λ s. nearness-of r s))

  pub nearest-at : (k : ℕ) (rows : List (Row D)) → nearest_rows_to (box_at point) k rows ≡ nearest_rows point k rows
  nearest-at k rows = ap (λ (order : Row D → Row D → Ordering). take k (sort_by order rows)) nearness-at

-- ---- the box of a point
pub no-lower : (point : List ℤ) → AllZip ◌≤ℤ◌ point point
no-lower [] = tt
no-lower (z ∷ point) = (omega (arith, ints), no-lower point)

-- a box whose least and greatest numbers are those of the point
pub box-is : (b : List Interval) (point : List ℤ) → los b ≡ point → his b ≡ point → b ≡ box_at point
box-is [] [] l h = refl
box-is [] (z ∷ point) l h = cc
box-is (i ∷ b) [] l h = cc
box-is (i ∷ b) (z ∷ point) l h =
    let lo : i.lo ≡ z = cc in
    let hi : i.hi ≡ z = cc in
    let low : los b ≡ point = cc in
    let high : his b ≡ point = cc in
    let later : b ≡ box_at point = box-is b point low high in
    ap (λ n. interval n i.hi ∷ b) lo ∙ ap (λ n. interval z n ∷ b) hi ∙ ap (λ c. interval z z ∷ c) later
