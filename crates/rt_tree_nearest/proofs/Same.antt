-- Rows that are the same, and lists that hold them.
use Rattle.std.proofs.Common.{◌≡◌, ℕ, suc, ◌<◌, Bool, true, false, cond, ℤ, List, [], ◌∷◌, length, get_or, Contains, arith, refl, ap, sym, ◌∙◌, subst, inl, inr}
use Rattle.std.specs.Prelude.{◌&&◌}
use Rattle.std.specs.List.{All, count_by, sum_by}
use Rattle.std.specs.Bool.{Decides}
use Rattle.std.specs.Ordering.{int_eq}
use Rattle.std.proofs.lemmas.Bool.{true≢false, cases_lt}
use Rattle.std.proofs.lemmas.Bool.Decides.{Decides-and, Decides-int_eq}
use Rattle.std.proofs.lemmas.List.Elements.{All-head, All-tail}
use Rattle.std.proofs.lemmas.List.Sums.{sum_by-cons}
use Rattle.rt_box.specs.declared.interval.Interval.{Interval}
use Rattle.rt_tree_node.proofs.Counts.{count-cons, count-some}
use Rattle.rt_tree_walk.specs.declared.searching.Row.{Row}
use Rattle.rt_tree_walk.proofs.Reaching.{counted-contained}

decides-by : (r : Bool) {P Q : Type 0} → Decides r P → (P → Q) → (Q → P) → Decides r Q
decides-by r d to from = (λ e. to (d.0 e), λ h. d.1 (from h))

same_interval : Interval → Interval → Bool
same_interval i j = int_eq i.lo j.lo && int_eq i.hi j.hi

interval : ℤ → ℤ → Interval
interval lo hi = record { lo = lo; hi = hi }

same_interval-decides : (i j : Interval) → Decides (same_interval i j) (i ≡ j)
unfolding same_interval interval
same_interval-decides i j =
    decides-by (same_interval i j) (Decides-and (int_eq i.lo j.lo) (int_eq i.hi j.hi) (Decides-int_eq i.lo j.lo) (Decides-int_eq i.hi j.hi))
    (λ p. ap (λ lo. interval lo i.hi) p.0 ∙ ap (λ hi. interval j.lo hi) p.1)
    (λ e. (ap (λ (k : Interval). k.lo) e, ap (λ (k : Interval). k.hi) e))

same_box : List Interval → List Interval → Bool
same_box [] [] = true
same_box [] (j ∷ b) = false
same_box (i ∷ a) [] = false
same_box (i ∷ a) (j ∷ b) = same_interval i j && same_box a b

same_box-decides : (a b : List Interval) → Decides (same_box a b) (a ≡ b)
unfolding same_box
same_box-decides [] [] = (λ e. refl, λ h. refl)
same_box-decides [] (j ∷ b) = (λ e. absurd (true≢false (sym e)), λ h. cc)
same_box-decides (i ∷ a) [] = (λ e. absurd (true≢false (sym e)), λ h. cc)
same_box-decides (i ∷ a) (j ∷ b) =
    decides-by (same_box (i ∷ a) (j ∷ b)) (Decides-and (same_interval i j) (same_box a b) (same_interval-decides i j) (same_box-decides a b))
    (λ p. ap (λ k. k ∷ a) p.0 ∙ ap (λ c. j ∷ c) p.1)
    (λ e. (cc, cc))

module _ {D : ℕ} where
  made : ℤ → List Interval → Row D
  made id rect = record { id = id; rect = rect }

  pub same_row : Row D → Row D → Bool
  same_row r s = int_eq r.id s.id && same_box r.rect s.rect

  pub same_row-decides : (r s : Row D) → Decides (same_row r s) (r ≡ s)
  unfolding same_row made
  same_row-decides r s =
      decides-by (same_row r s) (Decides-and (int_eq r.id s.id) (same_box r.rect s.rect) (Decides-int_eq r.id s.id) (same_box-decides r.rect s.rect))
      (λ p. ap (λ id. made id r.rect) p.0 ∙ ap (λ rect. made s.id rect) p.1)
      (λ e. (ap (λ (x : Row D). x.id) e, ap (λ (x : Row D). x.rect) e))

  -- what is listed is counted, and what is counted is listed
  pub listed-counted : (rows : List (Row D)) (r : Row D) → Contains rows r → 0 < count_by (same_row r) rows
  listed-counted rows r h = count-some (same_row r) rows h.0 r h.1 ((same_row-decides r (get_or rows h.0 r)).1 (sym h.2))

  pub counted-listed : (rows : List (Row D)) (r : Row D) → 0 < count_by (same_row r) rows → Contains rows r
  counted-listed rows r some =
      let h = counted-contained (same_row r) rows some in
      subst (Contains rows) (sym ((same_row-decides r h.0).0 h.2)) h.1

-- where a sum isn't 0, neither is one of its terms
pub sum-some : {X : Type 0} (f : X → ℕ) (xs : List X) → 0 < sum_by f xs → (x : X) × Contains xs x × (0 < f x)
sum-some f [] some = absurd (omega arith)
sum-some f (x ∷ xs) some = elim (cases_lt 0 (f x)) [
  | inl here ↦ (x, (0, omega arith, refl), here)
  | inr none ↦
      let later = sum-some f xs (omega (arith, sum_by-cons f x xs)) in
      let at = later.1 in
      (later.0, (suc at.0, omega (arith, at.1), at.2), later.2)
]

pub count-all : {X : Type 0} (test : X → Bool) (xs : List X) → All (λ x. test x ≡ true) xs → count_by test xs ≡ length xs
count-all test [] all = refl
count-all test (x ∷ xs) all =
    let here : ◌≡◌ {A = ℕ} (cond (test x) 1 0) 1 = ap (λ b. cond b 1 0) (All-head (λ y. test y ≡ true) x xs all) in
    omega (arith, here, count-cons test x xs, count-all test xs (All-tail (λ y. test y ≡ true) x xs all))
