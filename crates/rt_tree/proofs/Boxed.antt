-- Cells with a box on each axis.
use Rattle.std.proofs.Common.{◌≡◌, ℕ, zero, suc, ◌<◌, Bool, true, false, ℤ, pos, ◌≤ℤ◌, List, [], ◌∷◌, length, get_or, arith, refl, sym, ap, ◌∙◌, inl, inr}
use Rattle.std.specs.Prelude.{int_le, ◌&&◌}
use Rattle.std.specs.List.{AllZip}
use Rattle.std.proofs.lemmas.Bool.{cases_eq}
use Rattle.rt_box.specs.declared.interval.Interval.{Interval}
use Rattle.rt_box.specs.Rect.{los, his}
use Rattle.rt_check.specs.declared.node.RawCell.{RawCell}
use Rattle.rt_check.specs.Conditions.{coordinate, each_axis}
use Rattle.rt_tree_walk.proofs.Ints.{int_le-true}
use Rattle.rt_tree.specs.Lists.{intervals, box_in}
use Rattle.rt_tree.proofs.Rows.{intervals-back}

both : (a b : Bool) → (a && b) ≡ true → (a ≡ true) × (b ≡ true)
both true b e = (refl, e)
both false b e = cc

each-true : (test : ℕ → Bool) (n k : ℕ) → each_axis test n ≡ true → k < n → test k ≡ true
each-true test zero k each within = absurd (omega arith)
each-true test (suc n) k each within =
    let two = both (each_axis test n) (test n) each in
    elim (cases_eq k n) [
      | inl same ↦ ap test same ∙ two.1
      | inr ne ↦ each-true test n k two.0 (omega arith)
    ]

zip-below : (xs ys : List ℤ) → length xs ≡ length ys → ((k : ℕ) → k < length xs → get_or xs k (pos 0) ≤ℤ get_or ys k (pos 0)) → AllZip ◌≤ℤ◌ xs ys
zip-below [] [] e h = tt
zip-below [] (y ∷ ys) e h = absurd (omega arith)
zip-below (x ∷ xs) [] e h = absurd (omega arith)
zip-below (x ∷ xs) (y ∷ ys) e h = (h 0 (omega arith), zip-below xs ys (omega arith) (λ k l. h (suc k) (omega arith)))

pub ordered-zip : (n : ℕ) (lo hi : List ℤ) → length lo ≡ n → length hi ≡ n →
    each_axis (λ axis. int_le (coordinate lo axis) (coordinate hi axis)) n ≡ true → AllZip ◌≤ℤ◌ lo hi
ordered-zip n lo hi lo_long hi_long ordered =
    zip-below lo hi (omega arith) (λ k within. int_le-true (coordinate lo k) (coordinate hi k)
    (each-true (λ axis. int_le (coordinate lo axis) (coordinate hi axis)) n k ordered (omega arith)))

module _ {D : ℕ} where
  pub box-back : (c : RawCell D) (rect : List Interval) → los rect ≡ c.lo → his rect ≡ c.hi → rect ≡ box_in c
  box-back c rect lo hi = sym (intervals-back rect) ∙ ap (λ l. intervals l (his rect)) lo ∙ ap (λ h. intervals c.lo h) hi
