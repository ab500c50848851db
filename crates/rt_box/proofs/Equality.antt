-- What `==` says of two boxes.
use Rattle.std.proofs.Common.{◌≡◌, Bool, ◌&&◌, List, ap, ◌∙◌}
use Rattle.std.specs.Bool.{Decides}
use Rattle.std.specs.Cmp.Lexicographic.{pointwise}
use Rattle.std.specs.Ordering.{int_eq}
use Rattle.std.proofs.lemmas.Bool.Decides.{Decides-int_eq, Decides-and}
use Rattle.std.proofs.lemmas.Slice.Eq.{slice_eq-Decides}
use Rattle.rt_box.specs.declared.interval.Interval.{Interval}
use Rattle.rt_box.specs.Interval.{interval}

abbrev pub interval_eq : Interval → Interval → Bool
interval_eq a b = int_eq a.lo b.lo && int_eq a.hi b.hi

Decides-interval_eq : (a b : Interval) → Decides (interval_eq a b) (a ≡ b)
Decides-interval_eq a b =
    let ends = Decides-and (int_eq a.lo b.lo) (int_eq a.hi b.hi) (Decides-int_eq a.lo b.lo) (Decides-int_eq a.hi b.hi) in (
      (λ t. let same = ends.0 t in ap (λ lo. interval lo a.hi) same.0 ∙ ap (λ hi. interval b.lo hi) same.1),
      (λ same. ends.1 (ap (λ (i : Interval). i.lo) same, ap (λ (i : Interval). i.hi) same)),
    )

-- two boxes are equal exactly where their intervals are: pass the clause of `eq`
pub Decides-box_eq : (a b : List Interval) (r : Bool) → r ≡ pointwise interval_eq a b → Decides r (a ≡ b)
Decides-box_eq a b r e = slice_eq-Decides Decides-interval_eq a b r e
