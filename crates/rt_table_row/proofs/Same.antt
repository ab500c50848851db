-- Two rows are the same where their ids, boxes and auxiliary values are.
use Rattle.std.proofs.Common.{◌≡◌, Bool, true, false, ◌&&◌, List, [], ◌∷◌, ◌++◌, map, length, refl, ap, arith}
use Rattle.std.specs.Cmp.Lexicographic.{pointwise}
use Rattle.std.specs.Ordering.{int_eq}
use Rattle.rt_box.specs.declared.interval.Interval.{Interval}
use Rattle.rt_box.specs.Rect.{coordinates}
use Rattle.rt_box.proofs.Equality.{interval_eq}
use Rattle.rt_sql_statement.specs.declared.value.Value.{Value}
use Rattle.rt_sql_statement.specs.declared.value.Value.TheVariants.{Int}
use Rattle.rt_sql_statement.specs.Value.{same_value}
use Rattle.rt_table_row.specs.Rows.{TableRow}
use Rattle.rt_table_row.specs.Views.{same_row}

grouped : (p q r s t : Bool) → t ≡ (r && s) → (p && (q && t)) ≡ (((p && q) && r) && s)
grouped true true r s t is = is
grouped true false r s t is = refl
grouped false q r s t is = refl

same_values : (a b : List Interval) (us vs : List Value) → length a ≡ length b →
    pointwise same_value (map Int (coordinates a) ++ us) (map Int (coordinates b) ++ vs) ≡ (pointwise interval_eq a b && pointwise same_value us vs)
same_values [] [] us vs same = refl
same_values [] (j ∷ b) us vs same = absurd (omega arith)
same_values (i ∷ a) [] us vs same = absurd (omega arith)
same_values (i ∷ a) (j ∷ b) us vs same =
    grouped (int_eq i.lo j.lo) (int_eq i.hi j.hi) (pointwise interval_eq a b) (pointwise same_value us vs) _ (same_values a b us vs (omega arith))

pub same_row-parts : (a b : TableRow) → length a.box ≡ length b.box →
    same_row a b ≡ (int_eq a.id b.id && (pointwise interval_eq a.box b.box && pointwise same_value a.auxiliary b.auxiliary))
same_row-parts a b same = ap (λ (t : Bool). int_eq a.id b.id && t) (same_values a.box b.box a.auxiliary b.auxiliary same)
