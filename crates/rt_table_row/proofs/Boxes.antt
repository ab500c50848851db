-- The box that a row's coordinates are.
use Rattle.std.proofs.Common.{◌≡◌, ℕ, zero, suc, ◌+◌, ◌*◌, ◌<◌, ◌≤◌, ℤ, pos, ◌≤ℤ◌, Bool, true, false, cond, ◌&&◌, List, [], ◌∷◌, ◌++◌, length, set, get_or, take, Option, Some, None, IsSome, IfSome, ◌↔◌, arith, rules, sym, ap, refl, ◌∙◌}
use Rattle.std.specs.List.{AllZip}
use Rattle.std.proofs.lemmas.Int.{ints}
use Rattle.std.proofs.lemmas.List.{take_more, take_more_set, take_all, length-map}
use Rattle.std.specs.Prelude.{int_le}
use Rattle.rt_box.specs.declared.interval.Interval.{Interval}
use Rattle.rt_box.specs.Rect.{los, his}
use Rattle.rt_table_row.specs.NewRows.{box_of, is_ordered}

pub head : (a b : Bool) → (a && b) ≡ true → a ≡ true
head true b e = refl
head false b e = cc

pub tail : (a b : Bool) → (a && b) ≡ true → b ≡ true
tail true b e = e
tail false b e = cc

pub length-box_of : (n : ℕ) (zs : List ℤ) → length zs ≡ 2 * n → length (box_of zs) ≡ n
length-box_of n [] e = omega arith
length-box_of n (x ∷ []) e = absurd (omega arith)
length-box_of zero (x ∷ y ∷ zs) e = absurd (omega arith)
length-box_of (suc n) (x ∷ y ∷ zs) e = ap suc (length-box_of n zs (omega arith))

pub lo_of_box : (n : ℕ) (zs : List ℤ) (k : ℕ) (d : ℤ) → length zs ≡ 2 * n → k < n → get_or (los (box_of zs)) k d ≡ get_or zs (2 * k) d
lo_of_box n [] k d e h = absurd (omega arith)
lo_of_box n (x ∷ []) k d e h = absurd (omega arith)
lo_of_box zero (x ∷ y ∷ zs) k d e h = absurd (omega arith)
lo_of_box (suc n) (x ∷ y ∷ zs) zero d e h = refl
lo_of_box (suc n) (x ∷ y ∷ zs) (suc k) d e h =
    let twice : 2 * suc k ≡ suc (suc (2 * k)) = omega arith in
    rw twice (lo_of_box n zs k d (omega arith) (omega arith))

pub hi_of_box : (n : ℕ) (zs : List ℤ) (k : ℕ) (d : ℤ) → length zs ≡ 2 * n → k < n → get_or (his (box_of zs)) k d ≡ get_or zs (2 * k + 1) d
hi_of_box n [] k d e h = absurd (omega arith)
hi_of_box n (x ∷ []) k d e h = absurd (omega arith)
hi_of_box zero (x ∷ y ∷ zs) k d e h = absurd (omega arith)
hi_of_box (suc n) (x ∷ y ∷ zs) zero d e h = refl
hi_of_box (suc n) (x ∷ y ∷ zs) (suc k) d e h =
    let twice : 2 * suc k + 1 ≡ suc (suc (2 * k + 1)) = omega arith in
    rw twice (hi_of_box n zs k d (omega arith) (omega arith))

-- the ends of one axis more
pub more_lo : (n : ℕ) (zs lo : List ℤ) (i : ℕ) (z : ℤ) → length zs ≡ 2 * n → length lo ≡ n → i < n → z ≡ get_or zs (2 * i) (pos 0) →
    take i lo ≡ take i (los (box_of zs)) → take (i + 1) (set lo i z) ≡ take (i + 1) (los (box_of zs))
more_lo n zs lo i z long lo_long h is same =
    let in_lo : i < length lo = omega arith in
    let in_box : i < length (los (box_of zs)) = rw length-map (omega (arith, length-box_of n zs long)) in
    let at : z ≡ get_or (los (box_of zs)) i (pos 0) = is ∙ sym (lo_of_box n zs i (pos 0) long h) in
    rw (take_more_set lo i z in_lo, take_more (los (box_of zs)) i (pos 0) in_box, same) (ap (λ (x : ℤ). take i (los (box_of zs)) ++ x ∷ []) at)

pub more_hi : (n : ℕ) (zs hi : List ℤ) (i : ℕ) (z : ℤ) → length zs ≡ 2 * n → length hi ≡ n → i < n → z ≡ get_or zs (2 * i + 1) (pos 0) →
    take i hi ≡ take i (his (box_of zs)) → take (i + 1) (set hi i z) ≡ take (i + 1) (his (box_of zs))
more_hi n zs hi i z long hi_long h is same =
    let in_hi : i < length hi = omega arith in
    let in_box : i < length (his (box_of zs)) = rw length-map (omega (arith, length-box_of n zs long)) in
    let at : z ≡ get_or (his (box_of zs)) i (pos 0) = is ∙ sym (hi_of_box n zs i (pos 0) long h) in
    rw (take_more_set hi i z in_hi, take_more (his (box_of zs)) i (pos 0) in_box, same) (ap (λ (x : ℤ). take i (his (box_of zs)) ++ x ∷ []) at)

-- all of them
pub all_ends : (n i : ℕ) (zs ends : List ℤ) → length zs ≡ n → length ends ≡ n → n ≤ i → take i ends ≡ take i zs → ends ≡ zs
all_ends n i zs ends z e h same = sym (take_all i ends (omega arith)) ∙ same ∙ take_all i zs (omega arith)

-- a box is known by its ends
pub same_ends : (a b : List Interval) → los a ≡ los b → his a ≡ his b → a ≡ b
same_ends [] [] l h = refl
same_ends [] (y ∷ b) l h = cc
same_ends (x ∷ a) [] l h = cc
same_ends (x ∷ a) (y ∷ b) l h =
    let lo : x.lo ≡ y.lo = cc in
    let hi : x.hi ≡ y.hi = cc in
    let los_are : los a ≡ los b = cc in
    let his_are : his a ≡ his b = cc in
    let rest : a ≡ b = same_ends a b los_are his_are in
    let first : x ≡ y = ap (λ (p : ℤ × ℤ). let i : Interval = record { lo = p.0; hi = p.1 } in i) (let e : (x.lo, x.hi) ≡ (y.lo, y.hi) = cc in e) in
    cc

le_from : (a b : ℤ) → int_le a b ≡ true → a ≤ℤ b
le_from a b e = grind (arith, ints)

le_to : (a b : ℤ) → a ≤ℤ b → int_le a b ≡ true
le_to a b e = grind (arith, ints)

pub ordered_zip : (b : List Interval) → is_ordered b ≡ true → AllZip ◌≤ℤ◌ (los b) (his b)
ordered_zip [] e = tt
ordered_zip (i ∷ b) e = (le_from i.lo i.hi (head (int_le i.lo i.hi) (is_ordered b) e), ordered_zip b (tail (int_le i.lo i.hi) (is_ordered b) e))

pub zip_ordered : (b : List Interval) → AllZip ◌≤ℤ◌ (los b) (his b) → is_ordered b ≡ true
zip_ordered [] h = refl
zip_ordered (i ∷ b) h =
    let one : int_le i.lo i.hi ≡ true = le_to i.lo i.hi h.0 in
    rw one (zip_ordered b h.1)

made_none : (b : List Interval) (t : Bool) → is_ordered b ≡ t → (AllZip ◌≤ℤ◌ (los b) (his b) → ⊥) → None ≡ cond t (Some b) None
made_none b true e h = absurd (h (ordered_zip b e))
made_none b false e h = refl

-- a box that is made of its ends, or none where they aren't ordered
pub made : (b : List Interval) (result : Option (List Interval)) → IsSome result ↔ AllZip ◌≤ℤ◌ (los b) (his b) →
    IfSome result (λ r. los r ≡ los b) → IfSome result (λ r. his r ≡ his b) → result ≡ cond (is_ordered b) (Some b) None
made b None valid lo hi = made_none b (is_ordered b) refl (λ h. search (rules, valid.1 h))
made b (Some r) valid lo hi =
    let ordered : is_ordered b ≡ true = zip_ordered b (valid.0 (search rules)) in
    let same : r ≡ b = same_ends r b (search rules) (search rules) in
    rw (ordered, same)
