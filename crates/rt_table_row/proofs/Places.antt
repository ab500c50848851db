-- Where the values of a row stand.
use Rattle.std.proofs.Common.{◌≡◌, ℕ, zero, suc, ◌+◌, ◌-◌, ◌*◌, ◌/◌, ◌%◌, ◌<◌, ℤ, List, [], ◌∷◌, ◌++◌, map, length, take, get_or, sym, ap, arith, ◌∙◌}
use Rattle.std.proofs.lemmas.List.{get_or-map, get_or_append_left, get_or-append_right, length-map}
use Rattle.rt_box.specs.declared.interval.Interval.{Interval}
use Rattle.rt_box.specs.Rect.{coordinates}
use Rattle.rt_box.proofs.Narrowing.{length-coordinates}
use Rattle.rt_sql_statement.specs.declared.value.Value.{Value}
use Rattle.rt_sql_statement.specs.declared.value.Value.TheVariants.{Int}

pub high_at : (b : List Interval) (k : ℕ) (i : Interval) (d : ℤ) → k < 2 * length b → k % 2 ≡ 1 → i ≡ get_or b (k / 2) i →
    i.hi ≡ get_or (coordinates b) k d
high_at [] k i d h odd e = absurd (omega arith)
high_at (x ∷ b) zero i d h odd e = absurd (omega arith)
high_at (x ∷ b) (suc zero) i d h odd e = ap (λ (v : Interval). v.hi) e
high_at (x ∷ b) (suc (suc k)) i d h odd e =
    let half : suc (suc k) / 2 ≡ suc (k / 2) = omega arith in
    high_at b k i d (omega arith) (omega arith) (rw half at e)

pub low_at : (b : List Interval) (k : ℕ) (i : Interval) (d : ℤ) → k < 2 * length b → k % 2 ≡ 0 → i ≡ get_or b (k / 2) i →
    i.lo ≡ get_or (coordinates b) k d
low_at [] k i d h even e = absurd (omega arith)
low_at (x ∷ b) zero i d h even e = ap (λ (v : Interval). v.lo) e
low_at (x ∷ b) (suc zero) i d h even e = absurd (omega arith)
low_at (x ∷ b) (suc (suc k)) i d h even e =
    let half : suc (suc k) / 2 ≡ suc (k / 2) = omega arith in
    low_at b k i d (omega arith) (omega arith) (rw half at e)

-- the coordinates of one axis more
pub coordinates_more : (b : List Interval) (k : ℕ) (i : Interval) → k < length b → i ≡ get_or b k i →
    coordinates (take (suc k) b) ≡ coordinates (take k b) ++ i.lo ∷ i.hi ∷ []
coordinates_more [] k i h e = absurd (omega arith)
coordinates_more (x ∷ b) zero i h e = ap (λ (v : Interval). v.lo ∷ v.hi ∷ []) (sym e)
coordinates_more (x ∷ b) (suc k) i h e = ap (λ (zs : List ℤ). x.lo ∷ x.hi ∷ zs) (coordinates_more b k i (omega arith) e)

-- a coordinate stands behind the id
pub coordinate_at : (id : ℤ) (b : List Interval) (more : List Value) (place k : ℕ) (z : ℤ) (d : Value) → place ≡ suc k → k < 2 * length b →
    z ≡ get_or (coordinates b) k z → Int z ≡ get_or (Int id ∷ map Int (coordinates b) ++ more) place d
coordinate_at id b more place k z d behind h e =
    let long : k < length (coordinates b) = omega (arith, length-coordinates b) in
    let mapped : k < length (map Int (coordinates b)) = rw length-map long in
    rw behind (ap Int e ∙ sym (get_or_append_left (map Int (coordinates b)) more d k mapped ∙ get_or-map Int (coordinates b) k z d long))

-- and an auxiliary value behind the coordinates
pub auxiliary_at : (id : ℤ) (b : List Interval) (more : List Value) (place k : ℕ) (d : Value) → place ≡ suc (2 * length b + k) →
    get_or more k d ≡ get_or (Int id ∷ map Int (coordinates b) ++ more) place d
auxiliary_at id b more place k d behind =
    let long : length (map Int (coordinates b)) ≡ 2 * length b = rw length-map (length-coordinates b) in
    let less : 2 * length b + k - 2 * length b ≡ k = omega arith in
    rw behind (sym (get_or-append_right (map Int (coordinates b)) more (2 * length b) (2 * length b + k) d long (omega arith) ∙ ap (λ (i : ℕ). get_or more i d) less))
