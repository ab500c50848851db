-- The cell that takes in a new box.
use Rattle.std.proofs.Common.{◌≡◌, ◌≢◌, ◌⊎◌, inl, inr, ℕ, zero, suc, get_or, ◌+◌, ◌<◌, Bool, true, false, List, [], ◌∷◌, length, arith, ◌∙◌, ap, sym, subst, refl}
use Rattle.std.proofs.lemmas.Bool.{cases_eq}
use Rattle.rt_box.specs.declared.interval.Interval.{Interval}
use Rattle.rt_box.specs.Keys.{Less, IsLeast}
use Rattle.rt_tree_subtree.specs.Subtree.{overlap_enlargement, area_enlargement, child_key, IsBestChild}
use Rattle.rt_box.specs.Boxes.{box_at}
use Rattle.rt_box.specs.Rect.{area, union_box}
use Rattle.std.proofs.lemmas.List.{get_or_read}
use Rattle.rt_tree_subtree.specs.declared.subtree.Cost.{Cost}
use Rattle.rt_tree_subtree.specs.Costs.{numbers, costs}
use Rattle.rt_box.proofs.Keys.{ranked, Less-trans, Less-push, Less-push_or, IsLeast-takes, IsLeast-keeps}

child_key-less : (above : Bool) (boxes : List (List Interval)) (new : List Interval) (p q : ℕ) →
    Less (ranked (costs above boxes new) p) (ranked (costs above boxes new) q) →
    Less (child_key above boxes new p) (child_key above boxes new q)
child_key-less true boxes new p q h = h
child_key-less false boxes new p q (inl h) = absurd (omega arith)
child_key-less false boxes new p q (inr h) = h.1

-- the best child by the costs of all cells
pub IsBestChild-from_costs : (above : Bool) (boxes : List (List Interval)) (new : List Interval) (n best : ℕ) → n ≡ length boxes →
    IsLeast (ranked (costs above boxes new)) 0 n best → IsBestChild above boxes new best
IsBestChild-from_costs above boxes new n best e h = record {
  from_low = omega arith;
  below_high = omega (arith, h.below_high);
  least = λ k above_low in_boxes other. child_key-less above boxes new best k (h.least k (omega arith) (omega arith) other);
}

-- one more cell, whose cost is less than the least so far, or isn't
pub takes_cost : (above : Bool) (boxes : List (List Interval)) (new : List Interval) (i b : ℕ) (cost least : Cost) →
    IsLeast (ranked (costs above boxes new)) 0 i b → numbers cost ≡ costs above boxes new i → numbers least ≡ costs above boxes new b →
    Less (numbers cost) (numbers least) → IsLeast (ranked (costs above boxes new)) 0 (i + 1) i
takes_cost above boxes new i b cost least so_far cost_is least_is less =
    IsLeast-takes (costs above boxes new) 0 i b so_far
    (subst (λ x. Less x (costs above boxes new b)) cost_is (subst (λ y. Less (numbers cost) y) least_is less))

pub keeps_cost : (above : Bool) (boxes : List (List Interval)) (new : List Interval) (i b : ℕ) (cost least : Cost) →
    IsLeast (ranked (costs above boxes new)) 0 i b → numbers cost ≡ costs above boxes new i → numbers least ≡ costs above boxes new b →
    ¬ Less (numbers cost) (numbers least) → IsLeast (ranked (costs above boxes new)) 0 (i + 1) b
keeps_cost above boxes new i b cost least so_far cost_is least_is not_less =
    IsLeast-keeps (costs above boxes new) 0 i b so_far refl
    (λ less. not_less (subst (λ x. Less x (numbers least)) (sym cost_is) (subst (λ y. Less (costs above boxes new i) y) (sym least_is) less)))

-- ---- the least costs above the leaves, from a cell on whose area grows least
pub record IsLeastSoFar (boxes : List (List Interval)) (new : List Interval) (start n best : ℕ) (least : Cost) : Type 0 where
  pub within : best < length boxes
  pub cost_is : numbers least ≡ costs true boxes new best
  pub order : (best ≡ start) ⊎ (best < n)
  pub so_far : (k : ℕ) → k < n → k ≢ best → Less (ranked (costs true boxes new) best) (ranked (costs true boxes new) k)

false-then-true : (o o' : ℕ) (xs ys : List ℕ) → o ≡ 0 → Less xs ys → Less (o ∷ xs) (o' ∷ ys)
false-then-true o zero xs ys e h = inr (e, h)
false-then-true o (suc o') xs ys e h = inl (omega arith)

pub no-growth-best : (boxes : List (List Interval)) (new : List Interval) (start : ℕ) → IsBestChild false boxes new start →
    overlap_enlargement boxes new start ≡ 0 → IsBestChild true boxes new start
no-growth-best boxes new start by_area still = record {
  from_low = omega arith;
  below_high = by_area.below_high;
  least = λ k above below other.
      false-then-true (overlap_enlargement boxes new start) (overlap_enlargement boxes new k) (child_key false boxes new start) (child_key false boxes new k)
      still (by_area.least k above below other);
}

pub starts : (boxes : List (List Interval)) (new : List Interval) (start : ℕ) (least : Cost) → IsBestChild false boxes new start →
    numbers least ≡ costs true boxes new start → IsLeastSoFar boxes new start 0 start least
starts boxes new start least by_area cost_is = record {
  within = by_area.below_high;
  cost_is = cost_is;
  order = inl refl;
  so_far = λ k below other. absurd (omega arith);
}

-- the cell at n is the best so far
pub passes : (boxes : List (List Interval)) (new : List Interval) (start n best : ℕ) (least : Cost) → n ≡ best →
    IsLeastSoFar boxes new start n best least → IsLeastSoFar boxes new start (n + 1) best least
passes boxes new start n best least e h = record {
  within = h.within;
  cost_is = h.cost_is;
  order = inr (omega arith);
  so_far = λ k below other. h.so_far k (omega arith) other;
}

one-more : (boxes : List (List Interval)) (new : List Interval) (start n best : ℕ) (least : Cost) →
    IsLeastSoFar boxes new start n best least → Less (ranked (costs true boxes new) best) (ranked (costs true boxes new) n) →
    IsLeastSoFar boxes new start (n + 1) best least
one-more boxes new start n best least h less = record {
  within = h.within;
  cost_is = h.cost_is;
  order = elim h.order [ inl e ↦ inl e | inr l ↦ inr (omega arith) ];
  so_far = λ k below other. elim (cases_eq k n) [
    | inl same ↦ subst (λ j. Less (ranked (costs true boxes new) best) (ranked (costs true boxes new) j)) (sym same) less
    | inr differs ↦ h.so_far k (omega arith) other
  ];
}

-- its overlap grows more than that of the best so far
pub grows-more : (boxes : List (List Interval)) (new : List Interval) (start n best : ℕ) (least : Cost) →
    least.overlap < overlap_enlargement boxes new n → IsLeastSoFar boxes new start n best least → IsLeastSoFar boxes new start (n + 1) best least
grows-more boxes new start n best least above h =
    one-more boxes new start n best least h (inl (omega (arith, ap (λ xs. get_or xs 0 0) h.cost_is)))

-- its cost is less
pub costs-less : (boxes : List (List Interval)) (new : List Interval) (start n best : ℕ) (least cost : Cost) → n < length boxes →
    numbers cost ≡ costs true boxes new n → Less (numbers cost) (numbers least) →
    IsLeastSoFar boxes new start n best least → IsLeastSoFar boxes new start (n + 1) n cost
costs-less boxes new start n best least cost within cost_is less h =
    let better : Less (ranked (costs true boxes new) n) (ranked (costs true boxes new) best) =
    Less-push (costs true boxes new n) (costs true boxes new best) n best
    (subst (λ x. Less x (costs true boxes new best)) cost_is (subst (λ y. Less (numbers cost) y) h.cost_is less)) in
    record {
      within = within;
      cost_is = cost_is;
      order = inr (omega arith);
      so_far = λ k below other. elim (cases_eq k best) [
        | inl same ↦ subst (λ j. Less (ranked (costs true boxes new) n) (ranked (costs true boxes new) j)) (sym same) better
        | inr differs ↦ Less-trans (ranked (costs true boxes new) n) (ranked (costs true boxes new) best) (ranked (costs true boxes new) k)
            better (h.so_far k (omega arith) differs)
      ];
    }

-- a tie goes to the cell that comes first
tie-order : (boxes : List (List Interval)) (new : List Interval) (start n : ℕ) → IsBestChild false boxes new start → n < length boxes → n ≢ start →
    costs true boxes new start ≡ costs true boxes new n → start < n
tie-order boxes new start n by_area within differs tie = elim (by_area.least n (omega arith) within differs) [
  | inl l ↦ absurd (omega (arith, ap (λ xs. get_or xs 1 0) tie))
  | inr r ↦ elim r.1 [
    | inl l ↦ absurd (omega (arith, ap (λ xs. get_or xs 2 0) tie))
    | inr q ↦ elim q.1 [ inl l ↦ l | inr z ↦ absurd z.1 ]
  ]
]

pub costs-no-less : (boxes : List (List Interval)) (new : List Interval) (start n best : ℕ) (least cost : Cost) → IsBestChild false boxes new start →
    n < length boxes → n ≢ best → numbers cost ≡ costs true boxes new n → ¬ Less (numbers cost) (numbers least) →
    IsLeastSoFar boxes new start n best least → IsLeastSoFar boxes new start (n + 1) best least
costs-no-less boxes new start n best least cost by_area within differs cost_is not_less h =
    let not_less' : ¬ Less (costs true boxes new n) (costs true boxes new best) =
    λ less. not_less (subst (λ x. Less x (numbers least)) (sym cost_is) (subst (λ y. Less (costs true boxes new n) y) (sym h.cost_is) less)) in
    one-more boxes new start n best least h
    (Less-push_or (costs true boxes new best) (costs true boxes new n) best n refl not_less'
    (λ tie. elim h.order [
      | inl e ↦ subst (λ j. j < n) (sym e) (tie-order boxes new start n by_area within (λ same. differs (same ∙ sym e))
          (subst (λ j. costs true boxes new j ≡ costs true boxes new n) e tie))
      | inr l ↦ l
    ]))

pub least-best : (boxes : List (List Interval)) (new : List Interval) (start n best : ℕ) (least : Cost) → n ≡ length boxes →
    IsLeastSoFar boxes new start n best least → IsBestChild true boxes new best
least-best boxes new start n best least e h = record {
  from_low = omega arith;
  below_high = h.within;
  least = λ k above below other. h.so_far k (omega arith) other;
}

pub costs-from : (boxes : List (List Interval)) (new : List Interval) (i o e a : ℕ) (cell same : List Interval) → i < length boxes →
    cell ≡ get_or boxes i cell → same ≡ get_or boxes i same → o ≡ overlap_enlargement boxes new i →
    e + area cell ≡ area (union_box cell new) → a ≡ area same → o ∷ e ∷ a ∷ [] ≡ costs true boxes new i
costs-from boxes new i o e a cell same within cell_is same_is o_is e_is a_is =
    let here : cell ≡ box_at boxes i = get_or_read boxes i cell within cell_is _ in
    let again : same ≡ box_at boxes i = get_or_read boxes i same within same_is _ in
    let grown : e ≡ area_enlargement cell new = omega arith in
    ap (λ x. x ∷ e ∷ a ∷ []) o_is
    ∙ ap (λ y. overlap_enlargement boxes new i ∷ y ∷ a ∷ []) (grown ∙ ap (λ b. area_enlargement b new) here)
    ∙ ap (λ z. overlap_enlargement boxes new i ∷ area_enlargement (box_at boxes i) new ∷ z ∷ []) (a_is ∙ ap area again)
