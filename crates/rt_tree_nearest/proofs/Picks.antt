-- The cells that a query's window admits, and those that it refuses.
use Rattle.std.proofs.Common.{◌≡◌, ℕ, ◌*◌, ◌^◌, ◌<◌, ◌≤◌, ◌%◌, ◌/◌, ◌==◌, true, false, cond, Bool, List, [], ◌∷◌, ◌++◌, length, map, filter, zip, nat_le, append_assoc, arith, refl, ap, sym, ◌∙◌, subst, inl, inr}
use Rattle.std.specs.List.{All}
use Rattle.std.specs.List.Sorted.{IsPermutation}
use Rattle.std.proofs.Math.Nat.{mul-le-mul}
use Rattle.std.proofs.lemmas.Bool.{cases_eq, cases_Bool}
use Rattle.std.proofs.lemmas.Bool.Decides.{nat_tests}
use Rattle.std.proofs.lemmas.Int.{ints}
use Rattle.std.proofs.lemmas.List.{map-append}
use Rattle.std.proofs.lemmas.List.Elements.{All-nil, All-cons, All-head, All-tail, All-append, All-map}
use Rattle.std.proofs.lemmas.List.Sorted.{IsPermutation-refl, IsPermutation-cons, IsPermutation-trans, IsPermutation-middle, IsPermutation-sym, IsPermutation-map, IsPermutation-append_left, IsPermutation-append_right}
use Rattle.std.proofs.lemmas.List.Sums.{sum_by-cons}
use Rattle.rt_box.specs.declared.interval.Interval.{Interval}
use Rattle.rt_box.specs.Bits.{Tells}
use Rattle.rt_box.specs.Interval.{FitsEnds}
use Rattle.rt_box.specs.Rect.{IsBox}
use Rattle.rt_box.specs.Window.{Admits}
use Rattle.rt_tree_node.specs.declared.cell.Cell.{Cell}
use Rattle.rt_tree_walk.specs.Visits.{picked}
use Rattle.rt_tree_walk.proofs.Picked.{picked-odd, picked-even}
use Rattle.rt_tree_nearest.specs.declared.query.Query.{Query}
use Rattle.rt_tree_nearest.specs.Nearest.{gap_between, squared_gap_between, box_distance}
use Rattle.rt_tree_nearest.specs.declared.candidate.Candidate.{Candidate}
use Rattle.rt_tree_nearest.specs.Candidates.{IsAimed, PicksNear, IsBeyond, IsOut, Keeps, candidate_of, is_near}

abbrev apart : Interval × Interval → ℕ
apart p = squared_gap_between p.0 p.1

-- ---- distances have 128 bits
gap-short : (i j : Interval) → FitsEnds i → FitsEnds j → gap_between i j ≤ 2 ^ 33
gap-short i j h k = grind (arith, ints)

pub distance-short : (a b : List Interval) → All FitsEnds a → All FitsEnds b → box_distance a b ≤ length a * 2 ^ 66
distance-short [] b h k = omega arith
distance-short (x ∷ a) [] h k = omega arith
distance-short (x ∷ a) (y ∷ b) h k =
    let here = gap-short x y (All-head FitsEnds x a h) (All-head FitsEnds y b k) in
    let square : squared_gap_between x y ≤ 2 ^ 33 * 2 ^ 33 = mul-le-mul here here in
    omega (arith, square, distance-short a b (All-tail FitsEnds x a h) (All-tail FitsEnds y b k), sum_by-cons apart (x, y) (zip a b))

pub distance-fits : (axes : ℕ) (a b : List Interval) → IsBox axes a → IsBox axes b → box_distance a b < 2 ^ 128
distance-fits axes a b h k = omega (arith, distance-short a b h.fits k.fits, h.axes_are, h.few)

module _ {D : ℕ} where
  abbrev boxes_of : List (Cell D) → List (List Interval)
  boxes_of cells = map (λ c. c.rect) cells

  -- the cells whose bits aren't set
  pub dropped : List (Cell D) → ℕ → List (Cell D)
  dropped [] bits = []
  dropped (c ∷ cs) bits = cond (bits % 2 == 1) (dropped cs (bits / 2)) (c ∷ dropped cs (bits / 2))

  module _ (q : Query D) (aimed : IsAimed q) where
    abbrev IsFar : Cell D → Type 0
    IsFar c = q.limit < box_distance c.rect q.target

    refused-far : (c : Cell D) → IsBox D c.rect → (Admits q.window c.rect → ⊥) → IsFar c
    refused-far c box refused = elim (cases_Bool (nat_le (box_distance c.rect q.target) q.limit)) [
      | inl near ↦ absurd (refused (aimed.window c.rect box (within (box_distance c.rect q.target) q.limit near)))
      | inr far ↦ beyond (box_distance c.rect q.target) q.limit far
    ]
      where
        within : (n m : ℕ) → nat_le n m ≡ true → n ≤ m
        within n m h = grind (arith, nat_tests)

        beyond : (n m : ℕ) → nat_le n m ≡ false → m < n
        beyond n m h = grind (arith, nat_tests)

    abbrev IsBeyondLimit : Cell D → Type 0
    IsBeyondLimit c = IsBeyond q.limit (box_distance c.rect q.target)

    pub dropped-beyond : (cells : List (Cell D)) (bits : ℕ) → Tells (Admits q.window) (boxes_of cells) bits → All (IsBox D) (boxes_of cells) →
        All IsBeyondLimit (dropped cells bits)
    unfolding dropped
    dropped-beyond [] bits told boxes = All-nil IsBeyondLimit
    dropped-beyond (c ∷ cs) bits told boxes =
        let rest = dropped-beyond cs (bits / 2) told.1 (All-tail (IsBox D) c.rect (boxes_of cs) boxes) in
        elim (cases_eq (bits % 2) 1) [
          | inl odd ↦ subst (λ (n : ℕ). All IsBeyondLimit (cond (n == 1) (dropped cs (bits / 2)) (c ∷ dropped cs (bits / 2)))) (sym odd) rest
          | inr ne ↦
              let even : bits % 2 ≡ 0 = omega (arith, ne) in
              let box = All-head (IsBox D) c.rect (boxes_of cs) boxes in
              let far = refused-far c box (λ admitted. ne (told.0.1 admitted)) in
              let distance : ℕ = box_distance c.rect q.target in
              subst (λ (n : ℕ). All IsBeyondLimit (cond (n == 1) (dropped cs (bits / 2)) (c ∷ dropped cs (bits / 2)))) (sym even)
              (All-cons IsBeyondLimit c (dropped cs (bits / 2)) (distance, distance-fits D c.rect q.target box aimed.box, far, omega arith) rest)
        ]

    pub all-fit : (cells : List (Cell D)) → All (IsBox D) (boxes_of cells) → All (λ c. box_distance c.rect q.target < 2 ^ 128) cells
    all-fit [] boxes = All-nil (λ (c : Cell D). box_distance c.rect q.target < 2 ^ 128)
    all-fit (c ∷ cs) boxes =
        All-cons (λ (x : Cell D). box_distance x.rect q.target < 2 ^ 128) c cs
        (distance-fits D c.rect q.target (All-head (IsBox D) c.rect (boxes_of cs) boxes) aimed.box) (all-fit cs (All-tail (IsBox D) c.rect (boxes_of cs) boxes))

    -- a filter that passes near cells alone passes no other than picked ones
    pub picked-near : (most : ℕ) → most ≤ q.limit → (cells : List (Cell D)) (bits : ℕ) → Tells (Admits q.window) (boxes_of cells) bits → All (IsBox D) (boxes_of cells) →
        filter (is_near q.target most) (picked cells bits) ≡ filter (is_near q.target most) cells
    picked-near most low [] bits told boxes = refl
    picked-near most low (c ∷ cs) bits told boxes =
        let near : Cell D → Bool = is_near q.target most in
        let rest = picked-near most low cs (bits / 2) told.1 (All-tail (IsBox D) c.rect (boxes_of cs) boxes) in
        elim (cases_eq (bits % 2) 1) [
          | inl odd ↦ ap (filter near) (picked-odd c cs bits (bits / 2) odd refl) ∙ ap (λ l. cond (near c) (c ∷ l) l) rest
          | inr ne ↦
              let even : bits % 2 ≡ 0 = omega (arith, ne) in
              let far = refused-far c (All-head (IsBox D) c.rect (boxes_of cs) boxes) (λ admitted. ne (told.0.1 admitted)) in
              ap (filter near) (picked-even c cs bits (bits / 2) even refl) ∙ rest
              ∙ sym (ap (λ b. cond b (c ∷ filter near cs) (filter near cs)) (beyond (box_distance c.rect q.target) most (omega (arith, far, low))))
        ]
      where
        beyond : (n m : ℕ) → m < n → nat_le n m ≡ false
        beyond n m h = grind (arith, nat_tests)

  pub parted : (cells : List (Cell D)) (bits : ℕ) → IsPermutation cells (picked cells bits ++ dropped cells bits)
  unfolding dropped
  parted [] bits = IsPermutation-refl []
  parted (c ∷ cs) bits =
      let rest = parted cs (bits / 2) in
      elim (cases_eq (bits % 2) 1) [
        | inl odd ↦
            subst (λ (ys : List (Cell D)). IsPermutation (c ∷ cs) (ys ++ dropped (c ∷ cs) bits)) (sym (picked-odd c cs bits (bits / 2) odd refl))
            (subst (λ (n : ℕ). IsPermutation (c ∷ cs) (c ∷ picked cs (bits / 2) ++ cond (n == 1) (dropped cs (bits / 2)) (c ∷ dropped cs (bits / 2)))) (sym odd)
            (IsPermutation-cons c cs (picked cs (bits / 2) ++ dropped cs (bits / 2)) rest))
        | inr ne ↦
            let even : bits % 2 ≡ 0 = omega (arith, ne) in
            subst (λ (ys : List (Cell D)). IsPermutation (c ∷ cs) (ys ++ dropped (c ∷ cs) bits)) (sym (picked-even c cs bits (bits / 2) even refl))
            (subst (λ (n : ℕ). IsPermutation (c ∷ cs) (picked cs (bits / 2) ++ cond (n == 1) (dropped cs (bits / 2)) (c ∷ dropped cs (bits / 2)))) (sym even)
            (IsPermutation-trans (c ∷ cs) (c ∷ picked cs (bits / 2) ++ dropped cs (bits / 2)) (picked cs (bits / 2) ++ c ∷ dropped cs (bits / 2))
            (IsPermutation-cons c cs (picked cs (bits / 2) ++ dropped cs (bits / 2)) rest)
            (IsPermutation-sym (picked cs (bits / 2) ++ c ∷ dropped cs (bits / 2)) (c ∷ (picked cs (bits / 2) ++ dropped cs (bits / 2))) (IsPermutation-middle (picked cs (bits / 2)) c (dropped cs (bits / 2))))))
      ]

  -- what is kept of the picked cells is kept of all
  pub keeps-picked : (q : Query D) (aimed : IsAimed q) (cells : List (Cell D)) (bits : ℕ) → PicksNear q cells bits → (old new : List (Candidate D)) →
      Keeps q (map (candidate_of q.target) (picked cells bits)) old new → Keeps q (map (candidate_of q.target) cells) old new
  keeps-picked q aimed cells bits picks old new keeps =
      let f : Cell D → Candidate D = candidate_of q.target in
      let taken = map f (picked cells bits) in
      let others = map f (dropped cells bits) in
      let spread : IsPermutation (old ++ map f cells) (old ++ (taken ++ others)) =
      IsPermutation-append_right old (map f cells) (taken ++ others)
      (subst (λ (ys : List (Candidate D)). IsPermutation (map f cells) ys) (map-append f (picked cells bits) (dropped cells bits))
      (IsPermutation-map f cells (picked cells bits ++ dropped cells bits) (parted cells bits))) in
      let joined : IsPermutation (old ++ map f cells) ((old ++ taken) ++ others) =
      subst (λ (ys : List (Candidate D)). IsPermutation (old ++ map f cells) ys) (sym (append_assoc old taken others)) spread in
      let kept : IsPermutation ((old ++ taken) ++ others) ((new ++ keeps.left) ++ others) =
      IsPermutation-append_left others (old ++ taken) (new ++ keeps.left) keeps.same in
      record {
        left = keeps.left ++ others;
        same = subst (λ (ys : List (Candidate D)). IsPermutation (old ++ map f cells) ys) (append_assoc new keeps.left others)
            (IsPermutation-trans (old ++ map f cells) ((old ++ taken) ++ others) ((new ++ keeps.left) ++ others) joined kept);
        out = All-append (IsOut q new) keeps.left others keeps.out
            (All-map (IsOut q new) f (dropped cells bits) (λ i d h. inl (dropped-beyond q aimed cells bits picks.told picks.boxes i d h)));
        stays = keeps.stays;
        kept = keeps.kept;
      }
