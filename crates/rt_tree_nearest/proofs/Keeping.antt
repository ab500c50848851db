-- Rows that are seen one after another: each is kept or left out.
use Rattle.std.proofs.Common.{◌≡◌, ℕ, ◌<◌, ◌≤◌, true, false, List, [], ◌∷◌, ◌++◌, length, append-nil, append_assoc, arith, sym, subst, inl, inr}
use Rattle.std.specs.List.{All}
use Rattle.std.specs.List.Sorted.{IsPermutation}
use Rattle.std.specs.BinaryHeap.{IsHeap, IsUpperBound, heap_items}
use Rattle.std.specs.Prelude.{Vec}
use Rattle.std.specs.declared.alloc.Global.{Global}
use Rattle.std.specs.declared.collections.BinaryHeap.{BinaryHeap}
use Rattle.std.proofs.lemmas.Bool.{true≢false, cases_lt}
use Rattle.std.specs.Ordering.{is_lt, is_gt}
use Rattle.std.proofs.lemmas.List.Elements.{All-nil, All-cons, All-head, All-tail, All-append, All-weaker}
use Rattle.std.proofs.lemmas.List.Sorted.{All-permutation, IsPermutation-refl, IsPermutation-sym, IsPermutation-trans, IsPermutation-cons, IsPermutation-to_front, IsPermutation-append_left, IsPermutation-append_right, IsPermutation-append_comm, length_permutation}
use Rattle.rt_tree_nearest.specs.declared.candidate.Candidate.{Candidate}
use Rattle.rt_tree_nearest.specs.declared.keep.Kept.{Kept}
use Rattle.rt_tree_nearest.specs.declared.keep.Kept.TheVariants.{Few}
use Rattle.rt_tree_nearest.specs.declared.query.Query.{Query}
use Rattle.rt_tree_nearest.specs.Candidates.{compare, IsKept, IsReach, IsBeyond, IsOut, Keeps, ReplacesFrom, items_in, IsKeptIn}
use Rattle.rt_tree_nearest.proofs.Orders.{not-after_less, not-after_not-less, not-after_nearer, not-after_trans, top-last}

-- what a heap that has no first says
pub none-there : (n : ℕ) → (0 < n → false ≡ true) → n ≡ 0
none-there n h = elim (cases_lt 0 n) [ inl some ↦ absurd (true≢false (sym (h some))) | inr none ↦ omega arith ]

module _ {D : ℕ} (q : Query D) where
  -- what is farther than the reach is out
  pub out-far : (kept : List (Candidate D)) (most : ℕ) → IsReach q kept most → (c : Candidate D) → IsBeyond most c.distance → IsOut q kept c
  out-far kept most is c far = elim (is.far far.0 far.2) [
    | inl beyond ↦ inl (far.0, far.1, beyond, far.3)
    | inr full ↦ inr (full.0, All-weaker (λ a. a.distance < far.0) (λ a. is_gt (compare a c) ≡ false) (λ a h. not-after_nearer a c (omega (arith, h, far.3))) kept full.1)
  ]

  pub keeps-none : (kept : List (Candidate D)) → IsKept q kept → Keeps q [] kept kept
  keeps-none kept is = record {
    left = [];
    same = IsPermutation-refl (kept ++ []);
    out = All-nil (IsOut q kept);
    stays = λ c h. h;
    kept = is;
  }

  -- a row is left out
  pub keeps-out : (kept : List (Candidate D)) (c : Candidate D) → IsKept q kept → IsOut q kept c → Keeps q (c ∷ []) kept kept
  keeps-out kept c is out = record {
    left = c ∷ [];
    same = IsPermutation-refl (kept ++ c ∷ []);
    out = All-cons (IsOut q kept) c [] out (All-nil (IsOut q kept));
    stays = λ d h. h;
    kept = is;
  }

  -- there is room for one more
  pub keeps-more : (old new : List (Candidate D)) (c : Candidate D) → IsKept q old → length old < q.k → c.distance ≤ q.limit →
      IsPermutation (c ∷ old) new → Keeps q (c ∷ []) old new
  keeps-more old new c is room near moved = record {
    left = [];
    same = subst (λ (xs : List (Candidate D)). IsPermutation (old ++ c ∷ []) xs) (sym (append-nil new))
        (IsPermutation-trans (old ++ c ∷ []) (c ∷ old) new (IsPermutation-to_front old c) moved);
    out = All-nil (IsOut q new);
    stays = λ d h. elim h [ inl beyond ↦ inl beyond | inr full ↦ absurd (omega (arith, room, full.0)) ];
    kept = record {
      few = omega (arith, room, length_permutation (c ∷ old) new moved);
      within = All-permutation (λ d. d.distance ≤ q.limit) (c ∷ old) new moved (All-cons (λ d. d.distance ≤ q.limit) c old near is.within);
    };
  }

  -- the same, of a list that a row is pushed onto
  pub keeps-listed : (old : Kept D) (rows : Vec (Candidate D) Global) (new : List (Candidate D)) (c : Candidate D) → old ≡ Few rows → IsKeptIn q old →
      c.distance ≤ q.limit → IsPermutation (rows.items ++ c ∷ []) new → Keeps q (c ∷ []) (items_in old) new
  keeps-listed old rows new c e is near moved =
      subst (λ (kept : Kept D). IsKeptIn q kept → Keeps q (c ∷ []) (items_in kept) new) (sym e)
      (λ few.
      keeps-more rows.items new c few.rows few.shape near
      (IsPermutation-trans (c ∷ rows.items) (rows.items ++ c ∷ []) new
      (IsPermutation-sym (rows.items ++ c ∷ []) (c ∷ rows.items) (IsPermutation-to_front rows.items c)) moved)) is

  -- as many come before it as are asked for
  pub keeps-last : (kept : List (Candidate D)) (c last : Candidate D) → IsKept q kept → length kept ≡ q.k → IsUpperBound compare last kept →
      is_lt (compare c last) ≡ false → Keeps q (c ∷ []) kept kept
  keeps-last kept c last is full top h =
      keeps-out kept c is (inr (
        full,
        All-weaker (λ a. is_gt (compare a last) ≡ false) (λ a. is_gt (compare a c) ≡ false)
            (λ a before. not-after_trans a last c before (not-after_not-less c last h)) kept (top-last last kept top),
      ))

  -- none are asked for
  pub keeps-none_kept : (kept : List (Candidate D)) (c : Candidate D) → IsKept q kept → length kept ≡ q.k → length kept ≡ 0 → Keeps q (c ∷ []) kept kept
  keeps-none_kept kept c is full none = keeps-out kept c is (inr (full, λ i d h. absurd (omega (arith, h, none))))

  -- it takes the place of the last one
  module _ (old rest new : List (Candidate D)) (c last : Candidate D) (is : IsKept q old) (full : length old ≡ q.k) (near : c.distance ≤ q.limit)
      (less : is_lt (compare c last) ≡ true) (parted : IsPermutation old (last ∷ rest)) (top : IsUpperBound compare last old)
      (joined : IsPermutation (c ∷ rest) new) where
    before-last : is_gt (compare c last) ≡ false
    before-last = not-after_less c last less

    rests : (d : Candidate D) → All (λ a. is_gt (compare a d) ≡ false) old → All (λ a. is_gt (compare a d) ≡ false) (last ∷ rest)
    rests d = All-permutation (λ a. is_gt (compare a d) ≡ false) old (last ∷ rest) parted

    long : length new ≡ q.k
    long = omega (arith, length_permutation old (last ∷ rest) parted, length_permutation (c ∷ rest) new joined, full)

    news : (d : Candidate D) → is_gt (compare last d) ≡ false → All (λ a. is_gt (compare a d) ≡ false) old → All (λ a. is_gt (compare a d) ≡ false) new
    news d h all =
        All-permutation (λ a. is_gt (compare a d) ≡ false) (c ∷ rest) new joined
        (All-cons (λ a. is_gt (compare a d) ≡ false) c rest (not-after_trans c last d before-last h) (All-tail (λ a. is_gt (compare a d) ≡ false) last rest (rests d all)))

    still : (d : Candidate D) → All (λ a. is_gt (compare a d) ≡ false) old → All (λ a. is_gt (compare a d) ≡ false) new
    still d all = news d (All-head (λ a. is_gt (compare a d) ≡ false) last rest (rests d all)) all

    moved : IsPermutation (old ++ c ∷ []) (new ++ last ∷ [])
    moved =
        IsPermutation-trans (old ++ c ∷ []) (c ∷ old) (new ++ last ∷ []) (IsPermutation-to_front old c)
        (IsPermutation-trans (c ∷ old) (c ∷ (last ∷ rest)) (new ++ last ∷ []) (IsPermutation-cons c old (last ∷ rest) parted)
        (IsPermutation-trans (c ∷ (last ∷ rest)) ((c ∷ rest) ++ last ∷ []) (new ++ last ∷ [])
        (IsPermutation-cons c (last ∷ rest) (rest ++ last ∷ []) (IsPermutation-sym (rest ++ last ∷ []) (last ∷ rest) (IsPermutation-to_front rest last)))
        (IsPermutation-append_left (last ∷ []) (c ∷ rest) new joined)))

    keeps-instead : Keeps q (c ∷ []) old new
    keeps-instead = record {
      left = last ∷ [];
      same = moved;
      out = All-cons (IsOut q new) last [] (inr (long, still last (top-last last old top))) (All-nil (IsOut q new));
      stays = λ d h. elim h [ inl beyond ↦ inl beyond | inr after ↦ inr (long, still d after.1) ];
      kept = record {
        few = omega (arith, long);
        within = All-permutation (λ d. d.distance ≤ q.limit) (c ∷ rest) new joined
            (All-cons (λ d. d.distance ≤ q.limit) c rest near
            (All-tail (λ d. d.distance ≤ q.limit) last rest (All-permutation (λ d. d.distance ≤ q.limit) old (last ∷ rest) parted is.within)));
      };
    }

  -- the same, of a heap whose first is written
  pub keeps-written : (old new : BinaryHeap (Candidate D) Global) (rest : List (Candidate D)) (c last : Candidate D) → IsKept q (heap_items old) →
      length (heap_items old) ≡ q.k → c.distance ≤ q.limit → is_lt (compare c last) ≡ true → IsPermutation (heap_items old) (last ∷ rest) →
      IsUpperBound compare last (heap_items old) → IsPermutation (c ∷ rest) (heap_items new) → IsHeap compare (heap_items new) → ReplacesFrom q c old new
  keeps-written old new rest c last is full near less parted top joined order = record {
    keeps = keeps-instead (heap_items old) rest (heap_items new) c last is full near less parted top joined;
    full = long (heap_items old) rest (heap_items new) c last is full near less parted top joined;
    ordered = order;
  }

  -- the rows kept in another order
  keeps-reordered : (seen old mid new : List (Candidate D)) → Keeps q seen old mid → IsPermutation mid new → Keeps q seen old new
  keeps-reordered seen old mid new keeps moved =
      let outs : (d : Candidate D) → IsOut q mid d → IsOut q new d = λ d h. elim h [
        | inl beyond ↦ inl beyond
        | inr after ↦ inr (omega (arith, after.0, length_permutation mid new moved), All-permutation (λ a. is_gt (compare a d) ≡ false) mid new moved after.1)
      ] in
      record {
        left = keeps.left;
        same = IsPermutation-trans (old ++ seen) (mid ++ keeps.left) (new ++ keeps.left) keeps.same (IsPermutation-append_left keeps.left mid new moved);
        out = All-weaker (IsOut q mid) (IsOut q new) outs keeps.left keeps.out;
        stays = λ d h. outs d (keeps.stays d h);
        kept = record {
          few = omega (arith, keeps.kept.few, length_permutation mid new moved);
          within = All-permutation (λ d. d.distance ≤ q.limit) mid new moved keeps.kept.within;
        };
      }

  -- the same, of a heap whose first stays
  pub keeps-unwritten : (old new : BinaryHeap (Candidate D) Global) (rest : List (Candidate D)) (c last : Candidate D) → IsKept q (heap_items old) →
      length (heap_items old) ≡ q.k → is_lt (compare c last) ≡ false → IsPermutation (heap_items old) (last ∷ rest) →
      IsUpperBound compare last (heap_items old) → IsPermutation (last ∷ rest) (heap_items new) → IsHeap compare (heap_items new) → ReplacesFrom q c old new
  keeps-unwritten old new rest c last is full not_less parted top joined order =
      let moved = IsPermutation-trans (heap_items old) (last ∷ rest) (heap_items new) parted joined in
      record {
        keeps = keeps-reordered (c ∷ []) (heap_items old) (heap_items old) (heap_items new) (keeps-last (heap_items old) c last is full top not_less) moved;
        full = omega (arith, full, length_permutation (heap_items old) (heap_items new) moved);
        ordered = order;
      }

  -- some rows, and then some more
  pub keeps-then : (seen more old mid new : List (Candidate D)) → Keeps q seen old mid → Keeps q more mid new → Keeps q (seen ++ more) old new
  keeps-then seen more old mid new first next =
      let one : IsPermutation ((old ++ seen) ++ more) ((mid ++ first.left) ++ more) = IsPermutation-append_left more (old ++ seen) (mid ++ first.left) first.same in
      let two : IsPermutation (mid ++ (first.left ++ more)) (mid ++ (more ++ first.left)) = IsPermutation-append_right mid (first.left ++ more) (more ++ first.left) (IsPermutation-append_comm first.left more) in
      let three : IsPermutation ((mid ++ more) ++ first.left) ((new ++ next.left) ++ first.left) = IsPermutation-append_left first.left (mid ++ more) (new ++ next.left) next.same in
      let all : IsPermutation ((old ++ seen) ++ more) ((new ++ next.left) ++ first.left) =
      IsPermutation-trans ((old ++ seen) ++ more) ((mid ++ first.left) ++ more) ((new ++ next.left) ++ first.left) one
      (subst (λ (xs : List (Candidate D)). IsPermutation xs ((new ++ next.left) ++ first.left)) (sym (append_assoc mid first.left more))
      (IsPermutation-trans (mid ++ (first.left ++ more)) (mid ++ (more ++ first.left)) ((new ++ next.left) ++ first.left) two
      (subst (λ (xs : List (Candidate D)). IsPermutation xs ((new ++ next.left) ++ first.left)) (append_assoc mid more first.left) three))) in
      record {
        left = next.left ++ first.left;
        same = subst (λ (xs : List (Candidate D)). IsPermutation xs (new ++ (next.left ++ first.left))) (append_assoc old seen more)
            (subst (λ (xs : List (Candidate D)). IsPermutation ((old ++ seen) ++ more) xs) (append_assoc new next.left first.left) all);
        out = All-append (IsOut q new) next.left first.left next.out (All-weaker (IsOut q mid) (IsOut q new) next.stays first.left first.out);
        stays = λ c h. next.stays c (first.stays c h);
        kept = next.kept;
      }
