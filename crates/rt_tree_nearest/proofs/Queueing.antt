-- Children that come into the heap one after another, unless they are too far.
use Rattle.std.proofs.Common.{◌≡◌, ℕ, ◌<◌, ◌≤◌, Bool, true, false, cond, List, [], ◌∷◌, ◌++◌, map, filter, nat_le, append-nil, arith, ap, ◌∙◌, subst}
use Rattle.std.specs.List.Sorted.{IsPermutation}
use Rattle.std.specs.declared.cmp.Reverse.{Reverse}
use Rattle.std.proofs.lemmas.Bool.Decides.{nat_tests}
use Rattle.std.proofs.lemmas.List.Sorted.{IsPermutation-trans, IsPermutation-middle, IsPermutation-append_left}
use Rattle.rt_box.specs.declared.interval.Interval.{Interval}
use Rattle.rt_tree_node.specs.declared.cell.Cell.{Cell}
use Rattle.rt_tree_nearest.specs.declared.candidate.Branch.{Branch}
use Rattle.rt_tree_nearest.specs.Nearest.{box_distance}
use Rattle.rt_tree_nearest.specs.Candidates.{queued, is_near}

no-farther : (n m : ℕ) → n ≤ m → nat_le n m ≡ true
no-farther n m h = grind (arith, nat_tests)

farther : (n m : ℕ) → m < n → nat_le n m ≡ false
farther n m h = grind (arith, nat_tests)

-- the cell x comes first of those that are still to come, which it and some others are
module _ {D : ℕ} (target : List Interval) (most : ℕ) (x : Cell D) (rest : List (Cell D)) (whole cur : List (Reverse Branch))
    (before : IsPermutation whole (cur ++ map (queued target) (filter (is_near target most) (x ∷ rest)))) where
  abbrev near : Cell D → Bool
  near = is_near target most

  abbrev later : List (Reverse Branch)
  later = map (queued target) (filter near rest)

  first : (b : Bool) → near x ≡ b → IsPermutation whole (cur ++ map (queued target) (cond b (x ∷ filter near rest) (filter near rest)))
  first b e = subst (λ (v : Bool). IsPermutation whole (cur ++ map (queued target) (cond v (x ∷ filter near rest) (filter near rest)))) e before

  pub queue-near : (new : List (Reverse Branch)) → box_distance x.rect target ≤ most → IsPermutation (queued target x ∷ cur) new → IsPermutation whole (new ++ later)
  queue-near new h pushed =
      IsPermutation-trans whole (cur ++ queued target x ∷ later) (new ++ later) (first true (no-farther (box_distance x.rect target) most h))
      (IsPermutation-trans (cur ++ queued target x ∷ later) (queued target x ∷ (cur ++ later)) (new ++ later) (IsPermutation-middle cur (queued target x) later)
      (IsPermutation-append_left later (queued target x ∷ cur) new pushed))

  pub queue-far : most < box_distance x.rect target → IsPermutation whole (cur ++ later)
  queue-far h = first false (farther (box_distance x.rect target) most h)

pub queue-end : (whole cur others : List (Reverse Branch)) → others ≡ [] → IsPermutation whole (cur ++ others) → IsPermutation whole cur
queue-end whole cur others none all = subst (λ (es : List (Reverse Branch)). IsPermutation whole es) (ap (λ es. cur ++ es) none ∙ append-nil cur) all
