use Rattle.std.proofs.Common.{rules, ◌≡◌, ℕ, ◌-◌, ◌^◌, ◌<◌, ◌++◌, ◌∷◌, List, length, map, filter, arith, ap, sym, ◌∙◌, subst}
use Rattle.std.specs.Int.Bits.{bit_and}
use lib.Bits.{and_le_r}
use lib.Count.{count_trailing_zeros}
use Rattle.std.specs.List.Sorted.{IsPermutation}
use Rattle.std.specs.BinaryHeap.{IsHeap, heap_items}
use Rattle.std.proofs.lemmas.List.Sorted.{IsPermutation-refl}
use Rattle.std.proofs.lemmas.Result.{IfOk-from_err}
use Rattle.std.specs.declared.cmp.Reverse.{Reverse}
use Rattle.rt_tree_node.specs.declared.cell.Cell.{Cell}
use Rattle.rt_tree_walk.specs.Visits.{picked}
use Rattle.rt_tree_walk.proofs.Picked.{picked-first, picked-none}
use Rattle.rt_tree_nearest.specs.declared.candidate.Branch.{Branch}
use Rattle.rt_tree_nearest.specs.Nearest.{box_distance}
use Rattle.rt_tree_nearest.specs.Candidates.{queued, is_near, compare_branches}
use Rattle.rt_tree_nearest.proofs.Picks.{picked-near, all-fit}
use Rattle.rt_tree_nearest.proofs.LowestBit.{without-lower}
use Rattle.rt_tree_nearest.proofs.Queueing.{queue-near, queue-far, queue-end}
use Rattle.rt_tree_nearest.proofs.browse.push_children.Goals as goal
use Rattle.rt_tree_nearest.proofs.browse.push_children.Goals.{then-branch-most+in_ok-push, else-branch-most}

pub loop-rest-init : goal.loop-rest-init
loop-rest-init g c =
    let cells = c.args.node.now.cells in
    let q = c.args.query.now in
    let bits = c.near_cells-rest in
    let old = heap_items c.args.branches.now in
    let same = picked-near q c.requires.aimed c.args.most c.requires.within cells bits.result bits.ensures.told bits.ensures.boxes in
    record {
      below = bits.ensures.below;
      cells = subst (λ (cs : List (Cell g.row.D)). IsPermutation (old ++ map (queued q.target) (filter (is_near q.target c.args.most) cells)) (old ++ map (queued q.target) cs)) (sym same)
          (IsPermutation-refl (old ++ map (queued q.target) (filter (is_near q.target c.args.most) cells)));
      order = λ h. h;
    }

pub cell-cell-requires : goal.cell-cell-requires
cell-cell-requires g c =
    let some : 0 < c.loop-rest.rest = omega (arith, c.loop-rest-test.true) in
    let within : count_trailing_zeros 64 c.loop-rest.rest < length c.args.node.now.cells =
    (picked-first 64 c.args.node.now.cells c.loop-rest.rest c.near_cells-rest.ensures.few some c.loop-rest.invariant.below).within in
    search rules

pub loop-rest-preserved : goal.loop-rest-preserved
loop-rest-preserved g c =
    let cells = c.args.node.now.cells in
    let target = c.args.query.now.target in
    let most : ℕ = c.args.most in
    let rest : ℕ = c.loop-rest.rest in
    let next : ℕ = bit_and rest (rest - 1) in
    let before = c.loop-rest.invariant in
    let x = c.cell-cell.result in
    let cur = heap_items c.loop-rest.branches in
    let whole = heap_items c.args.branches.now ++ map (queued target) (filter (is_near target most) cells) in
    let first = picked-first 64 cells rest c.near_cells-rest.ensures.few (omega (arith, c.loop-rest-test.true)) before.below in
    let is : picked cells rest ≡ x ∷ picked cells next = first.is x ∙ ap (λ y. y ∷ picked cells next) (sym c.cell-cell.ensures) in
    let all : IsPermutation whole (cur ++ map (queued target) (filter (is_near target most) (x ∷ picked cells next))) =
    subst (λ (cs : List (Cell g.row.D)). IsPermutation whole (cur ++ map (queued target) (filter (is_near target most) cs))) is before.cells in
    let far : c.new-branch.result.distance ≡ box_distance x.rect target = ap (λ (b : Branch). b.distance) c.new-branch.ensures in
    let wrap : Branch → Reverse Branch = λ b. record { 0 = b } in
    let below : next < 2 ^ length cells = omega (arith, and_le_r rest (rest - 1), before.below) in
    elim c.if-branch-most.branch [
      | then-branch-most+in_ok-push w ↦
          let new = heap_items c.if-branch-most.branches in
          let same = ap heap_items w.branches-is in
          record {
            below = below;
            cells = queue-near target most x (picked cells next) whole cur all new (omega (arith, far, w.if-branch-most.true))
                (subst (λ (b : Reverse Branch). IsPermutation (b ∷ cur) new) (ap wrap c.new-branch.ensures)
                (subst (λ (xs : List (Reverse Branch)). IsPermutation (wrap c.new-branch.result ∷ cur) xs) (sym same) w.in_ok-push.ensures.permutation));
            order = λ h. subst (IsHeap compare_branches) (sym same) (w.in_ok-push.ensures.heap_order (before.order h));
          }
      | else-branch-most w ↦
          let same = ap heap_items w.branches-is in
          record {
            below = below;
            cells = subst (λ (xs : List (Reverse Branch)). IsPermutation whole (xs ++ map (queued target) (filter (is_near target most) (picked cells next)))) (sym same)
                (queue-far target most x (picked cells next) whole cur all (omega (arith, far, w.if-branch-most.false)));
            order = λ h. subst (IsHeap compare_branches) (sym same) (before.order h);
          }
    ]

pub returns : goal.returns
returns g c =
    let cells = c.args.node.now.cells in
    let q = c.args.query.now in
    let most : ℕ = c.args.most in
    let none : c.loop-rest.rest ≡ 0 = omega (arith, c.loop-rest-test.false) in
    let whole = heap_items c.args.branches.now ++ map (queued q.target) (filter (is_near q.target most) cells) in
    record {
      moved = queue-end whole (heap_items c.loop-rest.branches) (map (queued q.target) (filter (is_near q.target most) (picked cells c.loop-rest.rest)))
          (ap (λ (n : ℕ). map (queued q.target) (filter (is_near q.target most) (picked cells n))) none ∙ ap (λ (cs : List (Cell g.row.D)). map (queued q.target) (filter (is_near q.target most) cs)) (picked-none cells))
          c.loop-rest.invariant.cells;
      fits = all-fit q c.requires.aimed cells c.near_cells-rest.ensures.boxes;
      order = c.loop-rest.invariant.order;
    }

pub loop-rest-smaller : goal.loop-rest-smaller
loop-rest-smaller g c = without-lower c.loop-rest.rest c.loop-rest-test.true

pub returns-in_err-push : goal.returns-in_err-push
returns-in_err-push g c = IfOk-from_err _ _ c.from_residual.ensures.0
