use Rattle.std.proofs.Common.{ℕ, ◌+◌, List, take, sym, subst}
use Rattle.std.specs.List.{AllZip}
use Rattle.rt_tree.specs.Search.{CountsIn}
use Rattle.rt_tree_many.proofs.Noted.{zip-next}
use Rattle.rt_tree_many.proofs.searching.counts_in_order.Goals as goal

pub loop-place-preserved : goal.loop-place-preserved
loop-place-preserved g c =
    let Counts = CountsIn c.args.tree.now.lists in
    let windows = c.args.windows.now in
    let i = c.loop-place.place in
    record {
      counted = subst (λ (ns : List ℕ). AllZip Counts (take (i + 1) windows) ns) (sym {A = List ℕ} c.in_ok-push.ensures.items)
          (zip-next Counts windows c.loop-place.counts.items i c.in_ok-count.count c.loop-place.invariant.counted c.in_ok-count.ensures.counts);
      noted = c.in_ok-count.ensures.noted;
    }
