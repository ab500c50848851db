use Rattle.std.proofs.Common.{ℤ, List, slice_range, subst}
use Rattle.rt_tree_many.specs.Parts.{AddsPart}
use Rattle.rt_tree_many.proofs.Joined.{finds-at}
use Rattle.rt_tree_many.proofs.searching.list_in_order.Goals as goal

pub loop-place-preserved : goal.loop-place-preserved
loop-place-preserved g c =
    let span = c.in_ok-span.span in
    let old = c.loop-place.found in
    let new = c.add_part.new.self in
    record {
      found = finds-at c.args.tree.now.lists c.args.windows.now c.loop-place.place c.search_at.new.ids.items span old new c.loop-place.invariant.found
          c.in_ok-span.ensures.finds
          (subst (λ (zs : List ℤ). AddsPart (slice_range zs span.start span.end) old new) c.deref.ensures.value c.in_ok-add_part.ensures);
      noted = c.in_ok-span.ensures.noted;
    }
