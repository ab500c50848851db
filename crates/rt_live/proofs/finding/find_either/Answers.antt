use Rattle.std.proofs.Common.{◌∙◌, Bool, ◌||◌, List, [], None, length, arith, ap, subst}
use Rattle.std.specs.Prelude.{IsPermutation}
use Rattle.std.proofs.lemmas.List.{with_items_is}
use Rattle.std.proofs.lemmas.List.Sorted.{length_permutation}
use Rattle.rt_tree_walk.specs.declared.searching.Row.{Row}
use Rattle.rt_tree.specs.Lists.{rows_of}
use Rattle.rt_live.specs.Finding.{is_new, Appends}
use Rattle.rt_live.proofs.Found.{found-either}
use Rattle.rt_live.specs.Changes.{touches}
use Rattle.rt_live.proofs.Once.{by_id-counts}
use Rattle.rt_live.proofs.Room.{appended-long, around-parts, first-few, second-few, err-not-ok}
use Rattle.rt_live.proofs.finding.find_either.Goals as goal

pub returns-clause-rows : goal.returns-clause-rows
returns-clause-rows g c =
    let s = c.args.tree.now.lists in
    let first = c.append_there.new.scratch.found.items in
    let both = c.append_there-2.new.scratch.found in
    let moved : IsPermutation both.items c.sort_by_id.new.rows = subst (λ (rows : List (Row g.row.D)). IsPermutation rows c.sort_by_id.new.rows) c.deref_mut.ensures.value c.sort_by_id.ensures.permutation in
    let kept = with_items_is both c.sort_by_id.new.rows (length_permutation c.deref_mut.result.now c.sort_by_id.new.rows c.sort_by_id.ensures.permutation ∙ c.deref_mut.ensures.len) in
    let one : Appends (rows_of s) (is_new c.args.was.now None) [] first =
    subst (λ (rows : List (Row g.row.D)). Appends (rows_of s) (is_new c.args.was.now None) rows first) c.clear.ensures.items c.in_ok-append_there.ensures.rows in
    kept ∙ found-either s c.is_in_shape.ensures c.args.was.now c.args.is.now first both.items c.sort_by_id.new.rows one c.in_ok-append_there-2.ensures.rows moved c.sort_by_id.ensures.sorted

pub returns-in_err-append_there-clause-succeeds : goal.returns-in_err-append_there-clause-succeeds
returns-in_err-append_there-clause-succeeds g c = λ room.
    let s = c.args.tree.now.lists in
    let rows = rows_of s in
    let either : Row g.row.D → Bool = λ r. touches c.args.was.now r.rect || touches c.args.is.now r.rect in
    let was = c.args.was.now in
    let is = c.args.is.now in
    absurd (err-not-ok c.append_there.result _ c.in_err-append_there.was (c.append_there.ensures.succeeds (record {
      found = omega (arith, ap length c.clear.ensures.items, c.clear.ensures.capacity, around-parts was is rows, by_id-counts s c.is_in_shape.ensures either, room.found);
      last = omega (arith, first-few was is rows, by_id-counts s c.is_in_shape.ensures either, room.last);
      reached = room.reached;
    })))

pub returns-in_err-append_there-2-clause-succeeds : goal.returns-in_err-append_there-2-clause-succeeds
returns-in_err-append_there-2-clause-succeeds g c = λ room.
    let s = c.args.tree.now.lists in
    let rows = rows_of s in
    let either : Row g.row.D → Bool = λ r. touches c.args.was.now r.rect || touches c.args.is.now r.rect in
    let was = c.args.was.now in
    let is = c.args.is.now in
    let long = appended-long rows (is_new was None) c.clear.new.self.items c.append_there.new.scratch.found.items c.in_ok-append_there.ensures.rows in
    absurd (err-not-ok c.append_there-2.result _ c.in_err-append_there-2.was (c.append_there-2.ensures.succeeds (record {
      found = omega (arith, long, ap length c.clear.ensures.items, c.clear.ensures.capacity, c.in_ok-append_there.ensures.grows.found, around-parts was is rows, by_id-counts s c.is_in_shape.ensures either, room.found);
      last = omega (arith, second-few was is rows, by_id-counts s c.is_in_shape.ensures either, c.in_ok-append_there.ensures.grows.last, room.last);
      reached = omega (arith, c.in_ok-append_there.ensures.grows.reached, room.reached);
    })))
