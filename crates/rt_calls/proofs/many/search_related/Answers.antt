use Rattle.std.proofs.Common.{◌≡◌, ◌*◌, ℤ, List, length, arith, sym, subst}
use Rattle.std.specs.List.{AllZip}
use Rattle.rt_box.specs.declared.interval.Interval.{Interval}
use Rattle.rt_calls.specs.Numbers.{pieces}
use Rattle.rt_calls.specs.Windows.{AdmitsPiece}
use Rattle.rt_calls.proofs.Searching.{searches, starts-fit}
use Rattle.rt_calls.proofs.many.search_related.Goals as goal

pub give_parts-requires : goal.give_parts-requires
give_parts-requires g c =
    let found = c.in-Ok-search_many in
    let boxes : List (List ℤ) = pieces (2 * g.row.D) (length c.args.starts.now) c.args.windows.now in
    let admits = subst (λ (ws : List (List Interval)). AllZip (AdmitsPiece g.row.D c.args.relation) boxes ws) (sym c.deref.ensures.value) c.in-Ok.ensures in
    let fit : length found.found.starts.items ≡ length c.args.starts.now =
    starts-fit c.args.tree.now.lists c.args.relation (length c.args.starts.now) c.args.windows.now c.deref.result.now found.found.ids.items found.found.starts.items admits found.ensures in
    omega arith

pub returns-in-Ok-search_many-clause-found : goal.returns-in-Ok-search_many-clause-found
returns-in-Ok-search_many-clause-found g c =
    let found = c.in-Ok-search_many in
    let boxes : List (List ℤ) = pieces (2 * g.row.D) (length c.args.starts.now) c.args.windows.now in
    let admits = subst (λ (ws : List (List Interval)). AllZip (AdmitsPiece g.row.D c.args.relation) boxes ws) (sym c.deref.ensures.value) c.in-Ok.ensures in
    searches c.args.tree.now c.has_boxes.ensures c.args.relation c.args.windows.now c.args.starts.now c.give_parts.new.starts c.args.ids.now c.give_parts.new.ids
    c.args.total.now c.give_parts.new.total c.deref.result.now found.found.ids.items found.found.starts.items c.give_parts.result admits found.ensures c.give_parts.ensures.given
