use Rattle.std.proofs.Common.{◌≡◌, ◌≤◌, length, arith, rules, ap, ◌∙◌, subst}
use Rattle.std.proofs.lemmas.List.{length-map}
use Rattle.std.proofs.lemmas.Result.{IfOk-from_err}
use Rattle.rt_tree_node.specs.Places.{numbers}
use Rattle.rt_tree_node.specs.Whole.{HasRoom, most_rows_of_a_tree}
use Rattle.rt_tree.specs.Bare.{IsBare}
use Rattle.rt_tree_pack.specs.Packing.{AreEntered, Packs, IsFaultOf}
use Rattle.rt_map.specs.Packing.{ids}
use Rattle.rt_map.specs.PackingInside.{cell_of, IsReadyFor}
use Rattle.rt_map.proofs.FromRows.{same-ids, arena-of}
use Rattle.rt_map.proofs.Faults.{err-of, no-memory}
use Rattle.rt_map.proofs.packing.pack_rows.Goals as goal

pub returns-in_err-cells-clause-arena : goal.returns-in_err-cells-clause-arena
returns-in_err-cells-clause-arena g c = IfOk-from_err _ _ c.from_residual.ensures.0

pub returns-in_err-cells-clause-fault : goal.returns-in_err-cells-clause-fault
returns-in_err-cells-clause-fault g c = no-memory c.from_residual.result (ids c.args.rows.now) c.from_residual.ensures.1

pub returns-in_err-arena-clause-arena : goal.returns-in_err-arena-clause-arena
returns-in_err-arena-clause-arena g c = IfOk-from_err _ _ c.from_residual-in_err-arena.ensures.0

pub returns-in_err-arena-clause-fault : goal.returns-in_err-arena-clause-fault
returns-in_err-arena-clause-fault g c =
    let same : numbers c.deref.result.now ≡ ids c.args.rows.now = ap numbers (c.deref.ensures.value ∙ c.in_ok-cells.ensures) ∙ same-ids c.args.rows.now in
    let fault : IsFaultOf (ids c.args.rows.now) c.in_err-arena.field-0.0 = subst (λ is. IsFaultOf is c.in_err-arena.field-0.0) same c.in_err-arena.ensures.fault in
    err-of c.from_residual-in_err-arena.result c.in_err-arena.field-0.0 (IsFaultOf (ids c.args.rows.now)) c.from_residual-in_err-arena.ensures.1 fault

pub returns-in_err-pack-clause-arena : goal.returns-in_err-pack-clause-arena
returns-in_err-pack-clause-arena g c = IfOk-from_err _ _ c.from_residual-in_err-pack.ensures.0

pub returns-in_err-pack-clause-fault : goal.returns-in_err-pack-clause-fault
returns-in_err-pack-clause-fault g c = no-memory c.from_residual-in_err-pack.result (ids c.args.rows.now) c.from_residual-in_err-pack.ensures.1

pub pack-requires : goal.pack-requires
pack-requires g c =
    let few = c.requires.few in
    let t = c.in_ok-arena.arena in
    let items = c.in_ok-cells.cells.items in
    let long : length items ≡ length c.args.rows.now = ap length c.in_ok-cells.ensures ∙ length-map c.args.rows.now cell_of in
    let ready : IsReadyFor t c.args.capacity items = subst (IsReadyFor t c.args.capacity) c.deref.ensures.value c.in_ok-arena.ensures.arena in
    let bare : IsBare t = ready.bare in
    let entered : AreEntered t items = ready.entered in
    let most : length items ≤ most_rows_of_a_tree = omega (arith, long, c.if-rows-gt-MOST_ROWS_OF_A_TREE.false) in
    let room : HasRoom t (length items) = ready.room in
    search rules

pub returns-clause-arena : goal.returns-clause-arena
returns-clause-arena g c =
    let t = c.in_ok-arena.arena in
    let rows = c.args.rows.now in
    arena-of c.args.capacity rows t c.pack.new.tree c.requires.some c.requires.few (omega (arith, c.if-rows-gt-MOST_ROWS_OF_A_TREE.false))
    (subst (IsReadyFor t c.args.capacity) (c.deref.ensures.value ∙ c.in_ok-cells.ensures) c.in_ok-arena.ensures.arena)
    (subst (Packs t c.pack.new.tree) c.in_ok-cells.ensures c.in_ok-pack.ensures)
