use Rattle.std.proofs.Common.{◌≡◌, ◌≤◌, length, arith, rules, refl, ap, ◌∙◌, sym, subst}
use Rattle.std.proofs.lemmas.Bool.{false≢true}
use Rattle.std.proofs.lemmas.List.{length-map}
use Rattle.std.proofs.lemmas.Result.{IfOk-from_err}
use Rattle.rt_tree_node.specs.Places.{numbers}
use Rattle.rt_tree_node.specs.Whole.{most_rows_of_a_tree}
use Rattle.rt_tree_walk.specs.declared.searching.Row.{Row}
use Rattle.rt_tree_pack.specs.declared.fault.PackFault.TheVariants.{Memory}
use Rattle.rt_tree.specs.Bare.{IsBare}
use Rattle.rt_tree_pack.specs.Packing.{AreEntered, IsFaultOf}
use Rattle.rt_map.specs.Levels.{Restores}
use Rattle.rt_map.specs.Packing.{ids}
use Rattle.rt_map.specs.PackingInside.{IsReadyFor}
use Rattle.rt_map.proofs.FromRows.{same-ids}
use Rattle.rt_map.proofs.Faults.{err-of, no-memory, only-memory, err-matches}
use Rattle.rt_map.proofs.MeantTree.{ready-meant}
use Rattle.rt_map.proofs.FromShadow.{restored-kept}
use Rattle.rt_map.proofs.restore.shaped_arena.Goals as goal

pub returns-in_err-cells-clause-arena : goal.returns-in_err-cells-clause-arena
returns-in_err-cells-clause-arena g c = IfOk-from_err _ _ c.from_residual.ensures.0

pub returns-in_err-cells-clause-fault : goal.returns-in_err-cells-clause-fault
returns-in_err-cells-clause-fault g c = no-memory c.from_residual.result (ids c.args.rows.now) c.from_residual.ensures.1

pub returns-in_err-arena-clause-arena : goal.returns-in_err-arena-clause-arena
returns-in_err-arena-clause-arena g c = IfOk-from_err _ _ c.from_residual-in_err-arena.ensures.0

pub returns-in_err-arena-clause-fault : goal.returns-in_err-arena-clause-fault
returns-in_err-arena-clause-fault g c =
    let same : numbers c.deref.result.now ≡ ids c.args.rows.now = ap numbers (c.deref.ensures.value ∙ c.in_ok-cells.ensures) ∙ same-ids c.args.rows.now in
    let fault : IsFaultOf (ids c.args.rows.now) c.in_err-arena.field-0.0 = subst (λ is. IsFaultOf is c.in_err-arena.field-0.0) same c.in_err-arena.ensures.fault in
    err-of c.from_residual-in_err-arena.result c.in_err-arena.field-0.0 (IsFaultOf (ids c.args.rows.now)) c.from_residual-in_err-arena.ensures.1 fault

pub returns-in_err-done-clause-arena : goal.returns-in_err-done-clause-arena
returns-in_err-done-clause-arena g c = IfOk-from_err _ _ c.from_residual-in_err-done.ensures.0

pub returns-in_err-done-clause-fault : goal.returns-in_err-done-clause-fault
returns-in_err-done-clause-fault g c = no-memory c.from_residual-in_err-done.result (ids c.args.rows.now) c.from_residual-in_err-done.ensures.1

pub restore-requires : goal.restore-requires
restore-requires g c =
    let few = c.requires.few in
    let t = c.in_ok-arena.arena in
    let ready : IsReadyFor t c.args.capacity c.in_ok-cells.cells.items = subst (IsReadyFor t c.args.capacity) c.deref.ensures.value c.in_ok-arena.ensures.arena in
    let bare : IsBare t = ready.bare in
    let entered : AreEntered t c.in_ok-cells.cells.items = ready.entered in
    let keys : t.nodes.capacity ≤ 4611686018427387904 = ready.room.keys in
    search rules

pub returns-clause-arena : goal.returns-clause-arena
returns-clause-arena g c =
    let t = c.in_ok-arena.arena in
    let rows = c.args.rows.now in
    restored-kept c.args.capacity rows t c.restore.new.tree c.requires.some c.requires.few (omega (arith, c.if-rows-gt-MOST_ROWS_OF_A_TREE.false))
    (subst (IsReadyFor t c.args.capacity) (c.deref.ensures.value ∙ c.in_ok-cells.ensures) c.in_ok-arena.ensures.arena)
    (subst (Restores t c.restore.new.tree) c.in_ok-cells.ensures (c.in_ok-done.ensures.steps c.if-not-done.false))

pub returns-in_err-cells-clause-meant : goal.returns-in_err-cells-clause-meant
returns-in_err-cells-clause-meant g c = λ meant is. err-matches c.from_residual.result Memory _ (λ fault. fault ≡ Memory) c.from_residual.ensures.1 refl

pub returns-in_err-arena-clause-meant : goal.returns-in_err-arena-clause-meant
returns-in_err-arena-clause-meant g c = λ meant is.
    let same : numbers c.deref.result.now ≡ ids c.args.rows.now = ap numbers (c.deref.ensures.value ∙ c.in_ok-cells.ensures) ∙ same-ids c.args.rows.now in
    let fault : IsFaultOf (ids c.args.rows.now) c.in_err-arena.field-0.0 = subst (λ is. IsFaultOf is c.in_err-arena.field-0.0) same c.in_err-arena.ensures.fault in
    let few : length (ids c.args.rows.now) ≤ most_rows_of_a_tree = omega (arith, is.most, length-map c.args.rows.now (λ (r : Row g.row.D). r.id)) in
    err-matches c.from_residual-in_err-arena.result c.in_err-arena.field-0.0 _ (λ fault. fault ≡ Memory) c.from_residual-in_err-arena.ensures.1
    (only-memory (ids c.args.rows.now) c.in_err-arena.field-0.0 few is.once fault)

pub returns-in_err-done-clause-meant : goal.returns-in_err-done-clause-meant
returns-in_err-done-clause-meant g c = λ meant is. err-matches c.from_residual-in_err-done.result Memory _ (λ fault. fault ≡ Memory) c.from_residual-in_err-done.ensures.1 refl

pub returns-then-not-done-clause-meant : goal.returns-then-not-done-clause-meant
returns-then-not-done-clause-meant g c = λ meant is.
    let t = c.in_ok-arena.arena in
    let items = c.in_ok-cells.cells.items in
    let ready : IsReadyFor t c.args.capacity items = subst (IsReadyFor t c.args.capacity) c.deref.ensures.value c.in_ok-arena.ensures.arena in
    let done = c.in_ok-done.ensures.meant meant (ready-meant t c.args.capacity c.args.shapes.now c.args.rows.now items meant c.in_ok-cells.ensures ready is) ready.room in
    absurd (false≢true (sym c.if-not-done.true ∙ done.0))

pub returns-clause-meant : goal.returns-clause-meant
returns-clause-meant g c = λ meant is.
    let t = c.in_ok-arena.arena in
    let items = c.in_ok-cells.cells.items in
    let ready : IsReadyFor t c.args.capacity items = subst (IsReadyFor t c.args.capacity) c.deref.ensures.value c.in_ok-arena.ensures.arena in
    let done = c.in_ok-done.ensures.meant meant (ready-meant t c.args.capacity c.args.shapes.now c.args.rows.now items meant c.in_ok-cells.ensures ready is) ready.room in
    let made = c.in_ok-done.ensures.steps c.if-not-done.false in
    record { tree_is = done.1; capacity_is = made.capacity ∙ ready.capacity_is }
