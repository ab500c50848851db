use Rattle.std.proofs.Common.{◌≡◌, ◌≢◌, ◌+◌, ◌<◌, ◌≤◌, [], ◌∷◌, ◌++◌, take, length, IsSome, length-append, arith, rules, ap, ◌∙◌, sym, subst, falls, lit<}
use Rattle.std.specs.Ordering.{int_eq}
use Rattle.std.proofs.lemmas.List.{take_more, take_all, length-take-le}
use Rattle.indexmap.specs.IndexMap.{get as leaf_of}
use Rattle.slab.specs.Slab.{get, ContainsKey}
use Rattle.rt_box.specs.Capacity.{most_cells}
use Rattle.rt_tree_node.specs.declared.cell.Cell.{Cell}
use Rattle.rt_tree_node.specs.Places.{key_of, cells_of, cells_at}
use Rattle.rt_tree_place.proofs.Adopted.{kept-present, some-node}
use Rattle.rt_tree_pack.specs.Steps.{Fills}
use Rattle.rt_tree_pack.proofs.Filled.{fills-none, fills-more, still-known, still-named}
use Rattle.rt_tree_pack.proofs.filling.fill.Goals as goal

pub loop-cell-init : goal.loop-cell-init
loop-cell-init g c = fills-none c.args.tree.now c.args.key c.args.level

pub attach-requires : goal.attach-requires
attach-requires g c =
    let few = c.requires.few in
    let cells = c.args.cells.now in
    let cell = c.cell-item.result in
    let i = c.loop-cell.cell-index in
    let within : i < length cells = c.loop-cell-test.true in
    let s = c.args.tree.now in
    let t = c.loop-cell.tree in
    let key = c.args.key in
    let so_far = c.loop-cell.invariant in
    let present : ContainsKey t.nodes key = kept-present s.nodes t.nodes key (so_far.levels key) c.requires.present in
    let first = some-node (get s.nodes key) c.requires.present in
    let here = ap (λ o. length (cells_of o)) (so_far.here first.0 first.1) in
    let before = ap (λ o. length (cells_of o)) first.1 in
    let room : length (cells_at t.nodes key) < most_cells =
    omega (arith, here, before, length-append first.0.cells (take i cells), length-take-le i cells (omega (arith, within)), c.requires.room, within) in
    let row : c.args.level ≡ 0 → IsSome (leaf_of int_eq t.leaves cell.number) = still-known s t key c.args.level cells (take i cells) i cell so_far c.requires.named within c.cell-item.is in
    let named : 1 ≤ c.args.level → ContainsKey t.nodes (key_of cell) × (key_of cell ≢ key) =
    still-named s t key c.args.level cells (take i cells) i cell so_far c.requires.named within c.cell-item.is in
    let child : 1 ≤ c.args.level → ContainsKey t.nodes (key_of cell) = λ some. (named some).0 in
    let apart : 1 ≤ c.args.level → key_of cell ≢ key = λ some. (named some).1 in
    (lit< tt, (search rules, (present, (room, (row, (child, apart))))))

pub loop-cell-preserved : goal.loop-cell-preserved
loop-cell-preserved g c =
    let cells = c.args.cells.now in
    let cell = c.cell-item.result in
    let i = c.loop-cell.cell-index in
    let within : i < length cells = c.loop-cell-test.true in
    let s = c.args.tree.now in
    let t = c.loop-cell.tree in
    let so_far = c.loop-cell.invariant in
    let first = some-node (get s.nodes c.args.key) c.requires.present in
    let next : take (i + 1) cells ≡ take i cells ++ cell ∷ [] = take_more cells i cell within ∙ ap (λ (x : Cell g.row.D). take i cells ++ x ∷ []) (sym c.cell-item.is) in
    subst (λ cs. Fills s c.attach.new.tree c.args.key c.args.level cs) (sym next)
    (fills-more s t c.attach.new.tree c.args.key c.args.level (take i cells) cell first.0 so_far first.1 c.attach.ensures
    (still-named s t c.args.key c.args.level cells (take i cells) i cell so_far c.requires.named within c.cell-item.is))

pub offset_bounds-cells-cell-index : goal.offset_bounds-cells-cell-index
offset_bounds-cells-cell-index g c = c.loop-cell.auto.cell-index-end

pub bounds-cells-cell-index : goal.bounds-cells-cell-index
bounds-cells-cell-index g c = c.loop-cell-test.true

pub loop-cell-smaller : goal.loop-cell-smaller
loop-cell-smaller g c = falls (length c.args.cells.now) c.loop-cell.cell-index c.loop-cell-test.true

pub returns : goal.returns
returns g c = subst (Fills c.args.tree.now c.loop-cell.tree c.args.key c.args.level) (take_all c.loop-cell.cell-index c.args.cells.now c.loop-cell-test.false) c.loop-cell.invariant
