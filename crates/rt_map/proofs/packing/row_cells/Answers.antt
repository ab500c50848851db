use Rattle.std.proofs.Common.{List, [], ◌∷◌, ◌++◌, length, map, take, ap, ◌∙◌, sym, falls}
use Rattle.std.proofs.lemmas.List.{map_more, take_all}
use Rattle.std.proofs.lemmas.Result.{IfOk-from_err}
use Rattle.rt_tree_node.specs.declared.cell.Cell.{Cell}
use Rattle.rt_tree_walk.specs.declared.searching.Row.{Row}
use Rattle.rt_map.specs.PackingInside.{cell_of}
use Rattle.rt_map.proofs.packing.row_cells.Goals as goal

pub offset_bounds-rows-row-index : goal.offset_bounds-rows-row-index
offset_bounds-rows-row-index g c = c.loop-row.auto.row-index-end

pub bounds-rows-row-index : goal.bounds-rows-row-index
bounds-rows-row-index g c = c.loop-row-test.true

pub loop-row-init : goal.loop-row-init
loop-row-init g c = c.in_ok-cells.ensures.items

pub loop-row-smaller : goal.loop-row-smaller
loop-row-smaller g c = falls (length c.args.rows.now) c.loop-row.row-index c.loop-row-test.true

pub loop-row-preserved : goal.loop-row-preserved
loop-row-preserved g c =
    let rows = c.args.rows.now in
    let i = c.loop-row.row-index in
    let f : Row g.row.D → Cell g.row.D = cell_of in
    c.in_ok-push.ensures.items ∙ ap (λ (cs : List (Cell g.row.D)). cs ++ c.row_cell.result ∷ []) c.loop-row.invariant
    ∙ ap (λ (x : Cell g.row.D). map f (take i rows) ++ x ∷ []) (c.row_cell.ensures ∙ ap f c.row-item.is) ∙ sym (map_more f rows i c.row-item.result c.loop-row-test.true)

pub returns : goal.returns
returns g c =
    let f : Row g.row.D → Cell g.row.D = cell_of in
    c.loop-row.invariant ∙ ap (map f) (take_all c.loop-row.row-index c.args.rows.now c.loop-row-test.false)

pub returns-in_err-cells : goal.returns-in_err-cells
returns-in_err-cells g c = IfOk-from_err _ _ c.from_residual.ensures.0

pub returns-in_err-push : goal.returns-in_err-push
returns-in_err-push g c = IfOk-from_err _ _ c.from_residual-in_err-push.ensures.0
