use Rattle.std.proofs.Common.{◌≡◌, ℤ, List, [], ◌∷◌, ◌++◌, map, take, FitsSigned, w64, to_z-of_z, rules, ap, sym, ◌∙◌}
use Rattle.std.proofs.lemmas.List.{map_more, take_all}
use Rattle.rt_tree_walk.specs.declared.searching.Row.{Row}
use Rattle.rt_table_store.proofs.select.ids_of.Goals as goal

pub loop-row-preserved : goal.loop-row-preserved
loop-row-preserved g c =
    let rows = c.args.rows.now in
    let row : Row g.row.D = c.row-item.result in
    let ids : List ℤ = c.loop-row.ids.items in
    let id_of : Row g.row.D → ℤ = λ r. r.id in
    let fits : FitsSigned w64 row.id = search rules in
    let pushed : c.push.new.self.items ≡ ids ++ row.id ∷ [] = rw (to_z-of_z fits) at c.in_ok-push.ensures.items in
    pushed ∙ ap (λ (zs : List ℤ). zs ++ row.id ∷ []) c.loop-row.invariant
    ∙ ap (λ (r : Row g.row.D). map id_of (take c.loop-row.row-index rows) ++ id_of r ∷ []) c.row-item.is
    ∙ sym (map_more id_of rows c.loop-row.row-index row c.loop-row-test.true)

pub returns : goal.returns
returns g c =
    let id_of : Row g.row.D → ℤ = λ r. r.id in
    c.loop-row.invariant ∙ ap (map id_of) (take_all c.loop-row.row-index c.args.rows.now c.loop-row-test.false)
