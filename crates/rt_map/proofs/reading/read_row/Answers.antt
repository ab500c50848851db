use Rattle.std.proofs.Common.{◌≡◌, ◌≤ℤ◌, ℤ, List, to_z, of_z, ◌*◌, take, drop, ap, ◌∙◌, sym, subst}
use Rattle.std.specs.Prelude.{FitsSigned}
use Rattle.std.specs.Int.{w64}
use Rattle.std.specs.List.{AllZip}
use Rattle.std.proofs.lemmas.Bool.{false≢true}
use Rattle.std.proofs.lemmas.Int.{to_z-of_z}
use Rattle.rt_box.specs.declared.interval.Interval.{Interval}
use Rattle.rt_tree_walk.specs.declared.searching.Row.{Row}
use Rattle.rt_tree.proofs.Boxed.{ordered-zip, box-back}
use Rattle.rt_map.proofs.Pieces.{cell-parts}
use Rattle.rt_map.proofs.reading.read_row.Goals as goal

pub returns-in_err-rect : goal.returns-in_err-rect
returns-in_err-rect g c = λ cell written ordered same.
    let parts = cell-parts c.args.bytes.now cell written same in
    let back = c.split_at.ensures.back in
    let lo = c.read_point.ensures cell.lo written.axes_lo written.lo (c.split_at-2.ensures.front ∙ ap (take (4 * g.row.D)) back ∙ parts.lo) in
    let hi = c.read_point-2.ensures cell.hi written.axes_hi written.hi (c.split_at-2.ensures.back ∙ ap (drop (4 * g.row.D)) back ∙ parts.hi) in
    let zip = ordered-zip g.row.D cell.lo cell.hi written.axes_lo written.axes_hi ordered in
    absurd (false≢true (c.in_err-rect.ensures.valid.1
    (subst (λ (los : List ℤ). AllZip ◌≤ℤ◌ los c.read_point-2.result) (sym lo) (subst (λ (his : List ℤ). AllZip ◌≤ℤ◌ cell.lo his) (sym hi) zip))))

pub returns : goal.returns
returns g c = λ cell written ordered same.
    let parts = cell-parts c.args.bytes.now cell written same in
    let back = c.split_at.ensures.back in
    let lo = c.read_point.ensures cell.lo written.axes_lo written.lo (c.split_at-2.ensures.front ∙ ap (take (4 * g.row.D)) back ∙ parts.lo) in
    let hi = c.read_point-2.ensures cell.hi written.axes_hi written.hi (c.split_at-2.ensures.back ∙ ap (drop (4 * g.row.D)) back ∙ parts.hi) in
    let small : FitsSigned w64 c.long_of.result = record { sfits = c.long_of.type_inv } in
    let number : to_z w64 (of_z w64 c.long_of.result) ≡ cell.number =
    to_z-of_z w64 c.long_of.result small ∙ c.long_of.ensures cell.number written.number (c.split_at.ensures.front ∙ parts.number) in
    let rect = box-back cell c.in_ok-rect.rect (c.in_ok-rect.ensures.lo ∙ lo) (c.in_ok-rect.ensures.hi ∙ hi) in
    let with_id : ℤ → Row g.row.D = λ id. record { id = id; rect = c.in_ok-rect.rect } in
    let with_box : List Interval → Row g.row.D = λ box. record { id = cell.number; rect = box } in
    ap with_id number ∙ ap with_box rect
