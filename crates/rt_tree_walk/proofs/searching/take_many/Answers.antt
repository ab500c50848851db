use Rattle.std.proofs.Common.{◌≡◌, ℕ, ◌<◌, ◌++◌, [], ◌∷◌, ◌+◌, length, take, arith, ap, sym, ◌∙◌, subst, Vec, Global, vec_len, vec_capacity}
use Rattle.std.proofs.lemmas.Bool.{iff_false}
use Rattle.std.proofs.lemmas.List.{length-map, same_from_push}
use Rattle.rt_tree_walk.specs.declared.searching.Row.{Row}
use Rattle.rt_tree_walk.specs.Search.{row_of}
use Rattle.rt_tree_walk.specs.Visits.{TakesRows}
use Rattle.rt_tree_walk.proofs.Taking.{cell-next, TakesRows-takes, TakesRows-keeps}
use Rattle.rt_tree_walk.proofs.searching.take_many.Goals.{then-not-admitted, else-not-admitted}
use Rattle.rt_tree_walk.proofs.searching.take_many.Goals as goal

pub loop-at-preserved : goal.loop-at-preserved
loop-at-preserved g c =
    let cells = c.args.leaf.now.cells in
    let at : ℕ = c.loop-at.at in
    let rect = c.index-boxes-at.result in
    let list = c.loop-at.list in
    let old = c.args.rows.now.items in
    let window = c.args.window.now in
    let within : at < length cells =
    omega (arith, c.loop-at-test.true, ap length c.boxes-boxes.ensures.value, length-map cells (λ x. x.rect)) in
    let next = cell-next cells c.boxes-boxes.result.now at rect c.boxes-boxes.ensures.value within c.index-boxes-at.is in
    let grown : c.push_reserved.new.self.items ≡ list.items ++ row_of next.0 ∷ [] =
    c.push_reserved.ensures.items ∙ ap (λ (r : Row g.row.D). list.items ++ r ∷ []) (c.row_of.ensures ∙ ap row_of (c.cell.ensures ∙ next.1.read c.cell.result)) in
    elim c.if-not-admitted.branch [
      | then-not-admitted w ↦ (
        subst (λ rs. TakesRows window (take (at + 1) cells) old rs) (sym (ap (λ (l : Vec (Row g.row.D) Global). l.items) w.list-is ∙ (same_from_push w.take_last.new.self.items list.items w.take_last.result (row_of next.0) (sym w.take_last.ensures.items ∙ grown)).0))
            (TakesRows-keeps window cells at rect next.0 old list.items next.1 c.loop-at.invariant.0 (iff_false c.admits-admitted.ensures w.if-not-admitted.true)),
        omega (arith, ap vec_len w.list-is, ap vec_capacity w.list-is, w.take_last.ensures.capacity, w.take_last.ensures.len, c.push_reserved.ensures.len, c.push_reserved.ensures.capacity, c.loop-at.invariant.1),
        omega (arith, ap vec_capacity w.list-is, w.take_last.ensures.capacity, c.push_reserved.ensures.capacity, c.loop-at.invariant.2),
      )
      | else-not-admitted w ↦ (
        subst (λ rs. TakesRows window (take (at + 1) cells) old rs) (sym (ap (λ (l : Vec (Row g.row.D) Global). l.items) w.list-is))
            (TakesRows-takes window cells at rect next.0 old list.items c.push_reserved.new.self.items next.1 c.loop-at.invariant.0 (c.admits-admitted.ensures.0 w.if-not-admitted.false) grown),
        omega (arith, ap vec_len w.list-is, ap vec_capacity w.list-is, c.push_reserved.ensures.len, c.push_reserved.ensures.capacity, c.loop-at.invariant.1),
        omega (arith, ap vec_capacity w.list-is, c.push_reserved.ensures.capacity, c.loop-at.invariant.2),
      )
    ]
