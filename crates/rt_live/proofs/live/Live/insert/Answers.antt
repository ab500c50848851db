use Rattle.std.proofs.Common.{◌≡◌, ◌∙◌, ◌≤◌, ◌<◌, length, None, sym, ap, rules, arith}
use Rattle.std.specs.Option.{is_some}
use Rattle.rt_tree_node.specs.Whole.{most_rows_of_a_tree}
use Rattle.rt_live.specs.Rows.{box_at}
use Rattle.rt_live.proofs.Views.{row-box, rows-long, no-box, not-there}
use Rattle.rt_live.proofs.Room.{err-not-ok}
use Rattle.rt_live.proofs.live.Live.insert.Goals as goal

pub returns-then-contains-clause-fault : goal.returns-then-contains-clause-fault
returns-then-contains-clause-fault g c = ap is_some (row-box c.self.inside c.self.inside c.args.self.now c.self.view_is c.args.id.now) ∙ sym c.contains.ensures ∙ c.if-contains.true

pub returns-then-len-ge-MOST_ROWS_OF_A_TREE-clause-taken : goal.returns-then-len-ge-MOST_ROWS_OF_A_TREE-clause-taken
returns-then-len-ge-MOST_ROWS_OF_A_TREE-clause-taken g c = λ some. absurd (not-there _ _ c.contains.result (row-box c.self.inside c.self.inside c.args.self.now c.self.view_is c.args.id.now) c.contains.ensures c.if-contains.false some)

pub returns-then-len-ge-MOST_ROWS_OF_A_TREE-clause-fault : goal.returns-then-len-ge-MOST_ROWS_OF_A_TREE-clause-fault
returns-then-len-ge-MOST_ROWS_OF_A_TREE-clause-fault g c =
    omega (arith, rows-long c.self.inside c.self.inside c.args.self.now c.self.view_is c.is_in_shape.ensures, c.len.ensures, c.if-len-ge-MOST_ROWS_OF_A_TREE.true)

pub edit_row-requires : goal.edit_row-requires
edit_row-requires g c =
    let d : g.row.D ≤ 3 = c.self.invariant.few in
    let box = row-box c.self.inside c.self.inside c.args.self.now c.self.view_is c.args.id.now in
    let was : box_at c.args.self.now.lists.rows c.args.id.now ≡ None = box ∙ no-box _ (sym c.contains.ensures ∙ c.if-contains.false) in
    let few : length c.args.self.now.lists.rows < most_rows_of_a_tree =
    omega (arith, rows-long c.self.inside c.self.inside c.args.self.now c.self.view_is c.is_in_shape.ensures, c.len.ensures, c.if-len-ge-MOST_ROWS_OF_A_TREE.false) in
    search rules

pub returns-in_err-edit_row-clause-taken : goal.returns-in_err-edit_row-clause-taken
returns-in_err-edit_row-clause-taken g c = λ some. absurd (not-there _ _ c.contains.result (row-box c.self.inside c.self.inside c.args.self.now c.self.view_is c.args.id.now) c.contains.ensures c.if-contains.false some)

pub returns-clause-taken : goal.returns-clause-taken
returns-clause-taken g c = λ some. absurd (not-there _ _ c.contains.result (row-box c.self.inside c.self.inside c.args.self.now c.self.view_is c.args.id.now) c.contains.ensures c.if-contains.false some)

pub returns-in_err-edit_row-clause-fits : goal.returns-in_err-edit_row-clause-fits
returns-in_err-edit_row-clause-fits g c = λ room _.
    err-not-ok c.edit_row.result _ c.in_err-edit_row.was (c.edit_row.ensures.succeeds (λ some. room.rows_fit) (record {
      rows_fit = omega arith;
      windows_fit = omega arith;
      changes_fit = room.changes_fit;
      rows_reached = omega (arith, room.rows_reached);
      windows_reached = omega (arith, room.windows_reached);
    }))
