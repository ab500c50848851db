use Rattle.std.proofs.Common.{◌≡◌, ◌+◌, ◌≤◌, length, arith, rules, ap, sym, subst}
use Rattle.rt_check.specs.Shadow.{ShadowLists}
use Rattle.rt_tree.specs.Lists.{rows_of}
use Rattle.rt_tree_node.specs.Whole.{most_rows_of_a_tree}
use Rattle.rt_tree_many.specs.Insertion.{AreNew}
use Rattle.rt_tree_many.proofs.insertion.insert_new.Goals as goal

pub insert_all-requires : goal.insert_all-requires
insert_all-requires g c =
    let rows = c.args.rows.now in
    let after = c.reserve.new.self in
    let same : after.lists ≡ c.args.tree.now.lists = c.reserve.ensures.lists in
    let new : AreNew after.lists rows = subst (λ (l : ShadowLists g.row.D). AreNew l rows) (sym same) c.requires in
    let few : length (rows_of after.lists) + length rows ≤ most_rows_of_a_tree =
    omega (
      arith,
      ap (λ (l : ShadowLists g.row.D). length (rows_of l)) same,
      c.is_small.ensures.entries,
      c.is_small.ensures.rows,
      c.len.ensures,
      c.if-rows-len.false,
    ) in
    let spare : length rows ≤ after.spare = c.in_ok-reserve.ensures.room in
    search rules
