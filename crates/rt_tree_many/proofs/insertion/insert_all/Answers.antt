use Rattle.std.proofs.Common.{◌≡◌, ◌+◌, ◌<◌, ◌≤◌, List, [], ◌∷◌, ◌++◌, take, length, None, arith, rules, refl, sym, ◌∙◌, subst}
use Rattle.rt_tree.specs.Lists.{box_of}
use Rattle.rt_tree_node.specs.Whole.{most_rows_of_a_tree}
use Rattle.rt_tree_walk.specs.declared.searching.Row.{Row}
use Rattle.rt_tree_many.specs.Insertion.{GainsRows, InsertsInTurn}
use Rattle.rt_tree_many.specs.Insertion.InsertsInTurn.{none, more}
use Rattle.rt_tree_many.proofs.Gained.{gains-none, gains-more, fresh-among, fresh-absent, rows-so_far}
use Rattle.rt_tree_many.proofs.Lists.{take-next}
use Rattle.rt_tree_many.proofs.insertion.insert_all.Goals as goal

pub loop-row-init : goal.loop-row-init
loop-row-init g c = record {
  gains = gains-none c.args.tree.now.lists;
  turns = none;
  spare = omega arith;
  capacity = refl;
}

pub insert-requires : goal.insert-requires
insert-requires g c =
    let old = c.args.tree.now.lists in
    let tree = c.loop-row.tree.lists in
    let rows = c.args.rows.now in
    let row = c.row-item.result in
    let i = c.loop-row.row-index in
    let within : i < length rows = c.loop-row-test.true in
    let gains = c.loop-row.invariant.gains in
    let absent : box_of tree row.id ≡ None = fresh-absent old tree rows i row within c.row-item.is c.requires.new gains in
    let few : length tree.rows < most_rows_of_a_tree =
    omega (arith, c.is_small.ensures.entries, rows-so_far old tree rows i row within c.row-item.is c.requires.new gains, c.requires.few) in
    let spare : 1 ≤ c.loop-row.tree.spare = omega (arith, c.loop-row.invariant.spare) in
    search rules

pub loop-row-preserved : goal.loop-row-preserved
loop-row-preserved g c =
    let old = c.args.tree.now.lists in
    let tree = c.loop-row.tree.lists in
    let rows = c.args.rows.now in
    let row = c.row-item.result in
    let i = c.loop-row.row-index in
    let within : i < length rows = c.loop-row-test.true in
    let next : take (i + 1) rows ≡ take i rows ++ row ∷ [] = take-next rows i row within c.row-item.is in
    let new = c.insert.new.self.lists in
    record {
      gains = subst (GainsRows old new) (sym next)
          (gains-more old tree new (take i rows) row c.loop-row.invariant.gains c.insert.ensures.rows
          (fresh-among old tree rows i row within c.row-item.is c.requires.new));
      turns = subst (λ (l : List (Row g.row.D)). InsertsInTurn old l new) (sym next)
          (more row c.insert.result c.loop-row.invariant.turns c.insert.ensures.insertion c.insert.ensures.takes);
      spare = omega (arith, c.insert.ensures.spare, c.loop-row.invariant.spare);
      capacity = c.insert.ensures.capacity ∙ c.loop-row.invariant.capacity;
    }
