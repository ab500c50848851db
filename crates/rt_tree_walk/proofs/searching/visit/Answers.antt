use Rattle.std.proofs.Common.{rules, arith, ◌+◌, ◌<◌, ◌≤◌, ◌++◌, length, map, refl, inl, vec_capacity, vec_len}
use Rattle.std.proofs.lemmas.List.{length-append, length-map}
use Rattle.std.proofs.lemmas.Result.{on_ok_weaker, on_err_weaker}
use Rattle.rt_tree_walk.specs.Search.{row_of}
use Rattle.rt_tree_walk.specs.Visits.{keys_of, LacksRows}
use Rattle.rt_tree_walk.proofs.Inside.{visits-all, visits-leaf}
use Rattle.rt_tree_walk.proofs.searching.visit.Goals as goal

pub node_at-node-requires : goal.node_at-node-requires
node_at-node-requires g c = let few : g.row.D ≤ 3 = c.requires.few in search rules

pub returns-then-next-clause-ok : goal.returns-then-next-clause-ok
returns-then-next-clause-ok g c =
    on_ok_weaker c.take_all.result
    (visits-all c.args.tree.now.nodes c.args.query.now.window c.args.next.key c.node_at-node.result.now c.node_at-node.ensures
    (omega (arith, c.if-level-gt0.false, c.level.ensures)) (c.requires.mark c.if-next.true).cells
    c.args.rows.now.items c.take_all.new.rows.items (keys_of c.args.reached.now.items))
    c.take_all.ensures.ok

pub returns-then-next-clause-full : goal.returns-then-next-clause-full
returns-then-next-clause-full g c =
    let rows = c.args.rows.now in
    let cells = c.node_at-node.result.now.cells in
    let keys = keys_of c.args.reached.now.items in
    on_err_weaker c.take_all.result
    (λ (full : vec_capacity rows < vec_len rows + length cells). record {
      rows1 = rows.items ++ map row_of cells;
      keys1 = keys;
      went = visits-all c.args.tree.now.nodes c.args.query.now.window c.args.next.key c.node_at-node.result.now c.node_at-node.ensures
          (omega (arith, c.if-level-gt0.false, c.level.ensures)) (c.requires.mark c.if-next.true).cells
          rows.items (rows.items ++ map row_of cells) keys refl;
      full = inl (omega (arith, full, length-append rows.items (map row_of cells), length-map cells row_of));
    })
    c.take_all.ensures.full

pub returns-clause-full : goal.returns-clause-full
returns-clause-full g c =
    let rows = c.args.rows.now in
    let keys = keys_of c.args.reached.now.items in
    on_err_weaker c.take_rows.result
    (λ (lacks : LacksRows c.args.query.now.window c.node_at-node.result.now.cells rows). record {
      rows1 = lacks.rows1;
      keys1 = keys;
      went = visits-leaf c.args.tree.now.nodes c.args.query.now.window c.args.next.key c.node_at-node.result.now c.node_at-node.ensures
          (omega (arith, c.if-level-gt0.false, c.level.ensures)) rows.items lacks.rows1 keys lacks.takes;
      full = inl lacks.full;
    })
    c.take_rows.ensures.full
