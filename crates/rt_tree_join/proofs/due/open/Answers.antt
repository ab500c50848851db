use Rattle.std.proofs.Common.{rules, ◌≡◌, ℕ, ◌+◌, ◌-◌, ◌<◌, ◌≤◌, ◌++◌, List, drop, length, map, arith, ap, sym, subst, ◌∙◌, Vec, Global, vec_len, vec_capacity}
use Rattle.std.proofs.lemmas.Result.{IfOk-from_err}
use lib.Count.{count_trailing_zeros}
use Rattle.rt_tree_node.specs.declared.cell.Cell.{Cell}
use Rattle.rt_tree_walk.specs.Visits.{picked}
use Rattle.rt_tree_walk.proofs.Picked.{length-picked}
use Rattle.rt_tree_join.specs.declared.due.Due.{Due}
use Rattle.rt_tree_join.specs.declared.due.Subtree.{Subtree}
use Rattle.rt_tree_join.specs.Due.{subtree_of, due_of, child_due}
use Rattle.rt_tree_join.proofs.Bits.{cleared-less, cleared-below, place-within, room-next, room-rest, all-next, all-done}
use Rattle.rt_tree_join.proofs.due.open.Goals as goal

pub loop-rest-init : goal.loop-rest-init
loop-rest-init g c =
    let cells = drop c.args.from c.args.node.now.cells in
    let bits = c.touching_cells-bits in
    let due_from = child_due c.args.side (c.args.node.now.level - 1) c.args.other.now in
    let same : c.replace-list.result.items ≡ c.args.due.now.items = ap (λ (list : Vec (Due g.row.D) Global). list.items) c.replace-list.ensures.value ∙ c.in_ok-reserve.ensures.items in
    record {
      below = bits.ensures.within;
      all = ap (λ (ds : List (Due g.row.D)). ds ++ map due_from (picked cells bits.result)) same
          ∙ ap (λ (cs : List (Cell g.row.D)). c.args.due.now.items ++ map due_from cs) bits.ensures.cells;
      room = omega (arith, length-picked cells bits.result bits.ensures.within, ap vec_len c.replace-list.ensures.value, ap vec_capacity c.replace-list.ensures.value, c.in_ok-reserve.ensures.len, c.in_ok-reserve.ensures.ok);
    }

pub cell-cell-requires : goal.cell-cell-requires
cell-cell-requires g c =
    let within : c.args.from + count_trailing_zeros 64 c.loop-rest.rest < length c.args.node.now.cells =
    place-within c.args.node.now.cells c.args.from c.loop-rest.rest c.touching_cells-bits.ensures.few c.loop-rest-test.true c.loop-rest.invariant.below in
    search rules

pub push_reserved-requires : goal.push_reserved-requires
push_reserved-requires g c =
    room-next c.args.node.now.cells c.args.from c.loop-rest.rest c.touching_cells-bits.ensures.few c.loop-rest-test.true c.loop-rest.invariant.below c.cell-cell.result c.cell-cell.ensures
    (vec_len c.loop-rest.list) (vec_capacity c.loop-rest.list) c.loop-rest.invariant.room

pub loop-rest-smaller : goal.loop-rest-smaller
loop-rest-smaller g c = cleared-less c.loop-rest.rest c.loop-rest-test.true

pub loop-rest-preserved : goal.loop-rest-preserved
loop-rest-preserved g c =
    let cells = c.args.node.now.cells in
    let few = c.touching_cells-bits.ensures.few in
    let rest : ℕ = c.loop-rest.rest in
    let some = c.loop-rest-test.true in
    let before = c.loop-rest.invariant in
    let due_from = child_due c.args.side (c.args.node.now.level - 1) c.args.other.now in
    let cell : Cell g.row.D = c.cell-cell.result in
    let list = c.loop-rest.list in
    let more = c.push_reserved.new.self in
    let pushed : c.of.result ≡ due_from cell =
    c.of.ensures ∙ ap (λ (sub : Subtree g.row.D). due_of c.args.side sub c.args.other.now) (c.child.ensures ∙ ap (λ k. subtree_of (k - 1) cell) c.level-level.ensures) in
    record {
      below = cleared-below rest _ before.below;
      all = all-next cells c.args.from rest few some before.below cell c.cell-cell.ensures due_from list.items more.items _ c.of.result c.push_reserved.ensures.items pushed before.all;
      room = room-rest cells c.args.from rest few some before.below cell c.cell-cell.ensures (vec_len list) (vec_len more) (vec_capacity list) (vec_capacity more)
          before.room c.push_reserved.ensures.len c.push_reserved.ensures.capacity;
    }

pub returns : goal.returns
returns g c =
    all-done (child_due c.args.side (c.args.node.now.level - 1) c.args.other.now) (drop c.args.from c.args.node.now.cells) c.loop-rest.list.items _ c.loop-rest.rest c.loop-rest-test.false
    c.loop-rest.invariant.all

pub returns-in_err-reserve : goal.returns-in_err-reserve
returns-in_err-reserve g c = IfOk-from_err _ _ c.from_residual.ensures.0

pub overflow_sub-level : goal.overflow_sub-level
overflow_sub-level g c = subst (λ (n : ℕ). 1 ≤ n) (sym c.level-level.ensures) c.requires.high
