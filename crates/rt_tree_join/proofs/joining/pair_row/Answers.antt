use Rattle.std.proofs.Common.{rules, ◌≡◌, ℕ, ◌+◌, ◌<◌, ◌++◌, List, drop, length, map, arith, ap, ◌∙◌, Vec, Global, vec_len, vec_capacity, ℤ, FitsSigned, to_z, of_z, w64}
use Rattle.std.proofs.lemmas.Int.{to_z-of_z}
use Rattle.std.proofs.lemmas.Result.{IfOk-from_err}
use lib.Count.{count_trailing_zeros}
use Rattle.rt_tree_node.specs.declared.cell.Cell.{Cell}
use Rattle.rt_tree_walk.specs.Visits.{picked}
use Rattle.rt_tree_walk.proofs.Picked.{length-picked}
use Rattle.rt_tree_join.specs.declared.joining.Pair.{Pair}
use Rattle.rt_tree_join.specs.Due.{pair_cells, pair_of_ids}
use Rattle.rt_tree_join.proofs.Bits.{cleared-less, cleared-below, place-within, room-next, room-rest, all-next, all-done}
use Rattle.rt_tree_join.proofs.joining.pair_row.Goals as goal

pub loop-rest-init : goal.loop-rest-init
loop-rest-init g c =
    let cells = drop c.args.from c.args.leaf.now.cells in
    let bits = c.touching_cells-bits in
    let pair = pair_cells c.args.side c.args.row.now in
    let same : c.replace-list.result.items ≡ c.args.pairs.now.items = ap (λ (list : Vec Pair Global). list.items) c.replace-list.ensures.value ∙ c.in_ok-reserve.ensures.items in
    record {
      below = bits.ensures.within;
      all = ap (λ (ps : List Pair). ps ++ map pair (picked cells bits.result)) same
          ∙ ap (λ (cs : List (Cell g.row.D)). c.args.pairs.now.items ++ map pair cs) bits.ensures.cells;
      room = omega (arith, length-picked cells bits.result bits.ensures.within, ap vec_len c.replace-list.ensures.value, ap vec_capacity c.replace-list.ensures.value, c.in_ok-reserve.ensures.len, c.in_ok-reserve.ensures.ok);
    }

pub cell-other-requires : goal.cell-other-requires
cell-other-requires g c =
    let within : c.args.from + count_trailing_zeros 64 c.loop-rest.rest < length c.args.leaf.now.cells =
    place-within c.args.leaf.now.cells c.args.from c.loop-rest.rest c.touching_cells-bits.ensures.few c.loop-rest-test.true c.loop-rest.invariant.below in
    search rules

pub push_reserved-requires : goal.push_reserved-requires
push_reserved-requires g c =
    room-next c.args.leaf.now.cells c.args.from c.loop-rest.rest c.touching_cells-bits.ensures.few c.loop-rest-test.true c.loop-rest.invariant.below c.cell-other.result c.cell-other.ensures
    (vec_len c.loop-rest.list) (vec_capacity c.loop-rest.list) c.loop-rest.invariant.room

pub loop-rest-smaller : goal.loop-rest-smaller
loop-rest-smaller g c = cleared-less c.loop-rest.rest c.loop-rest-test.true

pub loop-rest-preserved : goal.loop-rest-preserved
loop-rest-preserved g c =
    let cells = c.args.leaf.now.cells in
    let few = c.touching_cells-bits.ensures.few in
    let rest : ℕ = c.loop-rest.rest in
    let some = c.loop-rest-test.true in
    let before = c.loop-rest.invariant in
    let cell : Cell g.row.D = c.cell-other.result in
    let list = c.loop-rest.list in
    let more = c.push_reserved.new.self in
    let row_fits : FitsSigned w64 c.args.row.now.number = search rules in
    let cell_fits : FitsSigned w64 cell.number = search rules in
    let made = pair_of_ids c.args.side in
    let pushed = c.of.ensures ∙ ap (λ (z : ℤ). made z (to_z w64 (of_z w64 cell.number))) (to_z-of_z w64 c.args.row.now.number row_fits)
    ∙ ap (λ (z : ℤ). made c.args.row.now.number z) (to_z-of_z w64 cell.number cell_fits) in
    record {
      below = cleared-below rest _ before.below;
      all = all-next cells c.args.from rest few some before.below cell c.cell-other.ensures (pair_cells c.args.side c.args.row.now) list.items more.items _ c.of.result
          c.push_reserved.ensures.items pushed before.all;
      room = room-rest cells c.args.from rest few some before.below cell c.cell-other.ensures (vec_len list) (vec_len more) (vec_capacity list) (vec_capacity more)
          before.room c.push_reserved.ensures.len c.push_reserved.ensures.capacity;
    }

pub returns : goal.returns
returns g c =
    all-done (pair_cells c.args.side c.args.row.now) (drop c.args.from c.args.leaf.now.cells) c.loop-rest.list.items _ c.loop-rest.rest c.loop-rest-test.false c.loop-rest.invariant.all

pub returns-in_err-reserve : goal.returns-in_err-reserve
returns-in_err-reserve g c = IfOk-from_err _ _ c.from_residual.ensures.0
