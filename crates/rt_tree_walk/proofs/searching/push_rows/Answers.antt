use Rattle.std.proofs.Common.{rules, ◌≡◌, ℕ, ◌-◌, ◌<◌, ◌++◌, [], ◌∷◌, List, length, map, arith, ap, sym, ◌∙◌, Vec, Global, vec_len, vec_capacity, append_assoc, append-nil}
use Rattle.std.specs.Int.Bits.{bit_and}
use lib.Bits.{and_le_r}
use lib.Count.{count_trailing_zeros}
use Rattle.rt_tree_walk.specs.declared.searching.Row.{Row}
use Rattle.rt_tree_walk.specs.Search.{row_of}
use Rattle.rt_tree_walk.specs.Visits.{picked}
use Rattle.rt_tree_walk.proofs.Fitting.{on-err}
use Rattle.rt_tree_walk.proofs.Picked.{picked-first, picked-none, length-picked}
use Rattle.rt_tree_walk.proofs.searching.push_rows.Goals as goal

pub loop-rest-init : goal.loop-rest-init
loop-rest-init g c =
    let cells = c.args.leaf.now.cells in
    let same : c.replace-list.result.items ≡ c.args.rows.now.items = ap (λ (list : Vec (Row g.row.D) Global). list.items) c.replace-list.ensures.value ∙ c.in_ok-reserve.ensures.items in
    record {
      below = c.requires;
      rows = ap (λ (rs : List (Row g.row.D)). rs ++ map row_of (picked cells c.args.bits)) same;
      room = omega (arith, length-picked cells c.args.bits c.requires, ap vec_len c.replace-list.ensures.value, ap vec_capacity c.replace-list.ensures.value, c.in_ok-reserve.ensures.len, c.in_ok-reserve.ensures.ok);
      capacity = omega (arith, ap vec_capacity c.replace-list.ensures.value, c.in_ok-reserve.ensures.capacity);
    }

pub cell-requires : goal.cell-requires
cell-requires g c =
    let some : 0 < c.loop-rest.rest = omega (arith, c.loop-rest-test.true) in
    let within : count_trailing_zeros 64 c.loop-rest.rest < length c.args.leaf.now.cells =
    (picked-first 64 c.args.leaf.now.cells c.loop-rest.rest (omega (arith, c.facts.ensures)) some c.loop-rest.invariant.below).within in
    search rules

pub push_reserved-requires : goal.push_reserved-requires
push_reserved-requires g c =
    let cells = c.args.leaf.now.cells in
    let first = picked-first 64 cells c.loop-rest.rest (omega (arith, c.facts.ensures)) (omega (arith, c.loop-rest-test.true)) c.loop-rest.invariant.below in
    omega (arith, ap length (first.is c.cell.result), c.loop-rest.invariant.room)

pub loop-rest-preserved : goal.loop-rest-preserved
loop-rest-preserved g c =
    let cells = c.args.leaf.now.cells in
    let rest : ℕ = c.loop-rest.rest in
    let next : ℕ = bit_and rest (rest - 1) in
    let before = c.loop-rest.invariant in
    let first = picked-first 64 cells rest (omega (arith, c.facts.ensures)) (omega (arith, c.loop-rest-test.true)) before.below in
    let is : picked cells rest ≡ c.cell.result ∷ picked cells next = first.is c.cell.result ∙ ap (λ x. x ∷ picked cells next) (sym c.cell.ensures) in
    record {
      below = omega (arith, and_le_r rest (rest - 1), before.below);
      rows = ap (λ (rs : List (Row g.row.D)). rs ++ map row_of (picked cells next)) (c.push_reserved.ensures.items ∙ ap (λ (r : Row g.row.D). c.loop-rest.list.items ++ r ∷ []) c.row_of.ensures)
          ∙ append_assoc c.loop-rest.list.items (row_of c.cell.result ∷ []) (map row_of (picked cells next))
          ∙ ap (λ (cs : List _). c.loop-rest.list.items ++ map row_of cs) (sym is) ∙ before.rows;
      room = omega (arith, c.push_reserved.ensures.len, c.push_reserved.ensures.capacity, ap length is, before.room);
      capacity = omega (arith, c.push_reserved.ensures.capacity, before.capacity);
    }

pub returns-clause-ok : goal.returns-clause-ok
returns-clause-ok g c =
    let cells = c.args.leaf.now.cells in
    let none : c.loop-rest.rest ≡ 0 = omega (arith, c.loop-rest-test.false) in
    sym (ap (λ (rs : List (Row g.row.D)). c.loop-rest.list.items ++ rs) (ap (λ n. map row_of (picked cells n)) none ∙ ap (map row_of) (picked-none cells)) ∙ append-nil c.loop-rest.list.items)
    ∙ c.loop-rest.invariant.rows

pub returns-in_err-reserve-clause-full : goal.returns-in_err-reserve-clause-full
returns-in_err-reserve-clause-full g c =
    on-err c.from_residual.result c.from_residual.ensures.0 (omega (arith, length-picked c.args.leaf.now.cells c.args.bits c.requires, c.in_err-reserve.ensures.full))
