use Rattle.std.proofs.Common.{rules, ◌≡◌, ℕ, ◌-◌, ◌<◌, ◌++◌, ◌∷◌, List, length, arith, refl, ap, sym, ◌∙◌, append_assoc, append-nil}
use Rattle.std.specs.Int.Bits.{bit_and}
use Rattle.std.specs.List.{flat_map}
use lib.Bits.{and_le_r}
use lib.Count.{count_trailing_zeros}
use Rattle.rt_tree_node.specs.declared.cell.Cell.{Cell}
use Rattle.rt_tree_walk.specs.Visits.{picked}
use Rattle.rt_tree_walk.proofs.Picked.{picked-first, picked-none}
use Rattle.rt_tree_join.specs.declared.joining.Pair.{Pair}
use Rattle.rt_tree_join.specs.Due.{pairs_of_row}
use Rattle.rt_tree_join.proofs.joining.pair_rows.Goals as goal

pub loop-rest-init : goal.loop-rest-init
loop-rest-init g c = record { below = c.requires; all = refl }

pub cell-row-requires : goal.cell-row-requires
cell-row-requires g c =
    let some : 0 < c.loop-rest.rest = omega (arith, c.loop-rest-test.true) in
    let within : count_trailing_zeros 64 c.loop-rest.rest < length c.args.leaf.now.cells =
    (picked-first 64 c.args.leaf.now.cells c.loop-rest.rest (omega (arith, c.facts.ensures)) some c.loop-rest.invariant.below).within in
    search rules

pub loop-rest-preserved : goal.loop-rest-preserved
loop-rest-preserved g c =
    let cells = c.args.leaf.now.cells in
    let rest : ℕ = c.loop-rest.rest in
    let next : ℕ = bit_and rest (rest - 1) in
    let before = c.loop-rest.invariant in
    let old = c.loop-rest.pairs.items in
    let pairs_from = pairs_of_row c.args.side c.args.other.now.cells in
    let first = picked-first 64 cells rest (omega (arith, c.facts.ensures)) (omega (arith, c.loop-rest-test.true)) before.below in
    let is : picked cells rest ≡ c.cell-row.result ∷ picked cells next = first.is c.cell-row.result ∙ ap (λ x. x ∷ picked cells next) (sym c.cell-row.ensures) in
    record {
      below = omega (arith, and_le_r rest (rest - 1), before.below);
      all = ap (λ (ps : List Pair). ps ++ flat_map pairs_from (picked cells next)) c.in_ok-pair_row.ensures
          ∙ append_assoc old (pairs_from c.cell-row.result) (flat_map pairs_from (picked cells next))
          ∙ ap (λ (cs : List (Cell g.row.D)). old ++ flat_map pairs_from cs) (sym is) ∙ before.all;
    }

pub returns : goal.returns
returns g c =
    let cells = c.args.leaf.now.cells in
    let old = c.loop-rest.pairs.items in
    let pairs_from = pairs_of_row c.args.side c.args.other.now.cells in
    let none : c.loop-rest.rest ≡ 0 = omega (arith, c.loop-rest-test.false) in
    sym (ap (λ (ps : List Pair). old ++ ps) (ap (λ n. flat_map pairs_from (picked cells n)) none ∙ ap (flat_map pairs_from) (picked-none cells)) ∙ append-nil old)
    ∙ c.loop-rest.invariant.all
