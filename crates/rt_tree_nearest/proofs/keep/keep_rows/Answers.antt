use Rattle.std.proofs.Common.{rules, ◌≡◌, ℕ, ◌-◌, ◌<◌, ◌++◌, [], ◌∷◌, List, length, map, append-nil, append_assoc, arith, refl, ap, sym, ◌∙◌, subst}
use Rattle.std.specs.Int.Bits.{bit_and}
use lib.Bits.{and_le_r}
use lib.Count.{count_trailing_zeros}
use Rattle.rt_tree_node.specs.declared.cell.Cell.{Cell}
use Rattle.rt_tree_walk.specs.Visits.{picked}
use Rattle.rt_tree_walk.proofs.Picked.{picked-first, picked-none}
use Rattle.rt_tree_nearest.specs.declared.candidate.Candidate.{Candidate}
use Rattle.rt_tree_nearest.specs.Candidates.{candidate_of, items_in, IsKeptIn, Keeps}
use Rattle.std.proofs.lemmas.Result.{IfOk-from_err}
use Rattle.rt_tree_nearest.proofs.LowestBit.{without-lower}
use Rattle.rt_tree_nearest.proofs.Keeping.{keeps-none, keeps-then}
use Rattle.rt_tree_nearest.proofs.Picks.{keeps-picked}
use Rattle.rt_tree_nearest.proofs.keep.keep_rows.Goals as goal

pub cell-cell-requires : goal.cell-cell-requires
cell-cell-requires g c =
    let some : 0 < c.loop-rest.rest = omega (arith, c.loop-rest-test.true) in
    let within : count_trailing_zeros 64 c.loop-rest.rest < length c.args.leaf.now.cells =
    (picked-first 64 c.args.leaf.now.cells c.loop-rest.rest c.near_cells-rest.ensures.few some c.loop-rest.invariant.below).within in
    search rules

pub loop-rest-preserved : goal.loop-rest-preserved
loop-rest-preserved g c =
    let cells = c.args.leaf.now.cells in
    let q = c.args.query.now in
    let rest : ℕ = c.loop-rest.rest in
    let next : ℕ = bit_and rest (rest - 1) in
    let before = c.loop-rest.invariant in
    let x = c.cell-cell.result in
    let f : Cell g.row.D → Candidate g.row.D = candidate_of q.target in
    let first = picked-first 64 cells rest c.near_cells-rest.ensures.few (omega (arith, c.loop-rest-test.true)) before.below in
    let is : picked cells rest ≡ x ∷ picked cells next = first.is x ∙ ap (λ y. y ∷ picked cells next) (sym c.cell-cell.ensures) in
    record {
      below = omega (arith, and_le_r rest (rest - 1), before.below);
      seen = before.seen ++ f x ∷ [];
      all = append_assoc before.seen (f x ∷ []) (map f (picked cells next)) ∙ ap (λ (cs : List (Cell g.row.D)). before.seen ++ map f cs) (sym is) ∙ before.all;
      keeps = record {
        keeps = subst (λ (y : Candidate g.row.D). Keeps q (before.seen ++ y ∷ []) (items_in c.args.kept.now) (items_in c.keep.new.kept)) c.new.ensures
            (keeps-then q before.seen (c.new.result ∷ []) (items_in c.args.kept.now) (items_in c.loop-rest.kept) (items_in c.keep.new.kept) before.keeps.keeps c.in_ok-keep.ensures.keeps);
        shape = c.in_ok-keep.ensures.shape;
      };
    }

pub returns : goal.returns
returns g c =
    let cells = c.args.leaf.now.cells in
    let q = c.args.query.now in
    let f : Cell g.row.D → Candidate g.row.D = candidate_of q.target in
    let so = c.loop-rest.invariant in
    let none : c.loop-rest.rest ≡ 0 = omega (arith, c.loop-rest-test.false) in
    let seen : so.seen ≡ map f (picked cells c.near_cells-rest.result) =
    sym (ap (λ (n : ℕ). so.seen ++ map f (picked cells n)) none ∙ ap (λ (cs : List (Cell g.row.D)). so.seen ++ map f cs) (picked-none cells) ∙ append-nil so.seen) ∙ so.all in
    record {
      keeps = keeps-picked q c.requires.aimed cells c.near_cells-rest.result c.near_cells-rest.ensures (items_in c.args.kept.now) (items_in c.loop-rest.kept)
          (subst (λ (cs : List (Candidate g.row.D)). Keeps q cs (items_in c.args.kept.now) (items_in c.loop-rest.kept)) seen so.keeps.keeps);
      shape = so.keeps.shape;
    }

pub loop-rest-init : goal.loop-rest-init
loop-rest-init g c =
    let q = c.args.query.now in
    record {
      below = c.near_cells-rest.ensures.below;
      seen = [];
      all = refl;
      keeps = record { keeps = keeps-none q (items_in c.args.kept.now) c.requires.kept.rows; shape = c.requires.kept.shape };
    }

pub loop-rest-smaller : goal.loop-rest-smaller
loop-rest-smaller g c = without-lower c.loop-rest.rest c.loop-rest-test.true

pub keep-requires : goal.keep-requires
keep-requires g c =
    let so = c.loop-rest.invariant.keeps in
    let kept : IsKeptIn c.args.query.now c.loop-rest.kept = record { rows = so.keeps.kept; shape = so.shape } in
    search rules

pub returns-in_err-keep : goal.returns-in_err-keep
returns-in_err-keep g c = IfOk-from_err _ _ c.from_residual.ensures.0
