use Rattle.std.proofs.Common.{◌≡◌, ◌<◌, ◌^◌, ◌++◌, List, length, map}
use Rattle.rt_tree_walk.specs.Visits.{picked}
use Rattle.rt_tree_nearest.specs.declared.candidate.Candidate.{Candidate}
use Rattle.rt_tree_nearest.specs.Candidates.{candidate_of, KeepsFrom}
use Rattle.rt_tree_nearest.proofs.keep.keep_rows.Given as goal

-- the rows seen and those of the rest are all that may be near
abbrev pub invariant-loop-rest : goal.invariant-loop-rest
invariant-loop-rest g l = record {
  below : l.rest < 2 ^ length l.leaf.cells;
  seen : List (Candidate g.row.D);
  all : seen ++ map (candidate_of l.query.target) (picked l.leaf.cells l.rest) ≡ map (candidate_of l.query.target) (picked l.leaf.cells l.initial.rest);
  keeps : KeepsFrom l.query seen l.fn.kept l.kept;
}

abbrev pub decreases-loop-rest : goal.decreases-loop-rest
decreases-loop-rest g l = l.rest
