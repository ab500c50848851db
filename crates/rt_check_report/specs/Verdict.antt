-- What is said of the problems of a tree (own).
use Rattle.std.specs.Prelude.{ℕ, List, [], ◌∷◌, codes, decimal}
use Rattle.std.specs.Fmt.{signed_decimal}
use Rattle.std.specs.List.{flat_map}
use Rattle.rt_check.specs.declared.problem.Problem.{Problem}
use Rattle.rt_check.specs.Conditions.{code_of}

-- as `C6 node 1 at 2`
abbrev pub problem_line : Problem → List ℕ
problem_line p =
    flat_map (λ word. word) (codes "C" ∷ decimal (code_of p.condition) ∷ codes " node " ∷ signed_decimal p.node ∷ codes " at " ∷ decimal p.position ∷ codes "\n" ∷ [])

-- a line for each problem, or `ok`
abbrev pub verdict_lines : List Problem → List ℕ
verdict_lines [] = codes "ok\n"
verdict_lines (p ∷ ps) = flat_map problem_line (p ∷ ps)
