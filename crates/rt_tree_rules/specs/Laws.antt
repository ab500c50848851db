-- There is one tree that is made by what is done to a tree, and no two look the same to the checker (own).
use Rattle.std.specs.Prelude.{◌≡◌, ℕ, ℤ, Bool, List}
use Rattle.rt_box.specs.declared.interval.Interval.{Interval}
use Rattle.rt_box.specs.Capacity.{IsCapacity}
use Rattle.rt_tree_choice.specs.declared.split.Cut.{Cut}
use Rattle.rt_tree_subtree.specs.Subtree.{IsBestChild}
use Rattle.rt_tree_choice.specs.Split.{IsBestCut}
use Rattle.rt_tree_rules.specs.Placing.{best_child, best_cut, Work, Settles, IsInsertion}
use Rattle.rt_tree_rules.specs.Nested.{Row, Tree, Waiting}
use Rattle.rt_tree_rules.specs.Removing.{IsRemoval, IsReplacement}
use Rattle.rt_tree_rules.specs.Filled.{IsFilledTree}
use Rattle.rt_tree_rules.specs.Shadow.{shadow_of}

-- a cell that is inserted, with all that is inserted again because of it, leads to one tree by one amount of work
abbrev pub SettlingIsUnique : Type 0
SettlingIsUnique = (axes capacity : ℕ) (old one other : Tree) (new : Waiting) (first second : Work) →
    Settles axes capacity old new one first → Settles axes capacity old new other second → (one ≡ other) × (first ≡ second)

abbrev pub InsertionIsUnique : Type 0
InsertionIsUnique = (axes capacity : ℕ) (old one other : Tree) (row : Row) (first second : Work) →
    IsInsertion axes capacity old row one first → IsInsertion axes capacity old row other second →
    (one ≡ other) × (first ≡ second)

abbrev pub RemovalIsUnique : Type 0
RemovalIsUnique = (axes capacity : ℕ) (old one other : Tree) (id : ℤ) →
    IsRemoval axes capacity old id one → IsRemoval axes capacity old id other → one ≡ other

abbrev pub ReplacementIsUnique : Type 0
ReplacementIsUnique = (axes capacity : ℕ) (old one other : Tree) (row : Row) (first second : Work) →
    IsReplacement axes capacity old row one first → IsReplacement axes capacity old row other second →
    (one ≡ other) × (first ≡ second)

-- a row comes into each tree whose nodes are filled, and they are filled afterwards
abbrev pub InsertionExists : Type 0
InsertionExists = (axes capacity : ℕ) (old : Tree) (row : Row) → IsCapacity capacity → IsFilledTree capacity old →
    (new : Tree) × (work : Work) × IsInsertion axes capacity old row new work × IsFilledTree capacity new

-- likewise a row goes, if it was there
abbrev pub RemovalExists : Type 0
RemovalExists = (axes capacity : ℕ) (old : Tree) (id : ℤ) → IsCapacity capacity → IsFilledTree capacity old →
    (new : Tree) × IsRemoval axes capacity old id new × IsFilledTree capacity new

-- no two trees look the same to the checker
abbrev pub ShadowsAreFaithful : Type 0
ShadowsAreFaithful =
    (axes capacity : ℕ) (one other : Tree) → shadow_of {D = axes} capacity one ≡ shadow_of capacity other → one ≡ other

-- ---- the choices are those of which the code's contracts speak

abbrev pub BestChildIsTaken : Type 0
BestChildIsTaken = (above_leaves : Bool) (boxes : List (List Interval)) (new : List Interval) (best : ℕ) →
    IsBestChild above_leaves boxes new best → best_child above_leaves boxes new ≡ best

abbrev pub BestCutIsTaken : Type 0
BestCutIsTaken = (axes capacity : ℕ) (boxes : List (List Interval)) (cut : Cut) →
    IsBestCut axes boxes capacity cut → best_cut axes capacity boxes ≡ cut
