-- The trees of tables of one, two or three axes. Source: own.
use Rattle.std.specs.Prelude.{◌≡◌, ℕ, ◌==◌, if◌then◌else◌, List, IfOk}
use Rattle.rt_check_dump.specs.declared.dump.AnyShadow.{AnyShadow}
use Rattle.rt_check_dump.specs.declared.dump.AnyShadow.TheVariants.{One, Two, Three}
use Rattle.rt_tree.specs.Lists.{empty_lists}
use Rattle.rt_table_row.specs.Columns.{Columns}
use Rattle.rt_table_row.specs.Rows.{TableRow}
use Rattle.rt_table_row.specs.Edits.{Step, Steps}
use Rattle.rt_table_store.specs.Trees.{IsTreeOf, FollowsSteps}

-- the tree of no rows
abbrev pub new_tree : ℕ → Columns → AnyShadow
new_tree capacity columns =
    if columns.axes == 1 then One (empty_lists capacity)
    else (if columns.axes == 2 then Two (empty_lists capacity) else Three (empty_lists capacity))

-- the tree has the axes of the columns and the capacity, and the rows
abbrev pub StandsFor : ℕ → Columns → List TableRow → AnyShadow → Type 0
StandsFor capacity columns rows (One tree) = (columns.axes ≡ 1) × (tree.capacity ≡ capacity) × IsTreeOf rows tree
StandsFor capacity columns rows (Two tree) = (columns.axes ≡ 2) × (tree.capacity ≡ capacity) × IsTreeOf rows tree
StandsFor capacity columns rows (Three tree) = (columns.axes ≡ 3) × (tree.capacity ≡ capacity) × IsTreeOf rows tree

-- a tree of the rows before follows the steps
abbrev pub Follows : List TableRow → List Step → AnyShadow → AnyShadow → Type 0
Follows rows steps (One old) (One new) = FollowsSteps rows steps old new
Follows rows steps (Two old) (Two new) = FollowsSteps rows steps old new
Follows rows steps (Three old) (Three new) = FollowsSteps rows steps old new
Follows rows steps old new = ⊥

-- if the steps are taken, a tree follows them
abbrev pub FollowsIfTaken : List TableRow → Steps → AnyShadow → AnyShadow → Type 0
FollowsIfTaken rows taken old new = IfOk taken (λ steps. Follows rows steps old new)
