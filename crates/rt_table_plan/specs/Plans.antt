-- What a plan is to be: the steps that a statement takes, or the refusal of the whole. Source: own.
use Rattle.std.specs.Prelude.{◌≡◌, ◌⊎◌, ℕ, List, Option, Result, Ok, Err, MatchResult}
use Rattle.rt_sql_statement.specs.declared.refusal.Refusal.{Refusal}
use Rattle.rt_sql_statement.specs.declared.refusal.Refusal.TheVariants.{OutOfMemory}
use Rattle.rt_table_row.specs.Columns.{Columns}
use Rattle.rt_table_row.specs.Arrangements.{ColumnPlaces, IsArrangementOf, IsBadList}
use Rattle.rt_table_row.specs.Edits.{Step, Steps, listed_columns}

-- The plan has exactly the wanted steps; a refusal is the wanted one, or want of memory.
abbrev pub Plans : Steps → Result (List Step) Refusal → Type 0
Plans wanted (Ok steps) = wanted ≡ Ok steps
Plans wanted (Err refusal) = (wanted ≡ Err refusal) ⊎ (refusal ≡ OutOfMemory)

-- where the values of an INSERT stand for the columns that it lists, or why they don't
abbrev pub ArrangesListed : Columns → Option (List (List ℕ)) → Result ColumnPlaces Refusal → Type 0
ArrangesListed columns listed result =
    MatchResult result (IsArrangementOf columns (listed_columns columns listed)) (IsBadList columns (listed_columns columns listed))
