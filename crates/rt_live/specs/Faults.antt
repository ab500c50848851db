-- When an edit is refused. Source: own.
use Rattle.std.specs.Prelude.{◌≡◌, ℕ, ◌≤◌, ℤ, List, length, None, IsSome}
use Rattle.rt_tree_node.specs.Whole.{most_rows_of_a_tree}
use Rattle.rt_tree_walk.specs.declared.searching.Row.{Row}
use Rattle.rt_live.specs.Rows.{box_at}
use Rattle.rt_live.specs.declared.fault.Fault.{Fault}
use Rattle.rt_live.specs.declared.fault.Fault.TheVariants.{Taken, Missing, WindowTaken, NoWindow, Full, Memory}

module _ {D : ℕ} where
  -- why no row is put in: its id is taken, there are as many rows as there may be, or no memory is left
  abbrev pub IsFaultOfInsertion : List (Row D) → ℤ → Fault → Type 0
  IsFaultOfInsertion rows id Taken = IsSome (box_at rows id)
  IsFaultOfInsertion rows id Full = most_rows_of_a_tree ≤ length rows
  IsFaultOfInsertion rows id Memory = Unit {0}
  IsFaultOfInsertion rows id Missing = ⊥
  IsFaultOfInsertion rows id WindowTaken = ⊥
  IsFaultOfInsertion rows id NoWindow = ⊥

  -- why a row isn't removed, and gets no other box: it is missing, or no memory is left
  abbrev pub IsFaultOfEdit : List (Row D) → ℤ → Fault → Type 0
  IsFaultOfEdit rows id Missing = box_at rows id ≡ None
  IsFaultOfEdit rows id Memory = Unit {0}
  IsFaultOfEdit rows id Taken = ⊥
  IsFaultOfEdit rows id Full = ⊥
  IsFaultOfEdit rows id WindowTaken = ⊥
  IsFaultOfEdit rows id NoWindow = ⊥

  -- why no window is put in
  abbrev pub IsFaultOfWatch : List (Row D) → ℤ → Fault → Type 0
  IsFaultOfWatch windows id WindowTaken = IsSome (box_at windows id)
  IsFaultOfWatch windows id Full = most_rows_of_a_tree ≤ length windows
  IsFaultOfWatch windows id Memory = Unit {0}
  IsFaultOfWatch windows id Taken = ⊥
  IsFaultOfWatch windows id Missing = ⊥
  IsFaultOfWatch windows id NoWindow = ⊥

  -- why a window isn't removed, gets no other box, or isn't asked for its rows
  abbrev pub IsFaultOfWindow : List (Row D) → ℤ → Fault → Type 0
  IsFaultOfWindow windows id NoWindow = box_at windows id ≡ None
  IsFaultOfWindow windows id Memory = Unit {0}
  IsFaultOfWindow windows id Taken = ⊥
  IsFaultOfWindow windows id Missing = ⊥
  IsFaultOfWindow windows id WindowTaken = ⊥
  IsFaultOfWindow windows id Full = ⊥
