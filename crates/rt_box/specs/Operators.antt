-- Comparisons of a coordinate with a number (SQLite's documentation: The SQLite R*Tree Module).
use Rattle.std.specs.Prelude.{◌≡◌, ◌≢◌, ℤ, ◌<ℤ◌, ◌≤ℤ◌, ⊤}
use Rattle.rt_box.specs.declared.operator.Operator.{Operator}
use Rattle.rt_box.specs.declared.operator.Operator.TheVariants.{Eq, Ne, Lt, Le, Gt, Ge}

-- the comparison holds of a number, with the value on its right
abbrev pub Compares : Operator → ℤ → ℤ → Type 0
Compares Eq z value = z ≡ value
Compares Ne z value = z ≢ value
Compares Lt z value = z <ℤ value
Compares Le z value = z ≤ℤ value
Compares Gt z value = value <ℤ z
Compares Ge z value = value ≤ℤ z

-- a window that is narrowed by the comparison keeps the number: `<>` takes nothing, since an interval
-- can't have a gap (own)
abbrev pub Keeps : Operator → ℤ → ℤ → Type 0
Keeps Eq z value = Compares Eq z value
Keeps Ne z value = ⊤
Keeps Lt z value = Compares Lt z value
Keeps Le z value = Compares Le z value
Keeps Gt z value = Compares Gt z value
Keeps Ge z value = Compares Ge z value
