-- Which axes are drawn (own).
use Rattle.std.specs.Prelude.{ℕ, Bool, ◌&&◌, true, Option, Some, None, nat_lt, ◌<◌, ◌≤◌, IfSome, if◌then◌else◌}
use Rattle.std.specs.Option.{option_map_or}
use Rattle.rt_check_draw.specs.declared.choice.Axes.{Axes}
use Rattle.rt_check_draw.specs.declared.choice.Choice.{Choice}

-- a tree with `count` axes has these
abbrev pub are_within : ℕ → Axes → Bool
are_within count axes = nat_lt axes.across count && option_map_or (λ up. nat_lt up count) axes.up true

-- the first axis to the right, and the second, if there is one, upwards
abbrev pub first_of : ℕ → Axes
first_of count = if nat_lt count 2 then record { across = 0; up = None } else record { across = 0; up = Some 1 }

abbrev pub those_within : ℕ → Axes → Option Axes
those_within count axes = if are_within count axes then Some axes else None

-- the axes that are drawn of a tree with `count` axes, if it has them
abbrev pub axes_of : Choice → ℕ → Option Axes
axes_of choice count = those_within count (option_map_or (λ axes. axes) choice.axes (first_of count))

-- a tree has at most three axes, and both of these are among them
abbrev pub IsWithin : ℕ → Axes → Type 0
IsWithin count axes = (count ≤ 3) × (axes.across < count) × IfSome axes.up (λ up. up < count)
