-- The memory of a cutter, which `new` takes and no other call changes (own).
use Rattle.std.specs.Prelude.{◌≡◌, ◌≤◌, [], IsTrue, vec_len, vec_capacity}
use Rattle.rt_sql_cut.specs.declared.cutter.Cutter.TheInside.{Inside}

-- it has room for the longest piece, and nothing of a longer one is held
abbrev pub HasRoom : Inside → Type 0
HasRoom c = (65536 ≤ vec_capacity c.held) × (vec_len c.held ≤ 65536) × (IsTrue c.too_long → c.held.items ≡ [])
