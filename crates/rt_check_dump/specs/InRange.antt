-- Shadows whose text is read again (own): what their types say of them, and that they count from 1.
use Rattle.std.specs.Prelude.{◌≡◌, ℕ, ◌<◌, ◌≤◌, ◌^◌, ℤ, pos, true, length, int_le}
use Rattle.std.specs.Int.Signed.{mag}
use Rattle.std.specs.List.{All, IsDistinct}
use Rattle.std.specs.Option.{IfSome}
use Rattle.std.specs.Ordering.{int_eq}
use Rattle.rt_box.specs.Capacity.{IsCapacity}
use Rattle.rt_check.specs.declared.node.NodeRow.{NodeRow}
use Rattle.rt_check.specs.declared.node.RawCell.{RawCell}
use Rattle.rt_check.specs.declared.node.RowEntry.{RowEntry}
use Rattle.rt_check_dump.specs.declared.dump.AnyShadow.{AnyShadow}
use Rattle.rt_check_dump.specs.declared.dump.AnyShadow.TheVariants.{One, Two, Three}
use Rattle.rt_check.specs.Shadow.{ShadowLists, numbers_of, ids_of}

-- an i64
abbrev pub IsLong : ℤ → Type 0
IsLong z = mag z < 2 ^ 63

-- an i32
abbrev pub IsInt : ℤ → Type 0
IsInt z = mag z < 2 ^ 31

-- a number from 1 on
abbrev pub IsPositive : ℤ → Type 0
IsPositive z = int_le (pos 1) z ≡ true

-- the cell has D ranges, and its numbers fit their types
pub record IsCellInRange {D : ℕ} (cell : RawCell D) : Type 0 where
  pub number : IsLong cell.number
  pub axes_lo : length cell.lo ≡ D
  pub axes_hi : length cell.hi ≡ D
  pub lo : All IsInt cell.lo
  pub hi : All IsInt cell.hi

pub record IsRowInRange (row : RowEntry) : Type 0 where
  pub id : IsLong row.id
  pub leaf : IsLong row.leaf

module _ {D : ℕ} where
  pub record IsNodeInRange (node : NodeRow D) : Type 0 where
    pub number : IsLong node.number
    pub level : node.level < 256
    pub parent : IfSome node.parent IsLong
    pub few : length node.cells < 2 ^ 63
    pub cells : All IsCellInRange node.cells

  -- one to three axes, a capacity, distinct numbers and ids, and numbers that fit their types
  pub record IsInRange (s : ShadowLists D) : Type 0 where
    pub some : 1 ≤ D
    pub axes : D ≤ 3
    pub capacity : IsCapacity s.capacity
    pub root : IsLong s.root
    pub few_nodes : length s.nodes < 2 ^ 63
    pub few_rows : length s.rows < 2 ^ 63
    pub nodes : All IsNodeInRange s.nodes
    pub rows : All IsRowInRange s.rows
    pub numbers : IsDistinct int_eq (numbers_of s.nodes)
    pub ids : IsDistinct int_eq (ids_of s.rows)

  -- the node's number and its parent's are from 1 on
  pub record IsNodeNumbered (node : NodeRow D) : Type 0 where
    pub number : IsPositive node.number
    pub parent : IfSome node.parent IsPositive

  -- the root's number, the nodes' and the leaves' are from 1 on
  pub record IsNumbered (s : ShadowLists D) : Type 0 where
    pub root : IsPositive s.root
    pub nodes : All IsNodeNumbered s.nodes
    pub leaves : All (λ r. IsPositive r.leaf) s.rows

-- the same for one, two or three axes
abbrev pub IsAnyInRange : AnyShadow → Type 0
IsAnyInRange (One s) = IsInRange s
IsAnyInRange (Two s) = IsInRange s
IsAnyInRange (Three s) = IsInRange s

abbrev pub IsAnyNumbered : AnyShadow → Type 0
IsAnyNumbered (One s) = IsNumbered s
IsAnyNumbered (Two s) = IsNumbered s
IsAnyNumbered (Three s) = IsNumbered s
