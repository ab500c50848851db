-- The text of a shadow (own): lines of words, parted by one space and ended by byte 10.
use Rattle.std.specs.Prelude.{ℕ, ℤ, List, [], ◌∷◌, ◌++◌, Option, None, Some, length, codes, decimal}
use Rattle.std.specs.Fmt.{signed_decimal}
use Rattle.std.specs.List.{flat_map, zip}
use Rattle.rt_check.specs.declared.node.NodeRow.{NodeRow}
use Rattle.rt_check.specs.declared.node.RawCell.{RawCell}
use Rattle.rt_check.specs.declared.node.RowEntry.{RowEntry}
use Rattle.rt_check_dump.specs.declared.dump.AnyShadow.{AnyShadow}
use Rattle.rt_check_dump.specs.declared.dump.AnyShadow.TheVariants.{One, Two, Three}
use Rattle.rt_check.specs.Conditions.{coordinate}
use Rattle.rt_check.specs.Shadow.{ShadowLists}

-- further words of a line, and its end
abbrev pub line_rest : List (List ℕ) → List ℕ
line_rest [] = 10 ∷ []
line_rest (w ∷ ws) = 32 ∷ w ++ line_rest ws

-- a line of its kind's word and further words
abbrev pub line : List ℕ → List (List ℕ) → List ℕ
line kind words = kind ++ line_rest words

-- a parent's number, or `-` for none
abbrev pub parent_word : Option ℤ → List ℕ
parent_word None = codes "-"
parent_word (Some n) = signed_decimal n

-- the words for a range
abbrev pub range_words : ℤ × ℤ → List (List ℕ)
range_words r = signed_decimal r.0 ∷ signed_decimal r.1 ∷ []

-- a range's text within a cell's line
abbrev pub range_text : ℤ × ℤ → List ℕ
range_text r = 32 ∷ signed_decimal r.0 ++ 32 ∷ signed_decimal r.1

abbrev pub row_line : RowEntry → List ℕ
row_line row = line (codes "row") (signed_decimal row.id ∷ signed_decimal row.leaf ∷ [])

abbrev pub end_line : List ℕ
end_line = line (codes "end") []

module _ {D : ℕ} where
  -- the range on an axis
  abbrev pub range_on : RawCell D → ℕ → ℤ × ℤ
  range_on cell axis = (coordinate cell.lo axis, coordinate cell.hi axis)

  abbrev pub cell_line : RawCell D → List ℕ
  cell_line cell = line (codes "cell") (signed_decimal cell.number ∷ flat_map range_words (zip cell.lo cell.hi))

  abbrev pub node_line : NodeRow D → List ℕ
  node_line node =
      line (codes "node") (signed_decimal node.number ∷ decimal node.level ∷ parent_word node.parent ∷ decimal (length node.cells) ∷ [])

  -- a node's line, and then those of its cells
  abbrev pub node_text : NodeRow D → List ℕ
  node_text node = node_line node ++ flat_map cell_line node.cells

  abbrev pub header_line : ShadowLists D → List ℕ
  header_line s =
      line (codes "rtree") (decimal D ∷ decimal s.capacity ∷ signed_decimal s.root ∷ decimal (length s.nodes) ∷ decimal (length s.rows) ∷ [])

  -- the text of a shadow
  abbrev pub shadow_text : ShadowLists D → List ℕ
  shadow_text s = header_line s ++ (flat_map node_text s.nodes ++ (flat_map row_line s.rows ++ end_line))

-- the text of a shadow of one, two or three axes
abbrev pub any_text : AnyShadow → List ℕ
any_text (One s) = shadow_text s
any_text (Two s) = shadow_text s
any_text (Three s) = shadow_text s
