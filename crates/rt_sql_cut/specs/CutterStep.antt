-- What one byte does to a cutter, or several that leave its place as it is, for the contracts of its private steps
-- alone. That these steps cut a text as Pieces says is proved of them.
use Rattle.std.specs.Prelude.{◌==◌, ◌||◌, not, ℕ, Bool, false, List, [], ◌∷◌, ◌++◌, length, Option, Some, None, nat_lt, if◌then◌else◌}
use Rattle.std.specs.List.{prefix_len}
use Rattle.rt_sql_cut.specs.Pieces.{is_gap_byte}
use Rattle.rt_sql_cut.specs.Text.{is_quote}
use Rattle.rt_sql_cut.specs.Cutter.{Front}
use Rattle.rt_sql_cut.specs.declared.cutter.Part.{Part}
use Rattle.rt_sql_cut.specs.declared.cutter.Part.TheVariants.{Gap, Statement}
use Rattle.rt_sql_cut.specs.declared.cutter.Spot.TheVariants.{Between, AfterDash, AfterSlash, LineComment, BlockComment, AfterStar}
use Rattle.rt_sql_cut.specs.declared.cutter.Place.{Place}
use Rattle.rt_sql_cut.specs.declared.cutter.Place.TheVariants.{In, Quoted, DotLine, End}

-- the place after a byte that goes on with a statement
abbrev pub statement_after : ℕ → Place
statement_after b =
    if b == 59 then End
    else (if b == 45 then In Statement AfterDash
    else (if b == 47 then In Statement AfterSlash
    else (if is_quote b then Quoted b
    else In Statement Between)))

-- the place after a byte between pieces
abbrev pub gap_after : ℕ → Place
gap_after b =
    if is_gap_byte b then In Gap Between
    else (if b == 46 then DotLine
    else (if b == 45 then In Gap AfterDash
    else (if b == 47 then In Gap AfterSlash
    else statement_after b)))

-- the place after one more byte
abbrev pub place_after : Place → ℕ → Place
place_after (In Gap Between) b = gap_after b
place_after (In Statement Between) b = statement_after b
place_after (In part AfterDash) b = if b == 45 then In part LineComment else statement_after b
place_after (In part AfterSlash) b = if b == 42 then In part BlockComment else statement_after b
place_after (In part LineComment) b = In part (if b == 10 then Between else LineComment)
place_after (In part BlockComment) b = In part (if b == 42 then AfterStar else BlockComment)
place_after (In part AfterStar) b =
    In part (if b == 47 then Between else (if b == 42 then AfterStar else BlockComment))
place_after (Quoted quote) b = if b == quote then In Statement Between else Quoted quote
place_after DotLine b = if b == 10 then End else DotLine
place_after End b = End

-- one more byte is held, if there is room for it
abbrev pub with_byte : Option (List ℕ) → ℕ → Option (List ℕ)
with_byte None b = None
with_byte (Some bytes) b = if nat_lt (length bytes) 65536 then Some (bytes ++ b ∷ []) else None

-- what is held in a gap or a statement, after one more byte
abbrev pub holding_in : Part → Option (List ℕ) → ℕ → Option (List ℕ)
holding_in Gap held b = Some []
holding_in Statement held b = with_byte held b

-- what is held, if the byte led to this place: a byte in a gap only while it may begin a statement,
-- and not the line feed that ends a dot line
abbrev pub holding_after : Place → Option (List ℕ) → ℕ → Option (List ℕ)
holding_after (In part AfterDash) held b = with_byte held b
holding_after (In part AfterSlash) held b = with_byte held b
holding_after (In part Between) held b = holding_in part held b
holding_after (In part LineComment) held b = holding_in part held b
holding_after (In part BlockComment) held b = holding_in part held b
holding_after (In part AfterStar) held b = holding_in part held b
holding_after (Quoted quote) held b = with_byte held b
holding_after DotLine held b = with_byte held b
holding_after End held b = if b == 10 then held else with_byte held b

-- the front after one more byte
abbrev pub front_after : Front → ℕ → Front
front_after f b =
    record f { place = place_after f.place b; held = holding_after (place_after f.place b) f.held b }

-- the byte ends a statement, opens a quote, or may begin a comment
abbrev pub is_mark : ℕ → Bool
is_mark b = b == 59 || b == 45 || b == 47 || is_quote b

-- the length of the prefix without them
abbrev pub unmarked_len : List ℕ → ℕ
unmarked_len bytes = prefix_len (λ b. not (is_mark b)) bytes

-- the byte is of the piece, and leaves the place as it is
abbrev pub stays : Place → ℕ → Bool
stays (In Gap spot) b = false
stays (In Statement Between) b = not (is_mark b)
stays (In Statement AfterDash) b = false
stays (In Statement AfterSlash) b = false
stays (In Statement LineComment) b = false
stays (In Statement BlockComment) b = false
stays (In Statement AfterStar) b = false
stays (Quoted quote) b = not (b == quote)
stays DotLine b = not (b == 10)
stays End b = false

-- the length of the prefix of such bytes
abbrev pub run_len : Place → List ℕ → ℕ
run_len place bytes = prefix_len (stays place) bytes

-- more bytes are held, if there is room for them
abbrev pub with_bytes : Option (List ℕ) → List ℕ → Option (List ℕ)
with_bytes held [] = held
with_bytes held (b ∷ bytes) = with_bytes (with_byte held b) bytes
