-- The numbers and the words of codes (own).
use Rattle.std.specs.Prelude.{◌≡◌, ◌≢◌, ℕ, ℤ, pos, List, codes, Option, Some, None}
use Rattle.rt_calls.specs.declared.code.Code.{Code}
use Rattle.rt_calls.specs.declared.code.Code.TheVariants.{Done, Closed, OtherKind, AlreadyOpen, BadCapacity, BadBox, IdTaken, IdMissing, BufferTooSmall, OutOfMemory, TreeFull, Ended, TooLong, BadDump, BadLength, BadAxes, BadRelation, Empty, BadBytes}

abbrev pub number_of : Code → ℤ
number_of Done = pos 0
number_of Closed = pos 1
number_of OtherKind = pos 2
number_of AlreadyOpen = pos 3
number_of BadCapacity = pos 4
number_of BadBox = pos 5
number_of IdTaken = pos 6
number_of IdMissing = pos 7
number_of BufferTooSmall = pos 8
number_of OutOfMemory = pos 9
number_of TreeFull = pos 10
number_of Ended = pos 11
number_of TooLong = pos 12
number_of BadDump = pos 13
number_of BadLength = pos 14
number_of BadAxes = pos 15
number_of BadRelation = pos 16
number_of Empty = pos 17
number_of BadBytes = pos 18

abbrev pub text_of : Code → List ℕ
text_of Done = codes "done"
text_of Closed = codes "nothing is held"
text_of OtherKind = codes "an object of another kind is held"
text_of AlreadyOpen = codes "an object is held already"
text_of BadCapacity = codes "the capacity is not from 5 to 51"
text_of BadBox = codes "on some axis min is above max"
text_of IdTaken = codes "the id is taken"
text_of IdMissing = codes "no row or window has that id"
text_of BufferTooSmall = codes "the result is longer than the buffer"
text_of OutOfMemory = codes "no memory is left"
text_of TreeFull = codes "the tree has as many rows as a tree may have"
text_of Ended = codes "the script has ended"
text_of TooLong = codes "the script is longer than 2^63 bytes"
text_of BadDump = codes "the text is not the dump of a sound tree"
text_of BadLength = codes "a box, a point or a list has a wrong length"
text_of BadAxes = codes "a tree has one, two or three axes"
text_of BadRelation = codes "a relation is touches, within or holds"
text_of Empty = codes "the tree has no rows"
text_of BadBytes = codes "the bytes are not those of a sound tree"

-- the number is that of the code, or of none
abbrev pub IsNumberOf : ℤ → Option Code → Type 0
IsNumberOf number (Some code) = number ≡ number_of code
IsNumberOf number None = (code : Code) → number ≢ number_of code

abbrev pub words_of : Option Code → List ℕ
words_of (Some code) = text_of code
words_of None = codes "unknown code"
