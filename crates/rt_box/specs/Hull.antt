-- The box around some boxes.
use Rattle.std.specs.Prelude.{List, [], ◌∷◌, fold}
use Rattle.rt_box.specs.declared.interval.Interval.{Interval}
use Rattle.rt_box.specs.Rect.{union_box}

-- the least box that holds each box of a list that isn't empty: the union of them all
abbrev pub hull : List (List Interval) → List Interval
hull [] = []
hull (b ∷ bs) = fold union_box b bs
