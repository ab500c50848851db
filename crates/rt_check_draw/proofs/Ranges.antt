-- Lemmas on ranges: they cover the cells, and boxes lie in the frame.
use Rattle.std.proofs.Common.{ℕ, ◌+◌, ◌-◌, ◌*◌, ◌/◌, ◌≤◌, ℤ, ◌≤ℤ◌, List, [], ◌∷◌, ◌++◌, arith}
use Rattle.std.specs.Prelude.{Option, None, Some}
use Rattle.std.specs.Int.{int_min, int_max}
use Rattle.std.specs.List.{flat_map, AllByRecursion}
use Rattle.std.proofs.lemmas.Int.{ints, clamps}
use Rattle.std.proofs.Math.Nat.{div-mul-le_self, mul-le-mul_left}
use Rattle.rt_check.specs.declared.node.NodeRow.{NodeRow}
use Rattle.rt_check.specs.declared.node.RawCell.{RawCell}
use Rattle.rt_check.specs.Conditions.{coordinate}
use Rattle.rt_check_draw.specs.declared.scale.Range.{Range}
use Rattle.rt_check_draw.specs.declared.scale.Frame.{Frame}
use Rattle.rt_check_draw.specs.Scale.{cover, nothing, ends_of, range_from, range_of, frame_of, side_from, side_of_bar, side_on, place_in, place_of}
use Rattle.rt_check_draw.specs.Laws.{LiesIn, RangeCoversCells, IsInFrame, BoxesStayInFrame}
use Rattle.rt_check_draw.proofs.Scales.{scale-bound}

in-order : (a b : ℤ) → int_min a b ≤ℤ int_max a b
in-order a b = omega (arith, ints, clamps)

-- what lies in a range lies in what covers it
wider : (part whole other : Range) → LiesIn part whole → LiesIn part (cover whole other)
wider part whole other h =
    (let low = h.0 in omega (arith, ints, clamps), h.1, let high = h.2 in omega (arith, ints, clamps))

covered : (whole part : Range) → part.lo ≤ℤ part.hi → LiesIn part (cover whole part)
covered whole part h = (omega (arith, ints, clamps), h, omega (arith, ints, clamps))

module _ {D : ℕ} (axis : ℕ) where
  still : (part start : Range) (cells : List (RawCell D)) → LiesIn part start → LiesIn part (range_from start cells axis)
  still part start [] h = h
  still part start (c ∷ cells) h = still part (cover start (ends_of c axis)) cells (wider part start (ends_of c axis) h)

  each : (start : Range) (cells : List (RawCell D)) → AllByRecursion (λ c. LiesIn (ends_of c axis) (range_from start cells axis)) cells
  each start [] = tt
  each start (c ∷ cells) = (
    still (ends_of c axis) (cover start (ends_of c axis)) cells (covered start (ends_of c axis) (in-order (coordinate c.lo axis) (coordinate c.hi axis))),
    each (cover start (ends_of c axis)) cells,
  )

all-front : {X : Type 0} (P : X → Type 0) (xs ys : List X) → AllByRecursion P (xs ++ ys) → AllByRecursion P xs
all-front P [] ys h = tt
all-front P (x ∷ xs) ys h = (h.0, all-front P xs ys h.1)

all-rest : {X : Type 0} (P : X → Type 0) (xs ys : List X) → AllByRecursion P (xs ++ ys) → AllByRecursion P ys
all-rest P [] ys h = h
all-rest P (x ∷ xs) ys h = all-rest P xs ys h.1

by-nodes : {D : ℕ} (P : RawCell D → Type 0) (nodes : List (NodeRow D)) → AllByRecursion P (flat_map (λ n. n.cells) nodes) → AllByRecursion (λ n. AllByRecursion P n.cells) nodes
by-nodes P [] h = tt
by-nodes P (n ∷ nodes) h =
    (all-front P n.cells (flat_map (λ n. n.cells) nodes) h, by-nodes P nodes (all-rest P n.cells (flat_map (λ n. n.cells) nodes) h))

pub covers-cells : RangeCoversCells
covers-cells D s axis = by-nodes (λ c. LiesIn (ends_of c axis) (range_of s.nodes axis)) s.nodes (each axis nothing (flat_map (λ n. n.cells) s.nodes))

-- a side lies in the plot
side-in : (edge start end : ℕ) → end ≤ 80000 → (edge ≤ (side_from edge start end).start) × ((side_from edge start end).start + (side_from edge start end).length ≤ edge + 80000)
side-in edge start end h = (omega arith, omega arith)

bar-in : (top level : ℕ) → (4000 ≤ (side_of_bar top level).start) × ((side_of_bar top level).start + (side_of_bar top level).length ≤ 84000)
bar-in top level =
    let height : ℕ = 80000 / (top + 1) in
    let above : height * (top - level) ≤ height * top = mul-le-mul_left height (omega arith) in
    let all : height * (top + 1) ≤ 80000 = div-mul-le_self 80000 (top + 1) in
    (omega arith, omega (arith, above, all))

-- from one place in the plot upwards to another, and a bar
up-in : {D : ℕ} (f : Frame) (level : ℕ) (c : RawCell D) (axis : Option ℕ)
    → (4000 ≤ (side_on f level c axis).start) × ((side_on f level c axis).start + (side_on f level c axis).length ≤ 84000)
up-in f level c None = bar-in f.top level
up-in f level c (Some axis) = side-in 4000 (80000 - place_in f.up (ends_of c axis).hi) (80000 - place_in f.up (ends_of c axis).lo) (omega arith)

module _ {D : ℕ} (f : Frame) where
  box-in : (level : ℕ) (c : RawCell D) → IsInFrame (place_of f level c)
  box-in level c =
      let across = side-in 10000 (place_in f.across (ends_of c f.axes.across).lo) (place_in f.across (ends_of c f.axes.across).hi) (scale-bound f.across (ends_of c f.axes.across).hi) in
      let up = up-in f level c f.axes.up in
      (across.0, across.1, up.0, up.1)

  boxes-in : (level : ℕ) (cells : List (RawCell D)) → AllByRecursion (λ c. IsInFrame (place_of f level c)) cells
  boxes-in level [] = tt
  boxes-in level (c ∷ cells) = (box-in level c, boxes-in level cells)

  nodes-in : (nodes : List (NodeRow D)) → AllByRecursion (λ n. AllByRecursion (λ c. IsInFrame (place_of f n.level c)) n.cells) nodes
  nodes-in [] = tt
  nodes-in (n ∷ nodes) = (boxes-in n.level n.cells, nodes-in nodes)

pub in-frame : BoxesStayInFrame
in-frame D s axes = nodes-in (frame_of s axes) s.nodes
