-- The two groups of a cut, as positions and as cells.
use Rattle.std.proofs.Common.{◌≡◌, ◌≢◌, ℕ, zero, suc, ◌<◌, ◌≤◌, Bool, List, None, is_some, IsSome, length, get_or, take, drop, arith, refl, ap, ◌∙◌, sym}
use Rattle.std.specs.List.{All}
use Rattle.std.proofs.lemmas.List.Elements.{All-map, All-take, All-drop, All-weaker}
use Rattle.std.proofs.lemmas.Bool.{true≢false}
use Rattle.slab.specs.Slab.{Slab, get}
use Rattle.rt_tree_node.specs.declared.arena.Arena.{Arena}
use Rattle.rt_tree_node.specs.Node.{NodeCells}
use Rattle.rt_tree_place.specs.Steps.{TakesOver}
use Rattle.rt_tree_place.proofs.Adopted.{kept-present}
use Rattle.rt_box.specs.declared.interval.Interval.{Interval}
use Rattle.rt_tree_choice.specs.Split.{along, sorting}
use Rattle.rt_tree_choice.proofs.Sorted.{length-sorting, sorting-within}
use Rattle.rt_tree_node.specs.declared.cell.Cell.{Cell}
use Rattle.rt_tree_node.specs.Places.{cells_at, picked, no_cell}

pub sorting-long : (boxes : List (List Interval)) (axis : ℕ) (upper : Bool) → length (sorting boxes axis upper) ≡ length boxes
sorting-long boxes axis upper = length-sorting (along boxes axis upper) boxes

pub sorting-below : (boxes : List (List Interval)) (axis : ℕ) (upper : Bool) → All (λ p. p < length boxes) (sorting boxes axis upper)
sorting-below boxes axis upper = sorting-within (along boxes axis upper) boxes

pub front-below : (boxes : List (List Interval)) (axis : ℕ) (upper : Bool) (n len : ℕ) → length boxes ≡ len → All (λ p. p < len) (take n (sorting boxes axis upper))
front-below boxes axis upper n len e = All-take (λ p. p < len) n (sorting boxes axis upper) (λ k d within. let is = sorting-below boxes axis upper k d within in omega arith)

pub back-below : (boxes : List (List Interval)) (axis : ℕ) (upper : Bool) (n len : ℕ) → length boxes ≡ len → All (λ p. p < len) (drop n (sorting boxes axis upper))
back-below boxes axis upper n len e = All-drop (λ p. p < len) n (sorting boxes axis upper) (λ k d within. let is = sorting-below boxes axis upper k d within in omega arith)

pub All-picked : {D : ℕ} (P : Cell D → Type 0) (cells : List (Cell D)) (ps : List ℕ) → All (λ p. p < length cells) ps → All P cells → All P (picked cells ps)
All-picked P cells ps within all = All-map P (λ p. get_or cells p no_cell) ps (λ k d below. all (get_or ps k d) no_cell (within k d below))

module _ {D : ℕ} where
  -- a node stays there, where one node was changed and a new one made
  pub made-present : (a kept made : Slab (NodeCells D)) (key sibling x : ℕ) → IsSome (get a x) → x ≢ key →
      ((y : ℕ) → y ≢ key → get kept y ≡ get a y) → get kept sibling ≡ None → ((y : ℕ) → y ≢ sibling → get made y ≡ get kept y) → IsSome (get made x)
  made-present a kept made key sibling x some other same vacant new =
      let in_kept : IsSome (get kept x) = ap is_some (same x other) ∙ some in
      let apart : x ≢ sibling = λ e. true≢false (sym in_kept ∙ ap is_some (ap (get kept) e ∙ vacant)) in
      ap is_some (new x apart) ∙ in_kept

  pub All-inner : (P Q : Cell D → Type 0) (level : ℕ) (cells : List (Cell D)) → ((l : ℕ) → level ≡ suc l → All P cells) →
      ((c : Cell D) → P c → Q c) → 1 ≤ level → All Q cells
  All-inner P Q zero cells all weaker some = absurd (omega arith)
  All-inner P Q (suc l) cells all weaker some = All-weaker P Q weaker cells (all l refl)

  -- taking over leaves nodes and their cells
  over-some : (old new : Arena D) (key level x : ℕ) (cs : List (Cell D)) → TakesOver old new key level cs → IsSome (get old.nodes x) → IsSome (get new.nodes x)
  over-some old new key zero x cs over some = ap (λ s. is_some (get s x)) ((over.rows refl).1) ∙ some
  over-some old new key (suc l) x cs over some = kept-present old.nodes new.nodes x ((over.children (omega arith)).0.levels x) some

  over-cells : (old new : Arena D) (key level x : ℕ) (cs : List (Cell D)) → TakesOver old new key level cs → cells_at new.nodes x ≡ cells_at old.nodes x
  over-cells old new key zero x cs over = ap (λ s. cells_at s x) ((over.rows refl).1)
  over-cells old new key (suc l) x cs over = (over.children (omega arith)).0.cells x

  pub over-present : (old new : Arena D) (key level x : ℕ) (cs : List (Cell D)) → TakesOver old new key level cs → IsSome (get old.nodes x) →
      IsSome (get new.nodes x) × (cells_at new.nodes x ≡ cells_at old.nodes x)
  over-present old new key level x cs over some = (over-some old new key level x cs over some, over-cells old new key level x cs over)
