-- What many windows find, as the rows whose boxes lie so to boxes.
use Rattle.std.proofs.Common.{◌≡◌, ℕ, ◌*◌, ℤ, List, ◌++◌, length, map, take, drop, ap, ◌∙◌}
use Rattle.std.proofs.Math.Seq.{drop-length}
use Rattle.std.proofs.lemmas.List.{append-nil, length-map}
use Rattle.std.specs.List.{AllZip}
use Rattle.rt_box.specs.declared.interval.Interval.{Interval}
use Rattle.rt_check.specs.Shadow.{ShadowLists}
use Rattle.rt_tree.specs.Boxes.{HasBoxes}
use Rattle.rt_tree.specs.Search.{CountsIn}
use Rattle.rt_tree.specs.Lists.{TreeLists}
use Rattle.rt_tree_many.specs.Parts.{HasParts, FindsIds, FindsMany, nearest_ids}
use Rattle.rt_tree_walk.specs.declared.searching.Row.{Row}
use Rattle.rt_calls.specs.Buffers.{Copies}
use Rattle.rt_calls.specs.Many.{AreRelated, IsRelatedCount, GivesParts, SearchesEach}
use Rattle.rt_calls.specs.Numbers.{pieces}
use Rattle.rt_calls.specs.Windows.{AdmitsPiece}
use Rattle.rt_calls.specs.declared.code.Code.{Code}
use Rattle.rt_calls.specs.declared.code.Code.TheVariants.{Done, OutOfMemory}
use Rattle.rt_calls.specs.declared.relation.Relation.{Relation}
use Rattle.rt_calls.proofs.Picking.{finds_related}
use Rattle.rt_calls.proofs.Pieces.{zipped_on, zipped_long, length-pieces, starts-counted}

module _ {D : ℕ} (relation : Relation) (s : ShadowLists D) (has : HasBoxes s) where
  pub are_related : (boxes : List (List ℤ)) (windows : List (List Interval)) (parts : List (List ℤ)) → AllZip (AdmitsPiece D relation) boxes windows →
      AllZip (FindsIds s) windows parts → AllZip (AreRelated relation s) boxes parts
  are_related boxes windows parts = zipped_on (AdmitsPiece D relation) (FindsIds s) (AreRelated relation s)
      (λ box window part related finds.
      (finds.rows, finds_related relation s window (take D box) (drop D box) finds.rows has related finds.admitted finds.each, finds.ids_are))
      boxes windows parts

  pub are_counted : (boxes : List (List ℤ)) (windows : List (List Interval)) (counts : List ℕ) → AllZip (AdmitsPiece D relation) boxes windows →
      AllZip (CountsIn s) windows counts → AllZip (IsRelatedCount relation s) boxes counts
  are_counted boxes windows counts = zipped_on (AdmitsPiece D relation) (CountsIn s) (IsRelatedCount relation s)
      (λ box window count related counts.
      (counts.rows, finds_related relation s window (take D box) (drop D box) counts.rows has related counts.admitted counts.each, counts.counted))
      boxes windows counts

module _ {D : ℕ} (tree : TreeLists D) (has : HasBoxes tree.lists) (relation : Relation) (numbers : List ℤ) where
  pub searches : (starts new_starts : List ℕ) (ids new_ids : List ℤ) (told total : ℕ) (windows : List (List Interval)) (all : List ℤ) (begin : List ℕ) (code : Code) →
      AllZip (AdmitsPiece D relation) (pieces (2 * D) (length starts) numbers) windows → FindsMany tree.lists windows all begin →
      GivesParts all begin starts new_starts ids new_ids told total code → SearchesEach starts new_starts ids new_ids told total relation numbers tree code
  searches starts new_starts ids new_ids told total windows all begin OutOfMemory admits finds gives = gives
  searches starts new_starts ids new_ids told total windows all begin code admits finds gives =
      (finds.parts, are_related relation tree.lists has (pieces (2 * D) (length starts) numbers) windows finds.parts admits finds.finds, all, begin, finds.has, gives)

-- as many starts as windows, and as many counts
module _ {D : ℕ} (s : ShadowLists D) (relation : Relation) (count : ℕ) (numbers : List ℤ) (windows : List (List Interval)) where
  pub starts-fit : (all : List ℤ) (begin : List ℕ) → AllZip (AdmitsPiece D relation) (pieces (2 * D) count numbers) windows → FindsMany s windows all begin →
      length begin ≡ count
  starts-fit all begin admits finds =
      starts-counted finds.parts all begin finds.has ∙ zipped_long (FindsIds s) windows finds.parts finds.finds
      ∙ zipped_long (AdmitsPiece D relation) (pieces (2 * D) count numbers) windows admits ∙ length-pieces (2 * D) count numbers

  pub counts-fit : (counts : List ℕ) → AllZip (AdmitsPiece D relation) (pieces (2 * D) count numbers) windows → AllZip (CountsIn s) windows counts →
      length counts ≡ count
  counts-fit counts admits counted =
      zipped_long (CountsIn s) windows counts counted
      ∙ zipped_long (AdmitsPiece D relation) (pieces (2 * D) count numbers) windows admits ∙ length-pieces (2 * D) count numbers

pub points-fit : {D : ℕ} (rows : List (Row D)) (k count width : ℕ) (numbers : List ℤ) (points : List (List ℤ)) (all : List ℤ) (begin : List ℕ) →
    points ≡ pieces width count numbers → HasParts (map (nearest_ids k rows) points) all begin → length begin ≡ count
points-fit rows k count width numbers points all begin are has =
    starts-counted (map (nearest_ids k rows) points) all begin has ∙ length-map points (nearest_ids k rows) ∙ ap length are ∙ length-pieces width count numbers

-- a copy that fills the buffer
pub copied_all : {X : Type 0} (items before after : List X) → Copies items before after Done → length items ≡ length before → after ≡ items
copied_all items before after copies long = copies.1 ∙ ap (λ l. items ++ l) (ap (λ n. drop n before) long ∙ drop-length before) ∙ append-nil items
