-- The hulls around prefixes and suffixes of an order, grown cell by cell.
use Rattle.std.proofs.Common.{◌≡◌, ℕ, ◌+◌, ◌-◌, ◌<◌, ◌≤◌, inl, inr, List, [], ◌∷◌, length, get_or, take, drop, set, arith, refl, ap, sym, ◌∙◌}
use Rattle.std.specs.List.{All}
use Rattle.std.proofs.lemmas.Bool.{cases_eq}
use Rattle.std.proofs.lemmas.List.{map_more, length-map, length-take, length-drop, drop_more, drop_all, get_or_read, length-set, get_or-set_same, get_or-set_other}
use Rattle.rt_box.specs.declared.interval.Interval.{Interval}
use Rattle.rt_box.specs.Rect.{union_box}
use Rattle.rt_box.proofs.Hulls.{hull-cons, hull-push}
use Rattle.rt_box.specs.Boxes.{box_at}
use Rattle.rt_box.specs.Hull.{hull}
use Rattle.rt_tree_choice.specs.Hull.{boxes_at}

pub front_more : (boxes : List (List Interval)) (order : List ℕ) (i d : ℕ) → 0 < i → i < length order →
    hull (boxes_at boxes (take (i + 1) order)) ≡ union_box (hull (boxes_at boxes (take i order))) (box_at boxes (get_or order i d))
front_more boxes order i d some h =
    ap hull (map_more (box_at boxes) order i d h)
    ∙ hull-push (boxes_at boxes (take i order)) (box_at boxes (get_or order i d)) (omega (arith, length-take i order, length-map (take i order) (box_at boxes)))

pub back_more : (boxes : List (List Interval)) (order : List ℕ) (i d : ℕ) → i + 1 < length order →
    hull (boxes_at boxes (drop i order)) ≡ union_box (box_at boxes (get_or order i d)) (hull (boxes_at boxes (drop (i + 1) order)))
back_more boxes order i d h =
    ap (λ ps. hull (boxes_at boxes ps)) (drop_more order i d (omega arith))
    ∙ hull-cons (box_at boxes (get_or order i d)) (boxes_at boxes (drop (i + 1) order))
    (omega (arith, length-drop (i + 1) order, length-map (drop (i + 1) order) (box_at boxes)))

pub back-last : (boxes : List (List Interval)) (order : List ℕ) (last d : ℕ) → last + 1 ≡ length order →
    hull (boxes_at boxes (drop last order)) ≡ box_at boxes (get_or order last d)
back-last boxes order last d e =
    ap (λ ps. hull (boxes_at boxes ps)) (drop_more order last d (omega arith))
    ∙ ap (λ ps. hull (boxes_at boxes (get_or order last d ∷ ps))) (drop_all (last + 1) order (omega arith))

-- the hulls from each place of the order on, made from the end: at and after the place `length order - back`
pub record IsBackFrom (boxes : List (List Interval)) (order : List ℕ) (hulls : List (List Interval)) (now : List Interval) (back : ℕ) : Type 0 where
  pub long : length hulls ≡ 52
  pub hull_is : now ≡ hull (boxes_at boxes (drop (length order - back) order))
  pub backs : (k : ℕ) → length order ≤ k + back → k < length order → (d : List Interval) →
      get_or hulls k d ≡ hull (boxes_at boxes (drop k order))

pub IsBackFrom-one : (boxes : List (List Interval)) (order : List ℕ) (hulls : List (List Interval)) (now : List Interval) →
    0 < length order → All (λ p. p < length boxes) order → length hulls ≡ 52 → length order ≤ 52 →
    ((k : ℕ) (d : List Interval) → k < 52 → get_or hulls k d ≡ now) →
    now ≡ get_or boxes (get_or order (length order - 1) 0) now → IsBackFrom boxes order hulls now 1
IsBackFrom-one boxes order hulls now some within long few all now_is =
    let in_boxes : get_or order (length order - 1) 0 < length boxes = within (length order - 1) 0 (omega arith) in
    let hull_is : now ≡ hull (boxes_at boxes (drop (length order - 1) order)) =
    get_or_read boxes _ now in_boxes now_is _ ∙ sym (back-last boxes order (length order - 1) 0 (omega arith)) in
    record {
      long = long;
      hull_is = hull_is;
      backs = λ k above below d.
          let here : length order - 1 ≡ k = omega arith in
          all k d (omega arith) ∙ hull_is ∙ ap (λ j. hull (boxes_at boxes (drop j order))) here;
    }

pub IsBackFrom-more : (boxes : List (List Interval)) (order : List ℕ) (hulls : List (List Interval)) (now next cell : List Interval) (back place : ℕ) →
    0 < back → back < length order → place + back + 1 ≡ length order → length order ≤ 52 → All (λ p. p < length boxes) order →
    cell ≡ get_or boxes (get_or order place 0) cell → next ≡ union_box cell now →
    IsBackFrom boxes order hulls now back → IsBackFrom boxes order (set hulls place next) next (back + 1)
IsBackFrom-more boxes order hulls now next cell back place some below_all e few within cell_is next_is so_far =
    let in_boxes : get_or order place 0 < length boxes = within place 0 (omega arith) in
    let cell_at : cell ≡ box_at boxes (get_or order place 0) = get_or_read boxes _ cell in_boxes cell_is _ in
    let after : length order - back ≡ place + 1 = omega arith in
    let hull_at : next ≡ hull (boxes_at boxes (drop place order)) =
    next_is ∙ ap (λ b. union_box b now) cell_at ∙ ap (λ h. union_box (box_at boxes (get_or order place 0)) h) so_far.hull_is
    ∙ ap (λ j. union_box (box_at boxes (get_or order place 0)) (hull (boxes_at boxes (drop j order)))) after
    ∙ sym (back_more boxes order place 0 (omega arith)) in
    let place_is : place ≡ length order - (back + 1) = omega arith in
    record {
      long = length-set hulls place next ∙ so_far.long;
      hull_is = hull_at ∙ ap (λ j. hull (boxes_at boxes (drop j order))) place_is;
      backs = λ k above below d. elim (cases_eq k place) [
        | inl same ↦ ap (λ j. get_or (set hulls place next) j d) same
            ∙ get_or-set_same hulls place next d (omega (arith, so_far.long)) ∙ hull_at ∙ ap (λ j. hull (boxes_at boxes (drop j order))) (sym same)
        | inr other ↦ get_or-set_other hulls place k next d other ∙ so_far.backs k (omega arith) below d
      ];
    }
