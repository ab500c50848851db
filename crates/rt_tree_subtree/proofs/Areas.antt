-- Cells of one axis or two.
use Rattle.std.proofs.Common.{◌≡◌, ℕ, get_or, ◌+◌, ◌-◌, ◌<◌, false, List, [], ◌∷◌, length, ◌∙◌, ap, sym, subst, refl}
use Rattle.std.proofs.lemmas.List.{get_or_read}
use Rattle.rt_box.specs.declared.interval.Interval.{Interval}
use Rattle.rt_box.specs.Rect.{area, union_box}
use Rattle.rt_box.specs.Keys.{Less, IsLeast}
use Rattle.rt_tree_subtree.specs.Subtree.{area_enlargement, IsBestChild}
use Rattle.rt_box.specs.Boxes.{box_at}
use Rattle.rt_tree_subtree.specs.declared.plane.Growth.{Growth}
use Rattle.rt_tree_subtree.specs.Costs.{growth_numbers, growths}
use Rattle.rt_box.proofs.Keys.{ranked, IsLeast-takes, IsLeast-keeps}

-- what the numbers of a cell are
pub growths-from : (boxes : List (List Interval)) (new : List Interval) (i w a : ℕ) (cell wide : List Interval) → i < length boxes →
    cell ≡ get_or boxes i cell → wide ≡ union_box cell new → w ≡ area wide → a ≡ area cell → (w - a) ∷ a ∷ [] ≡ growths boxes new i
growths-from boxes new i w a cell wide within cell_is wide_is w_is a_is =
    let here : cell ≡ box_at boxes i = get_or_read boxes i cell within cell_is _ in
    ap (λ n. (n - a) ∷ a ∷ []) (w_is ∙ ap area wide_is)
    ∙ ap (λ n. (area (union_box cell new) - n) ∷ n ∷ []) a_is
    ∙ ap (λ b. area_enlargement b new ∷ area b ∷ []) here

-- one more cell, whose growth is less than the least so far, or isn't
pub takes_growth : (boxes : List (List Interval)) (new : List Interval) (i b : ℕ) (growth least : Growth) →
    IsLeast (ranked (growths boxes new)) 0 i b → growth_numbers growth ≡ growths boxes new i → growth_numbers least ≡ growths boxes new b →
    Less (growth_numbers growth) (growth_numbers least) → IsLeast (ranked (growths boxes new)) 0 (i + 1) i
takes_growth boxes new i b growth least so_far growth_is least_is less =
    IsLeast-takes (growths boxes new) 0 i b so_far
    (subst (λ x. Less x (growths boxes new b)) growth_is (subst (λ y. Less (growth_numbers growth) y) least_is less))

pub keeps_growth : (boxes : List (List Interval)) (new : List Interval) (i b : ℕ) (growth least : Growth) →
    IsLeast (ranked (growths boxes new)) 0 i b → growth_numbers growth ≡ growths boxes new i → growth_numbers least ≡ growths boxes new b →
    ¬ Less (growth_numbers growth) (growth_numbers least) → IsLeast (ranked (growths boxes new)) 0 (i + 1) b
keeps_growth boxes new i b growth least so_far growth_is least_is not_less =
    IsLeast-keeps (growths boxes new) 0 i b so_far refl
    (λ less. not_less (subst (λ x. Less x (growth_numbers least)) (sym growth_is) (subst (λ y. Less (growths boxes new i) y) (sym least_is) less)))

pub least-growth_best : (boxes : List (List Interval)) (new : List Interval) (n best : ℕ) → n ≡ length boxes →
    IsLeast (ranked (growths boxes new)) 0 n best → IsBestChild false boxes new best
least-growth_best boxes new n best e h = subst (λ (m : ℕ). IsLeast (ranked (growths boxes new)) 0 m best) e h
