use Rattle.std.proofs.Common.{◌≡◌, ◌+◌, ◌≤◌, rules, List, [], ◌∷◌, ◌++◌, take, map, ℤ, sym, ap, ◌∙◌, subst}
use Rattle.std.proofs.lemmas.List.{map-append}
use Rattle.rt_map.specs.Packing.{ids}
use Rattle.rt_tree.specs.Lists.{rows_of}
use Rattle.rt_tree_many.specs.Parts.{HasParts, nearest_ids}
use Rattle.rt_tree_many.proofs.Lists.{take-item}
use Rattle.rt_tree_many.proofs.Joined.{parts-more}
use Rattle.rt_tree_many.proofs.searching.nearest_many.Goals as goal

pub loop-point-preserved : goal.loop-point-preserved
loop-point-preserved g c =
    let f = nearest_ids c.args.k (rows_of c.args.tree.now.lists) in
    let points = c.args.points.now in
    let point = c.point-item.result in
    let i = c.loop-point.point-index in
    let next : take (i + 1) points ≡ take i points ++ point ∷ [] = take-item points i point c.loop-point-test.true c.point-item.is in
    let part = ids c.deref.result.now in
    let is : part ≡ f point = ap ids (c.deref.ensures.value ∙ c.in_ok-rows.ensures) in
    let all : map f (take i points) ++ part ∷ [] ≡ map f (take (i + 1) points) =
    ap (λ (p : List ℤ). map f (take i points) ++ p ∷ []) is ∙ sym (map-append f (take i points) (point ∷ [])) ∙ ap (map f) (sym next) in
    subst (λ (parts : List (List ℤ)). HasParts parts c.add.new.self.ids.items c.add.new.self.starts.items) all
    (parts-more (map f (take i points)) part c.loop-point.found c.add.new.self c.loop-point.invariant c.in_ok-add.ensures)

pub nearest-requires : goal.nearest-requires
nearest-requires g c = let few : g.row.D ≤ 3 = c.requires in search rules

pub add-requires : goal.add-requires
add-requires g c = let few : g.row.D ≤ 3 = c.requires in search rules
