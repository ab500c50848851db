use Rattle.std.proofs.Common.{◌≡◌, ◌<◌, ◌-◌, ◌++◌, ◌∷◌, [], ℤ, List, true, false, length, get_or, take, rules, sym, ap, subst, ◌∙◌}
use Rattle.std.specs.Prelude.{is_some}
use Rattle.std.specs.List.Sorted.{IsSorted}
use Rattle.std.specs.Ordering.{int_cmp}
use Rattle.rt_tree.specs.Lists.{box_of}
use Rattle.rt_table_store.proofs.Ranking.{top-is-last, upward-popped, sorted-taken, split-last}
use Rattle.rt_table_store.proofs.largest.drop_gone.Goals as goal

pub returns-then-contains-clause-top : goal.returns-then-contains-clause-top
returns-then-contains-clause-top g c =
    let xs = c.loop-id.ids.items in
    let id = c.in-Some.id.now in
    let last : id ≡ get_or xs (length xs - 1) id = search rules in
    let there : is_some (box_of c.args.tree.now.lists id) ≡ true = search rules in
    λ top is_top. subst (λ (z : ℤ). is_some (box_of c.args.tree.now.lists z) ≡ true) (last ∙ sym (top-is-last xs c.loop-id.invariant.order top id is_top)) there

pub loop-id-preserved : goal.loop-id-preserved
loop-id-preserved g c =
    let xs = c.loop-id.ids.items in
    let id = c.in-Some.id.now in
    let some : 0 < length xs = search rules in
    let last : id ≡ get_or xs (length xs - 1) id = search rules in
    let rest : c.pop.new.self.items ≡ take (length xs - 1) xs = search rules in
    let is : xs ≡ c.pop.new.self.items ++ id ∷ [] = split-last xs id some ∙ ap (λ (z : ℤ). take (length xs - 1) xs ++ z ∷ []) (sym last) ∙ ap (λ (ys : List ℤ). ys ++ id ∷ []) (sym rest) in
    let gone : is_some (box_of c.args.tree.now.lists id) ≡ false = search rules in
    record {
      upward = λ up. upward-popped (λ z. is_some (box_of c.args.tree.now.lists z)) xs c.pop.new.self.items id is gone (c.loop-id.invariant.upward up);
      order = subst (λ (ys : List ℤ). IsSorted int_cmp ys) (sym rest) (sorted-taken xs c.loop-id.invariant.order (length xs - 1));
      capacity = c.pop.ensures.capacity ∙ c.loop-id.invariant.capacity;
    }
