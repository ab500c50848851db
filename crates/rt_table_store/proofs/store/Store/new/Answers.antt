use Rattle.std.proofs.Common.{◌≡◌, ℤ, List, [], rules, refl, sym, subst}
use Rattle.std.specs.Prelude.{is_some}
use Rattle.rt_check.specs.Shadow.{ShadowLists}
use Rattle.rt_tree.specs.Lists.{empty_lists, box_of}
use Rattle.rt_table_store.specs.GreatestIds.{Ranks}
use Rattle.rt_table_store.proofs.Ranking.{ranks-all}
use Rattle.rt_table_store.proofs.store.Store.new.Goals as goal

pub invariant_of-result : goal.invariant_of-result
invariant_of-result g c =
    let tree : c.in_ok-tree.tree.lists ≡ empty_lists c.args.capacity = search rules in
    let none : c.in_ok-new.field-0 ≡ [] = search rules in
    let ranks : Ranks (λ id. is_some (box_of (empty_lists {D = g.row.D} c.args.capacity) id)) [] = ranks-all _ [] (λ id. refl) in
    record {
      some = search rules;
      few = search rules;
      most = search rules;
      auxiliary = search rules;
      ranks = subst (λ (s : ShadowLists g.row.D). Ranks (λ id. is_some (box_of s id)) c.in_ok-new.field-0) (sym tree) (subst (λ (ids : List ℤ). Ranks (λ id. is_some (box_of (empty_lists {D = g.row.D} c.args.capacity) id)) ids) (sym none) ranks);
    }
