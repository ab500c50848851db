use Rattle.std.proofs.Common.{◌≡◌, [], ◌∷◌, ◌++◌, arith, refl, rules, ap, ◌∙◌}
use Rattle.std.specs.Option.{option_to_list}
use Rattle.rt_tree_node.specs.declared.arena.Arena.{Arena}
use Rattle.rt_tree_place.specs.Rise.{IsPending}
use Rattle.rt_tree_place.specs.Steps.{HasLeastWhereHeld}
use Rattle.rt_tree_place.proofs.Held.{held-before}
use Rattle.rt_tree_place.proofs.Placed.{pending-from, placed}
use Rattle.rt_tree_place.proofs.place.place_last.Goals as goal

pub enter-key-requires : goal.enter-key-requires
enter-key-requires g c =
    let few = c.requires.few in
    let old = c.args.tree.now in
    let entry = c.unwrap-entry.result in
    let popped : Arena g.row.D = record old { pending = c.pop.new.self } in
    let was : old.pending.items ≡ c.pop.new.self.items ++ entry ∷ [] = c.pop.ensures.items ∙ ap (λ o. c.pop.new.self.items ++ option_to_list o) c.unwrap-entry.ensures in
    let pending : IsPending popped entry = pending-from old popped entry c.requires.whole was in
    search rules

pub rise-requires : goal.rise-requires
rise-requires g c =
    let few = c.requires.few in
    let old = c.args.tree.now in
    let entry = c.unwrap-entry.result in
    let popped : Arena g.row.D = record old { pending = c.pop.new.self } in
    let held : HasLeastWhereHeld c.enter-key.new.tree.nodes c.enter-key.result entry.cell.rect =
    held-before popped c.enter-key.new.tree entry c.enter-key.result old.pending.items c.requires.whole.fitted c.enter-key.ensures in
    search rules

pub returns : goal.returns
returns g c =
    let old = c.args.tree.now in
    let entry = c.unwrap-entry.result in
    let popped : Arena g.row.D = record old { pending = c.pop.new.self } in
    let was : old.pending.items ≡ c.pop.new.self.items ++ entry ∷ [] = c.pop.ensures.items ∙ ap (λ o. c.pop.new.self.items ++ option_to_list o) c.unwrap-entry.ensures in
    placed old popped c.enter-key.new.tree c.rise.new.tree c.grow.new.tree entry c.enter-key.result c.args.marks.now c.rise.new.marks
    c.args.work.now c.rise.new.work c.grow.new.work _ c.requires.whole was c.pop.ensures.capacity c.enter-key.ensures c.rise.ensures.risen c.rise.ensures.ascends c.grow.ensures
    (omega arith) refl refl
