use Rattle.std.proofs.Common.{◌≡◌, ◌≢◌, ◌+◌, ◌<◌, ◌≤◌, [], ◌++◌, Some, is_some, IsSome, length, take, drop, arith, refl, ap, ◌∙◌, sym, subst, rules}
use Rattle.std.specs.List.{All}
use Rattle.std.specs.Ordering.{int_eq}
use Rattle.std.proofs.lemmas.List.{length-map, length-take, length-drop}
use Rattle.std.proofs.lemmas.Option.{same_Some}
use Rattle.indexmap.specs.IndexMap.{get as leaf_of}
use Rattle.slab.specs.Slab.{ContainsKey, Updates}
use Rattle.rt_tree_choice.specs.Split.{sorting, first_group, second_group, IsBestCut}
use Rattle.rt_tree_node.specs.declared.arena.Arena.{Arena}
use Rattle.rt_tree_node.specs.Node.{NodeCells}
use Rattle.rt_tree_node.specs.Changes.{Changes}
use Rattle.rt_tree_node.proofs.Paired.{node_with}
use Rattle.rt_tree_node.specs.Places.{key_of, rects, cells_of, level_of, level_at, cells_at, picked}
use Rattle.rt_tree_place.specs.Steps.{Splits, TakesOver}
use Rattle.rt_tree_place.proofs.Groups.{sorting-long, front-below, back-below, All-picked, All-inner, made-present, over-present}
use Rattle.rt_tree_place.proofs.split.split.Goals as goal

pub groups-requires : goal.groups-requires
groups-requires g c =
    let boxes = c.boxes-2.result.now in
    let long = ap length c.boxes.ensures.value ∙ length-map c.take_cells-old.result.cells (λ q. q.rect) in
    let long-2 = ap length c.boxes-2.ensures.value ∙ length-map c.take_cells-old.result.cells (λ q. q.rect) in
    let order = ap length (c.as_slice.ensures.value ∙ c.sorted_positions-order.ensures) ∙ sorting-long boxes c.choose_split-cut.result.axis c.choose_split-cut.result.upper in
    let full = ap (λ s. length (cells_of s)) c.take_cells-old.ensures.node in
    omega (arith, long-2, order, full, c.requires.full, c.choose_split-cut.ensures.is_cut.second_filled)

pub add_cells-requires : goal.add_cells-requires
add_cells-requires g c =
    let few = c.requires.few in
    let old = c.take_cells-old.result in
    let cut = c.choose_split-cut.result in
    let boxes = c.boxes-2.result.now in
    let emptied = c.take_cells-old.ensures.emptied old c.take_cells-old.ensures.node in
    let here : ContainsKey c.take_cells-old.new.nodes c.args.key = ap is_some emptied.updates.changed in
    let long : length boxes ≡ length old.cells = ap length c.boxes-2.ensures.value ∙ length-map old.cells (λ q. q.rect) in
    let order = c.as_slice.ensures.value ∙ c.sorted_positions-order.ensures in
    let first : c.groups.result.0.now ≡ take cut.first (sorting boxes cut.axis cut.upper) = c.groups.ensures.first ∙ ap (take cut.first) order in
    let within : All (λ p. p < length old.cells) c.groups.result.0.now =
    subst (All (λ p. p < length old.cells)) (sym first) (front-below boxes cut.axis cut.upper cut.first (length old.cells) long) in
    let none : length (cells_at c.take_cells-old.new.nodes c.args.key) ≡ 0 = ap (λ s. length (cells_of s)) emptied.updates.changed in
    let room : length (cells_at c.take_cells-old.new.nodes c.args.key) + length c.groups.result.0.now ≤ 52 =
    omega (arith, none, ap length first, length-take cut.first (sorting boxes cut.axis cut.upper), sorting-long boxes cut.axis cut.upper, long, c.take_cells-old.ensures.few) in
    search rules

pub add_node-sibling-requires : goal.add_node-sibling-requires
add_node-sibling-requires g c =
    let old = c.take_cells-old.result in
    let emptied = c.take_cells-old.ensures.emptied old c.take_cells-old.ensures.node in
    let added = c.add_cells.ensures (record old { cells = [] }) emptied.updates.changed in
    omega (arith, emptied.len, emptied.room, added.len, added.room, c.requires.room)

pub take_over-requires : goal.take_over-requires
take_over-requires g c =
    let few = c.requires.few in
    let old = c.take_cells-old.result in
    let cut = c.choose_split-cut.result in
    let boxes = c.boxes-2.result.now in
    let emptied = c.take_cells-old.ensures.emptied old c.take_cells-old.ensures.node in
    let added = c.add_cells.ensures (record old { cells = [] }) emptied.updates.changed in
    let long : length boxes ≡ length old.cells = ap length c.boxes-2.ensures.value ∙ length-map old.cells (λ q. q.rect) in
    let order = c.as_slice.ensures.value ∙ c.sorted_positions-order.ensures in
    let second : c.groups.result.1.now ≡ drop cut.first (sorting boxes cut.axis cut.upper) = c.groups.ensures.second ∙ ap (drop cut.first) order in
    let within : All (λ p. p < length old.cells) c.groups.result.1.now =
    subst (All (λ p. p < length old.cells)) (sym second) (back-below boxes cut.axis cut.upper cut.first (length old.cells) long) in
    let cells = ap cells_of c.take_cells-old.ensures.node in
    let level : level_at c.args.tree.now.nodes c.args.key ≡ Some old.level = ap level_of c.take_cells-old.ensures.node in
    let known : old.level ≡ 0 → All (λ q. IsSome (leaf_of int_eq c.args.tree.now.leaves q.number)) (picked old.cells c.groups.result.1.now) =
    λ e. All-picked (λ q. IsSome (leaf_of int_eq c.args.tree.now.leaves q.number)) old.cells c.groups.result.1.now within
    (subst (All (λ q. IsSome (leaf_of int_eq c.args.tree.now.leaves q.number))) cells (c.requires.known (level ∙ ap Some e))) in
    let present : 1 ≤ old.level → All (λ q. ContainsKey c.add_node-sibling.new.nodes (key_of q)) (picked old.cells c.groups.result.1.now) =
    λ some. All-picked (λ q. ContainsKey c.add_node-sibling.new.nodes (key_of q)) old.cells c.groups.result.1.now within
    (All-inner (λ q. ContainsKey c.args.tree.now.nodes (key_of q) × (key_of q ≢ c.args.key)) (λ q. ContainsKey c.add_node-sibling.new.nodes (key_of q)) old.level old.cells
    (λ l e. subst (All (λ q. ContainsKey c.args.tree.now.nodes (key_of q) × (key_of q ≢ c.args.key))) cells (c.requires.children l (level ∙ ap Some e)))
    (λ q is. made-present c.args.tree.now.nodes c.add_cells.new.nodes c.add_node-sibling.new.nodes c.args.key c.add_node-sibling.result (key_of q) is.0 is.1
    (λ y other. added.updates.others y other ∙ emptied.updates.others y other) c.add_node-sibling.ensures.was_vacant
    (λ y other. c.add_node-sibling.ensures.updates.others y other)) some) in
    search rules

pub add_cells-requires-2 : goal.add_cells-requires-2
add_cells-requires-2 g c =
    let few = c.requires.few in
    let old = c.take_cells-old.result in
    let cut = c.choose_split-cut.result in
    let boxes = c.boxes-2.result.now in
    let long : length boxes ≡ length old.cells = ap length c.boxes-2.ensures.value ∙ length-map old.cells (λ q. q.rect) in
    let order = c.as_slice.ensures.value ∙ c.sorted_positions-order.ensures in
    let second : c.groups.result.1.now ≡ drop cut.first (sorting boxes cut.axis cut.upper) = c.groups.ensures.second ∙ ap (drop cut.first) order in
    let within : All (λ p. p < length old.cells) c.groups.result.1.now =
    subst (All (λ p. p < length old.cells)) (sym second) (back-below boxes cut.axis cut.upper cut.first (length old.cells) long) in
    let made = c.add_node-sibling.ensures.updates.changed in
    let over = over-present _ _ c.add_node-sibling.result old.level c.add_node-sibling.result _ c.take_over.ensures (ap is_some made) in
    let here : ContainsKey c.take_over.new.tree.nodes c.add_node-sibling.result = over.0 in
    let none : length (cells_at c.take_over.new.tree.nodes c.add_node-sibling.result) ≡ 0 = ap length over.1 ∙ ap (λ s. length (cells_of s)) made ∙ ap (λ m. length m.cells) c.new.ensures in
    let room : length (cells_at c.take_over.new.tree.nodes c.add_node-sibling.result) + length c.groups.result.1.now ≤ 52 =
    omega (arith, none, ap length second, length-drop cut.first (sorting boxes cut.axis cut.upper), sorting-long boxes cut.axis cut.upper, long, c.take_cells-old.ensures.few) in
    search rules

pub returns : goal.returns
returns g c n has =
    let old = c.take_cells-old.result in
    let cut = c.choose_split-cut.result in
    let same : old ≡ n = same_Some old n (sym c.take_cells-old.ensures.node ∙ has) in
    let emptied = c.take_cells-old.ensures.emptied old c.take_cells-old.ensures.node in
    let added = c.add_cells.ensures (record old { cells = [] }) emptied.updates.changed in
    let boxes_are : c.boxes-2.result.now ≡ rects old.cells = c.boxes-2.ensures.value in
    let order = c.as_slice.ensures.value ∙ c.sorted_positions-order.ensures ∙ ap (λ bs. sorting bs cut.axis cut.upper) boxes_are in
    let first : c.groups.result.0.now ≡ first_group (rects old.cells) cut = c.groups.ensures.first ∙ ap (take cut.first) order in
    let second : c.groups.result.1.now ≡ second_group (rects old.cells) cut = c.groups.ensures.second ∙ ap (drop cut.first) order in
    let made : NodeCells g.row.D = record { level = old.level; parent = old.parent; cells = [] } in
    let new_node : c.new.result ≡ made = c.new.ensures ∙ ap (λ l. node_with l c.parent.result []) c.level.ensures ∙ ap (λ p. node_with old.level p []) c.parent.ensures in
    let t = c.take_over.new.tree in
    let after : Arena g.row.D = record t { nodes = c.add_cells-2.new.nodes } in
    let between : Arena g.row.D = record {
      nodes = c.add_node-sibling.new.nodes;
      leaves = c.args.tree.now.leaves;
      pending = c.args.tree.now.pending;
      root = c.args.tree.now.root;
      level = c.args.tree.now.level;
      capacity = c.args.tree.now.capacity;
    } in
    subst (λ m. Splits c.args.tree.now after c.args.key m c.add_node-sibling.result) same record {
      cut = cut;
      best = subst (λ bs. IsBestCut g.row.D bs c.args.tree.now.capacity cut) c.boxes.ensures.value c.choose_split-cut.ensures;
      kept = c.add_cells.new.nodes;
      made = c.add_node-sibling.new.nodes;
      moved = c.take_over.new.tree;
      keeps = record {
        updates = record {
          changed = added.updates.changed ∙ ap (λ ps. Some (record old { cells = picked old.cells ps })) first;
          others = λ x d. added.updates.others x d ∙ emptied.updates.others x d;
        };
        len = added.len ∙ emptied.len;
        room = added.room ∙ emptied.room;
      };
      vacant = c.add_node-sibling.ensures.was_vacant;
      makes = subst (λ m. Updates c.add_cells.new.nodes c.add_node-sibling.new.nodes c.add_node-sibling.result (Some m)) new_node c.add_node-sibling.ensures.updates;
      made_len = c.add_node-sibling.ensures.len;
      made_room = c.add_node-sibling.ensures.capacity;
      key_fits = c.add_node-sibling.ensures.key_in_range;
      takes = subst (λ ps. TakesOver between c.take_over.new.tree c.add_node-sibling.result old.level (picked old.cells ps)) second c.take_over.ensures;
      gives = subst (λ ps. Changes (λ m. record m { cells = m.cells ++ picked old.cells ps }) c.take_over.new.tree.nodes c.add_cells-2.new.nodes c.add_node-sibling.result) second c.add_cells-2.ensures;
      rest = refl;
    }
