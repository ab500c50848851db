use Rattle.std.proofs.Common.{◌≡◌, [], ◌+◌, ◌<◌, ◌≤◌, ◌++◌, is_some, count_by, nat_eq, length, reverse, arith, refl, ap, ◌∙◌, sym, subst, rules, vec_len, vec_capacity}
use Rattle.std.specs.List.{All, range_with_len}
use Rattle.std.specs.List.Sorted.{IsPermutation}
use Rattle.std.proofs.lemmas.List.{length-map}
use Rattle.std.proofs.lemmas.Option.{same_Some}
use Rattle.slab.specs.Slab.{ContainsKey}
use Rattle.rt_tree_choice.specs.Reinsertion.{farthest_positions}
use Rattle.rt_tree_node.specs.Places.{cells_of, cells_at, picked, rects}
use Rattle.rt_tree_node.proofs.Links.{All-left, All-right}
use Rattle.rt_tree_place.specs.Rules.{IsRisingList}
use Rattle.rt_tree_place.specs.Steps.{GivesUp}
use Rattle.rt_tree_place.proofs.Positions.{parted-within, parted-lengths, far-distinct, length-far}
use Rattle.rt_tree_place.proofs.reinsertion.reinsert.Goals as goal

pub others-near-requires-clause-distinct : goal.others-near-requires-clause-distinct
others-near-requires-clause-distinct g c x =
    let boxes = c.boxes.result.now in
    let far = c.as_slice.ensures.value ∙ c.farthest-far.ensures in
    let len : length boxes ≡ c.len.result = ap length c.boxes.ensures.value ∙ length-map c.take_cells-old.result.cells (λ q. q.rect) ∙ sym c.len.ensures.value in
    subst (λ n. count_by (λ p. nat_eq p x) c.as_slice.result.now ≤ count_by (λ p. nat_eq p x) (range_with_len 0 n)) len
    (subst (λ xs. count_by (λ p. nat_eq p x) xs ≤ count_by (λ p. nat_eq p x) (range_with_len 0 (length boxes))) (sym far) (far-distinct boxes c.args.tree.now.capacity x))

pub add_cells-requires : goal.add_cells-requires
add_cells-requires g c =
    let few = c.requires.few in
    let emptied = c.take_cells-old.ensures.emptied c.take_cells-old.result c.take_cells-old.ensures.node in
    let here : ContainsKey c.take_cells-old.new.nodes c.args.key = ap is_some emptied.updates.changed in
    let len = c.len.ensures.value in
    let near = c.as_slice-2.ensures.value in
    let both = parted-within c.len.result c.as_slice.result.now c.others-near.result.items c.others-near.ensures.parted in
    let within : All (λ p. p < length c.take_cells-old.result.cells) c.as_slice-2.result.now =
    subst (λ xs. All (λ p. p < length c.take_cells-old.result.cells) xs) (sym near)
    (subst (λ n. All (λ p. p < n) c.others-near.result.items) len (All-right (λ p. p < c.len.result) c.as_slice.result.now c.others-near.result.items both)) in
    let none : length (cells_at c.take_cells-old.new.nodes c.args.key) ≡ 0 = ap (λ s. length (cells_of s)) emptied.updates.changed in
    let lengths = parted-lengths c.len.result c.as_slice.result.now c.others-near.result.items c.others-near.ensures.parted in
    let room : length (cells_at c.take_cells-old.new.nodes c.args.key) + length c.as_slice-2.result.now ≤ 52 =
    omega (arith, none, ap length near, lengths, len, c.take_cells-old.ensures.few) in
    search rules

pub push_given_up-requires : goal.push_given_up-requires
push_given_up-requires g c =
    let few = c.requires.few in
    let len = c.len.ensures.value in
    let far = c.as_slice-3.ensures.value in
    let both = parted-within c.len.result c.as_slice.result.now c.others-near.result.items c.others-near.ensures.parted in
    let first : c.as_slice-3.result.now ≡ c.as_slice.result.now = far ∙ sym c.as_slice.ensures.value in
    let within : All (λ p. p < length c.take_cells-old.result.cells) c.as_slice-3.result.now =
    subst (λ xs. All (λ p. p < length c.take_cells-old.result.cells) xs) (sym first)
    (subst (λ n. All (λ p. p < n) c.as_slice.result.now) len (All-left (λ p. p < c.len.result) c.as_slice.result.now c.others-near.result.items both)) in
    let boxes = c.boxes.result.now in
    let long = ap length c.boxes.ensures.value ∙ length-map c.take_cells-old.result.cells (λ q. q.rect) in
    let full = ap (λ s. length (cells_of s)) c.take_cells-old.ensures.node in
    let share = length-far boxes c.args.tree.now.capacity (omega (arith, long, full, c.requires.full)) in
    let room : vec_len c.args.tree.now.pending + length c.as_slice-3.result.now ≤ vec_capacity c.args.tree.now.pending = omega (arith, ap length (far ∙ c.farthest-far.ensures), share, c.requires.room, c.facts.ensures) in
    search rules

pub returns : goal.returns
returns g c n has =
    let same : c.take_cells-old.result ≡ n = same_Some c.take_cells-old.result n (sym c.take_cells-old.ensures.node ∙ has) in
    let old = c.take_cells-old.result in
    let emptied = c.take_cells-old.ensures.emptied old c.take_cells-old.ensures.node in
    let added = c.add_cells.ensures (record old { cells = [] }) emptied.updates.changed in
    let far = c.as_slice-3.ensures.value in
    let first : c.as_slice.result.now ≡ c.as_slice-3.result.now = c.as_slice.ensures.value ∙ sym far in
    let moved : IsPermutation (range_with_len 0 (length old.cells)) (c.as_slice-3.result.now ++ c.as_slice-2.result.now) =
    subst (λ l. IsPermutation (range_with_len 0 l) (c.as_slice-3.result.now ++ c.as_slice-2.result.now)) c.len.ensures.value
    (subst (λ xs. IsPermutation (range_with_len 0 c.len.result) (xs ++ c.as_slice-2.result.now)) first
    (subst (λ xs. IsPermutation (range_with_len 0 c.len.result) (c.as_slice.result.now ++ xs)) (sym c.as_slice-2.ensures.value) c.others-near.ensures.parted)) in
    let leaving : c.as_slice-3.result.now ≡ farthest_positions (rects old.cells) c.args.tree.now.capacity =
    far ∙ c.farthest-far.ensures ∙ ap (λ bs. farthest_positions bs c.args.tree.now.capacity) c.boxes.ensures.value in
    subst (λ m. GivesUp c.args.tree.now record {
      nodes = c.add_cells.new.nodes;
      leaves = c.args.tree.now.leaves;
      pending = c.push_given_up.new.pending;
      root = c.args.tree.now.root;
      level = c.args.tree.now.level;
      capacity = c.args.tree.now.capacity;
    } c.args.key m) same record {
      near = picked old.cells c.as_slice-2.result.now;
      far = picked old.cells (reverse c.as_slice-3.result.now);
      chosen = record {
        kept = c.as_slice-2.result.now;
        parted = subst (λ ps. IsPermutation (range_with_len 0 (length old.cells)) (ps ++ c.as_slice-2.result.now)) leaving moved;
        rising = subst IsRisingList (sym c.as_slice-2.ensures.value) c.others-near.ensures.rising;
        stay = refl;
        leave = ap (λ ps. picked old.cells (reverse ps)) leaving;
      };
      nodes = record {
        updates = record { changed = added.updates.changed; others = λ x d. added.updates.others x d ∙ emptied.updates.others x d };
        len = added.len ∙ emptied.len;
        room = added.room ∙ emptied.room;
      };
      pending = c.push_given_up.ensures.items;
      pending_room = c.push_given_up.ensures.room;
      rest = refl;
    }
