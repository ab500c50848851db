use Rattle.std.proofs.Common.{◌≡◌, ℕ, ◌<◌, ◌≤◌, ◌^◌, true, List, length, Contains, rules, arith, ap, sym, ◌∙◌, subst}
use Rattle.std.specs.List.{All}
use Rattle.std.specs.Option.{IsSomeAnd}
use Rattle.slab.specs.Slab.{get}
use Rattle.rt_tree_walk.specs.Preorder.{tree_keys, number_in}
use Rattle.rt_tree_outside.specs.Outside.{AreKnown, noted}
use Rattle.rt_tree_walk.proofs.Progress.{IsSettled}
use Rattle.rt_tree_outside.proofs.Numbered.{keys-within, known-nodes, known-leaves}
use Rattle.rt_tree_outside.proofs.Shown.{seen-as, nodes-as, rows-as}
use Rattle.rt_tree_outside.proofs.seen.is_seen_as.Goals as goal

pub number_keys-requires-clause-within : goal.number_keys-requires-clause-within
number_keys-requires-clause-within g c =
    let s : IsSettled c.args.tree.now = record { whole = c.requires.whole; none = c.requires.settled } in
    let order : c.as_slice.result.now ≡ tree_keys c.args.tree.now = c.as_slice.ensures.value ∙ c.in_ok-order.ensures in
    subst (λ (ks : List ℕ). All (λ k. k < c.capacity-2.result) ks) (sym order) (keys-within c.args.tree.now s c.capacity-2.result c.capacity-2.ensures.slots)

pub are_seen_at-requires : goal.are_seen_at-requires
are_seen_at-requires g c =
    let s : IsSettled c.args.tree.now = record { whole = c.requires.whole; none = c.requires.settled } in
    let few : g.row.D ≤ 3 = c.requires.few in
    let order : c.as_slice-order.result.now ≡ tree_keys c.args.tree.now = c.as_slice-order.ensures.value ∙ c.in_ok-order.ensures in
    let numbers : c.as_slice-numbers.result.now ≡ c.in_ok-numbers.numbers.items = c.as_slice-numbers.ensures.value in
    let long : length c.args.tree.now.nodes.slots ≤ length c.as_slice-numbers.result.now =
    omega (arith, c.capacity-2.ensures.slots, ap length numbers, c.in_ok-numbers.ensures.len) in
    let known : All (λ k. IsSomeAnd (get c.args.tree.now.nodes k) (AreKnown (length c.as_slice-numbers.result.now) k)) c.as_slice-order.result.now =
    subst (λ (ks : List ℕ). All (λ k. IsSomeAnd (get c.args.tree.now.nodes k) (AreKnown (length c.as_slice-numbers.result.now) k)) ks) (sym order)
    (known-nodes c.args.tree.now s (length c.as_slice-numbers.result.now) long) in
    let small : All (λ n. n < 2 ^ 63) c.as_slice-numbers.result.now = subst (λ (ns : List ℕ). All (λ n. n < 2 ^ 63) ns) (sym numbers) c.in_ok-numbers.ensures.small in
    search rules

pub are_entries-requires-clause-known : goal.are_entries-requires-clause-known
are_entries-requires-clause-known g c =
    let s : IsSettled c.args.tree.now = record { whole = c.requires.whole; none = c.requires.settled } in
    let numbers : c.as_slice-numbers.result.now ≡ c.in_ok-numbers.numbers.items = c.as_slice-numbers.ensures.value in
    let long : length c.args.tree.now.nodes.slots ≤ length c.as_slice-numbers.result.now =
    omega (arith, c.capacity-2.ensures.slots, ap length numbers, c.in_ok-numbers.ensures.len) in
    known-leaves c.args.tree.now s (length c.as_slice-numbers.result.now) long

pub returns-clause-same : goal.returns-clause-same
returns-clause-same g c = λ are.
    let t = c.args.tree.now in
    let s : IsSettled c.args.tree.now = record { whole = c.requires.whole; none = c.requires.settled } in
    let order = c.in_ok-order.ensures in
    let numbers = c.in_ok-numbers.numbers.items in
    let slice : c.as_slice.result.now ≡ tree_keys t = c.as_slice.ensures.value ∙ order in
    let same : (key : ℕ) → Contains (tree_keys t) key → noted numbers key ≡ number_in (tree_keys t) key = λ key there.
    c.in_ok-numbers.ensures.noted key (subst (λ (ks : List ℕ). Contains ks key) (sym slice) there) ∙ ap (λ ks. number_in ks key) slice in
    let capacity : t.capacity ≡ c.args.shadow.now.capacity = sym c.greatest.ensures.value ∙ c.if-greatest.false ∙ c.greatest-else-not-rooted.ensures.value ∙ c.capacity.ensures in
    seen-as t s numbers same c.as_slice-numbers.result.now c.as_slice-order.result.now c.as_slice-2.result.now
    c.as_slice-numbers.ensures.value (c.as_slice-order.ensures.value ∙ order) (c.as_slice-2.ensures.value ∙ c.in_ok-ids.ensures)
    c.args.shadow.now capacity (c.is_root_first-rooted.ensures.same c.if-not-rooted.false)
    (c.in_ok-seen.ensures.same c.if-not-seen.false ∙ c.nodes.ensures.value) (c.are_entries.ensures.same are ∙ c.rows.ensures.value)

pub returns-clause-all : goal.returns-clause-all
returns-clause-all g c = λ is.
    let t = c.args.tree.now in
    let s : IsSettled c.args.tree.now = record { whole = c.requires.whole; none = c.requires.settled } in
    let order = c.in_ok-order.ensures in
    let numbers = c.in_ok-numbers.numbers.items in
    let slice : c.as_slice.result.now ≡ tree_keys t = c.as_slice.ensures.value ∙ order in
    let same : (key : ℕ) → Contains (tree_keys t) key → noted numbers key ≡ number_in (tree_keys t) key = λ key there.
    c.in_ok-numbers.ensures.noted key (subst (λ (ks : List ℕ). Contains ks key) (sym slice) there) ∙ ap (λ ks. number_in ks key) slice in
    c.are_entries.ensures.all
    (rows-as t s numbers same c.as_slice-numbers.result.now c.as_slice-order.result.now c.as_slice-2.result.now
    c.as_slice-numbers.ensures.value (c.as_slice-order.ensures.value ∙ order) (c.as_slice-2.ensures.value ∙ c.in_ok-ids.ensures)
    c.args.shadow.now is ∙ sym c.rows.ensures.value)

pub returns-then-not-seen-clause-all : goal.returns-then-not-seen-clause-all
returns-then-not-seen-clause-all g c = λ is.
    let t = c.args.tree.now in
    let s : IsSettled c.args.tree.now = record { whole = c.requires.whole; none = c.requires.settled } in
    let order = c.in_ok-order.ensures in
    let numbers = c.in_ok-numbers.numbers.items in
    let slice : c.as_slice.result.now ≡ tree_keys t = c.as_slice.ensures.value ∙ order in
    let same : (key : ℕ) → Contains (tree_keys t) key → noted numbers key ≡ number_in (tree_keys t) key = λ key there.
    c.in_ok-numbers.ensures.noted key (subst (λ (ks : List ℕ). Contains ks key) (sym slice) there) ∙ ap (λ ks. number_in ks key) slice in
    let seen : c.in_ok-seen.seen ≡ true = c.in_ok-seen.ensures.all
    (nodes-as t s numbers same c.as_slice-numbers.result.now c.as_slice-order.result.now c.in_ok-ids.ids.items
    c.as_slice-numbers.ensures.value (c.as_slice-order.ensures.value ∙ order) c.in_ok-ids.ensures
    c.args.shadow.now is ∙ sym c.nodes.ensures.value) in
    sym c.if-not-seen.true ∙ seen
