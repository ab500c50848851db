use Rattle.std.proofs.Common.{◌≡◌, ℕ, ◌<◌, ◌≤◌, ◌^◌, List, ◌++◌, length, Contains, rules, arith, ap, sym, ◌∙◌, subst}
use Rattle.std.specs.List.{All}
use Rattle.std.specs.Option.{IsSomeAnd}
use Rattle.slab.specs.Slab.{get}
use Rattle.rt_tree_walk.specs.Preorder.{tree_keys, number_in}
use Rattle.rt_tree_outside.specs.Outside.{AreKnown, noted}
use Rattle.rt_tree_walk.proofs.Progress.{IsSettled}
use Rattle.rt_tree_outside.proofs.Numbered.{keys-within, known-nodes}
use Rattle.rt_map.specs.TreeBytes.{head_bytes}
use Rattle.rt_map.proofs.Written.{written, all-written}
use Rattle.std.proofs.lemmas.Result.{IfOk-from_err}
use Rattle.rt_map.proofs.writing.bytes_of.Goals as goal

pub number_keys-requires-clause-within : goal.number_keys-requires-clause-within
number_keys-requires-clause-within g c =
    let s : IsSettled c.args.tree.now = record { whole = c.requires.whole; none = c.requires.settled } in
    let order : c.as_slice.result.now ≡ tree_keys c.args.tree.now = c.as_slice.ensures.value ∙ c.in_ok-order.ensures in
    subst (λ (ks : List ℕ). All (λ k. k < c.capacity.result) ks) (sym order) (keys-within c.args.tree.now s c.capacity.result c.capacity.ensures.slots)

pub push_nodes-requires : goal.push_nodes-requires
push_nodes-requires g c =
    let s : IsSettled c.args.tree.now = record { whole = c.requires.whole; none = c.requires.settled } in
    let few : g.row.D ≤ 3 = c.requires.few in
    let order : c.as_slice-2.result.now ≡ tree_keys c.args.tree.now = c.as_slice-2.ensures.value ∙ c.in_ok-order.ensures in
    let numbers : c.as_slice-3.result.now ≡ c.in_ok-numbers.numbers.items = c.as_slice-3.ensures.value in
    let long : length c.args.tree.now.nodes.slots ≤ length c.as_slice-3.result.now =
    omega (arith, c.capacity.ensures.slots, ap length numbers, c.in_ok-numbers.ensures.len) in
    let known : All (λ k. IsSomeAnd (get c.args.tree.now.nodes k) (AreKnown (length c.as_slice-3.result.now) k)) c.as_slice-2.result.now =
    subst (λ (ks : List ℕ). All (λ k. IsSomeAnd (get c.args.tree.now.nodes k) (AreKnown (length c.as_slice-3.result.now) k)) ks) (sym order)
    (known-nodes c.args.tree.now s (length c.as_slice-3.result.now) long) in
    let small : All (λ n. n < 2 ^ 63) c.as_slice-3.result.now = subst (λ (ns : List ℕ). All (λ n. n < 2 ^ 63) ns) (sym numbers) c.in_ok-numbers.ensures.small in
    search rules

pub returns-clause-bytes : goal.returns-clause-bytes
returns-clause-bytes g c =
    let t = c.args.tree.now in
    let s : IsSettled c.args.tree.now = record { whole = c.requires.whole; none = c.requires.settled } in
    let order = c.in_ok-order.ensures in
    let numbers = c.in_ok-numbers.numbers.items in
    let slice : c.as_slice.result.now ≡ tree_keys t = c.as_slice.ensures.value ∙ order in
    let same : (key : ℕ) → Contains (tree_keys t) key → noted numbers key ≡ number_in (tree_keys t) key = λ key there.
    c.in_ok-numbers.ensures.noted key (subst (λ (ks : List ℕ). Contains ks key) (sym slice) there) ∙ ap (λ ks. number_in ks key) slice in
    written t s numbers same c.as_slice-3.result.now c.as_slice-2.result.now c.push_head.new.bytes.items c.push_nodes.new.bytes.items
    c.as_slice-3.ensures.value (c.as_slice-2.ensures.value ∙ order)
    (c.in_ok-push_head.ensures ∙ ap (λ (xs : List ℕ). xs ++ head_bytes g.row.D t.capacity) c.new-bytes.ensures.items) c.in_ok-push_nodes.ensures.bytes

pub returns-in_err-order-clause-bytes : goal.returns-in_err-order-clause-bytes
returns-in_err-order-clause-bytes g c = IfOk-from_err _ _ c.from_residual.ensures.0

pub returns-in_err-order-clause-written : goal.returns-in_err-order-clause-written
returns-in_err-order-clause-written g c = IfOk-from_err _ _ c.from_residual.ensures.0

pub returns-in_err-numbers-clause-bytes : goal.returns-in_err-numbers-clause-bytes
returns-in_err-numbers-clause-bytes g c = IfOk-from_err _ _ c.from_residual-in_err-numbers.ensures.0

pub returns-in_err-numbers-clause-written : goal.returns-in_err-numbers-clause-written
returns-in_err-numbers-clause-written g c = IfOk-from_err _ _ c.from_residual-in_err-numbers.ensures.0

pub returns-in_err-push_head-clause-bytes : goal.returns-in_err-push_head-clause-bytes
returns-in_err-push_head-clause-bytes g c = IfOk-from_err _ _ c.from_residual-in_err-push_head.ensures.0

pub returns-in_err-push_head-clause-written : goal.returns-in_err-push_head-clause-written
returns-in_err-push_head-clause-written g c = IfOk-from_err _ _ c.from_residual-in_err-push_head.ensures.0

pub returns-in_err-push_nodes-clause-bytes : goal.returns-in_err-push_nodes-clause-bytes
returns-in_err-push_nodes-clause-bytes g c = IfOk-from_err _ _ c.from_residual-in_err-push_nodes.ensures.0

pub returns-in_err-push_nodes-clause-written : goal.returns-in_err-push_nodes-clause-written
returns-in_err-push_nodes-clause-written g c = IfOk-from_err _ _ c.from_residual-in_err-push_nodes.ensures.0

pub returns-clause-written : goal.returns-clause-written
returns-clause-written g c =
    let t = c.args.tree.now in
    let s : IsSettled c.args.tree.now = record { whole = c.requires.whole; none = c.requires.settled } in
    let order = c.in_ok-order.ensures in
    let slice : c.as_slice.result.now ≡ tree_keys t = c.as_slice.ensures.value ∙ order in
    let same : (key : ℕ) → Contains (tree_keys t) key → noted c.in_ok-numbers.numbers.items key ≡ number_in (tree_keys t) key = λ key there.
    c.in_ok-numbers.ensures.noted key (subst (λ (ks : List ℕ). Contains ks key) (sym slice) there) ∙ ap (λ ks. number_in ks key) slice in
    all-written t s c.in_ok-numbers.numbers.items same c.as_slice-3.result.now c.as_slice-2.result.now c.as_slice-3.ensures.value (c.as_slice-2.ensures.value ∙ order)
    c.in_ok-push_nodes.ensures.written
