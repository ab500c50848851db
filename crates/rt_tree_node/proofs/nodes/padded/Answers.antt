use Rattle.std.proofs.Common.{◌≡◌, ◌-◌, ◌++◌, ℕ, List, take, replicate, length, vec_len, arith, ap, ◌∙◌}
use Rattle.std.proofs.lemmas.List.{take_all}
use Rattle.rt_tree_node.specs.Sums.{sum_at}
use Rattle.rt_tree_node.proofs.Summed.{padded-same}
use Rattle.rt_tree_node.proofs.nodes.padded.Goals as goal

pub returns : goal.returns
returns c key =
    let sums = c.args.sums.now in
    let first = c.extend_from_slice.new.self.items in
    let whole : first ≡ sums = c.in_ok-extend_from_slice.ensures.items ∙ ap (λ (xs : List ℕ). xs ++ sums) c.in_ok-copy.ensures.items in
    let taken : take c.max.result first ≡ sums = take_all c.max.result first (omega (arith, ap length whole, c.max.ensures)) ∙ whole in
    let more = c.max.result - vec_len c.extend_from_slice.new.self in
    ap (λ (xs : List ℕ). sum_at xs key) (c.in_ok-resize.ensures.items ∙ ap (λ (xs : List ℕ). xs ++ replicate more 0) taken)
    ∙ padded-same sums more key
