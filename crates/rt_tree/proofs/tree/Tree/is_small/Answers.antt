use Rattle.std.proofs.Common.{◌≡◌, true, ◌+◌, ◌-◌, ◌/◌, ◌^◌, ◌<◌, ◌≤◌, length, arith, ap, subst}
use Rattle.rt_box.specs.Capacity.{least_fill}
use Rattle.rt_tree_place.proofs.Sums.{count-all}
use Rattle.rt_tree_outside.specs.Outside.{outside}
use Rattle.rt_tree.specs.Lists.{TreeLists, root_level, least_rows, rows_of}
use Rattle.rt_tree.proofs.Kept.{settled}
use Rattle.rt_tree.proofs.Rows.{rows-counted}
use Rattle.rt_tree.proofs.Shape.{nodes-long, root-high}
use Rattle.rt_tree.proofs.Changed.{rows-are}
use Rattle.rt_tree.proofs.Low.{low-root, many-rows}
use Rattle.rt_tree.proofs.tree.Tree.is_small.Goals as goal

pub returns-clause-rows : goal.returns-clause-rows
returns-clause-rows g c =
    let i = c.self.inside in
    let k = c.self.invariant in
    let few : length (outside i.arena).rows ≤ 2 ^ 31 = omega (arith, rows-are i k, k.rows) in
    subst (λ (v : TreeLists g.row.D). length v.lists.rows ≤ 2 ^ 31) c.self.view_is few

pub returns-clause-nodes : goal.returns-clause-nodes
returns-clause-nodes g c =
    let i = c.self.inside in
    let k = c.self.invariant in
    let t = c.self.inside.arena in
    let w = least_fill t.capacity - 1 in
    let few : length (outside t).nodes ≤ 1 + length (outside t).rows / w =
    omega (arith, nodes-long t (settled i k), c.nodes_are_few.ensures, ap (λ n. n / w) (rows-are i k)) in
    subst (λ (v : TreeLists g.row.D). length v.lists.nodes ≤ 1 + length v.lists.rows / (least_fill v.lists.capacity - 1)) c.self.view_is few

pub returns-clause-powers : goal.returns-clause-powers
returns-clause-powers g c =
    let i = c.self.inside in
    let k = c.self.invariant in
    let t = c.self.inside.arena in
    let high = root-high t (settled i k) in
    let many : 1 ≤ root_level (outside t) → least_rows (outside t) ≤ length (outside t).rows = λ above.
    omega (arith, many-rows t (settled i k) k.branched (omega (arith, above, high)), ap (λ l. least_fill t.capacity ^ l) high, rows-are i k) in
    subst (λ (v : TreeLists g.row.D). 1 ≤ root_level v.lists → least_rows v.lists ≤ length v.lists.rows) c.self.view_is many

pub returns-clause-few_levels : goal.returns-clause-few_levels
returns-clause-few_levels g c =
    let i = c.self.inside in
    let k = c.self.invariant in
    let t = c.self.inside.arena in
    let low : length (outside t).rows ≤ 2 ^ 20 → root_level (outside t) < 20 = λ few.
    omega (arith, root-high t (settled i k), low-root t (settled i k) k.branched 19 (omega (arith, few, rows-are i k))) in
    subst (λ (v : TreeLists g.row.D). length v.lists.rows ≤ 2 ^ 20 → root_level v.lists < 20) c.self.view_is low

pub returns-clause-levels : goal.returns-clause-levels
returns-clause-levels g c =
    let i = c.self.inside in
    let k = c.self.invariant in
    let t = c.self.inside.arena in
    let low : root_level (outside t) < 31 = omega (arith, root-high t (settled i k), low-root t (settled i k) k.branched 30 k.rows) in
    subst (λ (v : TreeLists g.row.D). root_level v.lists < 31) c.self.view_is low

pub returns-clause-entries : goal.returns-clause-entries
returns-clause-entries g c =
    let i = c.self.inside in
    let k = c.self.invariant in
    let t = c.self.inside.arena in
    let counted = rows-counted t (settled i k) (λ r. true) in
    let all = count-all (rows_of (outside t)) in
    let same : length (outside t).rows ≡ length (rows_of (outside t)) = omega (arith, rows-are i k, counted, all) in
    subst (λ (v : TreeLists g.row.D). length v.lists.rows ≡ length (rows_of v.lists)) c.self.view_is same
