use Rattle.std.proofs.Common.{◌≡◌, ◌+◌, ◌-◌, ◌<◌, List, [], ◌∷◌, ◌++◌, drop, length, map, arith, append_assoc, append-nil, refl, ap, sym, ◌∙◌}
use Rattle.std.specs.List.{filter}
use Rattle.rt_tree_node.specs.declared.cell.Cell.{Cell}
use Rattle.rt_tree_join.specs.declared.due.Due.{Due}
use Rattle.rt_tree_join.specs.declared.due.Subtree.{Subtree}
use Rattle.rt_tree_join.specs.declared.due.Side.TheVariants.{Right}
use Rattle.rt_tree_join.specs.Join.{touch}
use Rattle.rt_tree_join.specs.Due.{subtree_of, child_due, opened_from}
use Rattle.rt_tree_join.specs.Itself.{later_due}
use Rattle.rt_tree_join.proofs.Later.{drop-next, drop-past}
use Rattle.rt_tree_join.proofs.itself.open_within.Goals as goal

pub loop-at-init : goal.loop-at-init
loop-at-init g c = record { nodes = refl; due = refl }

pub loop-at-preserved : goal.loop-at-preserved
loop-at-preserved g c =
    let cells = c.args.node.now.cells in
    let at = c.loop-at.at in
    let cell = c.cell.result in
    let level = c.args.node.now.level - 1 in
    let within : at < length cells = omega (arith, c.loop-at-test.true, c.len-at-end.ensures) in
    let next : drop at cells ≡ cell ∷ drop (at + 1) cells = drop-next cells at cell within c.cell.ensures in
    let child : c.child-child.result ≡ subtree_of level cell = c.child-child.ensures ∙ ap (λ k. subtree_of (k - 1) cell) c.level-level.ensures in
    let rest = drop (at + 1) cells in
    let own = map (child_due Right level (subtree_of level cell)) (filter (λ (e : Cell g.row.D). touch cell.rect e.rect) rest) in
    record {
      nodes = ap (λ (ns : List (Subtree g.row.D)). ns ++ map (subtree_of level) rest)
          (c.in_ok-push.ensures.items ∙ ap (λ (n : Subtree g.row.D). c.loop-at.nodes.items ++ n ∷ []) child)
          ∙ append_assoc c.loop-at.nodes.items (subtree_of level cell ∷ []) (map (subtree_of level) rest)
          ∙ ap (λ (cs : List (Cell g.row.D)). c.loop-at.nodes.items ++ map (subtree_of level) cs) (sym next) ∙ c.loop-at.invariant.nodes;
      due = ap (λ (ds : List (Due g.row.D)). ds ++ later_due level rest)
          (c.in_ok-open.ensures ∙ ap (λ (n : Subtree g.row.D). c.loop-at.due.items ++ opened_from Right c.args.node.now (at + 1) n) child)
          ∙ append_assoc c.loop-at.due.items own (later_due level rest)
          ∙ ap (λ (cs : List (Cell g.row.D)). c.loop-at.due.items ++ later_due level cs) (sym next) ∙ c.loop-at.invariant.due;
    }

pub returns-clause-nodes : goal.returns-clause-nodes
returns-clause-nodes g c =
    let cells = c.args.node.now.cells in
    let level = c.args.node.now.level - 1 in
    let none : drop c.loop-at.at cells ≡ [] = drop-past cells c.loop-at.at (omega (arith, c.loop-at-test.false, c.len-at-end.ensures)) in
    sym (append-nil c.loop-at.nodes.items)
    ∙ ap (λ (cs : List (Cell g.row.D)). c.loop-at.nodes.items ++ map (subtree_of level) cs) (sym none) ∙ c.loop-at.invariant.nodes

pub returns-clause-due : goal.returns-clause-due
returns-clause-due g c =
    let cells = c.args.node.now.cells in
    let level = c.args.node.now.level - 1 in
    let none : drop c.loop-at.at cells ≡ [] = drop-past cells c.loop-at.at (omega (arith, c.loop-at-test.false, c.len-at-end.ensures)) in
    sym (append-nil c.loop-at.due.items)
    ∙ ap (λ (cs : List (Cell g.row.D)). c.loop-at.due.items ++ later_due level cs) (sym none) ∙ c.loop-at.invariant.due
