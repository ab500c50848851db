use Rattle.std.proofs.Common.{◌≡◌, ◌≤◌, List, [], length, map, rules, ap, sym, subst, inr}
use Rattle.slab.specs.Slab.{ContainsKey}
use Rattle.rt_box.specs.declared.interval.Interval.{Interval}
use Rattle.rt_tree_node.specs.declared.cell.Cell.{Cell}
use Rattle.rt_tree_node.specs.Places.{cells_of}
use Rattle.rt_tree_walk.proofs.Progress.{IsSettled, level-some}
use Rattle.rt_tree_nearest.specs.declared.candidate.Candidate.{Candidate}
use Rattle.rt_tree_nearest.specs.declared.keep.Kept.{Kept}
use Rattle.rt_tree_nearest.specs.Candidates.{candidate_of, items_in, HasShape, Keeps}
use Rattle.rt_tree_nearest.proofs.Narrowed.{near-limit, fields, keeps-nearer, shape-nearer}
use Rattle.rt_tree_nearest.proofs.narrow.narrow.Goals as goal

pub node_at-leaf-requires : goal.node_at-leaf-requires
node_at-leaf-requires g c =
    let few : g.row.D ≤ 3 = c.requires.few in
    let there : ContainsKey c.args.tree.now.nodes c.in-Some.key = level-some c.args.tree.now.nodes c.in-Some.key 0 c.in-Some.ensures in
    search rules

pub returns-clause-query : goal.returns-clause-query
returns-clause-query g c =
    let t = c.args.tree.now in
    let q = c.args.query.now in
    let s : IsSettled t = record { whole = c.requires.whole; none = c.requires.settled } in
    let kept = c.keep_rows.new.kept in
    let full : length (items_in kept) ≡ q.k =
    (subst (λ (k : Kept g.row.D). HasShape q k → length (items_in k) ≡ q.k) (sym c.in-Full.is) (λ shape. shape.0)) c.in_ok-keep_rows.ensures.shape in
    let made : c.new-2.result ≡ record { target = q.target; k = q.k; limit = c.reach-limit.result; window = c.new-2.result.window } =
    fields c.new-2.result q.target q.k c.reach-limit.result c.new-2.ensures.target c.new-2.ensures.k c.new-2.ensures.limit in
    inr (
      c.reach-limit.result,
      near-limit t s q c.in-Some.key c.node_at-leaf.result.now (items_in kept) c.reach-limit.result c.in-Some.ensures c.node_at-leaf.ensures
          (subst (λ (old : List (Candidate g.row.D)). Keeps q (map (candidate_of q.target) c.node_at-leaf.result.now.cells) old (items_in kept)) c.new.ensures.items c.in_ok-keep_rows.ensures.keeps)
          full c.reach-limit.ensures,
      c.new-2.ensures.aimed,
      made,
    )

pub returns-clause-near : goal.returns-clause-near
returns-clause-near g c =
    let q = c.args.query.now in
    let nearer = c.new-2.result in
    let leaf = c.node_at-leaf.result.now in
    let kept = c.keep_rows.new.kept in
    let some : 1 ≤ q.k = c.requires.some in
    let full : length (items_in kept) ≡ q.k =
    (subst (λ (k : Kept g.row.D). HasShape q k → length (items_in k) ≡ q.k) (sym c.in-Full.is) (λ shape. shape.0)) c.in_ok-keep_rows.ensures.shape in
    let keeps = subst (λ (old : List (Candidate g.row.D)). Keeps q (map (candidate_of q.target) leaf.cells) old (items_in kept)) c.new.ensures.items c.in_ok-keep_rows.ensures.keeps in
    let still : Keeps nearer (map (candidate_of q.target) leaf.cells) [] (items_in kept) =
    keeps-nearer q nearer (map (candidate_of q.target) leaf.cells) (items_in kept) c.reach-limit.result keeps some full c.reach-limit.ensures c.new-2.ensures.k c.new-2.ensures.limit in
    record {
      keeps = subst (λ (cells : List (Cell g.row.D)). Keeps nearer (map (candidate_of nearer.target) cells) [] (items_in kept)) (sym (ap cells_of c.node_at-leaf.ensures))
          (subst (λ (target : List Interval). Keeps nearer (map (candidate_of target) leaf.cells) [] (items_in kept)) (sym c.new-2.ensures.target) still);
      shape = shape-nearer q nearer kept c.new-2.ensures.k c.in_ok-keep_rows.ensures.shape;
    }
