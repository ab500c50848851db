-- An insertion has one answer.
use Rattle.std.proofs.Common.{◌≡◌, ℕ, ℤ, List, length, sym, ap, ◌∙◌, subst, arith}
use Rattle.rt_check.specs.declared.node.NodeRow.{NodeRow}
use Rattle.rt_check.specs.declared.node.RowEntry.{RowEntry}
use Rattle.rt_check.specs.Shadow.{ShadowLists}
use Rattle.rt_tree_node.specs.declared.arena.Work.{Work}
use Rattle.rt_tree.specs.Lists.{root_level, IsInShape}
use Rattle.rt_tree_rules.specs.Nested.{Tree}
use Rattle.rt_tree_rules.specs.Placing.{Work as Effort, IsInsertion as InsertsByRules}
use Rattle.rt_tree_rules.specs.Shadow.{Shows}
use Rattle.rt_tree_rules.proofs.Uniqueness.{insertion}
use Rattle.rt_tree_rules.proofs.Faithful.{same_nodes}
use Rattle.rt_tree_one.specs.Laws.{InsertionIsDetermined}
use Rattle.rt_tree_one.proofs.Entries.{determined}

-- lists that show the same tree
pub same_lists : {D : ℕ} (one other : ShadowLists D) (tree : Tree) → IsInShape one → IsInShape other → one.capacity ≡ other.capacity →
    Shows one tree → Shows other tree → one ≡ other
same_lists {D = D} one other tree shape shape_too capacity shows_one shows_other =
    let nodes : one.nodes ≡ other.nodes = shows_one.1 ∙ sym shows_other.1 in
    let rows = determined D one other shape.sound shape_too.sound shape.rising shape_too.rising nodes in
    ap (λ (k : ℕ). lists k one.root one.nodes one.rows) capacity
    ∙ ap (λ (z : ℤ). lists other.capacity z one.nodes one.rows) (shows_one.0 ∙ sym shows_other.0)
    ∙ ap (λ (ns : List (NodeRow D)). lists other.capacity other.root ns one.rows) nodes
    ∙ ap (lists other.capacity other.root other.nodes) rows
  where
    lists : ℕ → ℤ → List (NodeRow D) → List RowEntry → ShadowLists D
    lists capacity root nodes rows = record { capacity = capacity; root = root; nodes = nodes; rows = rows }

-- lists show one tree
pub one_shown : {D : ℕ} (s : ShadowLists D) (one other : Tree) → Shows s one → Shows s other → one ≡ other
one_shown {D = D} s one other shows_one shows_other = same_nodes D one other (sym shows_one.1 ∙ shows_other.1)

same_work : (one other : Work) → one.placements ≡ other.placements → one.splits ≡ other.splits → one.reinsertions ≡ other.reinsertions → one ≡ other
same_work one other p s r =
    ap (λ (n : ℕ). work_of n one.splits one.reinsertions) p ∙ ap (λ (n : ℕ). work_of other.placements n one.reinsertions) s
    ∙ ap (work_of other.placements other.splits) r
  where
    work_of : ℕ → ℕ → ℕ → Work
    work_of placements splits reinsertions = record { placements = placements; splits = splits; reinsertions = reinsertions }

pub one_answer : InsertionIsDetermined
one_answer axes old one other id rect first second shape shape_too step step_too =
    let begin = one_shown old step_too.before step.before step_too.shows_before step.shows_before in
    let ruled : InsertsByRules axes old.capacity step.before record { id = id; rect = rect } step_too.after step_too.effort
    = subst (λ (x : Tree). InsertsByRules axes old.capacity x record { id = id; rect = rect } step_too.after step_too.effort) begin step_too.insertion in
    let same = insertion axes old.capacity step.before step.after step_too.after record { id = id; rect = rect } step.effort step_too.effort step.insertion ruled in
    let lists = same_lists one other step_too.after shape shape_too (step.capacity ∙ sym step_too.capacity) (subst (Shows one) same.0 step.shows_after) step_too.shows_after in
    let nodes = ap (λ (x : ShadowLists axes). length x.nodes) lists in
    let height = ap root_level lists in (
      lists,
      same_work first second
          (step.work_is.placements ∙ ap (λ (e : Effort). e.placements) same.1 ∙ sym step_too.work_is.placements)
          (omega (arith, nodes, height, step.work_is.nodes, step_too.work_is.nodes))
          (step.work_is.reinsertions ∙ ap (λ (e : Effort). e.reinsertions) same.1 ∙ sym step_too.work_is.reinsertions),
    )
