use Rattle.std.proofs.Common.{◌≤◌, ℤ, List, length, sym, ap, ◌∙◌, subst}
use Rattle.std.specs.Prelude.{is_some}
use Rattle.std.specs.List.{list_any, count_by}
use Rattle.std.specs.Ordering.{int_eq}
use Rattle.indexmap.specs.IndexMap.{keys}
use Rattle.std.proofs.lemmas.Map.Made.{is_some-lookup}
use Rattle.rt_tree.specs.Lists.{TreeLists, box_of}
use Rattle.rt_tree.proofs.Kept.{settled}
use Rattle.rt_tree.proofs.Once.{distinct-once}
use Rattle.rt_tree.proofs.Rows.{has-row}
use Rattle.rt_tree.proofs.Shape.{entries-long}
use Rattle.rt_tree.proofs.tree.Tree.ids.Goals as goal

pub returns-clause-ids : goal.returns-clause-ids
returns-clause-ids g c = λ id.
    let t = c.self.inside.arena in
    ap (list_any (int_eq id)) (c.as_slice.ensures ∙ c.keys.ensures.rest)
    ∙ sym (is_some-lookup (int_eq id) t.leaves.entries)
    ∙ sym (has-row t (settled c.self.inside c.self.invariant) id)
    ∙ ap (λ (v : TreeLists g.row.D). is_some (box_of v.lists id)) c.self.view_is

pub returns-clause-count : goal.returns-clause-count
returns-clause-count g c =
    ap length c.as_slice.ensures ∙ c.keys.ensures.len ∙ sym (entries-long c.self.inside.arena)
    ∙ ap (λ (v : TreeLists g.row.D). length v.lists.rows) c.self.view_is

pub returns-clause-order : goal.returns-clause-order
returns-clause-order g c =
    c.as_slice.ensures ∙ c.keys.ensures.rest ∙ ap (λ (v : TreeLists g.row.D). v.ids) c.self.view_is

pub returns-clause-once : goal.returns-clause-once
returns-clause-once g c = λ id.
    subst (λ (ids : List ℤ). count_by (int_eq id) ids ≤ 1) (sym (c.as_slice.ensures ∙ c.keys.ensures.rest))
    (distinct-once (keys c.self.inside.arena.leaves) c.keys.ensures.unique id)
