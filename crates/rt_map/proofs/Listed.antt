-- The rows in a tree's nodes are those of the tree from outside.
use Rattle.std.proofs.Common.{◌≡◌, ℕ, ap, sym, ◌∙◌}
use Rattle.rt_check.specs.Shadow.{ShadowLists}
use Rattle.rt_tree_node.specs.declared.arena.Arena.{Arena}
use Rattle.rt_tree_walk.specs.Rows.{rows_in}
use Rattle.rt_tree_outside.specs.Outside.{outside}
use Rattle.rt_tree.specs.Kept.{IsKeptWith}
use Rattle.rt_tree.specs.Lists.{rows_of}
use Rattle.rt_tree.proofs.Kept.{kept-settled}
use Rattle.rt_tree.proofs.Nearby.{rows-listed}

module _ {D : ℕ} where
  pub listed : (t : Arena D) (more : ℕ) (s : ShadowLists D) → IsKeptWith t more → outside t ≡ s → rows_in t ≡ rows_of s
  listed t more s kept e = sym (rows-listed t (kept-settled t more kept)) ∙ ap rows_of e
