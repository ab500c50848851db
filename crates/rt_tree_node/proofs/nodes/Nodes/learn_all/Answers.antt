use Rattle.std.proofs.Common.{◌≡◌, ◌≤◌, ℕ, Bool, true, false, Some, Contains, refl, sym, subst}
use Rattle.std.proofs.Math.Bool.{not}
use Rattle.slab.specs.Slab.{Slab}
use Rattle.rt_tree_node.specs.Node.{NodeCells}
use Rattle.rt_tree_node.specs.Places.{level_at}
use Rattle.rt_tree_node.proofs.Summed.{AddUp-levels}
use Rattle.rt_tree_node.proofs.nodes.Nodes.learn_all.Goals as goal

not-not : (b : Bool) → not b ≡ false → b ≡ true
not-not true e = refl
not-not false e = sym e

pub invariant_of-self : goal.invariant_of-self
invariant_of-self g c = record {
  few = c.self.invariant.few;
  sums = λ known. AddUp-levels c.self.inside.slab c.learn_levels.new.sums.items c.args.level (Contains c.clear.new.self.items)
      (subst (λ (s : Slab (NodeCells g.row.D)). (k l : ℕ) → level_at s k ≡ Some l → l ≤ c.args.level) (sym c.self.view_is) c.requires.level)
      (c.learn_levels.ensures (not-not c.learn_levels.result known));
}
