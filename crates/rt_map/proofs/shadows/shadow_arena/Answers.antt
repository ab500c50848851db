use Rattle.std.proofs.Common.{◌∙◌, ℕ, List, inr, subst}
use Rattle.std.proofs.lemmas.Bool.{false≢true}
use Rattle.rt_tree_walk.specs.declared.searching.Row.{Row}
use Rattle.rt_tree_outside.specs.Outside.{outside}
use Rattle.rt_tree.specs.Lists.{rows_of}
use Rattle.rt_map.specs.Packing.{IsPackedOf}
use Rattle.rt_map.proofs.shadows.shadow_arena.Goals as goal

pub returns-clause-arena : goal.returns-clause-arena
returns-clause-arena g c =
    let made = c.in_ok-pack_rows-in-None.ensures.arena in
    let arena = c.in_ok-pack_rows-in-None.field-0 in
    record {
      kept = made.kept;
      restored = inr (subst (λ (n : ℕ). IsPackedOf (outside arena) n (rows_of c.args.shadow.now)) c.capacity.ensures
          (subst (λ (rs : List (Row g.row.D)). IsPackedOf (outside arena) c.capacity.result rs) (c.deref-in-None.ensures.value ∙ c.in_ok-rows.ensures.rows) made.packed));
    }

pub returns-clause-again : goal.returns-clause-again
returns-clause-again g c = λ shape.
    let found = rw c.in-None.is at c.in_ok-found.ensures.again shape (c.deref.ensures.value ∙ c.in_ok-rows.ensures.rows) in
    absurd (false≢true found)
