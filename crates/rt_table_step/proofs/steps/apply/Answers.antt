use Rattle.std.proofs.Common.{◌≡◌, List, ◌∷◌, ◌++◌, [], map, append_assoc, refl, sym, ap, subst, ◌∙◌}
use Rattle.std.specs.Vec.Iter.{into_iter_items}
use Rattle.rt_table_row.specs.Rows.{TableRow}
use Rattle.rt_table_row.specs.Edits.{Step, after_step, outcome}
use Rattle.rt_table_row.specs.Entries.{step_of}
use Rattle.rt_table_store.specs.Trees.{IsTreeOf, TakesStep}
use Rattle.rt_table_step.specs.Steps.{inserts, inserts_all, auxiliary_rows_of, auxiliary_rows_all}
use Rattle.rt_table_step.proofs.StepCounts.{rest_fits}
use Rattle.rt_table_step.proofs.StepTrees.{one_more, outcome-last}
use Rattle.rt_table_step.proofs.steps.apply.Goals as goal

pub loop-step-init : goal.loop-step-init
loop-step-init g c =
    let items = c.into_iter-steps.ensures.rest in
    record {
      ends = rw items;
      apply = rw items c.requires.apply;
      room = rw items c.requires.room;
      auxiliary_room = rw items c.requires.auxiliary_room;
      capacity = refl;
      done = [];
      split = rw items;
      so_far = refl;
      takes = refl;
    }

pub loop-step-preserved : goal.loop-step-preserved
loop-step-preserved g c =
    let next : into_iter_items c.loop-step.steps ≡ c.in-Some.step ∷ into_iter_items c.next.new.self = c.in-Some.ensures.items in
    let room = rw next at c.loop-step.invariant.room in
    let auxiliary_room = rw next at c.loop-step.invariant.auxiliary_room in
    let done = c.loop-step.invariant.done in
    let step : Step = step_of c.in-Some.step in
    let later : List Step = map step_of (into_iter_items c.next.new.self) in
    let here : c.loop-step.store.rows ≡ outcome c.args.store.now.rows done = c.loop-step.invariant.so_far in
    record {
      ends = rw c.apply_step.ensures.rows (rw next at c.loop-step.invariant.ends);
      apply = rw c.apply_step.ensures.rows ((rw next at c.loop-step.invariant.apply).1);
      room = rest_fits (inserts step) (inserts_all later) c.loop-step.store.room c.apply_step.new.store.room room c.apply_step.ensures.room;
      auxiliary_room = rest_fits (auxiliary_rows_of step) (auxiliary_rows_all later) c.loop-step.store.auxiliary_room c.apply_step.new.store.auxiliary_room auxiliary_room
          c.apply_step.ensures.auxiliary;
      capacity = c.apply_step.ensures.capacity ∙ c.loop-step.invariant.capacity;
      done = done ++ step ∷ [];
      split = append_assoc done (step ∷ []) (map step_of (into_iter_items c.next.new.self)) ∙ rw next at c.loop-step.invariant.split;
      so_far = c.apply_step.ensures.rows ∙ ap (λ (rs : List TableRow). after_step rs step) here ∙ sym (outcome-last c.args.store.now.rows done step);
      takes =
          one_more c.args.store.now.rows done step c.args.store.now.tree c.loop-step.store.tree c.apply_step.new.store.tree c.loop-step.invariant.takes
          (subst (λ (rs : List TableRow). TakesStep rs step c.loop-step.store.tree c.apply_step.new.store.tree) here c.apply_step.ensures.tree)
          (subst (λ (rs : List TableRow). IsTreeOf rs c.apply_step.new.store.tree) (c.apply_step.ensures.rows ∙ ap (λ (rs : List TableRow). after_step rs step) here) c.facts.ensures.stands);
    }
