use Rattle.std.proofs.Common.{arith, ◌≡◌, ℕ, List, Ok, ◌+◌, ◌-◌, ◌<◌, [], ◌∷◌, map, length, drop, append-nil, sym, ap, subst, ◌∙◌}
use Rattle.std.proofs.lemmas.List.{at_drop_all}
use Rattle.std.proofs.lemmas.Result.{err_from_is_err_and}
use Rattle.rt_table_row.specs.Arrangements.{row_values}
use Rattle.rt_table_row.specs.Rows.{TableRow}
use Rattle.rt_table_row.specs.Edits.{Step, most_rows, outcome, put_all, steps_and}
use Rattle.rt_table_row.specs.Entries.{step_of}
use Rattle.rt_table_plan.specs.Counts.{Counts}
use Rattle.rt_table_plan.specs.Drafts.{known_of, step_given}
use Rattle.rt_table_plan.proofs.Drafting.{begun, knows_begun, knows_more}
use Rattle.rt_table_plan.proofs.Putting.{put_more, put_refused, put_fits, counts_step, left_more}
use Rattle.rt_table_plan.proofs.insert.all_steps.Goals as goal

pub loop-list-init : goal.loop-list-init
loop-list-init g c =
    let rows = c.args.store.now.rows in
    let f = row_values c.args.arrangement.now in
    let none : map step_of c.new-draft.result.steps.items ≡ [] = ap (map step_of) c.new-draft.ensures.steps in
    record {
      knows = knows_begun rows (known_of c.new-draft.result) (map step_of c.new-draft.result.steps.items) c.new-draft.ensures.known none;
      counts = subst (λ (steps : List Step). Counts (outcome rows steps) c.new-count.result.largest c.new-count.result.room) (sym none)
          (record {
            rising = c.facts.ensures.rising;
            largest_is = c.new-count.ensures.largest ∙ c.largest.ensures;
            room_is = c.new-count.ensures.room ∙ ap (λ (n : ℕ). most_rows - n) c.len.ensures;
          });
      rest = begun (λ (now : List TableRow). put_all g.row.D c.args.rule now (map f c.args.lists.now)) rows (map step_of c.new-draft.result.steps.items) none;
    }

pub returns-in_err-step : goal.returns-in_err-step
returns-in_err-step g c =
    let rows = c.args.store.now.rows in
    let lists = c.args.lists.now in
    let f = row_values c.args.arrangement.now in
    let done = map step_of c.loop-list.draft.steps.items in
    let within : c.loop-list.list-index < length lists = omega arith in
    let p = err_from_is_err_and c.from_residual.result c.from_residual.ensures.1 in
    rw (p.1, p.2)
    (put_refused g.row.D c.args.rule rows (put_all g.row.D c.args.rule rows (map f lists)) done c.in_err-step.field-0.0 (f c.as_slice-values.result.now)
    (map f (drop c.loop-list.list-index lists)) (map f (drop (c.loop-list.list-index + 1) lists)) c.loop-list.invariant.rest
    (left_more f lists c.loop-list.list-index c.list-item.result (f c.as_slice-values.result.now) within c.list-item.is (ap f c.as_slice-values.ensures))
    (c.in_err-step.ensures (outcome rows done) c.loop-list.invariant.knows c.loop-list.invariant.counts))

pub loop-list-preserved-in_default : goal.loop-list-preserved-in_default
loop-list-preserved-in_default g c =
    let rows = c.args.store.now.rows in
    let lists = c.args.lists.now in
    let f = row_values c.args.arrangement.now in
    let done = map step_of c.loop-list.draft.steps.items in
    let within : c.loop-list.list-index < length lists = omega arith in
    record {
      knows = c.loop-list.invariant.knows;
      counts = c.loop-list.invariant.counts;
      rest = put_more g.row.D c.args.rule rows (put_all g.row.D c.args.rule rows (map f lists)) done done (step_given c.in_ok-step.step) (f c.as_slice-values.result.now)
          (map f (drop c.loop-list.list-index lists)) (map f (drop (c.loop-list.list-index + 1) lists)) c.loop-list.invariant.rest
          (left_more f lists c.loop-list.list-index c.list-item.result (f c.as_slice-values.result.now) within c.list-item.is (ap f c.as_slice-values.ensures))
          (c.in_ok-step.ensures (outcome rows done) c.loop-list.invariant.knows c.loop-list.invariant.counts)
          (rw c.in_default.is (sym (append-nil done)));
    }

pub loop-list-preserved : goal.loop-list-preserved
loop-list-preserved g c =
    let rows = c.args.store.now.rows in
    let lists = c.args.lists.now in
    let f = row_values c.args.arrangement.now in
    let done = map step_of c.loop-list.draft.steps.items in
    let next = map step_of c.push.new.self.steps.items in
    let step = step_of c.in-Some.step in
    let within : c.loop-list.list-index < length lists = omega arith in
    let one = rw c.in-Some.is at c.in_ok-step.ensures (outcome rows done) c.loop-list.invariant.knows c.loop-list.invariant.counts in
    record {
      knows = knows_more rows (known_of c.loop-list.draft) (known_of c.push.new.self) done next step c.loop-list.invariant.knows c.in_ok-push.ensures.steps c.in_ok-push.ensures.known;
      counts = counts_step rows done next step c.loop-list.count.largest c.add.new.self.largest c.loop-list.count.room c.add.new.self.room c.loop-list.invariant.counts
          (put_fits g.row.D c.args.rule (outcome rows done) (f c.as_slice-values.result.now) step one) c.in_ok-push.ensures.steps c.add.ensures.largest c.add.ensures.room;
      rest = put_more g.row.D c.args.rule rows (put_all g.row.D c.args.rule rows (map f lists)) done next (step ∷ []) (f c.as_slice-values.result.now)
          (map f (drop c.loop-list.list-index lists)) (map f (drop (c.loop-list.list-index + 1) lists)) c.loop-list.invariant.rest
          (left_more f lists c.loop-list.list-index c.list-item.result (f c.as_slice-values.result.now) within c.list-item.is (ap f c.as_slice-values.ensures))
          one c.in_ok-push.ensures.steps;
    }

pub returns : goal.returns
returns g c =
    let rows = c.args.store.now.rows in
    let lists = c.args.lists.now in
    let f = row_values c.args.arrangement.now in
    let done = map step_of c.loop-list.draft.steps.items in
    let left : map f (drop c.loop-list.list-index lists) ≡ [] = at_drop_all (map f) lists c.loop-list.list-index (omega arith) in
    c.loop-list.invariant.rest ∙ ap (λ ls. steps_and done (put_all g.row.D c.args.rule (outcome rows done) ls)) left ∙ ap Ok (append-nil done)
