use Rattle.std.proofs.Common.{rules, arith, [], ◌∷◌, ◌∙◌}
use Rattle.rt_table_row.specs.Filters.{admits}
use Rattle.rt_table_store.proofs.Standing.{all_found}
use Rattle.rt_table_plan.proofs.update.picked_steps.Goals as goal

pub lone_step-requires : goal.lone_step-requires
lone_step-requires g c = (
  search rules,
  (
    search rules,
    (
      search rules,
      (
        search rules,
        (
          search rules,
          (
            search rules,
            all_found g.row.D (admits c.args.condition.now) c.args.store.now.rows (c.in-Some-passing_row.row ∷ []) c.facts.ensures.rising c.in-Some-passing_row.ensures 0 c.in-Some-passing_row.row (omega arith),
          ),
        ),
      ),
    ),
  ),
)

pub all_steps-requires : goal.all_steps-requires
all_steps-requires g c = (
  search rules,
  (
    search rules,
    (
      search rules,
      (
        search rules,
        (
          search rules,
          (
            search rules,
            all_found g.row.D (admits c.args.condition.now) c.args.store.now.rows c.as_slice.result.now c.facts.ensures.rising (c.as_slice.ensures.value ∙ c.in_ok-found.ensures.rows),
          ),
        ),
      ),
    ),
  ),
)
