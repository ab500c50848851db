use Rattle.std.proofs.Common.{◌≡◌, List, map, filter, ap, sym, subst, arith, lit<, ◌∙◌}
use Rattle.std.specs.List.{All}
use Rattle.rt_tree_walk.specs.declared.searching.Row.{Row}
use Rattle.rt_table_row.specs.Rows.{values_of}
use Rattle.rt_table_store.specs.Picking.{Stands}
use Rattle.rt_table_store.proofs.Standing.{found_up}
use Rattle.rt_table_view.proofs.Bare.{whole}
use Rattle.rt_table_view.proofs.view.answered.Goals as goal

pub whole_rows-requires : goal.whole_rows-requires
whole_rows-requires g c = (
  lit< tt,
  (omega arith, subst (λ (found : List (Row g.row.D)). All (Stands c.args.store.now.rows) found) (sym c.as_slice.ensures.value) c.requires),
)

pub returns : goal.returns
returns g c = λ p same.
    c.in_ok-rows.ensures ∙ ap (map values_of) (found_up g.row.D p c.args.store.now.rows c.as_slice.result.now c.facts.ensures.rising (c.as_slice.ensures.value ∙ same))

pub returns-then-not-has_auxiliary : goal.returns-then-not-has_auxiliary
returns-then-not-has_auxiliary g c = λ p same. whole g.row.D p c.args.store.now.rows c.args.found.items (c.has_auxiliary.ensures (grind arith)) same
