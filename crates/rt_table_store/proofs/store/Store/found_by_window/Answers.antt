use Rattle.std.proofs.Common.{◌≡◌, rules, ap, ◌∙◌, subst}
use Rattle.std.specs.List.{count_by}
use Rattle.rt_check.specs.Shadow.{ShadowLists}
use Rattle.rt_tree.specs.Boxes.{HasBoxes}
use Rattle.rt_tree.specs.Search.{FindsIn}
use Rattle.rt_table_row.specs.Filters.{admits}
use Rattle.rt_table_store.specs.StoreLists.{StoreLists}
use Rattle.rt_table_store.proofs.Found.{all_stand, counts_kept, window_loses_none}
use Rattle.rt_table_store.proofs.store.Store.found_by_window.Goals as goal

pub tested_rows-requires : goal.tested_rows-requires
tested_rows-requires g c =
    let tree : c.self.inside.tree.lists ≡ c.args.self.now.tree = ap (λ (v : StoreLists g.row.D). v.tree) c.self.view_is in
    let finds : FindsIn c.args.self.now.tree c.args.window.now c.in_ok-found.field-0.rows.items c.in_ok-found.field-0.visited =
    subst (λ (t : ShadowLists g.row.D). FindsIn t c.args.window.now c.in_ok-found.field-0.rows.items c.in_ok-found.field-0.visited) tree c.in_ok-found.ensures in (
      search rules,
      (
        search rules,
        (
          search rules,
          (
            c.facts.ensures.few,
            (
              c.requires,
              (
                all_stand c.args.self.now.rows c.args.self.now.tree c.facts.ensures.rising c.facts.ensures.stands c.args.window.now c.in_ok-found.field-0.rows.items c.in_ok-found.field-0.visited finds,
                finds.admitted,
              ),
            ),
          ),
        ),
      ),
    )

pub returns-clause-rows : goal.returns-clause-rows
returns-clause-rows g c =
    let tree : c.self.inside.tree.lists ≡ c.args.self.now.tree = ap (λ (v : StoreLists g.row.D). v.tree) c.self.view_is in
    let boxes : HasBoxes c.args.self.now.tree = subst (λ (t : ShadowLists g.row.D). HasBoxes t) tree c.has_boxes.ensures in
    let finds : FindsIn c.args.self.now.tree c.args.window.now c.in_ok-found.field-0.rows.items c.in_ok-found.field-0.visited =
    subst (λ (t : ShadowLists g.row.D). FindsIn t c.args.window.now c.in_ok-found.field-0.rows.items c.in_ok-found.field-0.visited) tree c.in_ok-found.ensures in
    λ test. ap (count_by test) c.in_ok-rows.ensures
    ∙ counts_kept c.args.self.now.rows c.args.self.now.tree c.facts.ensures.rising c.facts.ensures.stands c.args.window.now c.in_ok-found.field-0.rows.items c.in_ok-found.field-0.visited finds
    (admits c.args.condition.now)
    (window_loses_none c.args.self.now.rows c.args.self.now.tree c.facts.ensures.rising c.facts.ensures.stands boxes c.args.condition.now c.args.window.now c.requires)
    test

pub returns-clause-visited : goal.returns-clause-visited
returns-clause-visited g c =
    let tree : c.self.inside.tree.lists ≡ c.args.self.now.tree = ap (λ (v : StoreLists g.row.D). v.tree) c.self.view_is in
    let finds : FindsIn c.args.self.now.tree c.args.window.now c.in_ok-found.field-0.rows.items c.in_ok-found.field-0.visited =
    subst (λ (t : ShadowLists g.row.D). FindsIn t c.args.window.now c.in_ok-found.field-0.rows.items c.in_ok-found.field-0.visited) tree c.in_ok-found.ensures in
    record {
      numbers = finds.numbers;
      once = finds.once;
      only = finds.only;
      counted = finds.counted;
    }
