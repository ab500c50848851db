use Rattle.std.proofs.Common.{◌∙◌, List, Option, sym, ap}
use Rattle.rt_box.specs.declared.interval.Interval.{Interval}
use Rattle.rt_tree.specs.Lists.{rows_of}
use Rattle.rt_live.specs.Rows.{by_id, with_box}
use Rattle.rt_live.proofs.ById.{gained, lost}
use Rattle.rt_live.proofs.Kept.{kept, replaced-either}
use Rattle.rt_live.proofs.setting.set_box.Goals as goal

pub returns-in-None-None-clause-rows : goal.returns-in-None-None-clause-rows
returns-in-None-None-clause-rows g c = kept c.args.tree.now.lists c.args.id.now c.args.is.now (c.requires.was ∙ c.in-None-None.is-0 ∙ sym c.in-None-None.is-1)

pub returns-in-None-Some-clause-rows : goal.returns-in-None-Some-clause-rows
returns-in-None-Some-clause-rows g c =
    gained c.args.tree.now.lists c.insert.new.self.lists c.args.id.now c.in-None-Some.rect c.insert.ensures.rows
    ∙ ap (λ (o : Option (List Interval)). with_box (by_id (rows_of c.args.tree.now.lists)) c.args.id.now o) (sym c.in-None-Some.is-1)

pub returns-in-Some-Some-clause-rows : goal.returns-in-Some-Some-clause-rows
returns-in-Some-Some-clause-rows g c =
    replaced-either c.args.tree.now.lists c.replace.new.self.lists c.args.id.now c.in-Some-Some.field-0-0 c.in-Some-Some.rect (c.requires.was ∙ c.in-Some-Some.is-0)
    c.replace.ensures.same c.replace.ensures.other
    ∙ ap (λ (o : Option (List Interval)). with_box (by_id (rows_of c.args.tree.now.lists)) c.args.id.now o) (sym c.in-Some-Some.is-1)

pub returns-in-Some-None-clause-rows : goal.returns-in-Some-None-clause-rows
returns-in-Some-None-clause-rows g c =
    lost c.args.tree.now.lists c.remove.new.self.lists c.args.id.now c.remove.result c.remove.ensures.rows
    ∙ ap (λ (o : Option (List Interval)). with_box (by_id (rows_of c.args.tree.now.lists)) c.args.id.now o) (sym c.in-Some-None.is-1)
