use Rattle.std.proofs.Common.{ℤ, ◌<◌, length, get_or, rules, FitsSigned, w64, to_z-of_z, ap, subst, ◌∙◌}
use Rattle.rt_sql_statement.specs.declared.value.Value.TheVariants.{Null}
use Rattle.rt_reply.specs.declared.rows.Rows.{Rows}
use Rattle.rt_reply.specs.Rows.{box_values, id_values, values_in}
use Rattle.rt_reply.proofs.Listed.{within-vec, value-read}
use Rattle.rt_reply.proofs.rows.Rows.value_at.Goals as goal

pub index-requires : goal.index-requires
index-requires c = within-vec box_values c.in-One.rows (values_in c.args.self.now) c.args.at (ap values_in c.in-One.is) c.requires

pub index-requires-in-Two : goal.index-requires-in-Two
index-requires-in-Two c = within-vec box_values c.in-Two.rows (values_in c.args.self.now) c.args.at (ap values_in c.in-Two.is) c.requires

pub index-requires-in-Three : goal.index-requires-in-Three
index-requires-in-Three c = within-vec box_values c.in-Three.rows (values_in c.args.self.now) c.args.at (ap values_in c.in-Three.is) c.requires

pub row-requires : goal.row-requires
row-requires c = subst (λ (rows : Rows). c.args.at < length (values_in rows)) c.in-Listed.is c.requires

pub index-requires-in-Ids : goal.index-requires-in-Ids
index-requires-in-Ids c = within-vec id_values c.in-Ids.ids (values_in c.args.self.now) c.args.at (ap values_in c.in-Ids.is) c.requires

pub returns-in-One : goal.returns-in-One
returns-in-One c =
    value-read box_values c.in-One.rows.items (values_in c.args.self.now) c.args.at c.args.place c.index.result.now _ (ap values_in c.in-One.is) c.requires c.index.ensures c.box_value_at.ensures

pub returns-in-Two : goal.returns-in-Two
returns-in-Two c =
    value-read box_values c.in-Two.rows.items (values_in c.args.self.now) c.args.at c.args.place c.index-in-Two.result.now _ (ap values_in c.in-Two.is) c.requires c.index-in-Two.ensures
    c.box_value_at-in-Two.ensures

pub returns-in-Three : goal.returns-in-Three
returns-in-Three c =
    value-read box_values c.in-Three.rows.items (values_in c.args.self.now) c.args.at c.args.place c.index-in-Three.result.now _ (ap values_in c.in-Three.is) c.requires c.index-in-Three.ensures
    c.box_value_at-in-Three.ensures

pub returns-in-Ids : goal.returns-in-Ids
returns-in-Ids c =
    let fits : FitsSigned w64 c.index-in-Ids.result.now = search rules in
    value-read id_values c.in-Ids.ids.items (values_in c.args.self.now) c.args.at c.args.place c.index-in-Ids.result.now _ (ap values_in c.in-Ids.is) c.requires c.index-in-Ids.ensures
    (c.id_value_at.ensures ∙ ap (λ (id : ℤ). get_or (id_values id) c.args.place Null) (to_z-of_z fits))
