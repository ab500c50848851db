use Rattle.std.proofs.Common.{◌≡◌, length, sym, ap, arith, ◌∙◌}
use Rattle.rt_table_row.specs.Entries.{listed_values}
use Rattle.rt_reply.proofs.Heads.{length-with_rows, with_rows-at}
use Rattle.rt_reply.proofs.changes.Changes.get.Goals as goal

pub index-head-requires : goal.index-head-requires
index-head-requires c =
    let long : length c.args.self.now ≡ length c.self.inside.heads.items = sym (ap (λ changes. length changes) c.self.view_is) ∙ length-with_rows c.self.inside.heads.items c.self.inside.rows c.self.invariant in
    omega (arith, c.requires, long)

pub row-requires : goal.row-requires
row-requires c =
    let long : length c.args.self.now ≡ length c.self.inside.heads.items = sym (ap (λ changes. length changes) c.self.view_is) ∙ length-with_rows c.self.inside.heads.items c.self.inside.rows c.self.invariant in
    omega (arith, c.requires, long, c.self.invariant)

pub returns : goal.returns
returns c =
    let long : length c.args.self.now ≡ length c.self.inside.heads.items = sym (ap (λ changes. length changes) c.self.view_is) ∙ length-with_rows c.self.inside.heads.items c.self.inside.rows c.self.invariant in
    rw (← c.self.view_is)
    (with_rows-at c.self.inside.heads.items c.self.inside.rows c.args.at c.index-head.result.now (listed_values c.row.result) _ (omega (arith, c.requires, long)) c.self.invariant
    c.index-head.ensures c.row.ensures)
