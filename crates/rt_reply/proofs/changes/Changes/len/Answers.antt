use Rattle.std.proofs.Common.{◌≡◌, sym, ap, length, arith, ◌∙◌}
use Rattle.rt_reply.proofs.Heads.{length-with_rows}
use Rattle.rt_reply.proofs.changes.Changes.len.Goals as goal

pub returns : goal.returns
returns c =
    let long : length c.args.self.now ≡ length c.self.inside.heads.items = sym (ap (λ changes. length changes) c.self.view_is) ∙ length-with_rows c.self.inside.heads.items c.self.inside.rows c.self.invariant in
    omega (arith, c.len.ensures, long)
