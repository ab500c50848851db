use Rattle.std.proofs.Common.{rules}
use Rattle.rt_box.proofs.Lanes.{told_four}
use Rattle.rt_box.proofs.window.Ends.admits_four.Goals as goal

pub returns : goal.returns
returns c =
    let a = c.args in
    told_four a.self.now a.a.now a.b.now a.c.now a.d.now
    (search rules, search rules) (search rules, search rules) (search rules, search rules) (search rules, search rules) (search rules, search rules) (search rules, search rules)
