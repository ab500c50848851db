use Rattle.rt_box.proofs.window.Window.may_hold.Goals as goal

pub returns : goal.returns
returns g c =
    let same = c.reach.ensures c.args.rect.now c.facts.ensures in
    ((λ yes. same.0 (c.admits.ensures.0 yes)), (λ may. c.admits.ensures.1 (same.1 may)))
