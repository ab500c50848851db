use Rattle.std.proofs.Common.{◌≡◌, sym, ap, ◌∙◌, Ok, Err, false, cond, ◌++◌, ◌∷◌, [], ◌-◌}
use Rattle.std.specs.List.{list_any}
use Rattle.std.specs.Ordering.{int_eq}
use Rattle.rt_check_dump.specs.declared.reading.Progress.{Progress}
use Rattle.rt_check.specs.Shadow.{ShadowLists, ids_of}
use Rattle.rt_check_dump.specs.Reading.{after_row}
use Rattle.rt_check.proofs.Known.{absent-number}
use Rattle.rt_check_dump.proofs.reading.take_row.Goals as goal
use Rattle.rt_check_dump.specs.declared.fault.LineFault.TheVariants.{ListedTwice}

pub returns : goal.returns
returns g c =
    let p : Progress g.row.D = c.args.progress.now in
    let row = c.in-Some.row in
    let absent : list_any (int_eq row.id) (ids_of p.shadow.rows) ≡ false =
    absent-number row.id (ids_of p.shadow.rows) (λ listed. let twice = c.in-Ok.ensures.twice.1 listed in let no : ⊥ = cc in no) in
    ap (after_row p) (sym c.in-Some.ensures)
    ∙ ap (λ b. cond b (Err ListedTwice) (Ok (record p { shadow = record p.shadow { rows = p.shadow.rows ++ row ∷ [] }; rows = p.rows - 1 }))) absent
    ∙ ap (λ (s : ShadowLists g.row.D). Ok (record p { shadow = s; rows = p.rows - 1 })) (sym c.in-Ok.ensures.ok)
    ∙ ap (λ n. Ok (record p { shadow = c.add_row.new.self; rows = n })) (sym c.saturating_sub-progress.ensures)
