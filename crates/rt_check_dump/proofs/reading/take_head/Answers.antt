use Rattle.std.proofs.Common.{◌≡◌, sym, ap, ◌∙◌, Ok, Err, false, cond, ◌++◌, ◌∷◌, [], ◌-◌, ℤ, subst}
use Rattle.std.specs.Prelude.{Contains}
use Rattle.std.specs.List.{list_any}
use Rattle.std.specs.Ordering.{int_eq}
use Rattle.rt_check_dump.specs.declared.reading.Progress.{Progress}
use Rattle.rt_check.specs.Shadow.{ShadowLists, numbers_of}
use Rattle.rt_check_dump.specs.Reading.{after_head, empty_node}
use Rattle.rt_check.proofs.Known.{absent-number}
use Rattle.rt_check_dump.proofs.reading.take_head.Goals as goal
use Rattle.rt_check_dump.specs.declared.fault.LineFault.TheVariants.{ListedTwice}

pub returns : goal.returns
returns g c =
    let p : Progress g.row.D = c.args.progress.now in
    let head = c.in-Some.head in
    let same : c.empty_node.result ≡ empty_node head = c.empty_node.ensures in
    let absent : list_any (int_eq head.number) (numbers_of p.shadow.nodes) ≡ false =
    absent-number head.number (numbers_of p.shadow.nodes)
    (λ listed. let other : Contains (numbers_of p.shadow.nodes) c.empty_node.result.number =
    subst (λ (x : ℤ). Contains (numbers_of p.shadow.nodes) x) (sym (ap (λ n. n.number) same)) listed in
    let twice = c.in-Ok.ensures.twice.1 other in let no : ⊥ = cc in no) in
    ap (after_head p) (sym c.in-Some.ensures)
    ∙ ap (λ b. cond b (Err ListedTwice) (Ok (record p {
      shadow = record p.shadow { nodes = p.shadow.nodes ++ empty_node head ∷ [] };
      nodes = p.nodes - 1;
      cells = head.cells;
    }))) absent
    ∙ ap (λ n. Ok (record p { shadow = record p.shadow { nodes = p.shadow.nodes ++ n ∷ [] }; nodes = p.nodes - 1; cells = head.cells })) (sym same)
    ∙ ap (λ (s : ShadowLists g.row.D). Ok (record p { shadow = s; nodes = p.nodes - 1; cells = head.cells })) (sym c.in-Ok.ensures.ok)
    ∙ ap (λ n. Ok (record p { shadow = c.add_node.new.self; nodes = n; cells = head.cells })) (sym c.saturating_sub-progress.ensures)
