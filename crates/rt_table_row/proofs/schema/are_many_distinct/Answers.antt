use Rattle.std.proofs.Common.{◌≡◌, ◌&&◌, ◌∙◌, List, ℕ, Bool, not, true, drop, ◌+◌, arith, rules, ap}
use Rattle.std.specs.BTreeSet.{contains_text}
use Rattle.std.specs.Str.{str_to_ascii_lowercase}
use Rattle.rt_table_row.proofs.Names.{are_new, new_more, new_first}
use Rattle.rt_table_row.proofs.schema.are_many_distinct.Goals as goal

pub loop-name-init : goal.loop-name-init
loop-name-init c = new_first _ c.args.names.now (λ q. search rules)

pub loop-name-preserved : goal.loop-name-preserved
loop-name-preserved c =
    let seen : List ℕ → Bool = λ q. contains_text c.loop-name.texts (str_to_ascii_lowercase q) in
    let after : List ℕ → Bool = λ q. contains_text c.add_name.new.texts (str_to_ascii_lowercase q) in
    let new : not (seen c.name-item.result) ≡ true = search rules in
    let rest = are_new after (drop (c.loop-name.name-index + 1) c.args.names.now) in
    c.loop-name.invariant
    ∙ new_more seen after c.args.names.now c.loop-name.name-index c.name-item.result (omega arith) c.name-item.is c.in_ok-add_name.ensures.added
    ∙ ap (λ (b : Bool). b && rest) new
