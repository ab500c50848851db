use Rattle.std.proofs.Common.{◌≡◌, ◌∙◌, true, cond, rules}
use Rattle.std.specs.BTreeSet.{contains_text}
use Rattle.std.specs.Str.{bytes_eq, str_to_ascii_lowercase}
use Rattle.std.specs.String.{string_bytes}
use Rattle.std.proofs.lemmas.Map.Text.{btree_set_updates_text}
use Rattle.rt_sql_statement.specs.Name.{same_name}
use Rattle.rt_table_row.proofs.Names.{either}
use Rattle.rt_table_row.proofs.schema.add_name.Goals as goal

pub returns-clause-added : goal.returns-clause-added
returns-clause-added c = λ q.
    let key = string_bytes c.in_ok-to_ascii_lowercase.field-0 in
    let text : key ≡ str_to_ascii_lowercase c.args.name.now = search rules in
    let step : contains_text c.insert.new.self (str_to_ascii_lowercase q) ≡ cond (bytes_eq key (str_to_ascii_lowercase q)) true (contains_text c.args.texts.now (str_to_ascii_lowercase q))
    = btree_set_updates_text key c.args.texts.now c.insert.new.self _ c.in_ok-new.ensures.updates (str_to_ascii_lowercase q) in
    (rw text at step) ∙ either (same_name c.args.name.now q) (contains_text c.args.texts.now (str_to_ascii_lowercase q))
