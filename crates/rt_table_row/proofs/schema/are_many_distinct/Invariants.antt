use Rattle.std.proofs.Common.{◌≡◌, drop}
use Rattle.std.specs.BTreeSet.{contains_text}
use Rattle.std.specs.Str.{str_to_ascii_lowercase}
use Rattle.rt_table_row.specs.Columns.{are_distinct}
use Rattle.rt_table_row.proofs.Names.{are_new}
use Rattle.rt_table_row.proofs.schema.are_many_distinct.Given as goal

-- what is left decides, beside the names before it
abbrev pub invariant-loop-name : goal.invariant-loop-name
invariant-loop-name l = are_distinct l.fn.names ≡ are_new (λ name. contains_text l.texts (str_to_ascii_lowercase name)) (drop l.name-index l.names)
