-- The table of kinds.
use Rattle.std.proofs.Common.{arith, ◌≡◌, ℕ, ◌<◌, get_or, map, refl, ap, ◌∙◌}
use Rattle.std.proofs.lemmas.List.FromFn.{get_or-map-range_with_len}
use Rattle.std.specs.List.{range_with_len}
use Rattle.rt_sql.specs.Kind.{kind_of}
use Rattle.rt_sql.specs.Token.{begins_word}
use Rattle.rt_sql.specs.declared.kind.Kind.{Kind}
use Rattle.rt_sql.specs.declared.kind.TheConstants.{KINDS}

table : KINDS ≡ map kind_of (range_with_len 0 256)
unfolding kind_of begins_word
table = refl

pub kind_in_table : (b : ℕ) (d : Kind) → b < 256 → get_or KINDS b d ≡ kind_of b
kind_in_table b d h = ap (λ xs. get_or xs b d) table ∙ get_or-map-range_with_len kind_of 0 256 b b d h (omega arith)
