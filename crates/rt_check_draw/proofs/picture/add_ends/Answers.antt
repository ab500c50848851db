use Rattle.std.proofs.Common.{◌≡◌, ◌∙◌}
use Rattle.std.specs.Fmt.{signed_decimal}
use Rattle.std.proofs.Common.{rules}
use Rattle.std.proofs.lemmas.Int.{to_z-of_z}
use mir.Syntax.{w32}
use mir.Val.{SFits}
use Rattle.rt_check_draw.proofs.picture.add_ends.Goals as goal

pub returns : goal.returns
returns c =
    let fits_lo : SFits w32 c.args.range.now.lo = search rules in
    let fits_hi : SFits w32 c.args.range.now.hi = search rules in
    let lo : c.as_bytes.result.now ≡ signed_decimal c.args.range.now.lo = c.as_bytes.ensures.value ∙ simp to_z-of_z at c.format.ensures.text in
    let hi : c.as_bytes-2.result.now ≡ signed_decimal c.args.range.now.hi = c.as_bytes-2.ensures.value ∙ simp to_z-of_z at c.format-2.ensures.text in
    rw (lo, hi) at c.add.ensures
