use Rattle.std.proofs.Common.{◌≡◌, ℕ, length, Vec, Global, arith, ap, sym, subst}
use Rattle.rt_check.specs.Shadow.{ShadowLists}
use Rattle.rt_tree.specs.Lists.{IsInShape, rows_of}
use Rattle.rt_tree_outside.specs.Outside.{outside}
use Rattle.rt_map.proofs.BytesTaken.{taken-again}
use Rattle.rt_map.proofs.bytes.to_bytes.Goals as goal

pub returns-clause-again : goal.returns-clause-again
returns-clause-again g c =
    let lists = c.args.tree.now.lists in
    let t = c.arena.result.now in
    let same : outside t ≡ lists = c.arena.ensures.lists in
    let capacity = c.arena.ensures.kept.whole.fitted.cap in
    let few = c.is_small.ensures in
    taken-again c.bytes_of.result (λ (v : Vec ℕ Global). v.items) (outside t) c.bytes_of.ensures.bytes c.bytes_of.ensures.written
    (subst IsInShape (sym same) c.is_in_shape.ensures) capacity (omega (arith, few.rows, few.entries, ap (λ (s : ShadowLists g.row.D). length (rows_of s)) same))
