use Rattle.std.proofs.Common.{sym, subst, arith}
use Rattle.rt_calls.specs.Packing.{MayPack}
use Rattle.rt_calls.proofs.packing.pack_any.Goals as goal

pub returns-in_ok-pack-in-1-clause-packed : goal.returns-in_ok-pack-in-1-clause-packed
returns-in_ok-pack-in-1-clause-packed c =
    let packed = c.in_ok-pack-in-1.ensures.packed in (
      (omega (arith, c.in-1.is), omega (arith, c.in-1.is)),
      subst (λ axes. MayPack axes c.args.capacity c.args.ids.now c.args.boxes.now) (sym c.in-1.is) packed.0,
      (c.in-1.is, packed.1),
    )

pub returns-in_ok-pack-in-2-clause-packed : goal.returns-in_ok-pack-in-2-clause-packed
returns-in_ok-pack-in-2-clause-packed c =
    let packed = c.in_ok-pack-in-2.ensures.packed in (
      (omega (arith, c.in-2.is), omega (arith, c.in-2.is)),
      subst (λ axes. MayPack axes c.args.capacity c.args.ids.now c.args.boxes.now) (sym c.in-2.is) packed.0,
      (c.in-2.is, packed.1),
    )

pub returns-in_ok-pack-in-3-clause-packed : goal.returns-in_ok-pack-in-3-clause-packed
returns-in_ok-pack-in-3-clause-packed c =
    let packed = c.in_ok-pack-in-3.ensures.packed in (
      (omega (arith, c.in-3.is), omega (arith, c.in-3.is)),
      subst (λ axes. MayPack axes c.args.capacity c.args.ids.now c.args.boxes.now) (sym c.in-3.is) packed.0,
      (c.in-3.is, packed.1),
    )
