use Rattle.std.proofs.Common.{arith}
use Rattle.std.proofs.lemmas.Int.{ints}
use Rattle.rt_box.proofs.Windows.{IsUnlimited-replicate}
use Rattle.rt_box.proofs.window.Window.all.Goals as goal

pub returns : goal.returns
returns g c =
    IsUnlimited-replicate g.row.D _
    (λ z. ((λ h. omega (arith, ints, h)), (λ h. (omega (arith, ints), omega (arith, ints)))))
    (λ z. ((λ h. omega (arith, ints, h)), (λ h. (omega (arith, ints), omega (arith, ints)))))
