use Rattle.std.proofs.Common.{◌≡◌, ◌∙◌, ◌+◌, ◌<◌, ℕ, Option, Some, None, SomeIff, arith, ap}
use Rattle.std.specs.Prelude.{◌-◌, ◌*◌, ◌/◌}
use Rattle.std.proofs.Math.Nat.{lt-mul-div-succ, mul_comm}
use Rattle.rt_live.proofs.Once.{length-by_id}
use Rattle.rt_live.proofs.nodes.nodes_with.Goals as goal

sum-is : (P : Type 0) (o : Option ℕ) (x v : ℕ) → o ≡ Some x → SomeIff o P v → x ≡ v
sum-is P None x v e h = absurd (let none : ⊥ = cc in none)
sum-is P (Some y) x v e h = let same : y ≡ v = h.1 in let it : x ≡ y = cc in it ∙ same

pub returns : goal.returns
returns g c =
    let s = c.args.tree.now.lists in
    let most : ℕ = c.args.least - 1 in
    let rows = sum-is _ c.checked_add.result c.in_ok-rows.rows _ c.in_ok-rows.ensures.ok_part c.checked_add.ensures in
    let nodes = sum-is _ c.checked_add-2.result c.in_ok-nodes.nodes _ c.in_ok-nodes.ensures.ok_part c.checked_add-2.ensures in
    let less : c.in_ok-rows.rows < most * (c.in_ok-rows.rows / most + 1) = lt-mul-div-succ c.in_ok-rows.rows (omega arith) in
    let product : c.in_ok-nodes.nodes * most ≡ most * (c.in_ok-rows.rows / most + 1) = ap (λ n. n * most) nodes ∙ mul_comm (c.in_ok-rows.rows / most + 1) most in
    omega (arith, less, product, rows, length-by_id s c.is_in_shape.ensures, c.len.ensures)
