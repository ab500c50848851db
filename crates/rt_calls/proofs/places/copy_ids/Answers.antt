use Rattle.std.proofs.Common.{◌≡◌, ℤ, List, ◌++◌, length, take, drop, arith, rules, ap, subst, ◌∙◌}
use Rattle.std.proofs.lemmas.List.{length-take}
use Rattle.rt_calls.specs.Buffers.{Copies}
use Rattle.rt_calls.specs.Places.{IsOrder}
use Rattle.rt_calls.specs.declared.code.Code.TheVariants.{Done}
use Rattle.rt_calls.proofs.places.copy_ids.Goals as goal

pub returns : goal.returns
returns g c =
    let told = c.ids-all.ensures in
    let given = c.args.ids.now in
    let some = c.items_from-some.result.now in
    let new = c.copy_from_slice.new.self ++ drop (length some) given in
    let same : c.copy_from_slice.new.self ≡ some = search rules in
    let copied : Copies (take (length given) (drop c.args.from c.ids-all.result.now)) given new Done = (
      omega (arith, length-take (length given) (drop c.args.from c.ids-all.result.now)),
      ap (λ (l : List ℤ). l ++ drop (length some) given) same ∙ ap (λ (l : List ℤ). l ++ drop (length l) given) c.items_from-some.ensures,
    ) in (
      told.count,
      subst (λ (order : List ℤ). IsOrder {D = g.row.D} c.args.tree.now.lists order) told.order (record { count = told.count; once = told.once; each = told.ids }),
      subst (λ (order : List ℤ). Copies (take (length given) (drop c.args.from order)) given new Done) told.order copied,
    )
