use Rattle.std.proofs.Common.{◌≡◌, ◌<◌, ◌≤◌, pos, get_or, List, [], ◌++◌, take, drop, length, map, arith, append-nil, refl, ap, ◌∙◌}
use Rattle.std.proofs.Math.ListN.{set}
use Rattle.std.proofs.lemmas.List.{take_all, get_or_default}
use Rattle.std.proofs.lemmas.List.Edits.{map_over_more}
use Rattle.rt_tree_join.specs.declared.joining.Pair.{Pair}
use Rattle.rt_tree_join.specs.Itself.{in_order}
use Rattle.rt_tree_join.proofs.Later.{drop-past}
use Rattle.rt_tree_join.proofs.itself.put_in_order.Goals as goal

pub loop-pair-init : goal.loop-pair-init
loop-pair-init c = refl

pub returns : goal.returns
returns c =
    let xs = c.args.pairs.now.items in
    let given = c.deref_mut-pair-items.result.now in
    let ys = c.loop-pair.pair-items in
    let i = c.loop-pair.pair-index in
    let same : given ≡ xs = c.deref_mut-pair-items.ensures.value in
    let long : length ys ≡ length given = c.loop-pair.auto.pair-items in
    let all : length given ≤ i = omega (arith, c.loop-pair-test.false) in
    let done : ys ≡ map in_order xs =
    c.loop-pair.invariant
    ∙ ap (λ (zs : List Pair). map in_order (take i given) ++ zs) (drop-past given i all)
    ∙ append-nil (map in_order (take i given)) ∙ ap (map in_order) (take_all i given all ∙ same) in
    let rest : drop (length ys) xs ≡ [] = drop-past xs (length ys) (omega (arith, long, ap length same)) in
    ap (λ (zs : List Pair). take c.args.pairs.now.len (ys ++ zs)) rest ∙ ap (take c.args.pairs.now.len) (append-nil ys)
    ∙ take_all c.args.pairs.now.len ys (omega (arith, long, c.deref_mut-pair-items.ensures.len)) ∙ done

pub loop-pair-preserved : goal.loop-pair-preserved
loop-pair-preserved c =
    let given = c.deref_mut-pair-items.result.now in
    let ys = c.loop-pair.pair-items in
    let i = c.loop-pair.pair-index in
    let none : Pair = record { left = pos 0; right = pos 0 } in
    let x = get_or ys i none in
    let within : i < length given = c.loop-pair-test.true in
    let read : x ≡ get_or ys i x = get_or_default ys i none x (omega (arith, within, c.loop-pair.auto.pair-items)) in
    ap (λ (p : Pair). set ys i p) c.in_order.ensures ∙ map_over_more in_order given ys i x within c.loop-pair.invariant read
