use Rattle.std.proofs.Common.{◌≡◌, ◌+◌, ◌≤◌, eqb, List, [], length, drop, arith, rules, refl, ap, ◌∙◌, sym, subst}
use Rattle.slab.specs.Slab.{HasRoomFor}
use Rattle.rt_tree_pack.specs.Steps.{MayPack}
use Rattle.rt_map.specs.LevelSteps.{RestoresUpTo}
use Rattle.rt_map.proofs.PackedLevel.{was, may-pack, restores-more}
use Rattle.std.proofs.lemmas.Result.{IfOk-from_err}
use Rattle.std.proofs.lemmas.Bool.{false≢true}
use Rattle.std.proofs.lemmas.List.{drop_all}
use Rattle.rt_tree_node.specs.declared.cell.Cell.{Cell}
use Rattle.rt_map.specs.declared.shape.Shape.{Shape}
use Rattle.rt_map.specs.Meant.{Awaits, sizes_at}
use Rattle.rt_map.proofs.MeantLevel.{no_shape, sizes-next, next-node, none-awaited, made-more}
use Rattle.rt_map.proofs.restore_level.restore_level.Goals as goal

pub pack_node-cell-requires : goal.pack_node-cell-requires
pack_node-cell-requires g c =
    let few = c.requires.few in
    let s = c.args.tree.now in
    let t = c.loop-shape.tree in
    let run = c.split_at.result.0.now in
    let rest = c.split_at.result.1.now in
    let left = c.loop-shape.left.now in
    let fits = c.fits_next-fits.ensures.fits c.if-not-fits.false in
    let may : MayPack t c.args.level run =
    may-pack s t c.args.level _ _ c.args.cells.now left run rest c.loop-shape.next.items c.split_at.ensures.front c.split_at.ensures.back c.loop-shape.invariant.steps refl fits c.requires.below.below in
    let room : HasRoomFor t.nodes 1 = fits.room in
    let keys : t.nodes.capacity ≤ 4611686018427387904 = omega (arith, c.loop-shape.invariant.steps.room, c.requires.keys) in
    search rules

pub loop-shape-preserved : goal.loop-shape-preserved
loop-shape-preserved g c =
    let s = c.args.tree.now in
    let t = c.loop-shape.tree in
    let u = c.pack_node-cell.new.tree in
    let run = c.split_at.result.0.now in
    let rest = c.split_at.result.1.now in
    let left = c.loop-shape.left.now in
    let fits = c.fits_next-fits.ensures.fits c.if-not-fits.false in
    record {
      steps = subst (λ ns. RestoresUpTo s u c.args.level c.args.cells.now rest ns) (sym c.in_ok-push.ensures.items)
          (restores-more s t c.args.level _ _ c.args.cells.now left run rest c.loop-shape.next.items c.split_at.ensures.front c.split_at.ensures.back c.loop-shape.invariant.steps refl fits
          u c.pack_node-cell.result c.pack_node-cell.ensures);
      meant = λ nodes waits.
          let found = next-node t c.args.level _ _ left c.loop-shape.next.items nodes
          (subst (λ ks. Awaits t c.args.level ks left c.loop-shape.next.items nodes)
          (sizes-next c.args.level c.args.shapes.now c.loop-shape.shape-index no_shape c.loop-shape-test.true c.if-shape-level.false)
          (c.loop-shape.invariant.meant nodes waits)) in
          let linked = (was s t c.args.level _ _ c.args.cells.now left run rest c.loop-shape.next.items c.split_at.ensures.front c.split_at.ensures.back c.loop-shape.invariant.steps refl fits).linked in
          subst (λ ns. Awaits u c.args.level (sizes_at c.args.level (drop (c.loop-shape.shape-index + 1) c.args.shapes.now)) rest ns nodes) (sym c.in_ok-push.ensures.items)
          (made-more t u c.args.level run rest c.loop-shape.next.items c.pack_node-cell.result linked c.pack_node-cell.ensures _ _ left nodes
          c.split_at.ensures.front c.split_at.ensures.back found);
    }

pub returns-in_err-push-clause-steps : goal.returns-in_err-push-clause-steps
returns-in_err-push-clause-steps g c = IfOk-from_err _ _ c.from_residual.ensures.0

pub returns-in_err-push-clause-meant : goal.returns-in_err-push-clause-meant
returns-in_err-push-clause-meant g c = λ nodes waits. IfOk-from_err _ _ c.from_residual.ensures.0

pub returns-then-not-fits-clause-meant : goal.returns-then-not-fits-clause-meant
returns-then-not-fits-clause-meant g c = λ nodes waits.
    let t = c.loop-shape.tree in
    let left = c.loop-shape.left.now in
    let found = next-node t c.args.level _ _ left c.loop-shape.next.items nodes
    (subst (λ ks. Awaits t c.args.level ks left c.loop-shape.next.items nodes)
    (sizes-next c.args.level c.args.shapes.now c.loop-shape.shape-index no_shape c.loop-shape-test.true c.if-shape-level.false)
    (c.loop-shape.invariant.meant nodes waits)) in
    absurd (false≢true (c.if-not-fits.ensures.all found.fits))

pub returns-clause-meant : goal.returns-clause-meant
returns-clause-meant g c = λ nodes waits.
    let t = c.loop-shape.tree in
    let left = c.loop-shape.left.now in
    let all : drop c.loop-shape.shape-index c.args.shapes.now ≡ [] = drop_all c.loop-shape.shape-index c.args.shapes.now c.loop-shape-test.false in
    let done = subst (λ (xs : List Shape). Awaits t c.args.level (sizes_at c.args.level xs) left c.loop-shape.next.items nodes) all (c.loop-shape.invariant.meant nodes waits) in
    let gone = none-awaited t c.args.level left c.loop-shape.next.items nodes done in
    absurd (false≢true (c.if-is_empty.ensures ∙ ap (λ (cs : List (Cell g.row.D)). eqb (length cs) 0) gone))

pub split_at-requires : goal.split_at-requires
split_at-requires g c = (c.fits_next-fits.ensures.fits c.if-not-fits.false).within
