use Rattle.std.proofs.Common.{◌≡◌, ◌+◌, ◌<◌, ◌≤◌, [], length, vec_len, arith, rules, refl, ap, ◌∙◌, sym, subst}
use Rattle.slab.specs.Slab.{ContainsKey}
use Rattle.rt_box.specs.Capacity.{most_cells}
use Rattle.rt_tree_node.specs.Places.{cells_at}
use Rattle.rt_tree_pack.specs.Steps.{MayFill, IsBelowRoot, Fills}
use Rattle.std.proofs.lemmas.Bool.{false≢true, eqb-true}
use Rattle.rt_map.specs.LevelSteps.{FitsRoot, RestoresUpTo}
use Rattle.rt_map.specs.Meant.{sizes_at, Awaits}
use Rattle.rt_map.proofs.Restored.{below-none, root-present, below-root, lifted-room, below-more, may-fill, none-yet, restored}
use Rattle.std.proofs.lemmas.Result.{IfOk-from_err}
use Rattle.rt_map.proofs.MeantTree.{none-made, Reached, reached-top, reached-empty, fits-top, higher, awaits-level, made-higher, made-top}
use Rattle.rt_map.proofs.restore.restore.Goals.{then-loop-tree-test+else-not-is_empty, else-loop-tree-test}
use Rattle.rt_map.proofs.restore.restore.Goals as goal

pub loop-tree-init : goal.loop-tree-init
loop-tree-init g c = record {
  steps = below-none c.args.tree.now c.args.rows.items c.requires.bare c.requires.entered;
  meant = λ meant is room. none-made c.args.tree.now c.args.shapes.now c.args.rows.items meant c.requires.bare is;
}

pub lift_root-requires : goal.lift_root-requires
lift_root-requires g c =
    let few = c.requires.few in
    let t = c.loop-tree.tree in
    let present : ContainsKey t.nodes t.root = root-present c.args.tree.now t c.args.rows.items c.loop-tree.cells.items c.loop-tree.invariant.steps in
    let height : t.level < 255 = omega (arith, c.root_level-top.ensures.byte, c.loop-tree-test.true) in
    search rules

pub restore_level-requires : goal.restore_level-requires
restore_level-requires g c =
    let few = c.requires.few in
    let s = c.args.tree.now in
    let t = c.loop-tree.tree in
    let v = c.lift_root.new.tree in
    let rows = c.args.rows.items in
    let items = c.loop-tree.cells.items in
    let cells : c.deref.result.now ≡ items = c.deref.ensures.value in
    let below : IsBelowRoot v t.level c.deref.result.now = subst (λ xs. IsBelowRoot v t.level xs) (sym cells) (below-root s t rows items c.loop-tree.invariant.steps v c.lift_root.ensures) in
    let keys : v.nodes.capacity ≤ 4611686018427387904 = omega (arith, lifted-room s t rows items c.loop-tree.invariant.steps v c.lift_root.ensures, c.requires.keys) in
    search rules

pub loop-tree-preserved : goal.loop-tree-preserved
loop-tree-preserved g c =
    let s = c.args.tree.now in
    let t = c.loop-tree.tree in
    let v = c.lift_root.new.tree in
    let u = c.restore_level.new.tree in
    let next = c.in-Some.next.items in
    let made : RestoresUpTo v u t.level c.deref.result.now [] next = rw c.in-Some.is at c.in_ok-next.ensures.steps in
    let same : RestoresUpTo v u t.level c.loop-tree.cells.items [] next = subst (λ xs. RestoresUpTo v u t.level xs [] next) c.deref.ensures.value made in
    record {
      steps = below-more s t c.args.rows.items c.loop-tree.cells.items c.loop-tree.invariant.steps v c.lift_root.ensures u next same;
      meant = λ meant is room.
          let below = c.loop-tree.invariant.meant meant is room in
          let less : t.level < meant.level = omega (arith, c.loop-tree-test.true, c.root_level-top.ensures.value, is.top) in
          let items = c.loop-tree.cells.items in
          let up = higher s t c.args.rows.items items c.loop-tree.invariant.steps c.args.shapes.now meant below less in
          let waits = awaits-level s t c.args.rows.items items c.loop-tree.invariant.steps c.args.shapes.now meant below less v c.lift_root.ensures room in
          let waits_here = subst (λ cs. Awaits v t.level (sizes_at t.level c.args.shapes.now) cs [] up.nodes) (sym c.deref.ensures.value) waits in
          let done : Awaits u t.level [] [] next up.nodes = rw c.in-Some.is at (c.in_ok-next.ensures.meant up.nodes waits_here) in
          made-higher s t c.args.rows.items items c.loop-tree.invariant.steps c.args.shapes.now meant below less v c.lift_root.ensures u next same done;
    }

pub fill-requires : goal.fill-requires
fill-requires g c =
    let few = c.requires.few in
    let s = c.args.tree.now in
    let t = c.loop-tree.tree in
    let rows = c.args.rows.items in
    let items = c.loop-tree.cells.items in
    let inv = c.loop-tree.invariant.steps in
    let cells : c.deref-2.result.now ≡ items = c.deref-2.ensures.value in
    let fits : FitsRoot t (length items) = subst (FitsRoot t) (c.len.ensures ∙ c.loop-tree.cells.ok.0) (c.fits_root-fits.ensures.fits c.if-not-fits.false) in
    let high = inv.opened.fitted.cap.1 in
    let present : ContainsKey t.nodes t.root = root-present s t rows items inv in
    let room : length (cells_at t.nodes t.root) + length c.deref-2.result.now ≤ most_cells = omega (arith, none-yet s t rows items inv fits, ap length cells, fits.most, high) in
    let named : MayFill t t.root t.level c.deref-2.result.now = subst (λ xs. MayFill t t.root t.level xs) (sym cells) (may-fill s t rows items inv fits) in
    search rules

pub returns-clause-steps : goal.returns-clause-steps
returns-clause-steps g c = λ done.
    let s = c.args.tree.now in
    let t = c.loop-tree.tree in
    let items = c.loop-tree.cells.items in
    let fits : FitsRoot t (length items) = subst (FitsRoot t) (c.len.ensures ∙ c.loop-tree.cells.ok.0) (c.fits_root-fits.ensures.fits c.if-not-fits.false) in
    restored s t c.args.rows.items items c.loop-tree.invariant.steps fits c.fill.new.tree
    (subst (λ xs. Fills t c.fill.new.tree t.root t.level xs) c.deref-2.ensures.value c.fill.ensures) c.requires.bare.idle

pub returns-in_err-next-clause-steps : goal.returns-in_err-next-clause-steps
returns-in_err-next-clause-steps g c = IfOk-from_err _ _ c.from_residual.ensures.0

pub returns-in_err-next-clause-meant : goal.returns-in_err-next-clause-meant
returns-in_err-next-clause-meant g c = λ meant is room. IfOk-from_err _ _ c.from_residual.ensures.0

pub returns-in_default-clause-meant : goal.returns-in_default-clause-meant
returns-in_default-clause-meant g c = λ meant is room.
    let s = c.args.tree.now in
    let t = c.loop-tree.tree in
    let v = c.lift_root.new.tree in
    let rows = c.args.rows.items in
    let items = c.loop-tree.cells.items in
    let inv = c.loop-tree.invariant.steps in
    let below = c.loop-tree.invariant.meant meant is room in
    let less : t.level < meant.level = omega (arith, c.loop-tree-test.true, c.root_level-top.ensures.value, is.top) in
    let up = higher s t rows items inv c.args.shapes.now meant below less in
    let waits = awaits-level s t rows items inv c.args.shapes.now meant below less v c.lift_root.ensures room in
    let waits_here = subst (λ cs. Awaits v t.level (sizes_at t.level c.args.shapes.now) cs [] up.nodes) (sym c.deref.ensures.value) waits in
    let none : ⊥ = rw c.in_default.is at (c.in_ok-next.ensures.meant up.nodes waits_here) in
    absurd none

pub returns-then-not-fits-clause-meant : goal.returns-then-not-fits-clause-meant
returns-then-not-fits-clause-meant g c = λ meant is room.
    let t = c.loop-tree.tree in
    let items = c.loop-tree.cells.items in
    let below = c.loop-tree.invariant.meant meant is room in
    let cap = c.loop-tree.invariant.steps.opened.fitted.cap in
    let reached : Reached t items meant = elim c.loop-tree-test.branch [
      | then-loop-tree-test+else-not-is_empty w ↦ reached-empty t c.args.shapes.now _ items meant cap below (sym c.loop-tree.cells.ok.0 ∙ eqb-true (vec_len c.loop-tree.cells) 0 (sym w.if-not-is_empty.ensures))
      | else-loop-tree-test w ↦ reached-top t c.args.shapes.now _ items meant below (omega (arith, w.loop-tree-test.false, c.root_level-top.ensures.value, is.top))
    ] in
    absurd (false≢true (c.if-not-fits.ensures.all (subst (FitsRoot t) (sym (c.len.ensures ∙ c.loop-tree.cells.ok.0)) (fits-top t items meant reached))))

pub returns-clause-meant : goal.returns-clause-meant
returns-clause-meant g c = λ meant is room.
    let s = c.args.tree.now in
    let t = c.loop-tree.tree in
    let items = c.loop-tree.cells.items in
    let below = c.loop-tree.invariant.meant meant is room in
    let cap = c.loop-tree.invariant.steps.opened.fitted.cap in
    let reached : Reached t items meant = elim c.loop-tree-test.branch [
      | then-loop-tree-test+else-not-is_empty w ↦ reached-empty t c.args.shapes.now _ items meant cap below (sym c.loop-tree.cells.ok.0 ∙ eqb-true (vec_len c.loop-tree.cells) 0 (sym w.if-not-is_empty.ensures))
      | else-loop-tree-test w ↦ reached-top t c.args.shapes.now _ items meant below (omega (arith, w.loop-tree-test.false, c.root_level-top.ensures.value, is.top))
    ] in (
      refl,
      made-top s t c.args.rows.items items c.loop-tree.invariant.steps c.fill.new.tree meant reached
          (subst (λ xs. Fills t c.fill.new.tree t.root t.level xs) c.deref-2.ensures.value c.fill.ensures),
    )
