use Rattle.std.proofs.Common.{◌≡◌, ◌+◌, ◌<◌, ◌∷◌, ◌++◌, [], take, length, true, false, arith, rules, ap, ◌∙◌, sym, subst, falls, le_antisymm}
use Rattle.std.specs.List.{All}
use Rattle.std.proofs.lemmas.List.{take_more, take_all}
use Rattle.std.proofs.lemmas.List.Elements.{All-push}
use Rattle.rt_box.specs.Rect.{IsBox}
use Rattle.rt_tree_node.specs.declared.cell.Cell.{Cell}
use Rattle.rt_tree_pack.specs.Packing.{HasEntries}
use Rattle.rt_tree_pack.specs.Steps.{Enters}
use Rattle.rt_tree_pack.proofs.Entered.{entries-more, first-repeated}
use Rattle.rt_tree_pack.proofs.entries.enter.Goals as goal

pub returns-then-not-is_new-clause-repeated : goal.returns-then-not-is_new-clause-repeated
returns-then-not-is_new-clause-repeated g c =
    let rows = c.args.rows.now in
    let row = c.index-rows-at.result in
    let i = c.loop-at.at in
    let m = c.loop-at.leaves in
    let n = c.enter_id.new.leaves in
    let within : i < length rows = omega (arith, c.loop-at-test.true) in
    let old : c.in_ok-is_new.is_new ≡ false = search rules in
    let there : Enters m n row.number c.args.leaf false = subst (Enters m n row.number c.args.leaf) old c.in_ok-is_new.ensures in
    first-repeated m rows i row c.loop-at.invariant.entries within c.index-rows-at.is there

pub loop-at-preserved : goal.loop-at-preserved
loop-at-preserved g c =
    let rows = c.args.rows.now in
    let row = c.index-rows-at.result in
    let i = c.loop-at.at in
    let m = c.loop-at.leaves in
    let n = c.enter_id.new.leaves in
    let within : i < length rows = omega (arith, c.loop-at-test.true) in
    let next : take (i + 1) rows ≡ take i rows ++ row ∷ [] = take_more rows i row within ∙ ap (λ (x : Cell g.row.D). take i rows ++ x ∷ []) (sym c.index-rows-at.is) in
    let new : c.in_ok-is_new.is_new ≡ true = search rules in
    let learns : Enters m n row.number c.args.leaf true = subst (Enters m n row.number c.args.leaf) new c.in_ok-is_new.ensures in
    record {
      entries = subst (HasEntries n) (sym next) (entries-more m n (take i rows) row c.args.leaf c.loop-at.invariant.entries learns.0 learns.1);
      len = omega (arith, learns.1.len, c.loop-at.invariant.len);
      boxes = subst (All (λ (x : Cell g.row.D). IsBox g.row.D x.rect)) (sym next)
          (All-push (λ (x : Cell g.row.D). IsBox g.row.D x.rect) (take i rows) row c.loop-at.invariant.boxes c.facts.ensures);
    }

pub returns-clause-boxes : goal.returns-clause-boxes
returns-clause-boxes g c =
    let rows = c.args.rows.now in
    subst (All (λ (x : Cell g.row.D). IsBox g.row.D x.rect)) (take_all c.loop-at.at rows (omega (arith, c.loop-at-test.false))) c.loop-at.invariant.boxes

pub offset_bounds-rows-at : goal.offset_bounds-rows-at
offset_bounds-rows-at g c = c.loop-at.auto.at-end

pub bounds-rows-at : goal.bounds-rows-at
bounds-rows-at g c = c.loop-at-test.true

pub loop-at-smaller : goal.loop-at-smaller
loop-at-smaller g c = falls (length c.args.rows.now) c.loop-at.at c.loop-at-test.true

pub returns-clause-entries : goal.returns-clause-entries
returns-clause-entries g c = subst (HasEntries c.loop-at.leaves) (take_all c.loop-at.at c.args.rows.now c.loop-at-test.false) c.loop-at.invariant.entries

pub returns-clause-len : goal.returns-clause-len
returns-clause-len g c = c.loop-at.invariant.len ∙ le_antisymm c.loop-at.auto.at-end c.loop-at-test.false
