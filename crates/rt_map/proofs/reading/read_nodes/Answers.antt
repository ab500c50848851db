use Rattle.std.proofs.Common.{◌≡◌, ℕ, ◌+◌, ◌*◌, ◌∷◌, ◌++◌, true, false, eqb, List, [], length, map, take, drop, arith, append-nil, ap, ◌∙◌, sym}
use Rattle.std.specs.List.{flat_map}
use Rattle.std.proofs.lemmas.Bool.{false≢true, ne_eqb, eqb-true}
use Rattle.std.proofs.lemmas.List.{nil_from_length}
use Rattle.rt_check.specs.declared.node.NodeRow.{NodeRow}
use Rattle.rt_check.specs.Conditions.{is_leaf, leaf_cells}
use Rattle.rt_tree.specs.Lists.{row_in}
use Rattle.rt_map.specs.declared.bytes_fault.BytesFault.TheVariants.{Memory}
use Rattle.rt_map.specs.TreeBytes.{node_bytes}
use Rattle.rt_map.specs.ReadingInside.{shape_in}
use Rattle.rt_map.proofs.Faults.{err-matches}
use Rattle.rt_map.proofs.Pieces.{first-node, no-nodes, run-of, leaf-rows, leaf-added, inner-added, added}
use Rattle.rt_map.proofs.AnyBytes.{AreBytes, bytes-small, node-more, leaf-more, inner-more}
use Rattle.rt_map.proofs.reading.read_nodes.Goals as goal

pub returns-then-length-after-clause-read : goal.returns-then-length-after-clause-read
returns-then-length-after-clause-read g c = λ nodes are same.
    let inv = c.loop-left.invariant.read nodes are same in
    let left = c.loop-left.left.now in
    let first = first-node left inv.0 inv.1 inv.2 (omega (arith, c.loop-left-test.true)) in
    let long = first.long in
    let cells = ap (λ n. n * (8 + 8 * g.row.D)) (c.from-cells.ensures ∙ first.count) in
    absurd (omega (arith, c.if-length-after.true, c.saturating_mul-length.ensures, cells, long, ap length c.split_at.ensures.back))

pub returns-in_err-read_rows-clause-read : goal.returns-in_err-read_rows-clause-read
returns-in_err-read_rows-clause-read g c = λ nodes are same.
    let inv = c.loop-left.invariant.read nodes are same in
    let left = c.loop-left.left.now in
    let after = c.split_at.ensures.back in
    let size = c.saturating_mul-length.result in
    let first = first-node left inv.0 inv.1 inv.2 (omega (arith, c.loop-left-test.true)) in
    let run = run-of left c.split_at-in-loop-left.result.0.now c.split_at-in-loop-left.result.1.now c.from-cells.result size inv.0 first c.requires.few c.from-cells.ensures
    c.saturating_mul-length.ensures (c.split_at-in-loop-left.ensures.front ∙ ap (take size) after) (c.split_at-in-loop-left.ensures.back ∙ ap (drop size) after) in
    let leaf : is_leaf run.first.node ≡ true = ap (λ l. eqb l 0) (sym run.first.level ∙ c.if-level-eq0.true) in
    err-matches c.from_residual.result c.in_err-read_rows.field-0.0 _ (λ fault. fault ≡ Memory) c.from_residual.ensures.1
    (c.in_err-read_rows.ensures.read run.first.node.cells (leaf-rows left inv.0 run.first leaf) run.cells)

pub loop-left-preserved-in_ok-read_rows : goal.loop-left-preserved-in_ok-read_rows
loop-left-preserved-in_ok-read_rows g c = record {
  read = λ nodes are same.
      let inv = c.loop-left.invariant.read nodes are same in
      let left = c.loop-left.left.now in
      let after = c.split_at.ensures.back in
      let size = c.saturating_mul-length.result in
      let first = first-node left inv.0 inv.1 inv.2 (omega (arith, c.loop-left-test.true)) in
      let run = run-of left c.split_at-in-loop-left.result.0.now c.split_at-in-loop-left.result.1.now c.from-cells.result size inv.0 first c.requires.few c.from-cells.ensures
      c.saturating_mul-length.ensures (c.split_at-in-loop-left.ensures.front ∙ ap (take size) after) (c.split_at-in-loop-left.ensures.back ∙ ap (drop size) after) in
      let leaf : is_leaf run.first.node ≡ true = ap (λ l. eqb l 0) (sym run.first.level ∙ c.if-level-eq0.true) in
      let rows = c.in_ok-read_rows.ensures.read run.first.node.cells (leaf-rows left inv.0 run.first leaf) run.cells in (
        run.first.others,
        run.first.rest,
        run.back,
        inv.3,
        added shape_in c.loop-left.parts.shapes.items c.push.new.self.items _ run.first.node run.first.others inv.0 _ run.first.is run.shape inv.4 c.in-Ok.ensures.items,
        leaf-added c.loop-left.parts.rows.items c.read_rows.new.rows.items _ run.first.node run.first.others inv.0 run.first.is leaf inv.5 rows,
      );
  count =
      let done = c.loop-left.invariant.count in
      let left = c.loop-left.left.now in
      let after = c.split_at.ensures.back in
      let size = c.saturating_mul-length.result in
      let small : AreBytes c.args.bytes.now = bytes-small c.args.bytes.now (λ i. c.type_inv.bytes i) in
      let more = node-more c.args.bytes.now left c.split_at-in-loop-left.result.0.now c.split_at-in-loop-left.result.1.now c.from-cells.result size done.0 small done.1
      (omega (arith, c.loop-left-test.true)) c.requires.few c.from-cells.ensures c.saturating_mul-length.ensures
      (omega (arith, c.if-length-after.false, ap length after)) (c.split_at-in-loop-left.ensures.front ∙ ap (take size) after) (c.split_at-in-loop-left.ensures.back ∙ ap (drop size) after) in
      let leaf : is_leaf more.node ≡ true = ap (λ l. eqb l 0) (more.level ∙ c.if-level-eq0.true) in
      let rows = c.in_ok-read_rows.ensures.count c.from-cells.result more.long in
      (done.0 ++ more.node ∷ [], more.whole, omega (arith, rows, done.2, leaf-more done.0 more.node leaf, more.cells), done.3);
}

pub loop-left-preserved : goal.loop-left-preserved
loop-left-preserved g c = record {
  read = λ nodes are same.
      let inv = c.loop-left.invariant.read nodes are same in
      let left = c.loop-left.left.now in
      let after = c.split_at.ensures.back in
      let size = c.saturating_mul-length.result in
      let first = first-node left inv.0 inv.1 inv.2 (omega (arith, c.loop-left-test.true)) in
      let run = run-of left c.split_at-in-loop-left.result.0.now c.split_at-in-loop-left.result.1.now c.from-cells.result size inv.0 first c.requires.few c.from-cells.ensures
      c.saturating_mul-length.ensures (c.split_at-in-loop-left.ensures.front ∙ ap (take size) after) (c.split_at-in-loop-left.ensures.back ∙ ap (drop size) after) in
      let inner : is_leaf run.first.node ≡ false = ne_eqb run.first.node.level 0 (λ none. c.if-level-eq0.false (run.first.level ∙ none)) in (
        run.first.others,
        run.first.rest,
        run.back,
        inv.3,
        added shape_in c.loop-left.parts.shapes.items c.push.new.self.items _ run.first.node run.first.others inv.0 _ run.first.is run.shape inv.4 c.in-Ok.ensures.items,
        inner-added c.loop-left.parts.rows.items _ run.first.node run.first.others inv.0 run.first.is inner inv.5,
      );
  count =
      let done = c.loop-left.invariant.count in
      let left = c.loop-left.left.now in
      let after = c.split_at.ensures.back in
      let size = c.saturating_mul-length.result in
      let small : AreBytes c.args.bytes.now = bytes-small c.args.bytes.now (λ i. c.type_inv.bytes i) in
      let more = node-more c.args.bytes.now left c.split_at-in-loop-left.result.0.now c.split_at-in-loop-left.result.1.now c.from-cells.result size done.0 small done.1
      (omega (arith, c.loop-left-test.true)) c.requires.few c.from-cells.ensures c.saturating_mul-length.ensures
      (omega (arith, c.if-length-after.false, ap length after)) (c.split_at-in-loop-left.ensures.front ∙ ap (take size) after) (c.split_at-in-loop-left.ensures.back ∙ ap (drop size) after) in
      let inner : is_leaf more.node ≡ false = ne_eqb more.node.level 0 (λ none. c.if-level-eq0.false (sym more.level ∙ none)) in
      (done.0 ++ more.node ∷ [], more.whole, omega (arith, done.2, inner-more done.0 more.node inner), done.3);
}

pub returns-then-is_empty-clause-read : goal.returns-then-is_empty-clause-read
returns-then-is_empty-clause-read g c = λ nodes are same.
    let inv = c.loop-left.invariant.read nodes are same in
    let none = no-nodes c.loop-left.left.now inv.0 inv.2 (omega (arith, c.loop-left-test.false)) in
    let shapes = c.loop-left.parts.shapes.items in
    let rows = c.loop-left.parts.rows.items in
    record {
      capacity = inv.3;
      shapes = sym (append-nil shapes) ∙ ap (λ (ns : List (NodeRow g.row.D)). shapes ++ map shape_in ns) (sym none) ∙ inv.4;
      rows = sym (append-nil rows) ∙ ap (λ (ns : List (NodeRow g.row.D)). rows ++ map row_in (leaf_cells ns)) (sym none) ∙ inv.5;
    }

pub returns-clause-read : goal.returns-clause-read
returns-clause-read g c = λ nodes are same.
    let inv = c.loop-left.invariant.read nodes are same in
    let none = no-nodes c.loop-left.left.now inv.0 inv.2 (omega (arith, c.loop-left-test.false)) in
    let gone : c.loop-left.left.now ≡ [] = inv.2 ∙ ap (λ (ns : List (NodeRow g.row.D)). flat_map node_bytes ns) none in
    absurd (false≢true (c.if-is_empty.ensures ∙ ap (λ (bs : List ℕ). eqb (length bs) 0) gone))

pub returns-then-is_empty-clause-count : goal.returns-then-is_empty-clause-count
returns-then-is_empty-clause-count g c =
    let done = c.loop-left.invariant.count in
    let none : c.loop-left.left.now ≡ [] = nil_from_length c.loop-left.left.now (eqb-true (length c.loop-left.left.now) 0 (sym c.if-is_empty.ensures)) in
    let bytes = flat_map node_bytes done.0 in
    (done.0, sym (append-nil bytes) ∙ ap (λ (xs : List ℕ). bytes ++ xs) (sym none) ∙ done.1, done.2, done.3)
