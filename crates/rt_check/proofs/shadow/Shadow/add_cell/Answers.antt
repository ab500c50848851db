use Rattle.std.proofs.Common.{◌≡◌, sym, ap, ◌∙◌, ◌<◌, ◌-◌, ◌∷◌, ◌++◌, [], get_or, set, length, Some, Ok, Err, Result, arith}
use Rattle.std.specs.Prelude.{slice_get, OnOk}
use Rattle.std.specs.Option.{option_map_or}
use Rattle.std.proofs.lemmas.Option.{slice_get-get_or}
use Rattle.std.proofs.Math.Seq.{map-set_same}
use Rattle.rt_check.specs.declared.node.NodeRow.{NodeRow}
use Rattle.rt_check.specs.Shadow.{with_cell}
use Rattle.rt_check.proofs.shadow.Shadow.add_cell.Goals as goal

OnOk-map : {T E : Type 0} (r : Result T E) {P Q : Type 0} → OnOk r P → (P → Q) → OnOk r Q
OnOk-map (Ok t) p f = f p
OnOk-map (Err e) p f = tt

pub invariant_of-self : goal.invariant_of-self
invariant_of-self g c =
    let items = c.self.inside.nodes.items in
    let at = c.len-count.result - 1 in
    let same : c.index_mut-node.result.now.number ≡ (get_or items at c.index_mut-node.result.now).number = ap (λ n. n.number) c.index_mut-node.ensures.value in
    record {
      some = c.self.invariant.some;
      few = c.self.invariant.few;
      numbers = c.self.invariant.numbers ∙ sym (map-set_same (λ (n : NodeRow g.row.D). n.number) items at _ c.index_mut-node.result.now same);
      ids = c.self.invariant.ids;
      numbers_differ = c.self.invariant.numbers_differ;
      ids_differ = c.self.invariant.ids_differ;
    }

pub returns-clause-ok : goal.returns-clause-ok
returns-clause-ok g c =
    let inside = c.self.inside in
    let items = inside.nodes.items in
    let node = c.index_mut-node.result.now in
    let change : NodeRow g.row.D → NodeRow g.row.D = λ n. record n { cells = n.cells ++ c.args.cell ∷ [] } in
    let long : c.len-count.result ≡ length items = c.len-count.ensures ∙ inside.nodes.ok.0 in
    let within : length items - 1 < length items = omega (arith, long, c.if-count-eq0.false) in
    let there : slice_get items (length items - 1) ≡ Some node =
    slice_get-get_or items (length items - 1) node within
    ∙ ap (λ k. Some (get_or items (k - 1) node)) (sym long) ∙ ap Some (sym c.index_mut-node.ensures.value) in
    OnOk-map c.push.result c.push.ensures.ok
    (λ grown.
    ap (λ cells. record {
      capacity = inside.capacity;
      root = inside.root;
      nodes = set items (c.len-count.result - 1) (record node { cells = cells });
      rows = inside.rows.items;
    }) grown
    ∙ ap (λ k. record { capacity = inside.capacity; root = inside.root; nodes = set items (k - 1) (change node); rows = inside.rows.items }) long
    ∙ ap (λ o. record {
      capacity = inside.capacity;
      root = inside.root;
      nodes = option_map_or (λ x. set items (length items - 1) (change x)) o items;
      rows = inside.rows.items;
    }) (sym there)
    ∙ ap (λ s. with_cell s c.args.cell) c.self.view_is)
