use Rattle.std.proofs.Common.{◌≡◌, ◌<◌, ◌^◌, get_or, length, arith, ap, ◌∙◌, sym, subst, inl, inr, rules}
use Rattle.std.proofs.lemmas.Bool.{cases_lt}
use Rattle.std.proofs.lemmas.Option.{same_Some}
use Rattle.rt_tree_node.specs.Places.{cells_of, cells_at, no_cell}
use Rattle.rt_box.specs.Rect.{IsBox}
use Rattle.rt_tree_place.proofs.fit.refit.Goals as goal

pub cell_for-cell-requires : goal.cell_for-cell-requires
cell_for-cell-requires g c =
    let few = c.requires.few in
    let below : c.args.key < 2 ^ 63 = omega (arith, c.slab_facts.ensures.keys c.args.key c.requires.present, c.requires.keys) in
    search rules

-- the position that was found is one of a cell
found : goal.set_cell-requires
found g c =
    let few = c.requires.few in
    let same = ap cells_of c.node_at-node.ensures in
    let named = c.requires.named in
    let within : c.position-at.result < length (cells_at c.args.nodes.now c.args.parent) = elim (cases_lt c.position-at.result (length (cells_at c.args.nodes.now c.args.parent))) [
      | inl below ↦ below
      | inr past ↦ absurd (c.position-at.ensures.first named.0 no_cell (omega (arith, named.1.0))
          (ap (λ cs. (get_or cs named.0 no_cell).number) (sym same) ∙ named.1.1 ∙ sym c.cell_for-cell.ensures.number))
    ] in
    let above = c.requires.above in
    search rules

pub set_cell-requires : goal.set_cell-requires
set_cell-requires = found

pub returns : goal.returns
returns g c n has =
    let same : c.node_at-node.result.now ≡ n = same_Some c.node_at-node.result.now n (sym c.node_at-node.ensures ∙ has) in
    let cells = ap cells_of has in
    let named = c.requires.named in
    let within : c.position-at.result < length n.cells = elim (cases_lt c.position-at.result (length n.cells)) [
      | inl below ↦ below
      | inr past ↦ absurd (c.position-at.ensures.first named.0 no_cell (omega (arith, named.1.0, ap length cells))
          (ap (λ m. (get_or m.cells named.0 no_cell).number) same ∙ ap (λ cs. (get_or cs named.0 no_cell).number) (sym cells) ∙ named.1.1 ∙ sym c.cell_for-cell.ensures.number))
    ] in
    record {
      at = c.position-at.result;
      cell = c.cell_for-cell.result;
      within = within;
      number_is = c.cell_for-cell.ensures.number;
      same_number = sym (c.position-at.ensures.found c.cell_for-cell.result (omega (arith, within, ap (λ m. length m.cells) same)))
          ∙ ap (λ m. (get_or m.cells c.position-at.result c.cell_for-cell.result).number) same;
      rect_is = c.cell_for-cell.ensures.rect ∙ c.hull_at-hull.ensures.value;
      is_box = subst (λ r. IsBox g.row.D r) (sym c.cell_for-cell.ensures.rect) c.hull_at-hull.ensures.is_box;
      nodes = c.set_cell.ensures n has;
    }
