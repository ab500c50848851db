use Rattle.std.proofs.Common.{◌≡◌, ◌<◌, ◌^◌, get_or, length, arith, ap, ◌∙◌, sym, inl, inr, rules}
use Rattle.std.proofs.lemmas.Bool.{cases_lt}
use Rattle.std.proofs.lemmas.List.{get_or_default}
use Rattle.rt_tree_node.specs.Places.{cells_of, cells_at, no_cell}
use Rattle.rt_tree_place.proofs.fit.box_above.Goals as goal

pub node_number-wanted-requires : goal.node_number-wanted-requires
node_number-wanted-requires g c =
    let few = c.requires.few in
    let below : c.args.key < 2 ^ 63 = omega (arith, c.slab_facts.ensures.keys c.args.key c.requires.present, c.requires.keys) in
    search rules

pub returns : goal.returns
returns g c =
    let cells = cells_at c.args.nodes.now c.args.parent in
    let at = c.position-at.result in
    let same = ap cells_of c.node_at-node.ensures in
    let named = c.requires.named in
    let within : at < length cells = elim (cases_lt at (length cells)) [
      | inl below ↦ below
      | inr past ↦ absurd (c.position-at.ensures.first named.0 no_cell (omega (arith, named.1.0))
          (ap (λ cs. (get_or cs named.0 no_cell).number) (sym same) ∙ named.1.1 ∙ sym c.node_number-wanted.ensures))
    ] in
    let number = ap (λ cs. (get_or cs at no_cell).number) same ∙ (c.position-at.ensures.found no_cell (omega (arith, within, ap length same)) ∙ c.node_number-wanted.ensures) in
    let rect : c.cell.result.rect ≡ (get_or cells at no_cell).rect = ap (λ x. x.rect) c.cell.ensures ∙ ap (λ cs. (get_or cs at c.cell.result).rect) (sym same)
    ∙ ap (λ x. x.rect) (get_or_default cells at c.cell.result no_cell within) in
    (at, (within, number), rect)
