use Rattle.std.proofs.Common.{◌≡◌, ◌<◌, ◌^◌, get_or, length, unsigned_abs, arith, ap, ◌∙◌, sym, inl, inr, rules}
use Rattle.std.proofs.lemmas.Bool.{cases_lt}
use Rattle.std.proofs.lemmas.List.{get_or_default}
use Rattle.rt_box.proofs.Equality.{Decides-box_eq}
use Rattle.rt_tree_node.specs.declared.cell.Cell.{Cell}
use Rattle.rt_tree_node.specs.Places.{key_of, cells_of, cells_at, no_cell, hull_at}
use Rattle.rt_tree_place.proofs.Refitted.{named-at_once}
use Rattle.rt_tree_place.proofs.fit.has_least_box.Goals as goal

pub cell_for-cell-requires : goal.cell_for-cell-requires
cell_for-cell-requires g c =
    let few = c.requires.few in
    let below : c.args.key < 2 ^ 63 = omega (arith, c.slab_facts.ensures.keys c.args.key c.requires.present, c.requires.keys) in
    search rules

pub returns : goal.returns
returns g c =
    let cells = cells_at c.args.nodes.now c.args.parent in
    let at = c.position-at.result in
    let same = ap cells_of c.node_at-node.ensures in
    let named = c.requires.named in
    let within : at < length cells = elim (cases_lt at (length cells)) [
      | inl below ↦ below
      | inr past ↦ absurd (c.position-at.ensures.first named.0 no_cell (omega (arith, named.1.0))
          (ap (λ cs. (get_or cs named.0 no_cell).number) (sym same) ∙ named.1.1 ∙ sym c.cell_for-cell.ensures.number))
    ] in
    let names : (d : Cell g.row.D) → key_of (get_or cells at d) ≡ c.args.key = λ d. ap (λ cs. unsigned_abs (get_or cs at d).number) same
    ∙ ap unsigned_abs (c.position-at.ensures.found d (omega (arith, within, ap length same)) ∙ c.cell_for-cell.ensures.number) in
    let found : (get_or cells at c.cell.result).rect ≡ c.cell.result.rect = ap (λ cs. (get_or cs at c.cell.result).rect) same ∙ ap (λ x. x.rect) (sym c.cell.ensures) in
    let least : c.cell_for-cell.result.rect ≡ hull_at c.args.nodes.now c.args.key = c.cell_for-cell.ensures.rect ∙ c.hull_at-hull.ensures.value in
    let decides = Decides-box_eq c.cell.result.rect c.cell_for-cell.result.rect c.eq.result c.eq.ensures in (
      (λ equal. record {
        at = at;
        within = within;
        names = names;
        rect = λ d. ap (λ x. x.rect) (get_or_default cells at d c.cell.result within) ∙ found ∙ decides.0 equal ∙ least;
      }),
      (λ box.
          let one : at ≡ box.at = named-at_once c.args.key cells at box.at c.cell.result within box.within c.requires.once (names c.cell.result) (box.names c.cell.result) in
          decides.1 (sym found ∙ ap (λ k. (get_or cells k c.cell.result).rect) one ∙ box.rect c.cell.result ∙ sym least)),
    )
