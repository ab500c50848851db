use Rattle.std.proofs.Common.{◌≡◌, ◌<◌, ap, sym, subst, ◌∙◌, refl, Some, None, Option, length, arith, rules, w64}
use Rattle.std.proofs.Math.Facts.{to_z-of_z}
use Rattle.std.specs.Int.RustNames.{FitsSigned}
use Rattle.std.specs.Prelude.{position}
use Rattle.std.specs.Ordering.{int_eq}
use Rattle.rt_check.specs.declared.node.RawCell.{RawCell}
use Rattle.rt_check.specs.declared.node.NodeRow.{NodeRow}
use Rattle.rt_check.specs.Shadow.{numbers_of}
use Rattle.rt_check.specs.Conditions.{node_of}
use Rattle.rt_check.specs.Fits.{FitsListed}
use Rattle.rt_check.proofs.Known.{find-none}
use Rattle.rt_check.proofs.Hulls.{fit-within, fit-listed}
use Rattle.rt_check.proofs.fits.fit_of.Goals as goal

pub offset_bounds-fits-place : goal.offset_bounds-fits-place
offset_bounds-fits-place g c =
    let nodes = c.args.shadow.now.nodes in
    let number = c.args.cell.now.number in
    let fits : FitsSigned w64 number = search rules in
    let e : Some c.in-Some.place ≡ position (int_eq number) (numbers_of nodes) =
    sym c.in-Some.is ∙ c.place_of.ensures ∙ ap (λ z. position (int_eq z) (numbers_of nodes)) (to_z-of_z fits) in
    let within : c.in-Some.place < length c.args.fits.now = fit-within nodes c.args.fits.now number c.in-Some.place c.requires e in
    omega (arith, within)

pub bounds-fits-place : goal.bounds-fits-place
bounds-fits-place g c =
    let nodes = c.args.shadow.now.nodes in
    let number = c.args.cell.now.number in
    let fits : FitsSigned w64 number = search rules in
    let e : Some c.in-Some.place ≡ position (int_eq number) (numbers_of nodes) =
    sym c.in-Some.is ∙ c.place_of.ensures ∙ ap (λ z. position (int_eq z) (numbers_of nodes)) (to_z-of_z fits) in
    fit-within nodes c.args.fits.now number c.in-Some.place c.requires e

pub returns-in-Some : goal.returns-in-Some
returns-in-Some g c =
    let nodes = c.args.shadow.now.nodes in
    let number = c.args.cell.now.number in
    let fits : FitsSigned w64 number = search rules in
    let e : Some c.in-Some.place ≡ position (int_eq number) (numbers_of nodes) =
    sym c.in-Some.is ∙ c.place_of.ensures ∙ ap (λ z. position (int_eq z) (numbers_of nodes)) (to_z-of_z fits) in
    subst (λ (fit : Option (RawCell g.row.D)). FitsListed (node_of nodes number) fit) (sym (c.as_ref.ensures.value ∙ c.index-fits-place.is))
    (fit-listed nodes c.args.fits.now number c.in-Some.place c.requires e c.index-fits-place.result)

pub returns-in-None : goal.returns-in-None
returns-in-None g c =
    let nodes = c.args.shadow.now.nodes in
    let number = c.args.cell.now.number in
    let fits : FitsSigned w64 number = search rules in
    let e : None ≡ position (int_eq number) (numbers_of nodes) =
    sym c.in-None.is ∙ c.place_of.ensures ∙ ap (λ z. position (int_eq z) (numbers_of nodes)) (to_z-of_z fits) in
    subst (λ (node : Option (NodeRow g.row.D)). FitsListed node None) (find-none (λ (n : NodeRow g.row.D). n.number) (int_eq number) nodes e) refl
