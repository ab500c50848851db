use Rattle.std.proofs.Common.{◌≡◌, ap, ◌∙◌, Some, None, map}
use Rattle.std.proofs.Math.Facts.{to_z-of_z}
use Rattle.std.specs.Prelude.{position, slice_get}
use Rattle.std.specs.Ordering.{int_eq}
use Rattle.rt_check.specs.Conditions.{entry_of}
use Rattle.rt_check.proofs.Known.{find-some, find-none}
use Rattle.rt_check.proofs.shadow.Shadow.row.Goals as goal

pub returns-in-Some : goal.returns-in-Some
returns-in-Some g c =
    let items = c.self.inside.rows.items in
    let keys = c.self.inside.ids.keys in
    let place : Some c.in-Some.at ≡ position (int_eq c.args.id) (map (λ x. x.id) items) =
    c.in-Some.ensures.index ∙ ap (λ z. position (int_eq z) keys) (to_z-of_z c.ranges.id) ∙ ap (position (int_eq c.args.id)) c.self.invariant.ids in
    c.at.ensures ∙ ap (λ l. slice_get l c.in-Some.at) c.as_slice.ensures.value
    ∙ find-some (λ x. x.id) (int_eq c.args.id) items c.in-Some.at place
    ∙ ap (λ s. entry_of s.rows c.args.id) c.self.view_is

pub returns-in-None : goal.returns-in-None
returns-in-None g c =
    let items = c.self.inside.rows.items in
    let keys = c.self.inside.ids.keys in
    let place : None ≡ position (int_eq c.args.id) (map (λ x. x.id) items) =
    c.in-None.ensures.index ∙ ap (λ z. position (int_eq z) keys) (to_z-of_z c.ranges.id) ∙ ap (position (int_eq c.args.id)) c.self.invariant.ids in
    find-none (λ x. x.id) (int_eq c.args.id) items place
    ∙ ap (λ s. entry_of s.rows c.args.id) c.self.view_is
