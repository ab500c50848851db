-- What rows a tree has once a box was set.
use Rattle.std.proofs.Common.{◌≡◌, ℕ, ℤ, true, List, Option, Some, None, refl, sym, ap, ◌∙◌, inl, inr}
use Rattle.std.proofs.lemmas.Bool.{cases_Bool, true≢false}
use Rattle.std.proofs.lemmas.Option.{same_Some}
use Rattle.rt_box.specs.declared.interval.Interval.{Interval}
use Rattle.rt_check.specs.Shadow.{ShadowLists}
use Rattle.rt_tree.specs.Lists.{rows_of, box_of}
use Rattle.rt_tree.specs.Replacing.{ReplacesOther}
use Rattle.rt_live.specs.Rows.{with_box, by_id}
use Rattle.rt_live.specs.Changes.{same_box, stays}
use Rattle.rt_live.proofs.ById.{rises-by_id, box_at-by_id, with_box-same, replaced}
use Rattle.rt_live.proofs.Found.{same_box-Decides}

pub staying-box : (was now : Option (List Interval)) → stays was now ≡ true → was ≡ now
staying-box None None e = refl
staying-box None (Some rect) e = absurd (true≢false (sym e))
staying-box (Some rect) None e = absurd (true≢false (sym e))
staying-box (Some rect) (Some other) e = ap (λ (r : List Interval). Some r) ((same_box-Decides rect other).0 e)

module _ {D : ℕ} where
  -- a box that stands at an id already is set
  pub kept : (s : ShadowLists D) (id : ℤ) (o : Option (List Interval)) → box_of s id ≡ o → by_id (rows_of s) ≡ with_box (by_id (rows_of s)) id o
  kept s id o was = sym (with_box-same (by_id (rows_of s)) id o (rises-by_id (rows_of s)) (box_at-by_id (rows_of s) id ∙ was))

  pub replaced-either : (old new : ShadowLists D) (id : ℤ) (b rect : List Interval) → box_of old id ≡ Some b → (box_of old id ≡ Some rect → new ≡ old) → ReplacesOther old new id rect →
      by_id (rows_of new) ≡ with_box (by_id (rows_of old)) id (Some rect)
  replaced-either old new id b rect was same other = elim (cases_Bool (same_box b rect)) [
    | inl e ↦
        let here : box_of old id ≡ Some rect = was ∙ ap (λ (r : List Interval). Some r) ((same_box-Decides b rect).0 e) in
        ap (λ (s : ShadowLists D). by_id (rows_of s)) (same here) ∙ kept old id (Some rect) here
    | inr e ↦ replaced old new id rect (other (λ here. true≢false (sym ((same_box-Decides b rect).1 (same_Some b rect (sym was ∙ here))) ∙ e)))
  ]
