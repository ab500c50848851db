-- The machine values of a pass and of a lease. Assumes `Logic`.
use Rattle.std.proofs.Common.{◌≡◌, List, [], ◌∷◌, ◌++◌, refl, subst, ◌∙◌}
use mathlib.Core.Bool.{Bool, not}
use lib.Dec.{T}
use seplogic.Ra.Ura.{Ura}
use mir.Val.{Val, vstruct, vcons, vnil, of_list}
use base.Fml.{Lft}
use types.Logic.{Logic}
use types.Kit.{Item, Goal, Seq, Step, step, ‵, ◌$◌, move, drop, fsplit, fjoin, fpick, fpack, rewrite, feq_i, feq_l}
use denote.RattleType.{Valss}
use denote.Laws.{Is, shows}
use denote.Param.{layout}
use denote.RawPtr.{Ptr}
use denote.Steps.{nothing, peeks}
use denote.Struct.Lending.{lent_at}
use denote.Struct.Struct.{within}
use denote.Struct.Owning.{shape}
use Rattle.core.proofs.cell.Inside.{Good}
use Rattle.std.specs.contracts.alloc.Global as heap
use Rattle.std.proofs.Handle.{heap_val, heap_Tells}
use Rattle.std.specs.Prelude.{Option, Some, None, IsSome}
use Rattle.rt_handle.proofs.Values.{heap_good}
use Rattle.rt_handle.specs.Lent.{object_lent, pass_owns}
use Rattle.rt_handle.specs.declared.object.Object.{Object}
use Rattle.rt_handle.specs.contracts.object.Object as object
use Rattle.rt_handle.specs.contracts.pass.Pass as pass
use Rattle.rt_handle.specs.contracts.pass.Pass.{the_row as Pass}
use Rattle.rt_handle.specs.contracts.pass.Lease as lease
use Rattle.rt_handle.specs.contracts.pass.Lease.{the_row as Lease}

abbrev pub right_val : Val
right_val = vstruct (vcons heap_val vnil)

pub right_good : Good (layout Pass) right_val
right_good = (tt, (heap_good.1, tt))

-- a pass, whose one field is the heap's
module _ {M : Type 1} {𝓤 : Ura M} {𝓛 : Logic 𝓤} {K : Type 0} {Γ : List (Item 𝓤)} {G : Goal 𝓤 𝓛.H} where
  pub pass_out : K → (d : Pass.Denot) (vs : List Val)
      → (vs ≡ right_val ∷ [] → Seq K 𝓛 (‵ (pass_owns d.at d.held d.life d.share) ∷ ‵ ((heap.the_row).own_val d.alloc (heap_val ∷ [])) ∷ Γ) G)
      → Seq K 𝓛 (‵ (Pass.own_val d vs) ∷ Γ) G
  pass_out t d vs k =
      fsplit t $ fpick t (λ vss. fsplit t $ feq_l t (λ ev. fsplit t $ move t (1 ∷ []) $ drop t $
      peeks t heap.the_row (Is heap.the_row) (shows 𝓛 heap.the_row) d.alloc vss.0 (λ is. let ea = heap_Tells d.alloc vss.0 is in
      rewrite t 0 (λ (us : List Val). ‵ ((heap.the_row).own_val d.alloc us)) ea refl $ move t (1 ∷ []) $
      k (ev ∙ (λ i. vstruct (of_list (ea i ++ [])) ∷ [])))))

  pub pass_in : K → (d : Pass.Denot)
      → Step K 𝓛 (‵ (Pass.own_val d (right_val ∷ [])) ∷ Γ) G (‵ (pass_owns d.at d.held d.life d.share) ∷ ‵ ((heap.the_row).own_val d.alloc (heap_val ∷ [])) ∷ Γ) G
  pass_in t d = step (λ s.
      nothing t $ move t (2 ∷ 0 ∷ []) $ fjoin t $ feq_i t (List Val) (right_val ∷ []) (right_val ∷ []) refl $ fjoin t $
      fpack t (Valss ((heap.the_field).row ∷ [])) (within (shape pass.the_type) ((heap.the_field).into d.alloc, tt) (right_val ∷ [])) (heap_val ∷ [], tt) $ fjoin t $ s)

-- a lease, whose one field is the heap's
module _ {M : Type 1} {𝓤 : Ura M} {𝓛 : Logic 𝓤} {K : Type 0} {Γ : List (Item 𝓤)} {G : Goal 𝓤 𝓛.H} where
  pub lease_out : K → (d : Lease.Denot) (vs : List Val)
      → (vs ≡ right_val ∷ [] → Seq K 𝓛 (‵ (pass_owns d.at d.held d.life d.share) ∷ ‵ ((heap.the_row).own_val d.alloc (heap_val ∷ [])) ∷ Γ) G)
      → Seq K 𝓛 (‵ (Lease.own_val d vs) ∷ Γ) G
  lease_out t d vs k =
      fsplit t $ fpick t (λ vss. fsplit t $ feq_l t (λ ev. fsplit t $ move t (1 ∷ []) $ drop t $
      peeks t heap.the_row (Is heap.the_row) (shows 𝓛 heap.the_row) d.alloc vss.0 (λ is. let ea = heap_Tells d.alloc vss.0 is in
      rewrite t 0 (λ (us : List Val). ‵ ((heap.the_row).own_val d.alloc us)) ea refl $ move t (1 ∷ []) $
      k (ev ∙ (λ i. vstruct (of_list (ea i ++ [])) ∷ [])))))

  pub lease_in : K → (d : Lease.Denot)
      → Step K 𝓛 (‵ (Lease.own_val d (right_val ∷ [])) ∷ Γ) G (‵ (pass_owns d.at d.held d.life d.share) ∷ ‵ ((heap.the_row).own_val d.alloc (heap_val ∷ [])) ∷ Γ) G
  lease_in t d = step (λ s.
      nothing t $ move t (2 ∷ 0 ∷ []) $ fjoin t $ feq_i t (List Val) (right_val ∷ []) (right_val ∷ []) refl $ fjoin t $
      fpack t (Valss ((heap.the_field).row ∷ [])) (within (shape lease.the_type) ((heap.the_field).into d.alloc, tt) (right_val ∷ [])) (heap_val ∷ [], tt) $ fjoin t $ s)

module _ {M : Type 1} {𝓤 : Ura M} {𝓛 : Logic 𝓤} {K : Type 0} {Γ : List (Item 𝓤)} {G : Goal 𝓤 𝓛.H} where
  -- what is lent of an open handle
  pub lent_out_of : K → (p : Ptr) (held : Option Object) (κ : Lft) → IsSome held
      → ((x : Object) → Some x ≡ held → Seq K 𝓛 (‵ (lent_at object.the_row p x κ) ∷ Γ) G) → Seq K 𝓛 (‵ (object_lent p held κ) ∷ Γ) G
  lent_out_of t p None κ some k = absurd (subst (λ (b : Bool). T (not b)) some tt)
  lent_out_of t p (Some x) κ some k = k x refl
