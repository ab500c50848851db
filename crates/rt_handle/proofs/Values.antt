-- The machine values of a loose box and of a handle. Assumes `Logic`.
use Rattle.std.proofs.Common.{◌≡◌, ℕ, zero, suc, ◌<◌, ◌^◌, List, [], ◌∷◌, ◌++◌, refl, subst, ◌∙◌, lit<, w64}
use mathlib.Core.Bool.{Bool, true, false, not, ◌&&◌}
use lib.Dec.{T}
use seplogic.Ra.Ura.{Ura}
use mir.Syntax.{impl, tnil, dnil, ty_ptr}
use mir.Raw.{raw as bare}
use mir.Val.{Val, vptr, vint, vstruct, vcons, vnil, of_list, has_ty, WT}
use base.Logic.{never, fst∗}
use base.Fml.{ftrue}
use types.Logic.{Logic, sem}
use types.Kit.{Item, Goal, Seq, Step, step, ‵, ◌$◌, move, drop, fsplit, fjoin, fpick, fpack, rewrite, feq_i, feq_l, flt_i, flt_l}
use denote.RattleType.{RattleType, Valss}
use denote.Builtin.{RawPtr, u64, unit}
use denote.Signature.{Slot, plain}
use denote.Laws.{Is, shows}
use denote.Memory.{lone}
use denote.RawPtr.{Ptr, block_ptr, null_ptr, ptr_val, in_a_block}
use denote.Steps.{nothing, peeks}
use denote.Param.{layout}
use denote.Param.Laws.{Laws}
use denote.Struct.Struct.{within}
use denote.Struct.Owning.{shape}
use Rattle.core.specs.declared.alloc.Allocator.{Ghosts}
use Rattle.core.proofs.alloc.Calls.{Al, handle_tells}
use Rattle.core.proofs.cell.Inside.{Good}
use Rattle.std_alloc.specs.Box.Ownership.{box_owns}
use Rattle.std_alloc.proofs.ResultValues.{and_tt}
use Rattle.rt_handle.specs.contracts.loose.Loose as loose
use Rattle.rt_handle.specs.contracts.handle.Handle as handle
use Rattle.rt_handle.specs.contracts.handle.Handle.{the_row as Handle}
use Rattle.rt_handle.specs.declared.object.Object.{Object}
use Rattle.rt_handle.specs.contracts.object.Object as object
use Rattle.rt_handle.specs.Owned.{handle_owns, count_of}
use Rattle.std.specs.contracts.impls.GlobalAllocator.TheImpl.{ghosts}
use Rattle.std.specs.Prelude.{Option, Some, None, IsSome}
use Rattle.std.specs.contracts.alloc.Global as heap
use Rattle.std.proofs.Handle.{heap_val, heap_Tells}

abbrev pub slot_at : {n : ℕ} → ℕ → List (Slot n) → Slot n
slot_at k [] = plain (λ _. unit)
slot_at zero (s ∷ ss) = s
slot_at (suc k) (s ∷ ss) = slot_at k ss

abbrev pub both : Val → Val → Val
both v w = vstruct (vcons v (vcons w vnil))

pub both_tt : (x y : Bool) → T x → T y → T (x && (y && true))
both_tt true true s t = tt
both_tt true false s t = absurd t
both_tt false y s t = absurd s

module _ (R Z : RattleType) (L : Laws Z) (g : Ghosts Z.Denot) where
  abbrev pub Loose : RattleType
  Loose = loose.the_row R Z g

  abbrev al : Al
  al = record { row = Z; laws = L; g = g; d = impl [] tnil dnil; drops = impl [] tnil dnil }

  pub loose_good : (b o : ℕ) (h : Val) → Good (layout Z) h → T (has_ty (layout Z) h && true) × WT (both (vptr b o) h)
  loose_good b o h fits = (and_tt (has_ty (layout Z) h) fits.0, (tt, (fits.1, tt)))

  module _ {M : Type 1} {𝓤 : Ura M} {𝓛 : Logic 𝓤} {K : Type 0} {Γ : List (Item 𝓤)} {G : Goal 𝓤 𝓛.H} where
    pub loose_out : K → (d : Loose.Denot) (vs : List Val)
        → ((b o : ℕ) (h : Val) → d.at ≡ block_ptr b o → vs ≡ both (vptr b o) h ∷ [] → Good (layout Z) h → Seq K 𝓛 (‵ (box_owns (g.dealloc_token d.alloc) R (block_ptr b o) d.value) ∷ ‵ (Z.own_val d.alloc (h ∷ [])) ∷ Γ) G)
        → Seq K 𝓛 (‵ (Loose.own_val d vs) ∷ Γ) G
    loose_out t d vs k =
        fsplit t $ fpick t (λ vss. fsplit t $ feq_l t (λ ev. fsplit t $ feq_l t (λ ep. fsplit t $ handle_tells al t d.alloc vss.1.0 (λ h ea fits. move t (1 ∷ []) $ drop t $ move t (1 ∷ []) $
        in_a_block t d.at (λ p. box_owns (g.dealloc_token d.alloc) R p d.value) (fst∗ 𝓤 (never 𝓤) (sem 𝓛 (g.dealloc_token d.alloc (bare (lone R.mir)) null_ptr))) (λ b o e. k b o h e
        (subst (λ (p : Ptr). vs ≡ vstruct (of_list (ptr_val p ∷ h ∷ [])) ∷ []) e
        (subst (λ (ws : List Val). vs ≡ vstruct (of_list (ptr_val d.at ∷ (ws ++ []))) ∷ []) ea (subst (λ (ps : List Val). vs ≡ vstruct (of_list (ps ++ (vss.1.0 ++ []))) ∷ []) ep ev))) fits)))))

    pub loose_in : K → (b o : ℕ) (h : Val) (a : Z.Denot) (x : R.Denot)
        → Step K 𝓛 (‵ (Loose.own_val (record { at = block_ptr b o; alloc = a; value = x }) (both (vptr b o) h ∷ [])) ∷ Γ) G (‵ (box_owns (g.dealloc_token a) R (block_ptr b o) x) ∷ ‵ (Z.own_val a (h ∷ [])) ∷ Γ) G
    loose_in t b o h a x = step (λ s. let v : Val = both (vptr b o) h in
        nothing t $ move t (2 ∷ 0 ∷ []) $ fjoin t $ feq_i t (List Val) (vptr b o ∷ []) (vptr b o ∷ []) refl $ fjoin t $ feq_i t (List Val) (v ∷ []) (v ∷ []) refl $ fjoin t $
        fpack t (Valss (RawPtr ∷ Z ∷ [])) (within (shape (loose.the_type R Z g)) (block_ptr b o, (a, tt)) (v ∷ [])) (vptr b o ∷ [], (h ∷ [], tt)) $ fjoin t $ s)

-- a handle, whose last field is the heap's
abbrev pub handle_val : Ptr → ℕ → Val
handle_val p n = vstruct (vcons (ptr_val p) (vcons (vint w64 n) (vcons heap_val vnil)))

pub heap_good : Good (layout heap.the_row) heap_val
heap_good = (tt, ((tt, tt), tt))

pub ptr_good : (p : Ptr) → Good ty_ptr (ptr_val p)
ptr_good (block_ptr b o) = (tt, tt)
ptr_good null_ptr = (tt, record { fits = lit< tt })

pub handle_good : (p : Ptr) (n : ℕ) → n < 2 ^ 64 → Good (layout Handle) (handle_val p n)
handle_good (block_ptr b o) n f = (tt, (tt, (record { fits = f }, (heap_good.1, tt))))
handle_good null_ptr n f = (tt, (record { fits = lit< tt }, (record { fits = f }, (heap_good.1, tt))))

module _ {M : Type 1} {𝓤 : Ura M} {𝓛 : Logic 𝓤} {K : Type 0} {Γ : List (Item 𝓤)} {G : Goal 𝓤 𝓛.H} where
  pub handle_out : K → (d : Handle.Denot) (vs : List Val)
      → (vs ≡ handle_val d.at d.count ∷ [] → d.count < 2 ^ 64 → Seq K 𝓛 (‵ (handle_owns d.alloc d.at d.count d.held) ∷ ‵ ((heap.the_row).own_val d.alloc (heap_val ∷ [])) ∷ Γ) G)
      → Seq K 𝓛 (‵ (Handle.own_val d vs) ∷ Γ) G
  handle_out t d vs k =
      fsplit t $ fpick t (λ vss. fsplit t $ feq_l t (λ ev. fsplit t $ feq_l t (λ ep. fsplit t $ fsplit t $ feq_l t (λ en. flt_l t (λ fits. fsplit t $ move t (1 ∷ []) $ drop t $
      peeks t heap.the_row (Is heap.the_row) (shows 𝓛 heap.the_row) d.alloc vss.1.1.0 (λ is. let ea = heap_Tells d.alloc vss.1.1.0 is in
      rewrite t 0 (λ (us : List Val). ‵ ((heap.the_row).own_val d.alloc us)) ea refl $ move t (1 ∷ []) $
      k (ev ∙ (λ i. vstruct (of_list (ep i ++ (en i ++ (ea i ++ [])))) ∷ [])) fits))))))

  pub handle_in : K → (p : Ptr) (n : ℕ) (a : (heap.the_row).Denot) (x : Option Object) → n < 2 ^ 64
      → Step K 𝓛 (‵ (Handle.own_val (record { at = p; count = n; alloc = a; held = x }) (handle_val p n ∷ [])) ∷ Γ) G (‵ (handle_owns a p n x) ∷ ‵ ((heap.the_row).own_val a (heap_val ∷ [])) ∷ Γ) G
  handle_in t p n a x fits = step (λ s. let v : Val = handle_val p n in
      nothing t $ move t (2 ∷ 0 ∷ []) $ fjoin t $ flt_i t n (2 ^ 64) fits $ feq_i t (List Val) (vint w64 n ∷ []) (vint w64 n ∷ []) refl $ fjoin t $ fjoin t $ feq_i t (List Val) (ptr_val p ∷ []) (ptr_val p ∷ []) refl $ fjoin t $ feq_i t (List Val) (v ∷ []) (v ∷ []) refl $ fjoin t $
      fpack t (Valss (RawPtr ∷ u64 ∷ (heap.the_field).row ∷ [])) (within (shape handle.the_type) (p, (n, ((heap.the_field).into a, tt))) (v ∷ [])) (ptr_val p ∷ [], (vint w64 n ∷ [], (heap_val ∷ [], tt))) $ fjoin t $ s)

  pub count_told : K → (a : (heap.the_row).Denot) (p : Ptr) (n : ℕ) (x : Option Object) → (n ≡ count_of x → Seq K 𝓛 (‵ (handle_owns a p n x) ∷ Γ) G) → Seq K 𝓛 (‵ (handle_owns a p n x) ∷ Γ) G
  count_told t a p n None k = fpick t (λ e. fpack t (n ≡ 0) (λ _. ftrue) e $ k e)
  count_told t a p n (Some y) k = fsplit t $ fpick t (λ e. fpack t (n ≡ 1) (λ _. ftrue) e $ fjoin t $ k e)

  pub held_out : K → (a : (heap.the_row).Denot) (p : Ptr) (n : ℕ) (x : Option Object) → IsSome x
      → ((b o : ℕ) (y : Object) → p ≡ block_ptr b o → Some y ≡ x → Seq K 𝓛 (‵ (box_owns (ghosts.dealloc_token a) object.the_row (block_ptr b o) y) ∷ Γ) G) → Seq K 𝓛 (‵ (handle_owns a p n x) ∷ Γ) G
  held_out t a p n None some k = absurd (subst (λ (b : Bool). T (not b)) some tt)
  held_out t a p n (Some y) some k = fsplit t $ drop t $ in_a_block t p (λ q. box_owns (ghosts.dealloc_token a) object.the_row q y) (fst∗ 𝓤 (never 𝓤) (sem 𝓛 (ghosts.dealloc_token a (bare (lone (object.the_row).mir)) null_ptr))) (λ b o e. k b o y e refl)
