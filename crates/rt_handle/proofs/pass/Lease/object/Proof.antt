-- `object` follows the pointer to the object, which the lease lends.
use Rattle.std.proofs.Common.{◌≡◌, ℕ, List, [], ◌∷◌, refl, ◌∙◌}
use mir.Syntax.{Fn, named}
use mir.Val.{Val, vptr}
use base.Logic.{SProp, ent, emp, id⊢, fst∗}
use base.Fml.{Lft, Fml, ftrue, fsep, fhide, flft}
use prog.Wp.{WpFn}
use types.Logic.{sem}
use types.Kit.{‵, raw, ◌⊛◌, prop, at_ret, ◌$◌, ◌∵◌, !, qed, by, move, keep, drop, split, join, fsplit, fjoin, use0, use1, rewrite, regoal, feq_i}
use types.Run.{stop, fld, hop, addr, of_opd, first, blocks, exec, returns, enter}
use types.ByLocal.{alloc_all, pass_all, free_all, look_at, get, through, sets, sets_last, env}
use contract.Monad.{fact, fact_i}
use contract.Running.{tables}
use denote.Builtin.{RefOf}
use denote.Exit.{yes}
use denote.Memory.{hidden_shr}
use denote.Opens.{hide, unhide}
use denote.RattleType.{owns}
use denote.RawPtr.{Ptr, RawPtr, InBlock, block_ptr, block_of, count_of, at_block, ptr_val, rawptr_vals, rawptr_Tells}
use denote.Ref.{shr_vals, shr_Tells}
use denote.Signature.{types_at, plain}
use denote.Steps.{nothing, heard}
use denote.Struct.Lending.{lent_at, lent_out, in_block_says}
use denote.Struct.Owning.{shape}
use denote.Struct.Struct.{Struct}
use denote.Triple.Walked.{Stays, stay_dropped, walk_of, Goes-dropped}
use Rattle.core.proofs.atomic.Steps.{tail}
use Rattle.std.proofs.raw_atomic.Walks.{proved, leaves}
use Rattle.std.specs.Prelude.{Option, Some, None, IsSome}
use Rattle.std.specs.contracts.alloc.Global as heap
use Rattle.rt_handle.proofs.Passing.{lent_out_of}
use Rattle.rt_handle.specs.Lent.{object_lent}
use Rattle.rt_handle.specs.contracts.object.Object.{the_row as Object}
use Rattle.rt_handle.specs.contracts.pass.Lease as lease
use Rattle.rt_handle.specs.contracts.pass.Lease.{the_row as Lease}
use Rattle.rt_handle.specs.contracts.pass.Lease.object.{ended, clauses}
use Rattle.rt_handle.specs.contracts.pass.Lease.object.Key.{name as #self}
use Rattle.rt_handle.proofs.pass.Lease.object.Statement.{statement}
use Rattle.rt_handle.proofs.pass.Lease.object.Code as code

pub object_spec : {M : Type 1} → statement M
object_spec 𝓤 𝓛 𝓜 𝓡 wired =
    let H = 𝓛.H in let 𝓣 = tables 𝓤 H 𝓜 𝓡 𝓡.env in let c = clauses 𝓛 𝓜.mem 𝓡.returns in let fn : Fn = code.function in
    let self = RefOf (0 ∷ []) tt (plain (λ _. Lease)) (λ _. tt) in let hs : Stays ended.signature.params ended.kept = (stay_dropped self yes, (stay_dropped (plain (λ _. RawPtr)) yes, tt)) in
    proved 𝓛 ended hs c 𝓜 𝓡 (Goes-dropped 𝓛 1 self yes (λ κs x f. refl), (Goes-dropped 𝓛 1 (plain (λ _. RawPtr)) yes (λ κs x f. refl), tt)) #self fn (code.unfolded 𝓤 H 𝓜 𝓡 wired)
    (λ κs. (shr_vals, (rawptr_vals, tt))) (λ κs. (shr_Tells (named 0) κs.0 Lease, (rawptr_Tells, tt))) (λ κs qs bounds a gh are.
    let b : ℕ = a.0.ref_ptr.0 in let o : ℕ = a.0.ref_ptr.1 in let κ : Lft = κs.0 in let d : Lease.Denot = a.0.now in let p : Ptr = a.1.0 in
    let y : (walk_of 𝓛 ended hs c).Ghost = ((κs, qs, bounds, a, (vptr b o ∷ [], (rawptr_vals p, tt))), gh) in let Post : Val → SProp 𝓤 = (walk_of 𝓛 ended hs c).post y in
    let Asked : Type 0 = (p ≡ d.at) × IsSome d.held in
    qed 𝓛 (((‵ (flft κ qs.0) ⊛ ‵ ftrue) ⊛ ‵ (owns (types_at ended.signature.params κs) a y.0.4)) ∷ raw (fact 𝓤 Asked) ∷ []) ∵
    move ! (1 ∷ []) $ heard ! Asked (λ asked. split ! $ split ! $ move ! (2 ∷ []) $ fsplit ! $ fsplit ! $ keep ! (1 ∷ 3 ∷ 4 ∷ []) $
    use1 𝓛 (‵ (hidden_shr (Struct (shape lease.the_type)) κ ((heap.the_field).into d.alloc, tt) b o) ⊛ ‵ (fhide (object_lent d.at d.held κ))) (lent_out 𝓛 lease.struct (lease.the_codes heap.the_row.coded) lease.the_heap lease.the_lent κ d b o) $
    split ! $ drop ! $ unhide ! $ lent_out_of ! d.at d.held κ asked.1 (λ x ex. fsplit ! $
    use1 𝓛 (raw (fact 𝓤 (InBlock d.at))) (in_block_says 𝓛 d.at) $ heard ! (InBlock d.at) (λ inb. hide ! $
    let at : p ≡ block_ptr (block_of d.at) (count_of d.at) = asked.0 ∙ at_block d.at inb in let there : Val = vptr (block_of d.at) (count_of d.at) in
    regoal ! (λ (π : Ptr). prop (WpFn 𝓤 H 𝓣.C 𝓣.Λ fn (vptr b o ∷ ptr_val π ∷ []) Post)) at refl $
    enter ! 𝓣.C 𝓣.Λ fn (vptr b o ∷ there ∷ []) Post $ alloc_all ! (λ l. pass_all ! refl ((tt, tt), ((tt, tt), tt)) $ let Ev = env fn.locals l in
    first ! $ blocks ! $ sets ! (of_opd ! (get ! refl)) refl (tt, tt) $ sets_last ! (addr ! (through ! refl (stop !))) refl (tt, tt) $
    exec ! 𝓣.C 𝓣.Λ Ev (tail fn.body) (at_ret Ev Post) $ sets ! (of_opd ! (get ! refl)) refl (tt, tt) $
    feq_i ! (List Val) (there ∷ []) (there ∷ []) refl $ fjoin ! $ use0 𝓛 (raw (fact 𝓤 (Some x ≡ d.held))) (fact_i 𝓤 (Some x ≡ d.held) (emp 𝓤) ex) $ nothing ! $ nothing ! $ fjoin ! $ nothing ! $ fjoin ! $
    returns ! (look_at ! 0 refl) $ free_all ! refl $ move ! (3 ∷ 4 ∷ []) $ join ! $ keep ! (0 ∷ 1 ∷ 3 ∷ 2 ∷ []) $ by ! (leaves 𝓛 ended hs c y there (record { ref_ptr = (block_of d.at, count_of d.at); now = x }) (tt, (tt, tt)) (tt, (tt, tt))))))))
