-- `into_loose` hands over what an open handle owns.
use Rattle.std.proofs.Common.{◌≡◌, List, [], ◌∷◌, ◌++◌, refl, sym, subst, ◌∙◌}
use mir.Syntax.{Fn}
use mir.Val.{Val, vptr}
use base.Logic.{SProp, ent, emp, id⊢}
use prog.Wp.{WpFn}
use types.Kit.{‵, raw, ◌⊛◌, ◌$◌, ◌∵◌, !, qed, by, move, drop, use0, split, suffices, fsplit, fjoin}
use types.Run.{stop, fld, of_opd, no_more, and_then, returns, enter}
use types.ByLocal.{alloc_all, pass_all, free_all, look_at, get, get_in, sets}
use types.Part.{agg, sub, whole}
use contract.Monad.{fact, fact_i}
use contract.Running.{tables}
use denote.RattleType.{owns}
use denote.RawPtr.{block_ptr}
use denote.Signature.{types_at}
use denote.Steps.{nothing, heard}
use denote.Triple.Entry.{alive}
use denote.Triple.Walked.{Stays, stay_dropped, walk_of}
use Rattle.core.proofs.alloc.Calls.{Goes-blank}
use Rattle.std.proofs.raw_atomic.Walks.{proved_at, leaves}
use Rattle.std.specs.Prelude.{Some, IsSome}
use Rattle.std.specs.contracts.alloc.Global as heap
use Rattle.std.proofs.alloc.Global.TheLaws as heap_laws
use Rattle.std.proofs.Handle.{heap_val}
use Rattle.std.specs.contracts.impls.GlobalAllocator.TheImpl.{ghosts}
use Rattle.rt_handle.specs.contracts.object.Object.{the_row as Object}
use Rattle.rt_handle.proofs.Values.{both, loose_good, loose_in, slot_at, handle_val, handle_good, heap_good, handle_out, held_out}
use Rattle.rt_handle.specs.contracts.handle.Handle.into_loose.{ended, clauses}
use Rattle.rt_handle.specs.contracts.handle.Handle.into_loose.Key.{name as #self}
use Rattle.rt_handle.proofs.handle.Handle.into_loose.Statement.{statement}
use Rattle.rt_handle.proofs.handle.Handle.into_loose.Code as code

pub into_loose_spec : {M : Type 1} → statement M
into_loose_spec 𝓤 𝓛 𝓜 𝓡 wired =
    let H = 𝓛.H in let 𝓣 = tables 𝓤 H 𝓜 𝓡 𝓡.env in let c = clauses 𝓛 𝓜.mem 𝓡.returns in let fn : Fn = code.function in
    let hs : Stays ended.signature.params ended.kept = (stay_dropped (slot_at 0 ended.signature.params) ended.kept.0, tt) in
    proved_at 𝓛 ended hs c 𝓜 𝓡 (Goes-blank 𝓛 0 (slot_at 0 ended.signature.params) ended.kept.0 (λ κs x f. tt), tt) #self fn (code.unfolded 𝓤 H 𝓜 𝓡 wired) (λ z are.
    let v = z.0.3.0 in let Post : Val → SProp 𝓤 = (walk_of 𝓛 ended hs c).post z in let Run : List Val → SProp 𝓤 = λ ws. WpFn 𝓤 H 𝓣.C 𝓣.Λ fn ws Post in
    qed 𝓛 ((raw (alive 𝓛 ended.signature z.0.0 z.0.1) ⊛ ‵ (owns (types_at ended.signature.params z.0.0) z.0.3 z.0.4)) ∷ raw (fact 𝓤 (IsSome v.held)) ∷ []) ∵ move ! (1 ∷ []) $ heard ! (IsSome v.held) (λ asked. split ! $ move ! (1 ∷ []) $
    fsplit ! $ move ! (1 ∷ []) $ drop ! $ handle_out ! v z.0.4.0 (λ ws fits. held_out ! v.alloc v.at v.count v.held asked (λ b o x ep ex.
    let w : Val = handle_val (block_ptr b o) v.count in
    suffices ! (Run (w ∷ [])) (subst (λ (us : List Val). ent 𝓤 (Run (w ∷ [])) (Run us)) (sym ((λ i. ws i ++ []) ∙ (λ i. handle_val (ep i) v.count ∷ []))) (id⊢ 𝓤 (Run (w ∷ [])))) $
    enter ! 𝓣.C 𝓣.Λ fn (w ∷ []) Post $ alloc_all ! (λ l. pass_all ! refl (handle_good (block_ptr b o) v.count fits, tt) $
    sets ! (of_opd ! (get_in ! (fld ! refl (stop !)) (sub ! 0 refl (whole !)))) refl (tt, tt) $
    sets ! (of_opd ! (get_in ! (fld ! refl (stop !)) (sub ! 2 refl (whole !)))) refl heap_good $
    sets ! (of_opd ! (get ! refl)) refl (tt, tt) $
    sets ! (agg ! (and_then ! (get ! refl) (and_then ! (get ! refl) (no_more !)))) refl (loose_good Object heap.the_row heap_laws.the_row_laws ghosts b o heap_val heap_good) $
    returns ! (look_at ! 0 refl) $ free_all ! refl $ loose_in Object heap.the_row heap_laws.the_row_laws ghosts ! b o heap_val v.alloc x $
    use0 𝓛 (raw (fact 𝓤 (Some x ≡ v.held))) (fact_i 𝓤 (Some x ≡ v.held) (emp 𝓤) ex) $ nothing ! $ nothing ! $ fjoin ! $ move ! (3 ∷ 0 ∷ 2 ∷ 1 ∷ []) $
    by ! (leaves 𝓛 ended hs c z (both (vptr b o) heap_val) (record { at = block_ptr b o; alloc = v.alloc; value = x }) (tt, tt) (tt, tt)))))))
