-- `of` keeps the loose box's pointer.
use Rattle.std.proofs.Common.{◌≡◌, List, [], ◌∷◌, ◌++◌, refl, sym, subst, ◌∙◌, lit<}
use mir.Syntax.{Fn}
use mir.Val.{Val, vptr}
use base.Logic.{SProp, ent, emp, id⊢}
use base.Fml.{ftrue}
use prog.Wp.{WpFn}
use types.Kit.{‵, raw, ◌⊛◌, ◌$◌, ◌∵◌, !, qed, by, move, drop, use0, split, suffices, fsplit, fjoin, fpack, rewrite}
use types.Run.{stop, fld, lit, of_opd, no_more, and_then, returns, enter}
use types.ByLocal.{alloc_all, pass_all, free_all, look_at, get, get_in, sets}
use types.Part.{agg, sub, whole}
use contract.Monad.{fact, fact_i}
use contract.Running.{tables}
use denote.RattleType.{owns}
use denote.RawPtr.{block_ptr}
use denote.Signature.{types_at}
use denote.Laws.{Is, shows}
use denote.Steps.{nothing, only, peeks}
use denote.Triple.Entry.{alive}
use denote.Triple.Walked.{Stays, stay_dropped, walk_of}
use Rattle.core.proofs.alloc.Calls.{Goes-blank}
use Rattle.std.proofs.raw_atomic.Walks.{proved_at, leaves}
use Rattle.std.specs.Prelude.{Some}
use Rattle.std.specs.contracts.alloc.Global as heap
use Rattle.std.proofs.alloc.Global.TheLaws as heap_laws
use Rattle.std.proofs.Handle.{heap_val, heap_Tells}
use Rattle.std.specs.contracts.impls.GlobalAllocator.TheImpl.{ghosts}
use Rattle.rt_handle.specs.contracts.object.Object.{the_row as Object}
use Rattle.rt_handle.proofs.Values.{both, loose_good, loose_out, slot_at, handle_val, handle_good, heap_good, handle_in}
use Rattle.rt_handle.specs.contracts.handle.Handle.of.{ended, clauses}
use Rattle.rt_handle.specs.contracts.handle.Handle.of.Key.{name as #self}
use Rattle.rt_handle.proofs.handle.Handle.of.Statement.{statement}
use Rattle.rt_handle.proofs.handle.Handle.of.Code as code

pub of_spec : {M : Type 1} → statement M
of_spec 𝓤 𝓛 𝓜 𝓡 wired =
    let H = 𝓛.H in let 𝓣 = tables 𝓤 H 𝓜 𝓡 𝓡.env in let c = clauses 𝓛 𝓜.mem 𝓡.returns in let fn : Fn = code.function in
    let hs : Stays ended.signature.params ended.kept = (stay_dropped (slot_at 0 ended.signature.params) ended.kept.0, tt) in
    proved_at 𝓛 ended hs c 𝓜 𝓡 (Goes-blank 𝓛 0 (slot_at 0 ended.signature.params) ended.kept.0 (λ κs x f. tt), tt) #self fn (code.unfolded 𝓤 H 𝓜 𝓡 wired) (λ z are.
    let v = z.0.3.0 in let Post : Val → SProp 𝓤 = (walk_of 𝓛 ended hs c).post z in let Run : List Val → SProp 𝓤 = λ ws. WpFn 𝓤 H 𝓣.C 𝓣.Λ fn ws Post in
    qed 𝓛 ((raw (alive 𝓛 ended.signature z.0.0 z.0.1) ⊛ ‵ (owns (types_at ended.signature.params z.0.0) z.0.3 z.0.4)) ∷ ‵ ftrue ∷ []) ∵ move ! (1 ∷ []) $ drop ! $ split ! $ move ! (1 ∷ []) $
    fsplit ! $ move ! (1 ∷ []) $ drop ! $ loose_out Object heap.the_row heap_laws.the_row_laws ghosts ! v z.0.4.0 (λ b o h e ws fits.
    move ! (1 ∷ []) $ peeks ! heap.the_row (Is heap.the_row) (shows 𝓛 heap.the_row) v.alloc (h ∷ []) (λ is. let eh = heap_Tells v.alloc (h ∷ []) is in
    rewrite ! 0 (λ (us : List Val). ‵ ((heap.the_row).own_val v.alloc us)) eh refl $ move ! (1 ∷ []) $ nothing ! $ fpack ! (1 ≡ 1) (λ _. ftrue) refl $ fjoin ! $
    let w : Val = both (vptr b o) heap_val in
    suffices ! (Run (w ∷ [])) (subst (λ (us : List Val). ent 𝓤 (Run (w ∷ [])) (Run us)) (sym ((λ i. ws i ++ []) ∙ (λ i. both (vptr b o) (only (eh i)) ∷ []))) (id⊢ 𝓤 (Run (w ∷ [])))) $
    enter ! 𝓣.C 𝓣.Λ fn (w ∷ []) Post $ alloc_all ! (λ l. pass_all ! refl (loose_good Object heap.the_row heap_laws.the_row_laws ghosts b o heap_val heap_good, tt) $
    sets ! (of_opd ! (get_in ! (fld ! refl (stop !)) (sub ! 0 refl (whole !)))) refl (tt, tt) $
    sets ! (of_opd ! (get_in ! (fld ! refl (stop !)) (sub ! 1 refl (whole !)))) refl heap_good $
    sets ! (of_opd ! (get ! refl)) refl (tt, tt) $
    sets ! (agg ! (and_then ! (get ! refl) (and_then ! (lit ! tt) (and_then ! (get ! refl) (no_more !))))) refl (handle_good (block_ptr b o) 1 (lit< tt)) $
    returns ! (look_at ! 0 refl) $ free_all ! refl $ handle_in ! (block_ptr b o) 1 v.alloc (Some v.value) (lit< tt) $
    use0 𝓛 (raw (fact 𝓤 (Some v.value ≡ Some v.value))) (fact_i 𝓤 (Some v.value ≡ Some v.value) (emp 𝓤) refl) $ nothing ! $ nothing ! $ fjoin ! $ move ! (3 ∷ 0 ∷ 2 ∷ 1 ∷ []) $
    by ! (leaves 𝓛 ended hs c z (handle_val (block_ptr b o) 1) (record { at = block_ptr b o; count = 1; alloc = v.alloc; held = Some v.value }) (tt, tt) (tt, tt))))))
