-- `closed` makes a handle that owns nothing.
use Rattle.std.proofs.Common.{◌≡◌, List, [], ◌∷◌, ◌++◌, refl, sym, subst, lit<}
use mir.Syntax.{Fn}
use mir.Val.{Val}
use base.Logic.{SProp, ent, emp, id⊢}
use base.Fml.{ftrue}
use prog.Wp.{WpFn}
use types.Kit.{‵, raw, ◌⊛◌, ◌$◌, ◌∵◌, !, qed, by, move, drop, use0, split, suffices, fsplit, fjoin, fpack, rewrite}
use types.Run.{lit, no_more, and_then, returns, enter}
use types.ByLocal.{alloc_all, pass_all, free_all, look_at, get, sets}
use types.Part.{agg}
use contract.Monad.{fact, fact_i}
use contract.Running.{tables}
use denote.RattleType.{owns}
use denote.Signature.{types_at}
use denote.Steps.{nothing}
use denote.Triple.Entry.{alive}
use denote.Triple.Walked.{Stays, stay_dropped, walk_of}
use Rattle.core.proofs.alloc.Calls.{Goes-blank}
use Rattle.std.proofs.raw_atomic.Walks.{proved_at, leaves}
use Rattle.std.specs.contracts.alloc.Global as heap
use Rattle.std.proofs.Handle.{heap_val, heap_Tells}
use Rattle.rt_handle.proofs.Values.{slot_at, handle_val, handle_good, heap_good, handle_in}
use denote.RawPtr.{null_ptr}
use Rattle.std.specs.Prelude.{None}
use Rattle.rt_handle.specs.contracts.handle.Handle.closed.{ended, clauses}
use Rattle.rt_handle.specs.contracts.handle.Handle.closed.Key.{name as #self}
use Rattle.rt_handle.proofs.handle.Handle.closed.Statement.{statement}
use Rattle.rt_handle.proofs.handle.Handle.closed.Code as code

pub closed_spec : {M : Type 1} → statement M
closed_spec 𝓤 𝓛 𝓜 𝓡 wired =
    let H = 𝓛.H in let 𝓣 = tables 𝓤 H 𝓜 𝓡 𝓡.env in let c = clauses 𝓛 𝓜.mem 𝓡.returns in let fn : Fn = code.function in
    let hs : Stays ended.signature.params ended.kept = (stay_dropped (slot_at 0 ended.signature.params) ended.kept.0, tt) in
    proved_at 𝓛 ended hs c 𝓜 𝓡 (Goes-blank 𝓛 0 (slot_at 0 ended.signature.params) ended.kept.0 (λ κs x f. tt), tt) #self fn (code.unfolded 𝓤 H 𝓜 𝓡 wired) (λ z are.
    let v = z.0.3.0 in let Post : Val → SProp 𝓤 = (walk_of 𝓛 ended hs c).post z in let Run : List Val → SProp 𝓤 = λ ws. WpFn 𝓤 H 𝓣.C 𝓣.Λ fn ws Post in
    qed 𝓛 ((raw (alive 𝓛 ended.signature z.0.0 z.0.1) ⊛ ‵ (owns (types_at ended.signature.params z.0.0) z.0.3 z.0.4)) ∷ ‵ ftrue ∷ []) ∵ move ! (1 ∷ []) $ drop ! $ split ! $ move ! (1 ∷ []) $
    fsplit ! $ move ! (1 ∷ []) $ drop ! $
    let eh = heap_Tells v z.0.4.0 are.0 in
    rewrite ! 0 (λ (us : List Val). ‵ ((heap.the_row).own_val v us)) eh refl $ nothing ! $ fpack ! (0 ≡ 0) (λ _. ftrue) refl $
    suffices ! (Run (heap_val ∷ [])) (subst (λ (us : List Val). ent 𝓤 (Run (heap_val ∷ [])) (Run us)) (sym (λ i. eh i ++ [])) (id⊢ 𝓤 (Run (heap_val ∷ [])))) $
    enter ! 𝓣.C 𝓣.Λ fn (heap_val ∷ []) Post $ alloc_all ! (λ l. pass_all ! refl (heap_good, tt) $
    sets ! (agg ! (and_then ! (lit ! tt) (and_then ! (lit ! tt) (and_then ! (get ! refl) (no_more !))))) refl (handle_good null_ptr 0 (lit< tt)) $
    returns ! (look_at ! 0 refl) $ free_all ! refl $ handle_in ! null_ptr 0 v None (lit< tt) $
    use0 𝓛 (raw (fact 𝓤 (None ≡ None))) (fact_i 𝓤 (None ≡ None) (emp 𝓤) refl) $ nothing ! $ nothing ! $ fjoin ! $ move ! (3 ∷ 0 ∷ 2 ∷ 1 ∷ []) $
    by ! (leaves 𝓛 ended hs c z (handle_val null_ptr 0) (record { at = null_ptr; count = 0; alloc = v; held = None }) (tt, tt) (tt, tt))))
