-- `open` makes a lease of what the pass owns.
use Rattle.std.proofs.Common.{◌≡◌, List, [], ◌∷◌, ◌++◌, refl, sym, subst}
use mir.Syntax.{Fn}
use mir.Val.{Val}
use base.Logic.{SProp, ent, emp, id⊢}
use base.Fml.{ftrue}
use prog.Wp.{WpFn}
use types.Kit.{‵, raw, ◌⊛◌, ◌$◌, ◌∵◌, !, qed, by, move, drop, use0, split, suffices, fsplit, fjoin}
use types.Run.{stop, fld, of_opd, no_more, and_then, returns, enter}
use types.ByLocal.{alloc_all, pass_all, free_all, look_at, get, get_in, sets}
use types.Part.{agg, sub, whole}
use contract.Monad.{fact, fact_i}
use contract.Running.{tables}
use denote.RattleType.{owns}
use denote.Signature.{types_at}
use denote.Steps.{nothing}
use denote.Triple.Entry.{alive}
use denote.Triple.Walked.{Stays, stay_dropped, walk_of}
use Rattle.core.proofs.alloc.Calls.{Goes-blank}
use Rattle.std.proofs.raw_atomic.Walks.{proved_at, leaves}
use Rattle.rt_handle.proofs.Values.{slot_at, heap_good}
use Rattle.rt_handle.proofs.Passing.{right_val, right_good, pass_out, lease_in}
use Rattle.rt_handle.specs.contracts.pass.Lease.{the_row as Lease}
use Rattle.rt_handle.specs.contracts.pass.Pass.open.{ended, clauses}
use Rattle.rt_handle.specs.contracts.pass.Pass.open.Key.{name as #self}
use Rattle.rt_handle.proofs.pass.Pass.open.Statement.{statement}
use Rattle.rt_handle.proofs.pass.Pass.open.Code as code

pub open_spec : {M : Type 1} → statement M
open_spec 𝓤 𝓛 𝓜 𝓡 wired =
    let H = 𝓛.H in let 𝓣 = tables 𝓤 H 𝓜 𝓡 𝓡.env in let c = clauses 𝓛 𝓜.mem 𝓡.returns in let fn : Fn = code.function in
    let hs : Stays ended.signature.params ended.kept = (stay_dropped (slot_at 0 ended.signature.params) ended.kept.0, tt) in
    proved_at 𝓛 ended hs c 𝓜 𝓡 (Goes-blank 𝓛 0 (slot_at 0 ended.signature.params) ended.kept.0 (λ κs x f. tt), tt) #self fn (code.unfolded 𝓤 H 𝓜 𝓡 wired) (λ z are.
    let v = z.0.3.0 in let Post : Val → SProp 𝓤 = (walk_of 𝓛 ended hs c).post z in let Run : List Val → SProp 𝓤 = λ ws. WpFn 𝓤 H 𝓣.C 𝓣.Λ fn ws Post in
    let made : Lease.Denot = record { alloc = v.alloc; at = v.at; held = v.held; life = v.life; share = v.share } in
    qed 𝓛 ((raw (alive 𝓛 ended.signature z.0.0 z.0.1) ⊛ ‵ (owns (types_at ended.signature.params z.0.0) z.0.3 z.0.4)) ∷ ‵ ftrue ∷ []) ∵ move ! (1 ∷ []) $ drop ! $ split ! $ move ! (1 ∷ []) $
    fsplit ! $ move ! (1 ∷ []) $ drop ! $ pass_out ! v z.0.4.0 (λ ws.
    suffices ! (Run (right_val ∷ [])) (subst (λ (us : List Val). ent 𝓤 (Run (right_val ∷ [])) (Run us)) (sym (λ i. ws i ++ [])) (id⊢ 𝓤 (Run (right_val ∷ [])))) $
    enter ! 𝓣.C 𝓣.Λ fn (right_val ∷ []) Post $ alloc_all ! (λ l. pass_all ! refl (right_good, tt) $
    sets ! (of_opd ! (get_in ! (fld ! refl (stop !)) (sub ! 0 refl (whole !)))) refl heap_good $
    sets ! (agg ! (and_then ! (get ! refl) (no_more !))) refl right_good $
    returns ! (look_at ! 0 refl) $ free_all ! refl $ lease_in ! made $
    let Said : Type 0 = (v.at ≡ v.at) × (v.held ≡ v.held) × (v.life ≡ v.life) × (v.share ≡ v.share) in
    use0 𝓛 (raw (fact 𝓤 Said)) (fact_i 𝓤 Said (emp 𝓤) (refl, refl, refl, refl)) $ nothing ! $ nothing ! $ fjoin ! $ move ! (3 ∷ 0 ∷ 2 ∷ 1 ∷ []) $
    by ! (leaves 𝓛 ended hs c z right_val made (tt, tt) (tt, tt)))))
