use Rattle.std.proofs.Common.{◌∙◌, sym}
use Rattle.std.proofs.lemmas.Bool.{false≢true}
use Rattle.std.proofs.lemmas.Result.{IfOk-from_err}
use Rattle.rt_tree.specs.Kept.{IsKeptWith}
use Rattle.rt_map.specs.Meant.{IsMade}
use Rattle.rt_map.proofs.ShadowAgain.{shadow-meant, seen-again}
use Rattle.rt_map.specs.Packing.{ids}
use Rattle.rt_map.proofs.Faults.{no-memory}
use Rattle.rt_map.proofs.shadows.same_arena.Goals as goal

pub returns-clause-arena : goal.returns-clause-arena
returns-clause-arena g c = record {
  kept = rw c.in-Some.is at c.in_ok-arena.ensures.arena;
  seen = c.in_ok-seen.ensures.same c.if-not-seen.false;
}

pub returns-in_err-shapes-clause-arena : goal.returns-in_err-shapes-clause-arena
returns-in_err-shapes-clause-arena g c = IfOk-from_err _ _ c.from_residual.ensures.0

pub returns-in_err-shapes-clause-fault : goal.returns-in_err-shapes-clause-fault
returns-in_err-shapes-clause-fault g c = no-memory c.from_residual.result (ids c.args.rows.now) c.from_residual.ensures.1

pub returns-in_err-arena-clause-arena : goal.returns-in_err-arena-clause-arena
returns-in_err-arena-clause-arena g c = IfOk-from_err _ _ c.from_residual-in_err-arena.ensures.0

pub returns-in_err-seen-clause-arena : goal.returns-in_err-seen-clause-arena
returns-in_err-seen-clause-arena g c = IfOk-from_err _ _ c.from_residual-in_err-seen.ensures.0

pub returns-in_err-seen-clause-fault : goal.returns-in_err-seen-clause-fault
returns-in_err-seen-clause-fault g c = no-memory c.from_residual-in_err-seen.result (ids c.args.rows.now) c.from_residual-in_err-seen.ensures.1

pub returns-in_err-shapes-clause-again : goal.returns-in_err-shapes-clause-again
returns-in_err-shapes-clause-again g c = λ shape same. IfOk-from_err _ _ c.from_residual.ensures.0

pub returns-in_err-arena-clause-again : goal.returns-in_err-arena-clause-again
returns-in_err-arena-clause-again g c = λ shape same. IfOk-from_err _ _ c.from_residual-in_err-arena.ensures.0

pub returns-in_err-seen-clause-again : goal.returns-in_err-seen-clause-again
returns-in_err-seen-clause-again g c = λ shape same. IfOk-from_err _ _ c.from_residual-in_err-seen.ensures.0

pub returns-in_default-clause-again : goal.returns-in_default-clause-again
returns-in_default-clause-again g c = λ shape same.
    let s = c.args.shadow.now in
    let rows = c.args.rows.now in
    let meant = shadow-meant s c.capacity-capacity.result c.deref.result.now rows
    c.capacity-capacity.ensures (c.deref.ensures.value ∙ c.in_ok-shapes.ensures.shapes) same
    c.facts.ensures c.in_ok-shapes.ensures.axes shape c.in_ok-arena.ensures.most in
    let found = rw c.in_default.is at c.in_ok-arena.ensures.meant meant.0 meant.2 in
    absurd found

pub returns-then-not-seen-clause-again : goal.returns-then-not-seen-clause-again
returns-then-not-seen-clause-again g c = λ shape same.
    let s = c.args.shadow.now in
    let rows = c.args.rows.now in
    let capacity = c.capacity-capacity.result in
    let arena = c.in-Some.arena in
    let meant = shadow-meant s capacity c.deref.result.now rows
    c.capacity-capacity.ensures (c.deref.ensures.value ∙ c.in_ok-shapes.ensures.shapes) same
    c.facts.ensures c.in_ok-shapes.ensures.axes shape c.in_ok-arena.ensures.most in
    let made : IsMade arena capacity meant.0 = rw c.in-Some.is at c.in_ok-arena.ensures.meant meant.0 meant.2 in
    let kept : IsKeptWith arena 0 = rw c.in-Some.is at c.in_ok-arena.ensures.arena in
    let seen = c.in_ok-seen.ensures.all
    (seen-again arena s capacity meant.0 c.capacity-capacity.ensures kept c.leaves_facts.ensures made shape meant.1) in
    absurd (false≢true (sym c.if-not-seen.true ∙ seen))
