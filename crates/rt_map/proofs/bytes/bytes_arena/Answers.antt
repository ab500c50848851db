use Rattle.std.proofs.Common.{length, ◌∙◌, sym, subst}
use Rattle.std.proofs.lemmas.Bool.{false≢true}
use Rattle.rt_map.specs.declared.bytes_fault.BytesFault.TheVariants.{Bad}
use Rattle.rt_map.specs.BytesFaults.{IsBytesFaultOf}
use Rattle.rt_map.specs.Meant.{IsMade}
use Rattle.rt_map.proofs.Faults.{err-of, err-is}
use Rattle.rt_map.proofs.MeantLists.{listed-tree, readable}
use Rattle.rt_map.proofs.BytesTaken.{only-for-memory, read-listed, same-bytes}
use Rattle.rt_map.proofs.bytes.bytes_arena.Goals as goal

pub returns-clause-arena : goal.returns-clause-arena
returns-clause-arena g c = record {
  kept = c.in_ok-arena.ensures.kept;
  same = sym c.in_ok-again.ensures.bytes ∙ sym c.as_slice.ensures.value ∙ c.are_same-same.ensures.same c.if-not-same.false;
}

pub returns-in_err-parts-clause-fault : goal.returns-in_err-parts-clause-fault
returns-in_err-parts-clause-fault g c =
    let bytes = c.args.bytes.now in
    let fault = c.in_err-parts.field-0.0 in
    err-of c.from_residual.result fault (IsBytesFaultOf g.row.D bytes) c.from_residual.ensures.1
    (only-for-memory g.row.D bytes fault (λ are. c.in_err-parts.ensures.read are.0 (readable are.0 bytes are.1) are.1.same) (λ e. absurd (c.in_err-parts.ensures.fault e)))

pub returns-in_err-arena-clause-fault : goal.returns-in_err-arena-clause-fault
returns-in_err-arena-clause-fault g c =
    let bytes = c.args.bytes.now in
    let fault = c.in_err-arena.field-0.0 in
    err-of c.from_residual-in_err-arena.result fault (IsBytesFaultOf g.row.D bytes) c.from_residual-in_err-arena.ensures.1
    (only-for-memory g.row.D bytes fault (λ are.
    let read = c.in_ok-parts.ensures.read are.0 (readable are.0 bytes are.1) are.1.same in
    let found = listed-tree are.0 bytes are.1 in
    c.in_err-arena.ensures.meant found.0 (read-listed c.in_ok-parts.parts are.0 found.0 read found.2))
    (λ e. (length c.in_ok-parts.parts.rows.items, c.in_ok-parts.ensures.count, c.in_err-arena.ensures.many e)))

pub returns-then-not-same-clause-fault : goal.returns-then-not-same-clause-fault
returns-then-not-same-clause-fault g c = λ are.
    let bytes = c.args.bytes.now in
    let arena = c.in_ok-arena.arena in
    let read = c.in_ok-parts.ensures.read are.0 (readable are.0 bytes are.1) are.1.same in
    let found = listed-tree are.0 bytes are.1 in
    let made = c.in_ok-arena.ensures.meant found.0 (read-listed c.in_ok-parts.parts are.0 found.0 read found.2) in
    let same = same-bytes arena are.0 found.0 c.in_ok-arena.ensures.kept (subst (λ n. IsMade arena n found.0) read.capacity made) found.1 in
    absurd (false≢true (c.if-not-same.ensures.all (c.as_slice.ensures.value ∙ c.in_ok-again.ensures.bytes ∙ same ∙ are.1.same)))

pub returns-in_err-parts-clause-head : goal.returns-in_err-parts-clause-head
returns-in_err-parts-clause-head g c = λ none.
    err-is c.from_residual.result c.in_err-parts.field-0.0 Bad c.from_residual.ensures.1 (c.in_err-parts.ensures.head none)

pub returns-in_err-arena-clause-head : goal.returns-in_err-arena-clause-head
returns-in_err-arena-clause-head g c = λ none. let read = c.in_ok-parts.ensures.head none in cc

pub returns-in_err-again-clause-head : goal.returns-in_err-again-clause-head
returns-in_err-again-clause-head g c = λ none. let read = c.in_ok-parts.ensures.head none in cc

pub returns-then-not-same-clause-head : goal.returns-then-not-same-clause-head
returns-then-not-same-clause-head g c = λ none. let read = c.in_ok-parts.ensures.head none in cc

pub returns-clause-head : goal.returns-clause-head
returns-clause-head g c = λ none. let read = c.in_ok-parts.ensures.head none in cc
