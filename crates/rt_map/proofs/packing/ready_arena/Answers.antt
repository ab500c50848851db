use Rattle.std.proofs.Common.{refl}
use Rattle.std.proofs.lemmas.Result.{IfOk-from_err}
use Rattle.rt_tree_node.specs.declared.arena.Arena.{Arena}
use Rattle.rt_tree_node.specs.Places.{numbers}
use Rattle.rt_tree_pack.specs.Packing.{IsFaultOf}
use Rattle.rt_map.proofs.Faults.{err-of, no-memory}
use Rattle.rt_map.proofs.FromRows.{still-bare, bare-room}
use Rattle.rt_map.proofs.packing.ready_arena.Goals as goal

pub returns-in_err-arena-clause-arena : goal.returns-in_err-arena-clause-arena
returns-in_err-arena-clause-arena g c = IfOk-from_err _ _ c.from_residual.ensures.0

pub returns-in_err-arena-clause-fault : goal.returns-in_err-arena-clause-fault
returns-in_err-arena-clause-fault g c = no-memory c.from_residual.result (numbers c.args.cells.now) c.from_residual.ensures.1

pub returns-in_err-reserve-clause-arena : goal.returns-in_err-reserve-clause-arena
returns-in_err-reserve-clause-arena g c = IfOk-from_err _ _ c.from_residual-in_err-reserve.ensures.0

pub returns-in_err-reserve-clause-fault : goal.returns-in_err-reserve-clause-fault
returns-in_err-reserve-clause-fault g c = no-memory c.from_residual-in_err-reserve.result (numbers c.args.cells.now) c.from_residual-in_err-reserve.ensures.1

pub returns-in_err-enter-clause-arena : goal.returns-in_err-enter-clause-arena
returns-in_err-enter-clause-arena g c = IfOk-from_err _ _ c.from_residual-in_err-enter.ensures.0

pub returns-in_err-enter-clause-fault : goal.returns-in_err-enter-clause-fault
returns-in_err-enter-clause-fault g c =
    err-of c.from_residual-in_err-enter.result c.in_err-enter.field-0.0 (IsFaultOf (numbers c.args.cells.now)) c.from_residual-in_err-enter.ensures.1 c.in_err-enter.ensures.repeated

pub returns-clause-arena : goal.returns-clause-arena
returns-clause-arena g c =
    let t = c.in_ok-arena.arena in
    let made = c.in_ok-arena.ensures in
    let u : Arena g.row.D = record t { leaves = c.enter.new.leaves } in
    record {
      bare = still-bare t u refl made.bare;
      entered = record { boxes = c.in_ok-enter.ensures.boxes; ids = c.in_ok-enter.ensures.entries };
      entries = c.in_ok-enter.ensures.len;
      room = bare-room u c.args.capacity _ c.nodes_for.result made.capacity c.nodes_for.ensures made.room made.keys;
      pending_room = made.pending_room;
      capacity_is = made.capacity;
    }
