use Rattle.std.proofs.Common.{◌+◌, List, Option, Some, None, is_some, count_by, get_or, le_trans, le_of_eq, refl, ap, sym, ◌∙◌}
use Rattle.std.proofs.lemmas.Result.{IfOk-from_err}
use Rattle.rt_tree_node.specs.declared.arena.Arena.{Arena}
use Rattle.rt_tree_node.specs.Node.{NodeCells}
use Rattle.rt_tree.specs.Bare.{IsBare}
use Rattle.rt_tree.proofs.BareKept.{bare-shown}
use Rattle.rt_tree.proofs.rowless.bare_arena.Goals as goal

-- Automation finds these too, but clause by clause.

pub returns-in_err-nodes : goal.returns-in_err-nodes
returns-in_err-nodes g c =
    let failed = c.from_residual.ensures.0 in
    record {
      bare = IfOk-from_err _ _ failed;
      ids = IfOk-from_err _ _ failed;
      capacity = IfOk-from_err _ _ failed;
      room = IfOk-from_err _ _ failed;
      keys = IfOk-from_err _ _ failed;
      pending_room = IfOk-from_err _ _ failed;
      shown = IfOk-from_err _ _ failed;
    }

pub returns-then-capacity-gt-MOST_NODES : goal.returns-then-capacity-gt-MOST_NODES
returns-then-capacity-gt-MOST_NODES g c = record { bare = tt; ids = tt; capacity = tt; room = tt; keys = tt; pending_room = tt; shown = tt }

pub returns-in_err-pending : goal.returns-in_err-pending
returns-in_err-pending g c =
    let failed = c.from_residual-in_err-pending.ensures.0 in
    record {
      bare = IfOk-from_err _ _ failed;
      ids = IfOk-from_err _ _ failed;
      capacity = IfOk-from_err _ _ failed;
      room = IfOk-from_err _ _ failed;
      keys = IfOk-from_err _ _ failed;
      pending_room = IfOk-from_err _ _ failed;
      shown = IfOk-from_err _ _ failed;
    }

pub returns : goal.returns
returns g c =
    let made : Arena g.row.D = record {
      nodes = c.add_node-root.new.nodes;
      leaves = c.with_hasher.result;
      pending = c.in_ok-pending.pending;
      root = c.add_node-root.result;
      level = 0;
      capacity = c.args.capacity;
    } in
    let empty = c.in_ok-nodes.ensures.empty in
    let bare : IsBare made = record {
      cap = c.facts.ensures;
      leaf = c.add_node-root.ensures.updates.changed ∙ ap Some c.new.ensures;
      level = refl;
      alone = λ key other. c.add_node-root.ensures.updates.others key other ∙ ap (λ (slots : List (Option (NodeCells g.row.D))). get_or slots key None) empty;
      one = c.add_node-root.ensures.len ∙ ap (λ (slots : List (Option (NodeCells g.row.D))). count_by is_some slots + 1) empty;
      idle = c.in_ok-pending.ensures.items;
    } in
    record {
      bare = bare;
      ids = c.with_hasher.ensures.empty;
      capacity = refl;
      room = le_trans c.in_ok-nodes.ensures.capacity (le_of_eq (sym c.add_node-root.ensures.capacity));
      keys = le_trans (le_of_eq (c.add_node-root.ensures.capacity ∙ sym c.capacity.ensures.value)) c.if-capacity-gt-MOST_NODES.false;
      pending_room = c.in_ok-pending.ensures.capacity;
      shown = bare-shown made bare c.with_hasher.ensures.empty;
    }
