use Rattle.std.proofs.Common.{◌≡◌, take, drop}
use Rattle.rt_calls.specs.Live.{windows_of, changed_ids, kinds_of}
use Rattle.rt_calls.proofs.changes.write_changes.Given as goal

abbrev pub invariant-loop-at : goal.invariant-loop-at
invariant-loop-at l = record {
  windows : take l.at l.windows ≡ windows_of (take l.at l.changes);
  windows_rest : drop l.at l.windows ≡ drop l.at l.initial.windows;
  ids : take l.at l.ids ≡ changed_ids (take l.at l.changes);
  ids_rest : drop l.at l.ids ≡ drop l.at l.initial.ids;
  kinds : take l.at l.kinds ≡ kinds_of (take l.at l.changes);
  kinds_rest : drop l.at l.kinds ≡ drop l.at l.initial.kinds;
}
