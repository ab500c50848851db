use Rattle.std.proofs.Common.{◌≡◌, ◌++◌, take, map}
use Rattle.rt_tree_many.proofs.spans.add_ids.Given as goal

-- the ids of the rows so far have come
abbrev pub invariant-loop-row : goal.invariant-loop-row
invariant-loop-row g l = l.ids.items ≡ l.fn.ids.items ++ map (λ r. r.id) (take l.row-index l.rows)
