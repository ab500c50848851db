use Rattle.std.proofs.Common.{◌≡◌, ◌++◌, [], ◌∷◌, take, length, map}
use Rattle.rt_tree_many.proofs.parts.FoundMany.add.Given as goal

-- the ids of the rows so far have come
abbrev pub invariant-loop-row : goal.invariant-loop-row
invariant-loop-row g l = record {
  ids_are : l.self.ids.items ≡ l.fn.self.ids.items ++ map (λ r. r.id) (take l.row-index l.rows);
  starts_are : l.self.starts.items ≡ l.fn.self.starts.items ++ length l.fn.self.ids.items ∷ [];
}
