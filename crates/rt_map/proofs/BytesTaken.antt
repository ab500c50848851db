-- The bytes of a tree are taken.
use Rattle.std.proofs.Common.{◌≡◌, ℕ, ◌≤◌, List, ◌++◌, length, map, None, Result, Ok, Err, refl, ap, ◌∙◌, sym, subst}
use Rattle.std.specs.Result.{IfOk, OnOk}
use Rattle.std.specs.List.{All, flat_map}
use Rattle.rt_box.specs.Capacity.{IsCapacity}
use Rattle.rt_check.specs.declared.node.NodeRow.{NodeRow}
use Rattle.rt_check.specs.Shadow.{ShadowLists}
use Rattle.rt_tree_node.specs.declared.arena.Arena.{Arena}
use Rattle.rt_tree_walk.specs.declared.searching.Row.{Row}
use Rattle.rt_tree_outside.specs.Outside.{outside}
use Rattle.rt_tree_rules.specs.Nested.{Tree}
use Rattle.rt_tree_rules.specs.Shadow.{nodes_in}
use Rattle.rt_tree_obeys.proofs.Seen.{nodes_seen}
use Rattle.rt_tree_node.specs.Whole.{most_rows_of_a_tree}
use Rattle.rt_tree.specs.Lists.{IsInShape, rows_of}
use Rattle.rt_tree.specs.Kept.{IsKeptWith}
use Rattle.rt_map.specs.declared.bytes_fault.BytesFault.{BytesFault}
use Rattle.rt_map.specs.declared.bytes_fault.BytesFault.TheVariants.{Bad, TooMany, Memory}
use Rattle.rt_map.specs.declared.reading.Parts.{Parts}
use Rattle.rt_map.specs.declared.shape.Shape.{Shape}
use Rattle.rt_map.specs.TreeBytes.{head_bytes, node_bytes, tree_bytes}
use Rattle.rt_map.specs.Written.{IsNodeWritten, IsTreeBytes}
use Rattle.rt_map.specs.BytesFaults.{HasTooManyRows, IsBytesFaultOf}
use Rattle.rt_map.specs.ReadingInside.{shape_in, IsReadAs}
use Rattle.rt_map.specs.Meant.{IsListed, IsMade}
use Rattle.rt_map.proofs.MeantLists.{listed-at}

pub only-for-memory : (axes : ℕ) (bytes : List ℕ) (fault : BytesFault) → (IsTreeBytes axes bytes → fault ≡ Memory) → (fault ≡ TooMany → HasTooManyRows axes bytes) →
    IsBytesFaultOf axes bytes fault
only-for-memory axes bytes Bad only many = λ are. let none : ⊥ = cc (only are) in none
only-for-memory axes bytes TooMany only many = (many refl, λ are. let none : ⊥ = cc (only are) in none)
only-for-memory axes bytes Memory only many = tt

module _ {D : ℕ} where
  -- what was read is that of the nested tree
  pub read-listed : (parts : Parts D) (s : ShadowLists D) (tree : Tree) → IsReadAs parts s → IsListed s.capacity (map shape_in s.nodes) (rows_of s) tree →
      IsListed parts.capacity parts.shapes.items parts.rows.items tree
  read-listed parts s tree read listed = listed-at s parts.capacity parts.shapes.items parts.rows.items tree read.capacity read.shapes read.rows listed

  -- the bytes of the arena are those of the lists
  pub same-bytes : (t : Arena D) (s : ShadowLists D) (tree : Tree) → IsKeptWith t 0 → IsMade t s.capacity tree → s.nodes ≡ nodes_in tree.level 1 None tree.root →
      tree_bytes (outside t) ≡ tree_bytes s
  same-bytes t s tree kept made nodes =
      let seen = nodes_seen D t kept.whole kept.idle in
      let of : Tree → List (NodeRow D) = λ x. nodes_in x.level 1 None x.root in
      ap (λ ns. head_bytes D t.capacity ++ flat_map node_bytes ns) (seen ∙ ap of made.tree_is ∙ sym nodes)
      ∙ ap (λ c. head_bytes D c ++ flat_map node_bytes s.nodes) made.capacity_is

  -- the bytes that were written of a tree
  pub taken-again : {V E : Type 0} (r : Result V E) (items : V → List ℕ) (s : ShadowLists D) → IfOk r (λ v. items v ≡ tree_bytes s) → OnOk r (All IsNodeWritten s.nodes) →
      IsInShape s → IsCapacity s.capacity → length (rows_of s) ≤ most_rows_of_a_tree → IfOk r (λ v. IsTreeBytes D (items v))
  taken-again (Ok v) items s is cells shape capacity most = (s, record { shape = shape; capacity = capacity; most = most; cells = cells; same = sym is })
  taken-again (Err e) items s is cells shape capacity most = tt
