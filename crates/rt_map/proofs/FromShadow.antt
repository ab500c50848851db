-- A tree that is made of a shadow.
use Rattle.std.proofs.Common.{◌≡◌, ℕ, ◌-◌, ◌+◌, ◌*◌, ◌≤◌, true, List, length, map, Contains, vec_capacity, arith, ap, ◌∙◌, sym, subst}
use Rattle.std.proofs.lemmas.List.{length-map}
use Rattle.indexmap.specs.IndexMap.{index_map_len}
use Rattle.rt_box.specs.Capacity.{least_fill}
use Rattle.rt_check.specs.declared.node.NodeRow.{NodeRow}
use Rattle.rt_check.specs.Conditions.{is_leaf}
use Rattle.rt_check.specs.Shadow.{ShadowLists}
use Rattle.rt_tree_node.specs.declared.arena.Arena.{Arena}
use Rattle.rt_tree_node.specs.Whole.{row_count, most_rows_of_a_tree, HasRoom}
use Rattle.rt_tree_place.proofs.Sums.{count-all}
use Rattle.rt_tree_pack.specs.Packing.{IsFirstRepeated, IsFaultOf}
use Rattle.rt_tree_pack.specs.declared.fault.PackFault.{PackFault}
use Rattle.rt_tree_pack.specs.declared.fault.PackFault.TheVariants.{TooMany, Repeated, Memory}
use Rattle.rt_map.specs.Levels.{Restores, fault_of}
use Rattle.rt_map.specs.declared.restore_fault.RestoreFault.{RestoreFault}
use Rattle.rt_map.specs.declared.restore_fault.RestoreFault.TheVariants.{NoBox, TooMany as AreTooMany, Repeated as IsRepeated, Memory as IsOutOfMemory}
use Rattle.rt_tree_walk.specs.declared.searching.Row.{Row}
use Rattle.rt_tree.specs.Lists.{rows_of}
use Rattle.rt_tree.specs.Kept.{IsKeptWith}
use Rattle.rt_map.specs.Packing.{ids}
use Rattle.rt_map.specs.PackingInside.{cell_of, IsReadyFor}
use Rattle.rt_map.specs.Restoring.{IsRestoreFaultOf}
use Rattle.rt_map.specs.RestoringInside.{LacksRowsIn, LacksRows}

module _ {D : ℕ} where
  -- the nodes after restoring
  pub restored-kept : (capacity : ℕ) (rows : List (Row D)) (t u : Arena D) → 1 ≤ D → D ≤ 3 → length rows ≤ most_rows_of_a_tree → IsReadyFor t capacity (map cell_of rows) →
      Restores t u (map cell_of rows) → IsKeptWith u 0
  restored-kept capacity rows t u some few most ready made =
      let long : length (map cell_of rows) ≡ length rows = length-map rows cell_of in
      let room : HasRoom t (length rows) = subst (HasRoom t) long ready.room in
      let idle = ap (λ p. p.items) made.pending ∙ ready.bare.idle in
      let counted : row_count u ≡ length rows = omega (arith, made.rows_are (λ c. true), count-all (map cell_of rows), long) in
      let same_room = made.room in
      let leaves : index_map_len u.leaves ≡ length rows = made.ids.len ∙ ready.entries ∙ long in
      record {
        some = some;
        few = few;
        whole = made.whole;
        branched = made.branched;
        idle = idle;
        ids = omega (arith, leaves, counted);
        rows = omega (arith, counted, most);
        room = subst (λ n. HasRoom u n) (omega (arith, counted)) (record {
          nodes = subst (λ m. length rows + (least_fill m - 1) * 33 ≤ (least_fill m - 1) * u.nodes.capacity) (sym made.capacity)
              (subst (λ r. length rows + (least_fill t.capacity - 1) * 33 ≤ (least_fill t.capacity - 1) * r) (sym same_room) room.nodes);
          keys = omega (arith, same_room, room.keys);
        });
        leaves_room = omega arith;
        pending_room = omega (arith, ap vec_capacity made.pending, ready.pending_room);
      }

  -- a fault of the rows is one of the shadow that has them
  pub fault-carried : (s : ShadowLists D) (rows : List (Row D)) (fault : PackFault) → rows ≡ rows_of s → IsFaultOf (ids rows) fault → IsRestoreFaultOf s (fault_of fault)
  fault-carried s rows TooMany e h = omega (arith, h, length-map rows (λ (r : Row D). r.id), ap length e)
  fault-carried s rows (Repeated at) e h = (at, subst (λ rs. IsFirstRepeated (ids rs) at) e h)
  fault-carried s rows Memory e h = tt

  pub lack-listed : (s : ShadowLists D) (node : NodeRow D) (fault : RestoreFault) → Contains s.nodes node → is_leaf node ≡ true → LacksRowsIn node fault → LacksRows s fault
  lack-listed s node NoBox here leaf h = (node, here, leaf, h)
  lack-listed s node AreTooMany here leaf h = absurd h
  lack-listed s node IsRepeated here leaf h = absurd h
  lack-listed s node IsOutOfMemory here leaf h = tt

  pub lack-carried : (s : ShadowLists D) (fault : RestoreFault) → LacksRows s fault → IsRestoreFaultOf s fault
  lack-carried s NoBox h = h
  lack-carried s AreTooMany h = absurd h
  lack-carried s IsRepeated h = absurd h
  lack-carried s IsOutOfMemory h = tt
