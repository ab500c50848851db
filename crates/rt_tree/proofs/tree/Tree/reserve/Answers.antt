use Rattle.std.proofs.Common.{◌≡◌, ℕ, ◌+◌, ◌-◌, ◌<◌, ◌≤◌, max, length, arith, ap, sym, ◌∙◌, refl, le_refl, le_trans, le_of_eq}
use Rattle.std.proofs.Math.Nat.{mul-le-mul_left}
use Rattle.std.specs.Map.{keys_of}
use Rattle.std.proofs.lemmas.Result.{IfOk-from_err}
use Rattle.rt_box.specs.Capacity.{least_fill}
use Rattle.indexmap.specs.IndexMap.{spare}
use Rattle.rt_tree_node.specs.declared.arena.Arena.{Arena}
use Rattle.rt_tree_node.specs.Whole.{HasRoom, row_count}
use Rattle.rt_tree.specs.Lists.{TreeLists}
use Rattle.rt_tree.proofs.Roomier.{outside-same, roomier-kept, grown-room}
use Rattle.rt_tree.proofs.Changed.{rows-are}
use Rattle.rt_tree.proofs.tree.Tree.reserve.Goals as goal

-- ---- Stated over variables, so that no exit is a search over all that is known there.
not-enough : (more spare old : ℕ) → spare ≡ old → spare < more → more ≤ old → ⊥
not-enough more spare old is high low = omega (arith, is, high, low)

most-old : (spare old most : ℕ) → spare ≡ old → spare ≤ max old most
most-old spare old most is = omega (arith, is)

keeps-ahead : (more spare old ahead : ℕ) → spare ≡ old → spare < more → more ≤ ahead → old ≤ ahead
keeps-ahead more spare old ahead is high room = omega (arith, is, high, room)

pub invariant_of-self : goal.invariant_of-self
invariant_of-self g c =
    let i = c.self.inside in
    let t = c.self.inside.arena in
    let k = c.self.invariant in
    let u : Arena g.row.D =
    record { nodes = c.make_room.new.nodes; leaves = t.leaves; pending = t.pending; root = t.root; level = t.level; capacity = t.capacity } in
    let room : HasRoom u (row_count t + i.spare) = grown-room t u (row_count t + i.spare) k.room c.make_room.ensures.grows c.make_room.ensures.keys refl in
    roomier-kept t u c.make_room.ensures.same refl refl refl refl refl refl i.spare k i.spare room k.leaves_room

pub invariant_of-self-in_err-reserve : goal.invariant_of-self-in_err-reserve
invariant_of-self-in_err-reserve g c =
    let i = c.self.inside in
    let t = c.self.inside.arena in
    let k = c.self.invariant in
    let u : Arena g.row.D =
    record { nodes = c.make_room.new.nodes; leaves = c.reserve.new.self; pending = t.pending; root = t.root; level = t.level; capacity = t.capacity } in
    let room : HasRoom u (row_count t + i.spare) = grown-room t u (row_count t + i.spare) k.room c.make_room.ensures.grows c.make_room.ensures.keys refl in
    let leaves_room : i.spare ≤ spare c.reserve.new.self = omega (arith, k.leaves_room, c.reserve.ensures.room.0) in
    roomier-kept t u c.make_room.ensures.same c.reserve.ensures.entries refl refl refl refl refl i.spare k i.spare room leaves_room

pub invariant_of-self-2 : goal.invariant_of-self-2
invariant_of-self-2 g c =
    let i = c.self.inside in
    let t = c.self.inside.arena in
    let k = c.self.invariant in
    let n = c.room_ahead-spare.result in
    let u : Arena g.row.D =
    record { nodes = c.make_room.new.nodes; leaves = c.reserve.new.self; pending = t.pending; root = t.root; level = t.level; capacity = t.capacity } in
    let room : HasRoom u (row_count t + n) = record {
      nodes = let wide = mul-le-mul_left (least_fill t.capacity - 1) c.in_ok-make_room.ensures.room in omega (arith, wide, c.nodes_for-room.ensures, c.len-rows.ensures.len, k.ids);
      keys = c.make_room.ensures.keys;
    } in
    let leaves_room : n ≤ spare c.reserve.new.self = c.in_ok-reserve.ensures.ok in
    roomier-kept t u c.make_room.ensures.same c.reserve.ensures.entries refl refl refl refl refl i.spare k n room leaves_room

pub returns-clause-lists : goal.returns-clause-lists
returns-clause-lists g c =
    let t = c.self.inside.arena in
    let u : Arena g.row.D =
    record { nodes = c.make_room.new.nodes; leaves = c.reserve.new.self; pending = t.pending; root = t.root; level = t.level; capacity = t.capacity } in
    outside-same t u c.make_room.ensures.same c.reserve.ensures.entries refl refl refl refl refl
    ∙ ap (λ (v : TreeLists g.row.D). v.lists) c.self.view_is

pub returns-clause-most : goal.returns-clause-most
returns-clause-most g c =
    let k = c.self.invariant in
    let long = ap (λ (v : TreeLists g.row.D). length v.lists.rows) c.self.view_is in
    omega (arith, c.room_ahead-spare.ensures.most, rows-are c.self.inside k, long, c.len-rows.ensures.len, k.ids)

pub returns-then-more-self : goal.returns-then-more-self
returns-then-more-self g c =
    let enough = le_trans c.if-more-self.true (le_of_eq (ap (λ (v : TreeLists g.row.D). v.spare) c.self.view_is)) in
    record { same = λ h. (refl, refl); room = enough; keeps = le_refl _; most = most-old _ _ _ refl; lists = refl; ids = refl }

pub returns-then-more-gt-MOST_ROOM : goal.returns-then-more-gt-MOST_ROOM
returns-then-more-gt-MOST_ROOM g c =
    let spare = ap (λ (v : TreeLists g.row.D). v.spare) c.self.view_is in
    record {
      same = λ enough. absurd (not-enough _ _ _ spare c.if-more-self.false enough);
      room = tt;
      keeps = le_refl _;
      most = most-old _ _ _ refl;
      lists = refl;
      ids = refl;
    }

pub returns-in_err-make_room : goal.returns-in_err-make_room
returns-in_err-make_room g c =
    let t = c.self.inside.arena in
    let u : Arena g.row.D =
    record { nodes = c.make_room.new.nodes; leaves = t.leaves; pending = t.pending; root = t.root; level = t.level; capacity = t.capacity } in
    let spare = ap (λ (v : TreeLists g.row.D). v.spare) c.self.view_is in
    record {
      same = λ enough. absurd (not-enough _ _ _ spare c.if-more-self.false enough);
      room = IfOk-from_err _ _ c.from_residual.ensures.0;
      keeps = le_of_eq (sym spare);
      most = most-old _ _ _ spare;
      lists = outside-same t u c.make_room.ensures.same refl refl refl refl refl refl ∙ ap (λ (v : TreeLists g.row.D). v.lists) c.self.view_is;
      ids = ap (λ (v : TreeLists g.row.D). v.ids) c.self.view_is;
    }

pub returns-in_err-reserve : goal.returns-in_err-reserve
returns-in_err-reserve g c =
    let t = c.self.inside.arena in
    let u : Arena g.row.D =
    record { nodes = c.make_room.new.nodes; leaves = c.reserve.new.self; pending = t.pending; root = t.root; level = t.level; capacity = t.capacity } in
    let spare = ap (λ (v : TreeLists g.row.D). v.spare) c.self.view_is in
    record {
      same = λ enough. absurd (not-enough _ _ _ spare c.if-more-self.false enough);
      room = IfOk-from_err _ _ c.from_residual-in_err-reserve.ensures.0;
      keeps = le_of_eq (sym spare);
      most = most-old _ _ _ spare;
      lists = outside-same t u c.make_room.ensures.same c.reserve.ensures.entries refl refl refl refl refl ∙ ap (λ (v : TreeLists g.row.D). v.lists) c.self.view_is;
      ids = ap keys_of c.reserve.ensures.entries ∙ ap (λ (v : TreeLists g.row.D). v.ids) c.self.view_is;
    }

pub returns-clause-same : goal.returns-clause-same
returns-clause-same g c = λ enough. absurd (not-enough _ _ _ (ap (λ (v : TreeLists g.row.D). v.spare) c.self.view_is) c.if-more-self.false enough)

pub returns-clause-room : goal.returns-clause-room
returns-clause-room g c = c.room_ahead-spare.ensures.room

pub returns-clause-keeps : goal.returns-clause-keeps
returns-clause-keeps g c = keeps-ahead _ _ _ _ (ap (λ (v : TreeLists g.row.D). v.spare) c.self.view_is) c.if-more-self.false c.room_ahead-spare.ensures.room

pub returns-clause-ids : goal.returns-clause-ids
returns-clause-ids g c = ap keys_of c.reserve.ensures.entries ∙ ap (λ (v : TreeLists g.row.D). v.ids) c.self.view_is
