use Rattle.std.proofs.Common.{◌≡◌, ℕ, zero, suc, ◌+◌, ◌*◌, ◌^◌, ◌<◌, ◌≤◌, List, [], ◌++◌, take, drop, length, arith, rules, ap, ◌∙◌, sym, subst}
use Rattle.std.specs.List.Sorted.{IsPermutation}
use Rattle.std.proofs.Math.Nat.{two-pow-succ}
use Rattle.std.proofs.lemmas.List.{append-nil, drop_all, take_all}
use Rattle.std.proofs.lemmas.List.Sorted.{length_permutation}
use Rattle.slab.specs.Slab.{ContainsKey}
use Rattle.rt_box.specs.Capacity.{most_cells}
use Rattle.rt_tree_node.specs.Places.{cells_at}
use Rattle.rt_tree_pack.specs.Steps.{MayFill, IsBelowRoot, PacksUpTo, HasRoomToPack, Fills}
use Rattle.rt_tree_pack.proofs.Packed.{below-none, below-reordered, root-present, below-root, over-still, room-to_pack, below-more, smaller, may-fill, none-yet, packed}
use Rattle.rt_tree_pack.proofs.packing.pack.Goals as goal

-- what was written back through a slice of a whole list
put-back : {X : Type 0} (len : ℕ) (items new : List X) → len ≡ length items → IsPermutation items new → take len (new ++ drop (length new) items) ≡ new
put-back len items new is moved =
    let long = length_permutation items new moved in
    ap (λ (xs : List _). take len (new ++ xs)) (drop_all (length new) items (omega (arith, long)))
    ∙ ap (take len) (append-nil new) ∙ take_all len new (omega (arith, long, is))

pub loop-alloc-init : goal.loop-alloc-init
loop-alloc-init g c = below-none c.args.tree.now c.args.rows.items c.requires.bare c.requires.entered

-- there are no more cells than rows
scaled-up : (n k : ℕ) → k ≤ 2 ^ n * k
scaled-up zero k = omega arith
scaled-up (suc n) k = omega (arith, scaled-up n k, ap (λ x. x * k) (two-pow-succ n))

pub tile-requires : goal.tile-requires
tile-requires g c =
    let few = c.requires.few in
    let items = c.loop-alloc.cells.items in
    let places : length c.deref_mut.result.now ≤ 2147483648 =
    omega (arith, ap length c.deref_mut.ensures.value, scaled-up c.loop-alloc.tree.level (length items), c.loop-alloc.invariant.height, c.requires.most) in
    search rules

pub pack_level-requires : goal.pack_level-requires
pack_level-requires g c =
    let few = c.requires.few in
    let s = c.args.tree.now in
    let t = c.loop-alloc.tree in
    let v = c.lift_root.new.tree in
    let rows = c.args.rows.items in
    let items = c.loop-alloc.cells.items in
    let new = c.tile.new.cells in
    let moved : IsPermutation items new = subst (λ xs. IsPermutation xs new) c.deref_mut.ensures.value c.in_ok-tile.ensures in
    let cells : c.deref.result.now ≡ new = c.deref.ensures.value ∙ put-back c.loop-alloc.cells.len items new c.loop-alloc.cells.ok.0 moved in
    let so_far = below-reordered s t rows items new c.loop-alloc.invariant moved in
    let over : t.capacity < length new = omega (arith, length_permutation items new moved, c.loop-alloc-test.true, c.greatest.ensures.value, c.len.ensures) in
    let below : IsBelowRoot v t.level c.deref.result.now = subst (λ xs. IsBelowRoot v t.level xs) (sym cells) (below-root s t rows new so_far over v c.lift_root.ensures) in
    let many : v.capacity < length c.deref.result.now = subst (λ xs. v.capacity < length xs) (sym cells) (over-still s t rows new so_far over v c.lift_root.ensures) in
    let room : HasRoomToPack v c.deref.result.now = subst (HasRoomToPack v) (sym cells) (room-to_pack s t rows new so_far over v c.lift_root.ensures c.requires.room) in
    let keys : v.nodes.capacity ≤ 4611686018427387904 = omega (arith, c.lift_root.ensures.puts.room, so_far.room, c.requires.room.keys) in
    search rules

pub loop-alloc-smaller : goal.loop-alloc-smaller
loop-alloc-smaller g c =
    let s = c.args.tree.now in
    let t = c.loop-alloc.tree in
    let v = c.lift_root.new.tree in
    let rows = c.args.rows.items in
    let items = c.loop-alloc.cells.items in
    let new = c.tile.new.cells in
    let moved : IsPermutation items new = subst (λ xs. IsPermutation xs new) c.deref_mut.ensures.value c.in_ok-tile.ensures in
    let cells : c.deref.result.now ≡ new = c.deref.ensures.value ∙ put-back c.loop-alloc.cells.len items new c.loop-alloc.cells.ok.0 moved in
    let so_far = below-reordered s t rows items new c.loop-alloc.invariant moved in
    let long = length_permutation items new moved in
    let over : t.capacity < length new = omega (arith, long, c.loop-alloc-test.true, c.greatest.ensures.value, c.len.ensures) in
    let packs : PacksUpTo v c.pack_level.new.tree t.level new [] c.in_ok-cells.cells.items =
    subst (λ xs. PacksUpTo v c.pack_level.new.tree t.level xs [] c.in_ok-cells.cells.items) cells c.in_ok-cells.ensures in
    omega (arith, long, smaller s t rows new so_far over v c.lift_root.ensures c.pack_level.new.tree c.in_ok-cells.cells.items packs)

pub loop-alloc-preserved : goal.loop-alloc-preserved
loop-alloc-preserved g c =
    let s = c.args.tree.now in
    let t = c.loop-alloc.tree in
    let v = c.lift_root.new.tree in
    let rows = c.args.rows.items in
    let items = c.loop-alloc.cells.items in
    let new = c.tile.new.cells in
    let moved : IsPermutation items new = subst (λ xs. IsPermutation xs new) c.deref_mut.ensures.value c.in_ok-tile.ensures in
    let cells : c.deref.result.now ≡ new = c.deref.ensures.value ∙ put-back c.loop-alloc.cells.len items new c.loop-alloc.cells.ok.0 moved in
    let so_far = below-reordered s t rows items new c.loop-alloc.invariant moved in
    let over : t.capacity < length new = omega (arith, length_permutation items new moved, c.loop-alloc-test.true, c.greatest.ensures.value, c.len.ensures) in
    let packs : PacksUpTo v c.pack_level.new.tree t.level new [] c.in_ok-cells.cells.items =
    subst (λ xs. PacksUpTo v c.pack_level.new.tree t.level xs [] c.in_ok-cells.cells.items) cells c.in_ok-cells.ensures in
    below-more s t rows new so_far over v c.lift_root.ensures c.pack_level.new.tree c.in_ok-cells.cells.items packs

pub fill-requires : goal.fill-requires
fill-requires g c =
    let few = c.requires.few in
    let s = c.args.tree.now in
    let t = c.loop-alloc.tree in
    let rows = c.args.rows.items in
    let items = c.loop-alloc.cells.items in
    let inv = c.loop-alloc.invariant in
    let cells : c.deref-2.result.now ≡ items = c.deref-2.ensures.value in
    let fits : length items ≤ t.capacity = omega (arith, c.loop-alloc-test.false, c.greatest.ensures.value, c.len.ensures) in
    let high = inv.opened.fitted.cap.1 in
    let present : ContainsKey t.nodes t.root = root-present s t rows items inv in
    let room : length (cells_at t.nodes t.root) + length c.deref-2.result.now ≤ most_cells = omega (arith, none-yet s t rows items inv fits, ap length cells, fits, high) in
    let named : MayFill t t.root t.level c.deref-2.result.now = subst (λ xs. MayFill t t.root t.level xs) (sym cells) (may-fill s t rows items inv fits) in
    search rules

pub returns : goal.returns
returns g c =
    let s = c.args.tree.now in
    let t = c.loop-alloc.tree in
    let items = c.loop-alloc.cells.items in
    let fits : length items ≤ t.capacity = omega (arith, c.loop-alloc-test.false, c.greatest.ensures.value, c.len.ensures) in
    packed s t c.args.rows.items items c.loop-alloc.invariant fits c.fill.new.tree
    (subst (λ xs. Fills t c.fill.new.tree t.root t.level xs) c.deref-2.ensures.value c.fill.ensures) c.requires.bare.idle
