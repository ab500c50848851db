use Rattle.std.proofs.Common.{◌≡◌, ℕ, ◌<◌, ◌≤◌, ◌++◌, List, take, drop, length, arith, rules, ap, ◌∙◌, sym, subst}
use Rattle.std.proofs.lemmas.List.{take-append-drop, length-take-le}
use Rattle.std.proofs.lemmas.Result.{IfOk-from_err}
use Rattle.slab.specs.Slab.{HasRoomFor}
use Rattle.rt_tree_node.specs.declared.arena.Arena.{Arena}
use Rattle.rt_tree_node.specs.declared.cell.Cell.{Cell}
use Rattle.rt_tree_place.proofs.Few.{least-two}
use Rattle.rt_tree_pack.specs.Steps.{IsRun, MayPack, PacksUpTo}
use Rattle.rt_tree_pack.proofs.Levels.{may-pack, packs-none, room-for_node, packs-more}
use Rattle.rt_tree_pack.proofs.level.pack_level.Goals as goal

module _ {D : ℕ} (s t : Arena D) (level k : ℕ) (cells left run rest next : List (Cell D)) (front : run ≡ take k left) (back : rest ≡ drop k left)
    (so_far : PacksUpTo s t level cells left next) (is : IsRun t.capacity (length left) k) (within : k ≤ length left) where
  joined : run ++ rest ≡ left
  joined = ap (λ r. r ++ rest) front ∙ ap (λ r. take k left ++ r) back ∙ take-append-drop k left

  cut : PacksUpTo s t level cells (run ++ rest) next
  cut = subst (λ l. PacksUpTo s t level cells l next) (sym joined) so_far

  cut-run : IsRun s.capacity (length (run ++ rest)) (length run)
  cut-run =
      let long : length run ≡ k = ap length front ∙ length-take-le k left within in
      subst (λ n. IsRun s.capacity n (length run)) (ap length (sym joined))
      (subst (λ j. IsRun s.capacity (length left) j) (sym long) (subst (λ m. IsRun m (length left) k) (ap (λ v. v.capacity) so_far.frame) is))

positive : (n m : ℕ) → n ≡ m → 5 ≤ m → 0 < n
positive n m is low = omega arith

pub nonzero_div-cells : goal.nonzero_div-cells
nonzero_div-cells g c = positive c.greatest.result c.args.tree.now.capacity c.greatest.ensures.value c.greatest.ensures.valid.0

pub pack_node-cell-requires : goal.pack_node-cell-requires
pack_node-cell-requires g c =
    let few = c.requires.few in
    let s = c.args.tree.now in
    let t = c.loop-left.tree in
    let run = c.split_at.result.0.now in
    let rest = c.split_at.result.1.now in
    let left = c.loop-left.left.now in
    let next = c.loop-left.next.items in
    let inv = c.loop-left.invariant in
    let is = c.run_length.ensures in
    let so_far = cut s t c.args.level c.run_length.result c.args.cells.now left run rest next c.split_at.ensures.front c.split_at.ensures.back inv is is.within in
    let shape = cut-run s t c.args.level c.run_length.result c.args.cells.now left run rest next c.split_at.ensures.front c.split_at.ensures.back inv is is.within in
    let low = least-two s.capacity c.requires.below.opened.fitted.cap in
    let may : MayPack t c.args.level run = may-pack s t c.args.level c.args.cells.now run rest next so_far c.requires.below.below shape in
    let room : HasRoomFor t.nodes 1 = room-for_node s t c.args.level c.args.cells.now run rest next so_far (omega (arith, low, shape.least)) c.requires.room in
    let keys : t.nodes.capacity ≤ 4611686018427387904 = omega (arith, inv.room, c.requires.keys) in
    search rules

pub loop-left-preserved : goal.loop-left-preserved
loop-left-preserved g c =
    let s = c.args.tree.now in
    let t = c.loop-left.tree in
    let u = c.pack_node-cell.new.tree in
    let run = c.split_at.result.0.now in
    let rest = c.split_at.result.1.now in
    let left = c.loop-left.left.now in
    let next = c.loop-left.next.items in
    let inv = c.loop-left.invariant in
    let is = c.run_length.ensures in
    let so_far = cut s t c.args.level c.run_length.result c.args.cells.now left run rest next c.split_at.ensures.front c.split_at.ensures.back inv is is.within in
    let shape = cut-run s t c.args.level c.run_length.result c.args.cells.now left run rest next c.split_at.ensures.front c.split_at.ensures.back inv is is.within in
    subst (λ ns. PacksUpTo s u c.args.level c.args.cells.now rest ns) (sym c.in_ok-push.ensures.items)
    (packs-more s t c.args.level c.args.cells.now run rest next so_far u c.pack_node-cell.result c.pack_node-cell.ensures shape)

pub loop-left-init : goal.loop-left-init
loop-left-init g c =
    let s = c.args.tree.now in
    let cells = c.args.cells.now in
    subst (λ ns. PacksUpTo s s c.args.level cells cells ns) (sym c.in_ok-next.ensures.items) (packs-none s c.args.level cells c.requires.below c.requires.many)

pub split_at-requires : goal.split_at-requires
split_at-requires g c = c.run_length.ensures.within

pub returns-in_err-next : goal.returns-in_err-next
returns-in_err-next g c = IfOk-from_err _ _ c.from_residual.ensures.0

pub returns-in_err-push : goal.returns-in_err-push
returns-in_err-push g c = IfOk-from_err _ _ c.from_residual-in_err-push.ensures.0
