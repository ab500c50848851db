use Rattle.std.proofs.Common.{◌≡◌, ◌+◌, ℤ, List, [], ◌∷◌, ◌++◌, take, sym, ap, subst}
use Rattle.rt_box.specs.declared.interval.Interval.{Interval}
use Rattle.rt_map.specs.Packing.{ids}
use Rattle.rt_tree_many.specs.Parts.{AddsPart, FindsIds, FindsMany}
use Rattle.rt_tree_many.proofs.Lists.{take-item}
use Rattle.rt_tree_many.proofs.Joined.{found-ids, finds-more}
use Rattle.rt_tree_many.proofs.searching.search_in_turn.Goals as goal

pub loop-window-preserved : goal.loop-window-preserved
loop-window-preserved g c =
    let s = c.args.tree.now.lists in
    let windows = c.args.windows.now in
    let window = c.window-item.result in
    let i = c.loop-window.window-index in
    let old = c.loop-window.found in
    let new = c.add.new.self in
    let rows = c.search_into.new.rows.items in
    let next : take (i + 1) windows ≡ take i windows ++ window ∷ [] = take-item windows i window c.loop-window-test.true c.window-item.is in
    let finds : FindsIds s window (ids rows) = found-ids s window c.clear.new.self.items rows _ c.clear.ensures.items c.in_ok-search_into.ensures.ok in
    let adds : AddsPart (ids rows) old new = subst (λ (zs : List ℤ). AddsPart zs old new) (ap ids c.deref.ensures.value) c.in_ok-add.ensures in
    subst (λ (ws : List (List Interval)). FindsMany s ws new.ids.items new.starts.items) (sym next)
    (finds-more s (take i windows) window (ids rows) old new c.loop-window.invariant finds adds)
