use Rattle.std.proofs.Common.{take}
use Rattle.rt_tree_many.specs.Parts.{FindsMany}
use Rattle.rt_tree_many.proofs.searching.search_in_turn.Given as goal

abbrev pub invariant-loop-window : goal.invariant-loop-window
invariant-loop-window g l = FindsMany l.tree.lists (take l.window-index l.windows) l.found.ids.items l.found.starts.items
