use Rattle.std.proofs.Common.{◌≡◌, length, replicate, None, rules}
use Rattle.rt_tree.specs.Search.{CountsIn}
use Rattle.rt_tree_many.proofs.Noted.{noted-none}
use Rattle.rt_tree_many.proofs.searching.count_many.Goals as goal

pub loop-place-init : goal.loop-place-init
loop-place-init g c =
    let windows = c.args.windows.now in
    let noted = c.in_ok-noted.noted.items in
    let none : noted ≡ replicate (length windows) None = search rules in
    noted-none (CountsIn c.args.tree.now.lists) windows noted none
