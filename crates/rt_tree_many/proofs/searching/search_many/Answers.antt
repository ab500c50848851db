use Rattle.std.proofs.Common.{◌≡◌, length, replicate, None, rules}
use Rattle.rt_tree_many.specs.Answers.{SpanAnswers}
use Rattle.rt_tree_many.specs.Parts.{FindsIds}
use Rattle.rt_tree_many.proofs.Noted.{noted-none}
use Rattle.rt_tree_many.proofs.searching.search_many.Goals as goal

pub loop-place-init : goal.loop-place-init
loop-place-init g c =
    let windows = c.args.windows.now in
    let spans = c.in_ok-spans.spans.items in
    let none : spans ≡ replicate (length windows) None = search rules in
    noted-none (SpanAnswers (FindsIds c.args.tree.now.lists) c.new-ids.result.items) windows spans none
