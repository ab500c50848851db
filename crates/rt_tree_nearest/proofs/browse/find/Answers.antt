use Rattle.std.proofs.lemmas.Result.{IfOk-weaker}
use Rattle.rt_tree_walk.proofs.Progress.{IsSettled}
use Rattle.rt_tree_nearest.specs.Candidates.{IsAnswer}
use Rattle.rt_tree_nearest.proofs.Narrowed.{narrowed-answer}
use Rattle.rt_tree_nearest.proofs.browse.find.Goals as goal

pub returns : goal.returns
returns g c =
    let t = c.args.tree.now in
    let s : IsSettled t = record { whole = c.requires.whole; none = c.requires.settled } in
    let nearer = c.in_ok-nearer.field-0.query in
    IfOk-weaker c.browse.result (λ rows. IsAnswer t nearer rows.items) (λ rows. IsAnswer t c.args.query.now rows.items)
    (λ rows answer. narrowed-answer t s c.args.query.now nearer rows.items c.in_ok-nearer.ensures.query answer) c.browse.ensures
