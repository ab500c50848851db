use Rattle.std.proofs.Common.{◌<◌, ◌≤◌, List, [], ◌∷◌, ◌++◌, length, map, take, ap, ◌∙◌, sym, subst, falls}
use Rattle.std.specs.List.Sorted.{IsPermutation}
use Rattle.std.proofs.lemmas.List.{map_more, take_all}
use Rattle.std.proofs.lemmas.Result.{IfOk-from_err}
use Rattle.rt_tree_walk.specs.declared.searching.Row.{Row}
use Rattle.rt_tree_nearest.specs.declared.candidate.Candidate.{Candidate}
use Rattle.rt_tree_nearest.specs.Candidates.{items_in, own_row}
use Rattle.rt_tree_nearest.proofs.keep.ordered.Goals as goal
use Rattle.rt_tree_nearest.proofs.keep.ordered.Goals.{in-Few, in-Full}

pub returns-in_err-rows : goal.returns-in_err-rows
returns-in_err-rows g c = IfOk-from_err _ _ c.from_residual.ensures.0

pub returns-in_err-push : goal.returns-in_err-push
returns-in_err-push g c = IfOk-from_err _ _ c.from_residual-in_err-push.ensures.0

pub loop-at-init : goal.loop-at-init
loop-at-init g c = c.in_ok-rows.ensures.items

pub index-requires : goal.index-requires
index-requires g c = subst (λ n. c.loop-at.at < n) c.len-at-end.ensures c.loop-at-test.true

pub loop-at-smaller : goal.loop-at-smaller
loop-at-smaller g c = falls c.len-at-end.result c.loop-at.at c.loop-at-test.true

pub loop-at-preserved : goal.loop-at-preserved
loop-at-preserved g c =
    let i = c.loop-at.at in
    let all = c.sort_unstable.new.self in
    let x = c.index.result.now in
    let own : Candidate g.row.D → Row g.row.D = own_row in
    let within : i < length all.items = subst (λ n. i < n) (c.len-at-end.ensures ∙ all.ok.0) c.loop-at-test.true in
    c.in_ok-push.ensures.items ∙ ap (λ (rows : List (Row g.row.D)). rows ++ c.row.result ∷ []) c.loop-at.invariant
    ∙ ap (λ (r : Row g.row.D). map own (take i all.items) ++ r ∷ []) (c.row.ensures ∙ ap own c.index.ensures) ∙ sym (map_more own all.items i x within)

pub returns : goal.returns
returns g c =
    let all = c.sort_unstable.new.self in
    let own : Candidate g.row.D → Row g.row.D = own_row in
    let done : length all.items ≤ c.loop-at.at = subst (λ n. n ≤ c.loop-at.at) (c.len-at-end.ensures ∙ all.ok.0) c.loop-at-test.false in
    let moved = c.sort_unstable.ensures.permutation in
    record {
      sorted = all.items;
      same = elim c.match-kept.branch [
        | in-Few w ↦ subst (λ (xs : List (Candidate g.row.D)). IsPermutation xs all.items) (ap (λ v. v.items) w.candidates-is ∙ sym (ap items_in w.in-Few.is)) moved
        | in-Full w ↦
            subst (λ (xs : List (Candidate g.row.D)). IsPermutation xs all.items)
            (ap (λ v. v.items) w.candidates-is ∙ ap (λ v. v.items) w.into_vec-candidates.ensures.value ∙ sym (ap items_in w.in-Full.is)) moved
      ];
      order = c.sort_unstable.ensures.sorted;
      own = c.loop-at.invariant ∙ ap (map own) (take_all c.loop-at.at all.items done);
    }
