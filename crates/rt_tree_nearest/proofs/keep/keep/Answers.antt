use Rattle.std.proofs.Common.{◌≡◌, ◌<◌, ◌≤◌, ◌^◌, List, [], ◌∷◌, ◌++◌, length, arith, ap, sym, ◌∙◌, subst}
use Rattle.std.specs.List.Sorted.{IsPermutation}
use Rattle.std.specs.BinaryHeap.{heap_items}
use Rattle.std.proofs.lemmas.List.Sorted.{IsPermutation-refl, length_permutation}
use Rattle.rt_tree_nearest.specs.declared.candidate.Candidate.{Candidate}
use Rattle.rt_tree_nearest.specs.Candidates.{items_in}
use Rattle.rt_tree_nearest.proofs.Keeping.{out-far, keeps-out, keeps-listed}
use Rattle.rt_tree_nearest.proofs.keep.keep.Goals as goal

pub returns-then-candidate-reach : goal.returns-then-candidate-reach
returns-then-candidate-reach g c =
    let q = c.args.query.now in
    let kept = items_in c.args.kept.now in
    let x = c.args.candidate in
    let fits : x.distance < 2 ^ 128 = omega arith in
    let far : c.reach.result < x.distance = omega arith in
    record {
      keeps = keeps-out q kept x c.requires.rows (out-far q kept c.reach.result c.reach.ensures x (x.distance, fits, far, omega arith));
      shape = c.requires.shape;
    }

pub returns-then-len-query : goal.returns-then-len-query
returns-then-len-query g c =
    let q = c.args.query.now in
    let x = c.args.candidate in
    let rows = c.in-Few.rows in
    let heap = heap_items c.from.result in
    let near : x.distance ≤ q.limit = omega (arith, c.if-candidate-reach.false, c.reach.ensures.within) in
    let list : c.replace-full.result.items ≡ rows.items ++ x ∷ [] = ap (λ v. v.items) c.replace-full.ensures.value ∙ c.in_ok-push-in-Few.ensures.items in
    let moved : IsPermutation (rows.items ++ x ∷ []) heap = subst (λ (xs : List (Candidate g.row.D)). IsPermutation xs heap) list c.from.ensures.1 in
    let full : length (rows.items ++ x ∷ []) ≡ q.k = omega (arith, ap length c.in_ok-push-in-Few.ensures.items, c.if-len-query.true, c.len.ensures, c.push.new.self.ok) in
    record {
      keeps = keeps-listed q c.args.kept.now rows heap x c.in-Few.is c.requires near moved;
      shape = (length_permutation (rows.items ++ x ∷ []) heap moved ∙ full, c.from.ensures.2);
    }

pub returns-else-len-query : goal.returns-else-len-query
returns-else-len-query g c =
    let q = c.args.query.now in
    let x = c.args.candidate in
    let rows = c.in-Few.rows in
    let new = c.push.new.self.items in
    let near : x.distance ≤ q.limit = omega (arith, c.if-candidate-reach.false, c.reach.ensures.within) in
    let moved : IsPermutation (rows.items ++ x ∷ []) new =
    subst (λ (xs : List (Candidate g.row.D)). IsPermutation (rows.items ++ x ∷ []) xs) (sym {A = List (Candidate g.row.D)} c.in_ok-push-in-Few.ensures.items) (IsPermutation-refl (rows.items ++ x ∷ [])) in
    let keeps = keeps-listed q c.args.kept.now rows new x c.in-Few.is c.requires near moved in
    record {
      keeps = keeps;
      shape = omega (arith, keeps.kept.few, c.if-len-query.false, c.len.ensures, c.push.new.self.ok);
    }
