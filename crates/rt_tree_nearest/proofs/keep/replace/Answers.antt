use Rattle.std.proofs.Common.{◌≡◌, true, false, arith, rules, ap, sym, ◌∙◌, subst}
use Rattle.std.specs.BinaryHeap.{heap_items, heap_len}
use Rattle.std.specs.declared.alloc.Global.{Global}
use Rattle.std.specs.declared.collections.BinaryHeap.{BinaryHeap}
use Rattle.std.specs.Option.{IfNone}
use Rattle.std.specs.Ordering.{is_lt}
use Rattle.rt_tree_nearest.specs.declared.candidate.Candidate.{Candidate}
use Rattle.rt_tree_nearest.specs.Candidates.{compare, ReplacesFrom}
use Rattle.rt_tree_nearest.proofs.Orders.{lt-compare}
use Rattle.rt_tree_nearest.proofs.Keeping.{keeps-written, keeps-unwritten, keeps-none_kept, none-there}
use Rattle.rt_tree_nearest.proofs.keep.replace.Goals as goal

pub returns-in_default : goal.returns-in_default
returns-in_default g c =
    let q = c.args.query.now in
    let old = c.args.heap.now in
    let x = c.args.candidate in
    let new = c.peek_mut.follows.lender-at-none in
    let same : new ≡ old = subst (λ r. IfNone r (new ≡ old)) c.in_default.is c.peek_mut.follows.holds-at-none in
    subst (λ (heap : BinaryHeap (Candidate g.row.D) Global). ReplacesFrom q x old heap) (sym same) (record {
      keeps = keeps-none_kept q (heap_items old) x c.requires.kept c.requires.full (omega (arith, none-there (heap_len old) c.in_default.ensures.variant.1, old.data.ok));
      full = c.requires.full;
      ordered = c.requires.ordered;
    })

pub returns-then-lt : goal.returns-then-lt
returns-then-lt g c =
    let x = c.args.candidate in
    let last = c.in-Some.last.top in
    let less : is_lt (compare x last) ≡ true = ap (λ y. is_lt (compare x y)) (sym c.deref.ensures) ∙ lt-compare x c.deref.result.now ∙ sym c.lt.ensures ∙ c.if-lt.true in
    let joined = c.drop-last.ensures.permutation (search rules) in
    let ordered = c.drop-last.ensures.heap_order (search rules) (c.in-Some.ensures.heap_order c.requires.ordered) in
    let written = keeps-written c.args.query.now c.args.heap.now c.drop-last.new.self.0 _ x last c.requires.kept c.requires.full c.requires.within less c.in-Some.ensures.permutation
    (c.in-Some.ensures.greatest c.requires.ordered) joined ordered in
    search rules

pub returns : goal.returns
returns g c =
    let x = c.args.candidate in
    let last = c.in-Some.last.top in
    let not_less : is_lt (compare x last) ≡ false = ap (λ y. is_lt (compare x y)) (sym c.deref.ensures) ∙ lt-compare x c.deref.result.now ∙ sym c.lt.ensures ∙ c.if-lt.false in
    let joined = c.drop-last-2.ensures.permutation (search rules) in
    let ordered = c.drop-last-2.ensures.heap_order (search rules) (c.in-Some.ensures.heap_order c.requires.ordered) in
    let unwritten = keeps-unwritten c.args.query.now c.args.heap.now c.drop-last-2.new.self.0 _ x last c.requires.kept c.requires.full not_less c.in-Some.ensures.permutation
    (c.in-Some.ensures.greatest c.requires.ordered) joined ordered in
    search rules
