use Rattle.std.proofs.Common.{◌≡◌, ◌<◌, length, true, false, arith, rules, ◌∙◌, subst}
use Rattle.rt_tree_many.specs.Insertion.{Claims}
use Rattle.rt_tree_many.proofs.Claimed.{claimed-none, claimed-more, claimed-all, taken-first}
use Rattle.rt_tree_many.proofs.insertion.first_taken.Goals as goal

pub loop-at-init : goal.loop-at-init
loop-at-init g c =
    claimed-none c.args.tree.now.lists c.args.rows.now c.reserve.new.self.keys (c.reserve.ensures.keys ∙ c.with_hasher-claimed.ensures.empty)

pub loop-at-preserved : goal.loop-at-preserved
loop-at-preserved g c =
    let s = c.args.tree.now.lists in
    let rows = c.args.rows.now in
    let row = c.index-rows-at.result in
    let i = c.loop-at.at in
    let old = c.loop-at.claimed.keys in
    let after = c.claim.new.claimed.keys in
    let within : i < length rows = omega (arith, c.loop-at-test.true) in
    let new : c.in_ok-is_new.is_new ≡ true = search rules in
    claimed-more s rows old after i row within c.index-rows-at.is c.loop-at.invariant (subst (Claims s old after row.id) new c.in_ok-is_new.ensures)

pub returns-then-not-is_new : goal.returns-then-not-is_new
returns-then-not-is_new g c =
    let s = c.args.tree.now.lists in
    let rows = c.args.rows.now in
    let row = c.index-rows-at.result in
    let i = c.loop-at.at in
    let old = c.loop-at.claimed.keys in
    let after = c.claim.new.claimed.keys in
    let within : i < length rows = omega (arith, c.loop-at-test.true) in
    let held : c.in_ok-is_new.is_new ≡ false = search rules in
    taken-first s rows old after i row within c.index-rows-at.is c.loop-at.invariant (subst (Claims s old after row.id) held c.in_ok-is_new.ensures)

pub returns : goal.returns
returns g c =
    claimed-all c.args.tree.now.lists c.args.rows.now c.loop-at.claimed.keys c.loop-at.at (omega (arith, c.loop-at-test.false)) c.loop-at.invariant
