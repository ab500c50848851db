use Rattle.std.proofs.Common.{rules, arith}
use Rattle.std.proofs.lemmas.Grind.{common_steps}
use Rattle.rt_sql.specs.Number.{number_by}
use Rattle.rt_sql.specs.Reading.{sees}
use Rattle.rt_sql.proofs.Sequences.{loop_none, goes_on, ends, comes_nearer}
use Rattle.rt_sql.proofs.grammar.items.sequence.Goals as goal

pub returns-in_err-read : goal.returns-in_err-read
returns-in_err-read g c =
    let numbers = number_by c.args.numbers in
    let e = loop_none (sees c.args.separator) (g.T.Item.rule numbers) c.requires c.items.items c.items.tokens in
    first_of (search rules, grind (arith, common_steps))

pub returns-then-not-eat : goal.returns-then-not-eat
returns-then-not-eat g c =
    let numbers = number_by c.args.numbers in
    ends (sees c.args.separator) (g.T.Item.rule numbers) c.requires c.items.items c.push.new.self c.items.tokens c.read.new.tokens c.eat.new.tokens c.in_ok-read.field-0
    c.items.invariant c.in_ok-read.ensures (search rules) c.eat.ensures.after (search rules)

pub items-smaller : goal.items-smaller
items-smaller g c =
    let numbers = number_by c.args.numbers in
    comes_nearer (sees c.args.separator) (g.T.Item.rule numbers) c.requires c.items.items c.push.new.self c.items.tokens c.read.new.tokens c.eat.new.tokens c.in_ok-read.field-0
    c.in_ok-read.ensures c.eat.ensures.after (search rules)

pub items-preserved : goal.items-preserved
items-preserved g c =
    let numbers = number_by c.args.numbers in
    goes_on (sees c.args.separator) (g.T.Item.rule numbers) c.requires c.items.items c.push.new.self c.items.tokens c.read.new.tokens c.eat.new.tokens c.in_ok-read.field-0
    c.items.invariant c.in_ok-read.ensures (search rules) c.eat.ensures.after (search rules)
