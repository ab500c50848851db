use Rattle.std.proofs.Common.{◌≡◌, sym, ◌∙◌, ap, arith, ◌-◌, ◌+◌, ◌&&◌}
use Rattle.rt_check_dump.specs.Lines.{are_numbers}
use Rattle.rt_check_dump.proofs.Wording.{are_numbers-none, are_numbers-next, are_numbers-done}
use Rattle.rt_check_dump.proofs.lines.are_numbers.Goals as goal

pub returns-in_default : goal.returns-in_default
returns-in_default c =
    let n = c.args.count in let m = c.loop-turn._turn in
    sym (are_numbers-none n m c.loop-turn-test.true) ∙ ap (are_numbers (n - m)) (sym c.in_default.ensures.0) ∙ c.loop-turn.invariant

pub returns-then-not-is_number : goal.returns-then-not-is_number
returns-then-not-is_number c =
    let n = c.args.count in let m = c.loop-turn._turn in
    let after = are_numbers (n - (m + 1)) c.next.new.self in
    ap (λ b. b && after) c.if-not-is_number.ensures
    ∙ sym (are_numbers-next n m c.in-Some.word.now c.next.new.self c.loop-turn-test.true)
    ∙ ap (are_numbers (n - m)) (sym c.in-Some.ensures) ∙ c.loop-turn.invariant

pub loop-turn-preserved : goal.loop-turn-preserved
loop-turn-preserved c =
    let n = c.args.count in let m = c.loop-turn._turn in
    let after = are_numbers (n - (m + 1)) c.next.new.self in
    ap (λ b. b && after) c.if-not-is_number.ensures
    ∙ sym (are_numbers-next n m c.in-Some.word.now c.next.new.self c.loop-turn-test.true)
    ∙ ap (are_numbers (n - m)) (sym c.in-Some.ensures) ∙ c.loop-turn.invariant

pub returns : goal.returns
returns c =
    let n = c.args.count in let m = c.loop-turn._turn in
    let ended : n - m ≡ 0 = omega (arith, c.loop-turn-test.false) in
    are_numbers-done c.is_done.result c.loop-turn.words c.is_done.ensures
    ∙ ap (λ k. are_numbers k c.loop-turn.words) (sym ended) ∙ c.loop-turn.invariant
