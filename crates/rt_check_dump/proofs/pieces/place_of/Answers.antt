use Rattle.std.proofs.Common.{◌≡◌, ℕ, ◌<◌, get_or, false, sym, length, arith}
use Rattle.std.specs.Prelude.{◌==◌}
use Rattle.std.proofs.lemmas.List.Sums.{position_or_len_is}
use Rattle.rt_check_dump.proofs.pieces.place_of.Goals as goal

pub returns-then-b-byte-clause-place : goal.returns-then-b-byte-clause-place
returns-then-b-byte-clause-place c =
    sym (position_or_len_is (λ b. b == c.args.byte) c.args.text.now c.loop-index.index 0 (omega arith) c.loop-index.invariant (λ _. grind arith))

pub returns-clause-place : goal.returns-clause-place
returns-clause-place c =
    let ended : c.loop-index.index ≡ length c.args.text.now = omega arith in
    let none : (k : ℕ) → k < length c.args.text.now → (get_or c.args.text.now k 0 == c.args.byte) ≡ false =
    λ k within. c.loop-index.invariant k (omega arith) in
    sym (position_or_len_is (λ b. b == c.args.byte) c.args.text.now (length c.args.text.now) 0 (omega arith) none (λ past. let no : ⊥ = omega arith in absurd no))
