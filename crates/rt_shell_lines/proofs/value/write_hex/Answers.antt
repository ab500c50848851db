use Rattle.std.proofs.Common.{◌≡◌, [], ◌++◌, ap, sym, ◌∙◌, append-nil, take-append-drop}
use Rattle.std.specs.List.{flat_map}
use Rattle.std.proofs.lemmas.Grind.{flat_map-append}
use Rattle.rt_bytes.proofs.Writing.{WritesAll-trans}
use Rattle.rt_shell_lines.specs.Lines.{hex_pair}
use Rattle.rt_shell_lines.proofs.Parts.{goes_on, three_parts, is_nil}
use Rattle.rt_shell_lines.proofs.Sequences.{Writes-middle}
use Rattle.rt_shell_lines.proofs.value.write_hex.Goals as goal

pub returns-in_err-write_few : goal.returns-in_err-write_few
returns-in_err-write_few g c =
    let rest = c.loop-rest.rest.now in
    let done = c.loop-rest.invariant.0 in
    let front = c.split_at.result.0.now in
    let later = c.split_at.result.1.now in
    let joined : front ++ later ≡ rest = rw (c.split_at.ensures.front, c.split_at.ensures.back) (take-append-drop c.min.result rest) in
    Writes-middle _ _ _ _ _ _ _ (flat_map hex_pair done) (flat_map hex_pair front) (flat_map hex_pair later) _
    (three_parts hex_pair c.args.bytes.now done front later (goes_on c.args.bytes.now done rest front later c.loop-rest.invariant.1 joined))
    c.from_residual.ensures.0 c.loop-rest.invariant.2 c.in_err-write_few.ensures

pub loop-rest-preserved : goal.loop-rest-preserved
loop-rest-preserved g c =
    let rest = c.loop-rest.rest.now in
    let done = c.loop-rest.invariant.0 in
    let front = c.split_at.result.0.now in
    let later = c.split_at.result.1.now in
    let joined : front ++ later ≡ rest = rw (c.split_at.ensures.front, c.split_at.ensures.back) (take-append-drop c.min.result rest) in (
      done ++ front,
      goes_on c.args.bytes.now done rest front later c.loop-rest.invariant.1 joined,
      rw (flat_map-append hex_pair done front)
          (WritesAll-trans _ _ _ _ _ _ (flat_map hex_pair done) (flat_map hex_pair front) c.loop-rest.invariant.2 c.in_ok-write_few.ensures),
    )

pub returns : goal.returns
returns g c =
    let rest = c.loop-rest.rest.now in
    let done = c.loop-rest.invariant.0 in
    let empty : rest ≡ [] = is_nil rest (sym c.loop-rest-test.false ∙ c.is_empty.ensures) in
    let all : done ≡ c.args.bytes.now = sym (append-nil done) ∙ ap (λ l. done ++ l) (sym empty) ∙ c.loop-rest.invariant.1 in
    rw (← all) c.loop-rest.invariant.2
