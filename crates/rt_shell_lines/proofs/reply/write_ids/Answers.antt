use Rattle.std.proofs.Common.{◌≡◌, ℕ, ℤ, [], List, ◌++◌, ap, sym, ◌∙◌, append-nil, take-append-drop}
use Rattle.std.specs.List.{flat_map}
use Rattle.std.proofs.lemmas.Grind.{flat_map-append}
use Rattle.rt_bytes.proofs.Writing.{WritesAll-trans}
use Rattle.rt_reply.specs.Rows.{id_values}
use Rattle.rt_shell_lines.specs.Lines.{row_line}
use Rattle.rt_shell_lines.proofs.Parts.{goes_on, three_parts, is_nil}
use Rattle.rt_shell_lines.proofs.Sequences.{Writes-middle}
use Rattle.rt_shell_lines.proofs.reply.write_ids.Goals as goal

abbrev line : ℤ → List ℕ
line id = row_line (id_values id)

pub returns-in_err-write_whole : goal.returns-in_err-write_whole
returns-in_err-write_whole g c =
    let rest = c.loop-rest.rest.now in
    let done = c.loop-rest.invariant.0 in
    let few = c.split_at.result.0.now in
    let later = c.split_at.result.1.now in
    let joined : few ++ later ≡ rest = rw (c.split_at.ensures.front, c.split_at.ensures.back) (take-append-drop c.min.result rest) in
    Writes-middle _ _ _ _ _ _ _ (flat_map line done) (flat_map line few) (flat_map line later) _
    (three_parts line c.args.ids.now done few later (goes_on c.args.ids.now done rest few later c.loop-rest.invariant.1 joined))
    c.from_residual.ensures.0 c.loop-rest.invariant.2 (rw (c.as_slice.ensures, c.set_ids.ensures) at c.in_err-write_whole.ensures)

pub loop-rest-preserved : goal.loop-rest-preserved
loop-rest-preserved g c =
    let rest = c.loop-rest.rest.now in
    let done = c.loop-rest.invariant.0 in
    let few = c.split_at.result.0.now in
    let later = c.split_at.result.1.now in
    let joined : few ++ later ≡ rest = rw (c.split_at.ensures.front, c.split_at.ensures.back) (take-append-drop c.min.result rest) in (
      done ++ few,
      goes_on c.args.ids.now done rest few later c.loop-rest.invariant.1 joined,
      rw (flat_map-append line done few)
          (WritesAll-trans _ _ _ _ _ _ (flat_map line done) (flat_map line few) c.loop-rest.invariant.2 (rw (c.as_slice.ensures, c.set_ids.ensures) at c.in_ok-write_whole.ensures)),
    )

pub returns : goal.returns
returns g c =
    let rest = c.loop-rest.rest.now in
    let done = c.loop-rest.invariant.0 in
    let empty : rest ≡ [] = is_nil rest (sym c.loop-rest-test.false ∙ c.is_empty.ensures) in
    let all : done ≡ c.args.ids.now = sym (append-nil done) ∙ ap (λ l. done ++ l) (sym empty) ∙ c.loop-rest.invariant.1 in
    rw (← all) c.loop-rest.invariant.2
