use Rattle.std.proofs.Common.{◌≡◌, sym, ap, ◌∙◌, subst, Result, None, ℕ, []}
use Rattle.rt_check_dump.specs.declared.dump.AnyShadow.{AnyShadow}
use Rattle.rt_check_dump.specs.Lines.{words, kind_of, header_of}
use Rattle.rt_check_dump.specs.Reading.{Reads, read_lines, read_kind, read_text}
use Rattle.rt_check_dump.proofs.Cuts.{read_lines-first}
use Rattle.rt_check_dump.proofs.FaultyText.{told}
use Rattle.rt_check_dump.proofs.reading.read_dump.Goals as goal
use Rattle.rt_check_dump.specs.declared.fault.LineFault.{LineFault}

pub returns-clause-reads : goal.returns-clause-reads
returns-clause-reads c =
    let line = c.in-Some.line.now in
    let rest = c.next.new.self in
    let more : rest ≡ [] → ⊥ = λ none. let done = c.if-is_done.ensures.1 none in let no : ⊥ = cc in no in
    let whole : read_kind (kind_of None (words line)) (header_of (words line)) rest ≡ read_text c.args.bytes.now =
    sym (read_lines-first line rest more) ∙ ap read_lines (sym c.in-Some.ensures ∙ c.new-lines.ensures.value) in
    subst (λ (wanted : Result AnyShadow (ℕ × LineFault)). Reads wanted c.read_first.result) whole c.read_first.ensures

pub returns-clause-same : goal.returns-clause-same
returns-clause-same c = told c.args.bytes.now c.read_first.result (returns-clause-reads c)
