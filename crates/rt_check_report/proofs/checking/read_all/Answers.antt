use Rattle.std.proofs.Common.{◌∙◌, List, ℕ, take, rules}
use Rattle.std.proofs.lemmas.Result.{err_from_is_err_and}
use Rattle.rt_bytes.specs.Devices.{source_of}
use Rattle.rt_check_report.proofs.Gathering.{gathering_starts, gather_fails, gather_runs_out, gather_on, some-more, reads-within, reads-at-end}
use Rattle.rt_check_report.proofs.checking.read_all.Goals as goal

pub loop-turn-init : goal.loop-turn-init
loop-turn-init g c = rw c.new-bytes.ensures.items (gathering_starts (source_of g.R.ByteReader c.args.reader.now))

pub slice_bounds-extend_from_slice-end : goal.slice_bounds-extend_from_slice-end
slice_bounds-extend_from_slice-end g c = c.in_ok-count.ensures.count.1

pub loop-turn-preserved : goal.loop-turn-preserved
loop-turn-preserved g c =
    let old = source_of g.R.ByteReader c.args.reader.now in
    let now = source_of g.R.ByteReader c.loop-turn.reader in
    let new = source_of g.R.ByteReader c.read.new.self in
    let more : List ℕ = take c.in_ok-count.count c.read.new.buffer in
    let given = c.in_ok-count.ensures in
    gather_on old now c.loop-turn.bytes.items c.loop-turn._turn c.loop-turn.invariant new more c.extend_from_slice.new.self.items
    c.in_ok-extend_from_slice.ensures.items given.bytes.0 given.failed given.turns
    (some-more c.in_ok-count.count more given.count.1 c.if-count-eq0.false) c.loop-turn-test.true

pub returns-then-count-eq0-clause-reads_all : goal.returns-then-count-eq0-clause-reads_all
returns-then-count-eq0-clause-reads_all g c = search rules

pub returns-then-count-eq0-clause-reads : goal.returns-then-count-eq0-clause-reads
returns-then-count-eq0-clause-reads g c = reads-within _ _ _ c.loop-turn._turn c.loop-turn.invariant.reads c.read.ensures.turns c.loop-turn-test.true

pub returns-in_err-count-clause-reads_all : goal.returns-in_err-count-clause-reads_all
returns-in_err-count-clause-reads_all g c =
    let p = err_from_is_err_and c.from_residual.result c.from_residual.ensures.1 in
    let now = source_of g.R.ByteReader c.loop-turn.reader in
    let new = source_of g.R.ByteReader c.read.new.self in
    rw (p.1, p.2) (gather_fails _ now c.loop-turn.bytes.items c.loop-turn._turn c.loop-turn.invariant new c.in_err-count.ensures.failed)

pub returns-in_err-count-clause-reads : goal.returns-in_err-count-clause-reads
returns-in_err-count-clause-reads g c = reads-within _ _ _ c.loop-turn._turn c.loop-turn.invariant.reads c.read.ensures.turns c.loop-turn-test.true

pub returns-in_err-extend_from_slice-clause-reads_all : goal.returns-in_err-extend_from_slice-clause-reads_all
returns-in_err-extend_from_slice-clause-reads_all g c =
    let p = err_from_is_err_and c.from_residual-in_err-extend_from_slice.result c.from_residual-in_err-extend_from_slice.ensures.1 in
    rw (p.1, p.2) (c.in_ok-count.ensures.failed ∙ c.loop-turn.invariant.no_failure)

pub returns-in_err-extend_from_slice-clause-reads : goal.returns-in_err-extend_from_slice-clause-reads
returns-in_err-extend_from_slice-clause-reads g c = reads-within _ _ _ c.loop-turn._turn c.loop-turn.invariant.reads c.read.ensures.turns c.loop-turn-test.true

pub returns-clause-reads_all : goal.returns-clause-reads_all
returns-clause-reads_all g c = gather_runs_out _ _ c.loop-turn.bytes.items c.loop-turn._turn c.loop-turn.invariant c.loop-turn.auto._turn-end c.loop-turn-test.false

pub returns-clause-reads : goal.returns-clause-reads
returns-clause-reads g c = reads-at-end _ _ c.loop-turn._turn c.loop-turn.invariant.reads c.loop-turn.auto._turn-end
