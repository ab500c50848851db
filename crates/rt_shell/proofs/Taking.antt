-- What a loop keeps that takes the bytes of one read.
use Rattle.std.proofs.Common.{◌≡◌, ◌∙◌, ℕ, ◌+◌, ◌≤◌, List, [], ◌++◌, length, take, drop, ◌-◌, Option, None, Ok, Err, refl, sym, ap, arith, append_assoc, append-nil, length-append, length-drop}
use Rattle.std.proofs.lemmas.List.{take_all, take-append-drop}
use Rattle.std.specs.Prelude.{◌<◌}
use Rattle.rt_bytes.specs.Bytes.{WritesAll}
use Rattle.rt_bytes.specs.declared.device.WriteFault.{WriteFault}
use Rattle.rt_bytes.proofs.Writing.{WritesAll-trans, WritesAll-nil, WritesPrefix-after}
use Rattle.rt_sql_cut.specs.Cutter.{Front, StandsAt, ready_piece}
use Rattle.rt_shell.specs.declared.engine.Engine.{Engine}
use Rattle.rt_shell.specs.declared.engine.Flow.TheVariants.{Goes, Stops}
use Rattle.rt_shell.specs.Engine.{ready_lines, Moves, AnswersReady, TakesAll}
use Rattle.rt_shell.proofs.EngineLemmas.{moves_nowhere, moves_step, stops_step, reaches_step, idle_after, pieces_grow}

-- a list in two parts
pub parts : (n : ℕ) (s : List ℕ) → s ≡ take n s ++ take (length s - n) (drop n s)
parts n s = sym (ap (λ l. take n s ++ l) (take_all (length s - n) (drop n s) (omega (arith, length-drop {A = ℕ}))) ∙ take-append-drop n s)

-- a prefix of the bytes is taken, and the pieces that ended in it are answered
pub record Taking (old : Engine) (bytes : List ℕ) (now : Engine) (rest : List ℕ) (w v : Option (List ℕ)) (f g : ℕ) : Type 0 where
  pub taken : List ℕ
  pub lines : List ℕ
  pub split : bytes ≡ taken ++ rest
  pub writes : WritesAll w v f g lines
  pub moves : (x : List ℕ) → StandsAt old.cutter x → (y : List ℕ) × Moves old x taken lines now y
  pub idle : ready_piece now.cutter ≡ None
  pub few : now.pieces + length rest ≤ old.pieces + length bytes

pub taking_starts : (old : Engine) (bytes : List ℕ) (w : Option (List ℕ)) (f : ℕ) → ready_piece old.cutter ≡ None → Taking old bytes old bytes w w f f
taking_starts old bytes w f idle = record {
  taken = [];
  lines = [];
  split = refl;
  writes = WritesAll-nil w f;
  moves = λ x stands. (x, moves_nowhere old x stands);
  idle = idle;
  few = omega arith;
}

module _ (old : Engine) (bytes : List ℕ) (now : Engine) (rest more later : List ℕ) (c : Front) (new : Engine) (w u v : Option (List ℕ)) (f h g : ℕ)
    (so_far : Taking old bytes now rest w u f h) (parted : rest ≡ more ++ later) (fed : (x : List ℕ) → StandsAt now.cutter x → StandsAt c (x ++ more)) where
  whole : bytes ≡ so_far.taken ++ (more ++ later)
  whole = so_far.split ∙ ap (λ r. so_far.taken ++ r) parted

  pub taking_on : 0 < length more → AnswersReady (record now { cutter = c }) new u v h g (Ok Goes) → Taking old bytes new later w v f g
  taking_on some ready = record {
    taken = so_far.taken ++ more;
    lines = so_far.lines ++ ready_lines (record now { cutter = c }) ready.answer;
    split = whole ∙ sym (append_assoc so_far.taken more later);
    writes = WritesAll-trans w u v f h g _ _ so_far.writes ready.writes;
    moves = λ x stands. let m = so_far.moves x stands in moves_step old now c ready.answer new x m.0 _ _ more m.1 (fed m.0 m.1.stands) ready.answers (sym ready.flow);
    idle = idle_after (record now { cutter = c }) ready.answer new ready.answers;
    few =
        let grown : new.pieces ≤ now.pieces + 1 = pieces_grow (record now { cutter = c }) ready.answer new ready.answers in
        let lengths : length rest ≡ length more + length later = ap length parted ∙ length-append more later in
        omega (arith, so_far.few);
  }

  pub taking_stops : AnswersReady (record now { cutter = c }) new u v h g (Ok Stops) → TakesAll old bytes new w v f g (Ok Stops)
  taking_stops ready = (
    so_far.lines ++ ready_lines (record now { cutter = c }) ready.answer,
    WritesAll-trans w u v f h g _ _ so_far.writes ready.writes,
    λ x stands. let m = so_far.moves x stands in rw whole (stops_step old now c ready.answer new x m.0 _ _ more later m.1 (fed m.0 m.1.stands) ready.answers (sym ready.flow)),
  )

  pub taking_fails : (fault : WriteFault) → AnswersReady (record now { cutter = c }) new u v h g (Err fault) → TakesAll old bytes new w v f g (Err fault)
  taking_fails fault ready = (
    so_far.lines ++ ready_lines (record now { cutter = c }) ready.answer,
    WritesPrefix-after w u v f h g _ _ so_far.writes ready.writes,
    λ x stands. let m = so_far.moves x stands in rw whole (reaches_step old now c ready.answer new x m.0 _ _ more later m.1 (fed m.0 m.1.stands) ready.answers),
  )

pub taking_ends : (old : Engine) (bytes : List ℕ) (now : Engine) (w v : Option (List ℕ)) (f g : ℕ) → Taking old bytes now [] w v f g → TakesAll old bytes now w v f g (Ok Goes)
taking_ends old bytes now w v f g so_far = (so_far.lines, so_far.writes, λ x stands. rw (so_far.split, append-nil so_far.taken) (so_far.moves x stands))
