-- What a shell has printed, and how it comes on.
use Rattle.std.proofs.Common.{◌≡◌, ◌∙◌, ℕ, ◌+◌, ◌≤◌, Bool, true, false, List, [], ◌++◌, length, Option, Some, None, Result, Ok, Err, refl, sym, ap, subst, arith, append_assoc, append-nil, length-append}
use Rattle.std.specs.Prelude.{is_some}
use Rattle.rt_bytes.specs.Bytes.{WritesAll, WritesPrefix}
use Rattle.rt_bytes.specs.declared.device.WriteFault.{WriteFault}
use Rattle.rt_bytes.specs.declared.outcome.Status.{Status}
use Rattle.rt_bytes.specs.declared.outcome.Status.TheVariants.{Refused}
use Rattle.rt_bytes.proofs.Writing.{WritesAll-nil, AppendsPrefix-more}
use Rattle.rt_sql_cut.specs.Pieces.{PieceText}
use Rattle.rt_sql_cut.specs.Cutter.{ready_piece}
use Rattle.rt_sql_cut.proofs.CutterFront.{whole_at}
use Rattle.rt_shell.specs.declared.engine.Engine.{Engine}
use Rattle.rt_shell.specs.declared.engine.Flow.{Flow}
use Rattle.rt_shell.specs.declared.engine.Flow.TheVariants.{Goes, Stops}
use Rattle.rt_shell.specs.declared.engine.Options.{Options}
use Rattle.rt_shell.specs.Transcript.{Marks, Progress, start, status_of, MayPrint, MayPrintSoFar}
use Rattle.rt_shell.specs.Engine.{IsFresh, progress_of, Gives, TakesAll, Finishes}
use Rattle.rt_shell.specs.Shell.{IsCutShort, HasCome, HasPrintedAt, EndsWith}
use Rattle.rt_shell.proofs.EngineLemmas.{moves_nowhere, moves_on}

-- no piece is marked
unmarked : Marks
unmarked = λ number. false

-- the pieces that ended in a text printed this
pub so_far_of : (options : Options) (text out : List ℕ) (status : Status) → Gives true options (start options) text out status → MayPrintSoFar options text out
so_far_of options text out status gives = (gives.0, (gives.1.0, gives.1.1, status, gives.1.2))

-- all pieces of a text printed this
pub whole_of : (options : Options) (text out : List ℕ) (status : Status) → Gives false options (start options) text out status → MayPrint options text out status
whole_of options text out status gives = (gives.0, (gives.1.2.0, (gives.1.0, gives.1.1, gives.1.2.1), gives.1.2.2))

pub not_some : (piece : Option PieceText) → is_some piece ≡ false → piece ≡ None
not_some None is = refl
not_some (Some piece) is = absurd (let none : ⊥ = cc in none)

pub starts : (options : Options) (engine : Engine) → IsFresh engine options → HasCome options engine [] []
starts options engine fresh = record {
  first = engine;
  fresh = fresh;
  at = [];
  moves = moves_nowhere engine [] fresh.stands;
  few = let none : engine.pieces ≡ 0 = ap (λ (p : Progress). p.pieces) fresh.at_start in omega arith;
}

module _ (options : Options) (engine : Engine) (fed out : List ℕ) (come : HasCome options engine fed out) where
  same_options : engine.options ≡ options
  same_options = come.moves.same_options ∙ come.fresh.asked

  -- what is given from where the engine stands, is given from the start
  from_start : (so_far : Bool) (ahead more : List ℕ) (status : Status) → Gives so_far engine.options (progress_of engine) (come.at ++ ahead) more status
      → Gives so_far options (start options) (fed ++ ahead) (out ++ more) status
  from_start so_far ahead more status gives =
      let asked : Gives so_far come.first.options (progress_of engine) (come.at ++ ahead) more status =
      subst (λ (o : Options). Gives so_far o (progress_of engine) (come.at ++ ahead) more status) come.moves.same_options gives in
      let led : Gives so_far come.first.options (progress_of come.first) (fed ++ ahead) (out ++ more) status = come.moves.leads so_far ahead more status asked in
      let begun : Gives so_far come.first.options (start options) (fed ++ ahead) (out ++ more) status = rw come.fresh.at_start at led in
      subst (λ (o : Options). Gives so_far o (start options) (fed ++ ahead) (out ++ more) status) come.fresh.asked begun

  -- at a cutter that has no piece ready, the pieces that ended are answered
  pub printed_so_far : ready_piece engine.cutter ≡ None → MayPrintSoFar options fed out
  printed_so_far idle =
      let nothing : Gives true engine.options (progress_of engine) (come.at ++ []) [] (status_of (progress_of engine)) =
      (unmarked, ([], rw (append-nil come.at) (rw idle at (whole_at engine.cutter come.at come.moves.stands)), ([], (refl, refl), refl))) in
      let gives : Gives true options (start options) fed out (status_of (progress_of engine)) =
      rw (append-nil fed, append-nil out) at (from_start true [] [] (status_of (progress_of engine)) nothing) in
      so_far_of options fed out (status_of (progress_of engine)) gives

  module _ (bytes : List ℕ) (new : Engine) (w v : Option (List ℕ)) (f g : ℕ) where
    pub comes_on : (takes : TakesAll engine bytes new w v f g (Ok Goes)) → new.pieces ≤ engine.pieces + length bytes → HasCome options new (fed ++ bytes) (out ++ takes.0)
    comes_on takes few =
        let on = takes.2 come.at come.moves.stands in
        record {
          first = come.first;
          fresh = come.fresh;
          at = on.0;
          moves = moves_on come.first engine new [] come.at on.0 fed bytes out takes.0 come.moves on.1;
          few = omega (arith, come.few, few, length-append fed bytes);
        }

    pub stops : (takes : TakesAll engine bytes new w v f g (Ok Stops)) → IsCutShort options (fed ++ bytes) (out ++ takes.0)
    stops takes rest =
        let stop = takes.2 come.at come.moves.stands in (
          whole_of options _ _ Refused (rw (append_assoc fed bytes rest) (from_start false (bytes ++ rest) takes.0 Refused (stop false rest))),
          so_far_of options _ _ Refused (rw (append_assoc fed bytes rest) (from_start true (bytes ++ rest) takes.0 Refused (stop true rest))),
        )

    pub fails : (fault : WriteFault) → TakesAll engine bytes new w v f g (Err fault) → (lines : List ℕ) × WritesPrefix w v f g lines × MayPrintSoFar options (fed ++ bytes) (out ++ lines)
    fails fault takes =
        let reach = takes.2 come.at come.moves.stands true [] in
        let gives : Gives true engine.options (progress_of engine) (come.at ++ bytes) (takes.0 ++ reach.0) reach.1 = rw (append-nil bytes) at reach.2 in (
          takes.0 ++ reach.0,
          (AppendsPrefix-more w v takes.0 reach.0 takes.1.0, takes.1.1),
          so_far_of options _ _ reach.1 (from_start true bytes (takes.0 ++ reach.0) reach.1 gives),
        )

    -- what is given at the script's end
    at_end : (lines : List ℕ) (status : Status) → Gives false engine.options (progress_of engine) come.at lines status → MayPrint options fed (out ++ lines) status
    at_end lines status gives =
        let last : Gives false engine.options (progress_of engine) (come.at ++ []) lines status = rw (append-nil come.at) gives in
        whole_of options fed _ status (rw (append-nil fed) at (from_start false [] lines status last))

    pub ends : (status : Status) (finishes : Finishes engine w v f g (Ok status)) → MayPrint options fed (out ++ finishes.0) status
    ends status finishes = at_end finishes.0 status (finishes.2 come.at come.moves.stands)

    pub end_fails : (fault : WriteFault) (finishes : Finishes engine w v f g (Err fault)) → (status : Status) × MayPrint options fed (out ++ finishes.0) status
    end_fails fault finishes =
        let gives = finishes.2 come.at come.moves.stands in
        (gives.0, at_end finishes.0 gives.0 gives.1)

-- ---- a script that was cut short

pub cut_short_on : (options : Options) (fed out bytes : List ℕ) → IsCutShort options fed out → IsCutShort options (fed ++ bytes) out
cut_short_on options fed out bytes short rest =
    let on = short (bytes ++ rest) in
    (rw (append_assoc fed bytes rest) on.0, rw (append_assoc fed bytes rest) on.1)

pub cut_short_here : (options : Options) (fed out : List ℕ) → IsCutShort options fed out → MayPrint options fed out Refused × MayPrintSoFar options fed out
cut_short_here options fed out short = rw (append-nil fed) at (short [])

-- ---- any shell

pub so_far_at : (flow : Result Flow WriteFault) (options : Options) (engine : Engine) (fed out : List ℕ) → ready_piece engine.cutter ≡ None → HasPrintedAt flow options engine fed out → MayPrintSoFar options fed out
so_far_at (Ok Goes) options engine fed out idle printed = printed_so_far options engine fed out printed idle
so_far_at (Ok Stops) options engine fed out idle printed = (cut_short_here options fed out printed).1
so_far_at (Err fault) options engine fed out idle printed = absurd printed

-- ---- what a shell does that goes on

at_goes : (flow : Result Flow WriteFault) (options : Options) (engine : Engine) (fed out : List ℕ) → flow ≡ Ok Goes → HasPrintedAt flow options engine fed out → HasCome options engine fed out
at_goes flow options engine fed out goes printed = subst (λ (r : Result Flow WriteFault). HasPrintedAt r options engine fed out) goes printed

module _ (options : Options) (engine : Engine) (fed out bytes : List ℕ) (new : Engine) (w v : Option (List ℕ)) (f g : ℕ) (before after : Result Flow WriteFault) (goes : before ≡ Ok Goes)
    (printed : HasPrintedAt before options engine fed out) where
  come : HasCome options engine fed out
  come = at_goes before options engine fed out goes printed

  took : (flow : Flow) → TakesAll engine bytes new w v f g (Ok flow) → new.pieces ≤ engine.pieces + length bytes
      → (lines : List ℕ) × WritesAll w v f g lines × HasPrintedAt (Ok flow) options new (fed ++ bytes) (out ++ lines)
  took Goes takes few = (takes.0, takes.1, comes_on options engine fed out come bytes new w v f g takes few)
  took Stops takes few = (takes.0, takes.1, stops options engine fed out come bytes new w v f g takes)

  pub feeds : (flow : Flow) → after ≡ Ok flow → TakesAll engine bytes new w v f g after → new.pieces ≤ engine.pieces + length bytes
      → (lines : List ℕ) × WritesAll w v f g lines × HasPrintedAt after options new (fed ++ bytes) (out ++ lines)
  feeds flow is takes few =
      let taken = took flow (subst (λ r. TakesAll engine bytes new w v f g r) is takes) few in
      (taken.0, taken.1, subst (λ (r : Result Flow WriteFault). HasPrintedAt r options new (fed ++ bytes) (out ++ taken.0)) (sym is) taken.2)

  pub feed_fails : (fault : WriteFault) → after ≡ Err fault → TakesAll engine bytes new w v f g after
      → (lines : List ℕ) × WritesPrefix w v f g lines × MayPrintSoFar options (fed ++ bytes) (out ++ lines)
  feed_fails fault is takes = fails options engine fed out come bytes new w v f g fault (subst (λ r. TakesAll engine bytes new w v f g r) is takes)

pub finishes_at : (options : Options) (engine : Engine) (fed out : List ℕ) (w v : Option (List ℕ)) (f g : ℕ) (before : Result Flow WriteFault) (result : Result Status WriteFault) → before ≡ Ok Goes
    → HasPrintedAt before options engine fed out → Finishes engine w v f g result → EndsWith options fed out w v f g result
finishes_at options engine fed out w v f g before (Ok status) goes printed finishes =
    (finishes.0, finishes.1, ends options engine fed out (at_goes before options engine fed out goes printed) [] engine w v f g status finishes)
finishes_at options engine fed out w v f g before (Err fault) goes printed finishes =
    (finishes.0, finishes.1, end_fails options engine fed out (at_goes before options engine fed out goes printed) [] engine w v f g fault finishes)

-- ---- what a shell does that has stopped

pub stopped_feeds : (options : Options) (engine : Engine) (fed out bytes : List ℕ) (flow : Result Flow WriteFault) (w : Option (List ℕ)) (f : ℕ) → flow ≡ Ok Stops
    → HasPrintedAt flow options engine fed out → (lines : List ℕ) × WritesAll w w f f lines × HasPrintedAt flow options engine (fed ++ bytes) (out ++ lines)
stopped_feeds options engine fed out bytes flow w f is printed =
    let short : IsCutShort options fed out = subst (λ (r : Result Flow WriteFault). HasPrintedAt r options engine fed out) is printed in
    let on : HasPrintedAt flow options engine (fed ++ bytes) out =
    subst (λ (r : Result Flow WriteFault). HasPrintedAt r options engine (fed ++ bytes) out) (sym is) (cut_short_on options fed out bytes short) in
    ([], WritesAll-nil w f, rw (append-nil out) on)

pub stopped_ends : (options : Options) (engine : Engine) (fed out : List ℕ) (flow : Result Flow WriteFault) (w : Option (List ℕ)) (f : ℕ) → flow ≡ Ok Stops
    → HasPrintedAt flow options engine fed out → EndsWith options fed out w w f f (Ok Refused)
stopped_ends options engine fed out flow w f is printed =
    let short : IsCutShort options fed out = subst (λ (r : Result Flow WriteFault). HasPrintedAt r options engine fed out) is printed in
    ([], WritesAll-nil w f, rw (append-nil out) (cut_short_here options fed out short).0)

pub failed_none : (options : Options) (engine : Engine) (fed out : List ℕ) (flow : Result Flow WriteFault) (fault : WriteFault) → flow ≡ Err fault → HasPrintedAt flow options engine fed out → ⊥
failed_none options engine fed out flow fault is printed = subst (λ (r : Result Flow WriteFault). HasPrintedAt r options engine fed out) is printed
