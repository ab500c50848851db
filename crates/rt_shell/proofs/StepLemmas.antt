-- What a piece gives, by what its parse and its statement give.
use Rattle.std.proofs.Common.{◌≡◌, Result, Ok, Err, true, false, refl, sym, ap, inl, inr}
use Rattle.std.specs.Prelude.{◌⊎◌, ◌≢◌}
use Rattle.rt_sql_cut.specs.Pieces.{PieceText}
use Rattle.rt_sql.specs.Parse.{ParsesUnlessMemory}
use Rattle.rt_sql_request.specs.declared.request.Stmt.{Stmt}
use Rattle.rt_sql_statement.specs.declared.refusal.Refusal.{Refusal}
use Rattle.rt_sql_statement.specs.declared.refusal.Refusal.TheVariants.{OutOfMemory}
use Rattle.rt_reply.specs.declared.reply.Reply.{Reply}
use Rattle.rt_session.specs.Session.{State, CarriesOut}
use Rattle.rt_shell.specs.Engine.{GivesAnswer}

is_memory : (refusal : Refusal) → (refusal ≡ OutOfMemory) ⊎ (refusal ≢ OutOfMemory)
is_memory OutOfMemory = inl refl
is_memory refusal = inr (λ same. let none : ⊥ = cc in none)

-- a piece that memory refused is marked
pub gives_parsed : (old : State) (piece : PieceText) (statement : Stmt) (r : Result Reply Refusal) (new : State)
    → ParsesUnlessMemory piece (Ok statement) → CarriesOut old statement r new → GivesAnswer old piece r new
gives_parsed old piece statement r new (inl memory) carried = absurd (let none : ⊥ = cc in none)
gives_parsed old piece statement (Ok reply) new (inr parses) carried = record { mark = false; gives = (Ok statement, parses, carried); leaves = refl }
gives_parsed old piece statement (Err refusal) new (inr parses) carried =
    elim (is_memory refusal) [
      | inl memory ↦ record { mark = true; gives = ap Err memory; leaves = sym carried.0 }
      | inr other ↦ record { mark = false; gives = (Ok statement, parses, carried.1 other); leaves = sym carried.0 }
    ]

pub gives_refused : (old : State) (piece : PieceText) (refusal : Refusal) → ParsesUnlessMemory piece (Err refusal) → GivesAnswer old piece (Err refusal) old
gives_refused old piece refusal (inl memory) =
    let same : refusal ≡ OutOfMemory = cc in
    record { mark = true; gives = ap Err same; leaves = refl }
gives_refused old piece refusal (inr parses) = record { mark = false; gives = (Err refusal, parses, refl); leaves = refl }
