-- Answers noted beside the questions (own). No public clause cites what stands here.
use Rattle.std.specs.Prelude.{◌≡◌, ℕ, ◌≤◌, ℤ, List, ◌++◌, length, take, drop, Option, None, Some, slice_get}
use Rattle.std.specs.List.{AllZip}
use Rattle.rt_tree_many.specs.declared.spans.Span.{Span}

-- the ids at a span
abbrev pub ids_at : List ℤ → Span → List ℤ
ids_at ids span = drop span.start (take span.end ids)

-- the list grew at its end
pub record IsLonger (old new : List ℤ) : Type 0 where
  pub more : List ℤ
  pub is : new ≡ old ++ more

module _ {X A : Type 0} (Answers : X → A → Type 0) where
  -- what is noted beside a question answers it
  abbrev pub IsIfNoted : X → Option A → Type 0
  IsIfNoted question None = Unit {0}
  IsIfNoted question (Some answer) = Answers question answer

  -- each question has a note, and what is noted answers it
  pub record AreNoted (questions : List X) (notes : List (Option A)) : Type 0 where
    pub many : length notes ≡ length questions
    pub each : AllZip IsIfNoted questions notes

  -- it answers the question at that place
  pub record AnswersAt (questions : List X) (place : ℕ) (answer : A) : Type 0 where
    pub question : X
    pub here : slice_get questions place ≡ Some question
    pub answers : Answers question answer

-- the ids at the span answer the question
pub record SpanAnswers {X : Type 0} (Answers : X → List ℤ → Type 0) (ids : List ℤ) (question : X) (span : Span) : Type 0 where
  pub ordered : span.start ≤ span.end
  pub within : span.end ≤ length ids
  pub answers : Answers question (ids_at ids span)
