-- How contracts see the readers and writers over memory (own).
use Rattle.std.specs.Prelude.{ℕ, Bool, List}

-- a reader over a slice: the bytes left, the most that one read gives, and the reads so far
pub record Reading : Type 0 where
  pub left : List ℕ
  pub most : ℕ
  pub reads : ℕ

-- a writer into memory: the bytes written, the writes for which there was no memory, and whether the last call was
-- a flush
pub record Written : Type 0 where
  pub bytes : List ℕ
  pub faults : ℕ
  pub flushed : Bool
