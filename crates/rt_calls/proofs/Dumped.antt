-- What is loaded of a shadow is loaded of its text.
use Rattle.std.proofs.Common.{◌≡◌, ℕ, List, Result, Ok, Err, sym, subst, ◌∙◌, ap}
use Rattle.rt_check_dump.specs.declared.dump.AnyShadow.{AnyShadow}
use Rattle.rt_handle.specs.declared.object.Object.{Object}
use Rattle.rt_calls.specs.declared.code.Code.{Code}
use Rattle.rt_calls.specs.declared.code.Code.TheVariants.{Done, Closed, OtherKind, AlreadyOpen, BadCapacity, BadBox, IdTaken, IdMissing, BufferTooSmall, OutOfMemory, TreeFull, Ended, TooLong, BadDump, BadLength, BadAxes, BadRelation, Empty, BadBytes}
use Rattle.rt_calls.specs.Loading.{ReadsText, LoadsAny, LoadsDump}
use Rattle.rt_calls.specs.Trees.{IsAxes, IsAnySound, axes_of}

module _ (axes : ℕ) (is_axes : IsAxes axes) (text : List ℕ) where
  pub loads-text : (any : AnyShadow) → ReadsText text (Ok any) → axes_of any ≡ axes → (result : Result Object Code) → LoadsAny any result → LoadsDump axes text result
  loads-text any read same (Ok object) h = (any, (same, read.0, h.0), h.1)
  loads-text any read same (Err BadDump) h = (is_axes, λ other dump. h (subst IsAnySound (read.1 other dump.1) dump.2))
  loads-text any read same (Err TreeFull) h = (any, (same, read.0, h.0), h.1)
  loads-text any read same (Err OutOfMemory) h = is_axes
  loads-text any read same (Err Done) h = absurd h
  loads-text any read same (Err Closed) h = absurd h
  loads-text any read same (Err OtherKind) h = absurd h
  loads-text any read same (Err AlreadyOpen) h = absurd h
  loads-text any read same (Err BadCapacity) h = absurd h
  loads-text any read same (Err BadBox) h = absurd h
  loads-text any read same (Err IdTaken) h = absurd h
  loads-text any read same (Err IdMissing) h = absurd h
  loads-text any read same (Err BufferTooSmall) h = absurd h
  loads-text any read same (Err Ended) h = absurd h
  loads-text any read same (Err TooLong) h = absurd h
  loads-text any read same (Err BadLength) h = absurd h
  loads-text any read same (Err BadAxes) h = absurd h
  loads-text any read same (Err BadRelation) h = absurd h
  loads-text any read same (Err Empty) h = absurd h
  loads-text any read same (Err BadBytes) h = absurd h

  -- a shadow of another number of axes is none of this one
  pub loads-other : (any : AnyShadow) → ReadsText text (Ok any) → (axes_of any ≡ axes → ⊥) → LoadsDump axes text (Err BadDump)
  loads-other any read is = (is_axes, λ other dump. is (sym (ap axes_of (read.1 other dump.1)) ∙ dump.0))

  -- a text that isn't read is that of none
  pub loads-none : (code : Code) → ReadsText text (Err code) → LoadsDump axes text (Err code)
  loads-none BadDump h = (is_axes, λ other dump. h (other, dump.1))
  loads-none OutOfMemory h = is_axes
  loads-none TreeFull h = absurd h
  loads-none Done h = absurd h
  loads-none Closed h = absurd h
  loads-none OtherKind h = absurd h
  loads-none AlreadyOpen h = absurd h
  loads-none BadCapacity h = absurd h
  loads-none BadBox h = absurd h
  loads-none IdTaken h = absurd h
  loads-none IdMissing h = absurd h
  loads-none BufferTooSmall h = absurd h
  loads-none Ended h = absurd h
  loads-none TooLong h = absurd h
  loads-none BadLength h = absurd h
  loads-none BadAxes h = absurd h
  loads-none BadRelation h = absurd h
  loads-none Empty h = absurd h
  loads-none BadBytes h = absurd h
