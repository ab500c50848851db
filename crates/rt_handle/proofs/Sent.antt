-- What a handle owns says the same to every thread.
use mir.Raw.{raw}
use base.Shift.{Keyless}
use denote.Memory.{lone}
use denote.RawPtr.{Ptr}
use Rattle.std.specs.Prelude.{ℕ, [], ◌∷◌, Option, Some, None}
use Rattle.std.specs.declared.alloc.Global.{Global}
use Rattle.std.proofs.Crossing.{frees}
use Rattle.std_alloc.proofs.SendSync.{lies, seen}
use Rattle.rt_handle.specs.Lent.{object_lent}
use Rattle.rt_handle.specs.Owned.{handle_owns}
use Rattle.rt_handle.specs.declared.object.Object.{Object}
use Rattle.rt_handle.specs.contracts.object.Object.{the_row}
use Rattle.rt_handle.proofs.object.Object.TheSendSync.{the_send, the_sync}

pub handle_keyless : (a : Global) (p : Ptr) (n : ℕ) (held : Option Object) → Keyless (handle_owns a p n held)
handle_keyless a p n None = λ _. tt
handle_keyless a p n (Some object) = ((λ _. tt), (lies the_row the_send p object, frees.frees a (raw (lone the_row.mir)) p))

-- and so does what is lent of an object
pub lent_keyless : (p : Ptr) (held : Option Object) (life : ℕ) → Keyless (object_lent p held (life ∷ []))
lent_keyless p None life = tt
lent_keyless p (Some object) life = seen the_row the_sync p object (life ∷ [])
