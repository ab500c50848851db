-- What a call that reads is given, and hands back (own).
use Rattle.std.specs.Prelude.{◌≡◌, Option}
use denote.RawPtr.{Ptr}
use Rattle.rt_handle.specs.Owned.{count_of}
use Rattle.rt_handle.specs.declared.object.Object.{Object}
use Rattle.rt_handle.specs.declared.pass.Lease.{Lease}
use Rattle.rt_handle.specs.declared.pass.Pass.{Pass}
use Rattle.rt_handle.specs.declared.words.Words.{Words}

-- the words are those of a handle that holds this, and whose object stands there
abbrev pub IsOf : Ptr → Option Object → Words → Type 0
IsOf at held words = (at ≡ words.at) × (words.count ≡ count_of held)

-- a lease has all that its pass had, a pass all that its lease had, and the pass that comes back all that was given
abbrev pub IsOpened : Pass → Lease → Type 0
IsOpened pass lease = (lease.at ≡ pass.at) × (lease.held ≡ pass.held) × (lease.life ≡ pass.life) × (lease.share ≡ pass.share)

abbrev pub IsClosed : Lease → Pass → Type 0
IsClosed lease pass = (pass.at ≡ lease.at) × (pass.held ≡ lease.held) × (pass.life ≡ lease.life) × (pass.share ≡ lease.share)

abbrev pub IsSame : Pass → Pass → Type 0
IsSame given back = (back.at ≡ given.at) × (back.held ≡ given.held) × (back.life ≡ given.life) × (back.share ≡ given.share)
