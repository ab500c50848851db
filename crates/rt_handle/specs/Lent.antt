-- What a pass owns: a share of the right to have the lifetime last for which the object of a handle is lent (own).
use Rattle.std.specs.Prelude.{ℕ, [], ◌∷◌, Option, Some, None}
use base.Fml.{Lft, Share, Fml, fsep, flft}
use denote.RawPtr.{Ptr}
use denote.Sharing.{nothing}
use denote.Struct.Lending.{lent_at}
use Rattle.rt_handle.specs.declared.object.Object.{Object}
use Rattle.rt_handle.specs.contracts.object.Object.{the_row}

-- the object is lent where it stands; nothing is lent of a closed handle
abbrev pub object_lent : Ptr → Option Object → Lft → Fml
object_lent at None = nothing
object_lent at (Some object) = lent_at the_row at object

-- the share of the lifetime, and the object lent for it
abbrev pub pass_owns : Ptr → Option Object → ℕ → Share → Fml
pass_owns at held life share = fsep (flft (life ∷ []) share) (object_lent at held (life ∷ []))
