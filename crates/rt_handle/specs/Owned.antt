-- What memory a handle owns (own).
use Rattle.std.specs.Prelude.{◌≡◌, ℕ, Option, Some, None}
use Rattle.std.specs.Coded.{coded_option, Coded}
use base.Fml.{Fml, ftrue, fsep, fex}
use denote.RawPtr.{Ptr}
use Rattle.std.specs.declared.alloc.Global.{Global}
use Rattle.std.specs.contracts.impls.GlobalAllocator.TheImpl.{ghosts}
use Rattle.std_alloc.specs.Box.Ownership.{box_owns}
use Rattle.rt_handle.specs.declared.object.Object.{Object}
use Rattle.rt_handle.specs.contracts.object.Object.{the_row}

abbrev pub coded_held : Coded (Option Object)
coded_held = coded_option the_row.coded

-- how many objects there are, none or one
abbrev pub count_of : Option Object → ℕ
count_of None = 0
count_of (Some object) = 1

-- the count is right; a closed handle owns nothing, and another one the object where it points, and the right to free it
abbrev pub handle_owns : Global → Ptr → ℕ → Option Object → Fml
handle_owns alloc at count None = fex (count ≡ 0) (λ _. ftrue)
handle_owns alloc at count (Some object) = fsep (fex (count ≡ 1) (λ _. ftrue)) (box_owns (ghosts.dealloc_token alloc) the_row at object)
