-- A `&` to a lease borrows its share of the lifetime, and so reaches the object.
use denote.Struct.Lending.{of_Lends}
use Rattle.std.specs.contracts.alloc.Global as heap
use Rattle.std.proofs.alloc.Global.TheLaws as heap_laws
use Rattle.rt_handle.specs.Lent.{object_lent}
use Rattle.rt_handle.specs.contracts.pass.Lease as C
use Rattle.rt_handle.proofs.pass.Lease.TheLaw.Statement.{statement}
use Rattle.rt_handle.proofs.Lending.{object_laws, Lends-loan}

pub shares : statement
shares = of_Lends C.struct (C.the_codes heap.the_row.coded) C.the_heap C.the_lent (λ d p. object_laws d.at d.held) (heap_laws.the_field_shared, tt)
    (λ M 𝓤 𝓛 d p. Lends-loan 𝓛 (object_lent d.at d.held) (object_laws d.at d.held) d.life d.share C.the_row.lives)
