use denote.Struct.Struct.{exits_of}
use denote.Struct.Owning.{shape, fields, to}
use denote.Param.Send.{IsSend, AllSend, owning_send, struct_send, sendable}
use Rattle.std.proofs.alloc.Global.TheSendSync as heap
use Rattle.std_alloc.proofs.SendSync.{quiet}
use Rattle.rt_handle.specs.contracts.handle.Handle.{the_row, the_type}
use Rattle.rt_handle.proofs.Sent.{handle_keyless}

pub send : IsSend the_row
send =
    let all : AllSend (fields the_type) = (search sendable, (search sendable, (heap.the_field_send, tt))) in
    owning_send the_type all (λ d. handle_keyless d.alloc d.at d.count d.held)
    (λ k. quiet (to the_type) (exits_of k (fields the_type)) ((struct_send (shape the_type) all).leaving k))
