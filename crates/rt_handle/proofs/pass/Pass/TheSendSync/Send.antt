use denote.Struct.Struct.{exits_of}
use denote.Struct.Owning.{shape, fields, to}
use denote.Param.Send.{IsSend, AllSend, owning_send, struct_send}
use Rattle.std.proofs.alloc.Global.TheSendSync as heap
use Rattle.std_alloc.proofs.SendSync.{quiet}
use Rattle.rt_handle.specs.contracts.pass.Pass.{the_row, the_type}
use Rattle.rt_handle.proofs.Sent.{lent_keyless}

pub send : IsSend the_row
send =
    let all : AllSend (fields the_type) = (heap.the_field_send, tt) in
    owning_send the_type all (λ d. (tt, lent_keyless d.at d.held d.life))
    (λ k. quiet (to the_type) (exits_of k (fields the_type)) ((struct_send (shape the_type) all).leaving k))
