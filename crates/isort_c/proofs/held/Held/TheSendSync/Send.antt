-- A handle's pointer may go to another thread, since what it leads to may.
use Rattle.std.proofs.Common.{Option, Some, None}
use mir.Raw.{raw}
use base.Fraction.{full_share}
use base.Shift.{Keyless}
use denote.Exit.{Exit, unchanged, leaves, hidden, under}
use denote.Memory.{lone}
use denote.RawPtr.{Ptr, block_ptr, null_ptr, lies_at}
use denote.Struct.Struct.{exits_of}
use denote.Struct.Owning.{shape, fields, to}
use denote.Param.Send.{IsSend, Quiet, AllSend, part_keyless, owning_send, struct_send, sendable}
use Rattle.std.proofs.Crossing as heap
use Rattle.std.proofs.alloc.Global.TheSendSync as global
use Rattle.std.specs.declared.alloc.Global.{Global}
use Rattle.isort_c.specs.Ownership.{held_owns}
use Rattle.isort_c.specs.contracts.stored.Stored as stored
use Rattle.isort_c.proofs.stored.Stored.TheSendSync.{the_send as stored_send}
use Rattle.isort_c.specs.contracts.held.Held.{the_row, the_type}

stored_lies : (p : Ptr) (x : (stored.the_row).Denot) → Keyless (lies_at stored.the_row full_share p x)
stored_lies (block_ptr b o) x = part_keyless stored.the_row stored_send full_share x b o
stored_lies null_ptr x = tt

owned : (alloc : Global) (p : Ptr) (kept : Option (stored.the_row).Denot) → Keyless (held_owns alloc p kept)
owned alloc p (Some x) = (stored_lies p x, heap.frees.frees alloc (raw (lone (stored.the_row).mir)) p)
owned alloc p None = tt

left_quiet : {D X : Type 0} (f : D → X) (e : Exit X) → Quiet e → Quiet (hidden (under f e))
left_quiet f unchanged q = λ x w. tt
left_quiet f (leaves L l S s r) q = λ d. q (f d)

pub send : IsSend the_row
send =
    let all : AllSend (fields the_type) = (search sendable, (global.the_field_send, tt)) in
    owning_send the_type all (λ d. owned d.alloc d.at d.value) (λ k. left_quiet (to the_type) (exits_of k (fields the_type)) ((struct_send (shape the_type) all).leaving k))
