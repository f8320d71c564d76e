-- What the pointer of a handle owns: the box that it leads to, and nothing where it is null.
use base.Fml.{Fml, ftrue}
use denote.RawPtr.{Ptr}
use Rattle.std.specs.Prelude.{Option, Some, None}
use Rattle.std.specs.Box.Ownership.{box_owns}
use Rattle.std.specs.declared.alloc.Global.{Global}
use Rattle.std.specs.contracts.impls.GlobalAllocator.TheImpl.{ghosts}
use Rattle.isort_c.specs.contracts.stored.Stored.{the_row}

abbrev pub held_owns : Global → Ptr → Option the_row.Denot → Fml
held_owns alloc p (Some x) = box_owns (ghosts.dealloc_token alloc) the_row p x
held_owns alloc p None = ftrue
