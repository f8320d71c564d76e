-- A box at the types that a handle keeps, and what stands in one.
use Rattle.std.proofs.Common.{◌≡◌, [], Option, Some, None, IsSome, refl}
use mir.Syntax.{impl, tnil, dnil}
use denote.RattleType.{RattleType}
use denote.Signature.{Slot, plain}
use Rattle.std.proofs.BoxSteps.Form.{Bx}
use Rattle.std.specs.contracts.alloc.Global as global
use Rattle.std.specs.contracts.impls.GlobalAllocator.TheImpl.{ghosts, dict}
use Rattle.std.proofs.alloc.Global.TheLaws as global_laws
use Rattle.isort_c.specs.contracts.stored.Stored as stored
use Rattle.isort_c.proofs.stored.Stored.TheLaws as stored_laws
use Rattle.isort_c.specs.contracts.parts.Parts as parts
use Rattle.isort_c.specs.contracts.held.Held as held

abbrev pub boxed : Bx
boxed = record {
  row = stored.the_row;
  laws = stored_laws.the_row_laws;
  al = record { row = global.the_row; laws = global_laws.the_row_laws; g = ghosts; d = dict; drops = impl [] tnil dnil };
}

abbrev pub parts_row : RattleType
parts_row = parts.the_row stored.the_row global.the_row ghosts

abbrev pub held_row : RattleType
held_row = held.the_row

abbrev pub parts_slot : Slot 0
parts_slot = plain (λ _. parts_row)

abbrev pub held_slot : Slot 0
held_slot = plain (λ _. held_row)

abbrev pub global_slot : Slot 0
global_slot = plain (λ _. global.the_row)

pub content : {X : Type 0} (o : Option X) → IsSome o → (x : X) × (o ≡ Some x)
content (Some x) is = (x, refl)
content None is = cc
