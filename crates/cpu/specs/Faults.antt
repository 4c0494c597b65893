-- The number and the layer of each cause that stops an instruction. Assumes nothing.
use Rattle.std.specs.Prelude.{ℕ, Ok, Err, Result}
use Rattle.buses.specs.Numbers as bus
use Rattle.isa.specs.Numbers as word
use Rattle.units.specs.Numbers as unit
use Rattle.cpu.specs.declared.faults.Cause.{Cause}
use Rattle.cpu.specs.declared.faults.Cause.TheVariants.{NoHandler, HeldBranch, HeldPair, HeldReturn}
use Rattle.cpu.specs.declared.faults.Cause.TheVariants as cause

-- who stopped the instruction: the core, the bus at an address, or the unit at a code
pub data Layer : Type 0 where
  of_core : Layer
  of_bus : ℕ → Layer
  of_unit : ℕ → Layer

pub record Stop : Type 0 where
  pub number : ℕ
  pub layer : Layer

-- with the place of the instruction
pub record Fault : Type 0 where
  pub stop : Stop
  pub pc : ℕ

abbrev pub stop : ℕ → Layer → Stop
stop n l = record { number = n; layer = l }

abbrev pub stop_of : Cause → Stop
stop_of (cause.Word refusal) = stop (word.number refusal) of_core
stop_of NoHandler = stop 32 of_core
stop_of HeldBranch = stop 33 of_core
stop_of HeldPair = stop 34 of_core
stop_of HeldReturn = stop 35 of_core
stop_of (cause.Bus refusal address) = stop (bus.number refusal) (of_bus address)
stop_of (cause.Unit refusal code) = stop (unit.number refusal) (of_unit code)

-- an answer, or what stopped it
abbrev pub or_stop : {A : Type 0} → Result A Cause → Result A Stop
or_stop (Ok x) = Ok x
or_stop (Err e) = Err (stop_of e)

-- a refusal of a layer, with what it was asked
abbrev pub from : {A : Type 0} → Layer → Result A ℕ → Result A Stop
from l (Ok x) = Ok x
from l (Err n) = Err (stop n l)

abbrev pub and_then : {A B : Type 0} → Result A Stop → (A → Result B Stop) → Result B Stop
and_then (Ok x) f = f x
and_then (Err e) f = Err e
