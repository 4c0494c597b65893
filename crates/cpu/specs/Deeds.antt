-- An instruction does what is defined, or is stopped and changes nothing. Assumes nothing.
use Rattle.std.specs.Prelude.{◌≡◌, ℕ, Result}
use Rattle.buses.specs.declared.bus.Bus as bus
use Rattle.buses.specs.Cells.{Cells}
use Rattle.buses.specs.Changes.{Becomes}
use Rattle.units.specs.declared.unit.Reply.{Reply}
use Rattle.units.specs.declared.unit.Unit as unit
use Rattle.units.specs.Meaning.{Contents}
use Rattle.cpu.specs.declared.faults.Cause.{Cause}
use Rattle.cpu.specs.declared.state.Core.{Core}
use Rattle.cpu.specs.Faults.{Stop, or_stop}
use Rattle.cpu.specs.Instructions.{wait_told, reply_left}
use Rattle.cpu.specs.Outcomes.{told, left, left_first, left_second}

-- on the core alone
pub record Does (old new : Core) (answer : Result (Unit {0}) Cause) (defined : Result Core Stop) : Type 0 where
  pub tells : or_stop answer ≡ told defined
  pub core : new ≡ left old defined

-- on the core and its bus
pub record DoesOnBus {B : Type 0} (bus : bus.Ghosts B) (old new : Core) (before after : B) (answer : Result (Unit {0}) Cause) (defined : Result (Core × Cells) Stop) : Type 0 where
  pub tells : or_stop answer ≡ told defined
  pub core : new ≡ left_first old defined
  pub becomes : Becomes bus before after (left_second (bus.cells before) defined)

-- on the core and its unit, which answers into a register
pub record DoesOnUnit {U : Type 0} (unit : unit.Ghosts U) (dst : ℕ) (old new : Core) (before after : U) (answer : Result ℕ Cause) (defined : Result (Reply × Contents) Stop) : Type 0 where
  pub tells : or_stop answer ≡ wait_told defined
  pub core : new ≡ reply_left old dst defined
  pub contents : unit.contents after ≡ left_second (unit.contents before) defined
  pub codes : unit.codes after ≡ unit.codes before
