-- What the machine's answers and its parts stand for. Assumes nothing.
use Rattle.std.specs.Prelude.{◌≡◌, ◌+◌, List, ℕ, Some, None, Ok, Err, Option, Result}
use Rattle.buses.specs.declared.bus.Bus as bus
use Rattle.isa.specs.declared.Instruction.{Instruction}
use Rattle.units.specs.declared.unit.Unit as unit
use Rattle.cpu.specs.declared.faults.Cause.{Cause}
use Rattle.cpu.specs.declared.faults.Fault.{Fault}
use Rattle.cpu.specs.declared.machine.Machine.{Machine}
use Rattle.cpu.specs.declared.machine.Ending.{Ending}
use Rattle.cpu.specs.declared.machine.Ending.TheVariants as ending
use Rattle.cpu.specs.declared.machine.Run.{Run}
use Rattle.cpu.specs.declared.state.Mode.TheVariants.{Faulted}
use Rattle.cpu.specs.declared.machine.Made.{Made}
use Rattle.cpu.specs.Faults as stops
use Rattle.cpu.specs.Faults.{Stop, stop_of}
use Rattle.cpu.specs.Instructions.{Service, served}
use Rattle.cpu.specs.Runs as run
use Rattle.cpu.specs.Runs.{said, ended, spent, waiting, fault, ran, afterwards, onward}
use Rattle.cpu.specs.State.{State, with_mode, with_pc}
use Rattle.cpu.specs.Steps.{Effect, cycles_of, Told, made, waits, faults, Stepped, over, step}

-- a definition and no Model of the machine, since cells are a function, which no code can hold
abbrev pub state_of : {B U : Type 0} → bus.Ghosts B → unit.Ghosts U → Machine B U → State
state_of bus unit m = record { core = m.core; cells = bus.cells m.bus; contents = unit.contents m.unit }

-- what a unit makes of codes, contents and operands
abbrev pub service : {U : Type 0} → unit.Ghosts U → U → Service
service unit u = served unit.operates (unit.codes u)

-- the program, the cells that are hidden, and the codes of the unit stay
pub record Keeps {B U : Type 0} (bus : bus.Ghosts B) (unit : unit.Ghosts U) (old new : Machine B U) : Type 0 where
  pub program : new.program ≡ old.program
  pub hidden : bus.hidden new.bus ≡ bus.hidden old.bus
  pub codes : unit.codes new.unit ≡ unit.codes old.unit

abbrev pub fault_of : Fault → stops.Fault
fault_of f = record { stop = stop_of f.cause; pc = f.pc }

-- what is answered of an instruction, with its cycles, and what it leaves: nothing changes where it was stopped
abbrev pub effect_told : Instruction → Result Effect Stop → Result Made Stop
effect_told x (Ok e) = Ok (record { cycles = cycles_of x + e.wait; said = e.said })
effect_told x (Err stop) = Err stop

abbrev pub state_left : State → Result Effect Stop → State
state_left s (Ok e) = e.state
state_left s (Err stop) = s

-- the step that an attempt at an instruction comes to, from one state to another
abbrev pub attempted : State → State → Result Made Cause → Stepped
attempted s t (Ok m) = record { state = t; told = made m.cycles m.said }
attempted s t (Err cause) = record { state = over s (with_mode s.core Faulted) s.cells; told = faults (record { stop = stop_of cause; pc = s.core.pc }) }

-- with another pc
abbrev pub placed : State → ℕ → State
placed s pc = over s (with_pc s.core pc) s.cells

abbrev pub told_of : Result (Option Made) Fault → Told
told_of (Ok (Some m)) = made m.cycles m.said
told_of (Ok None) = waits
told_of (Err f) = faults (fault_of f)

-- a step by its answer and by what is left
abbrev pub stepped_of : State → Result (Option Made) Fault → Stepped
stepped_of s r = record { state = s; told = told_of r }

abbrev pub ending_of : Ending → run.Ending
ending_of (ending.Said byte) = said byte
ending_of ending.Ended = ended
ending_of ending.Spent = spent
ending_of ending.Waiting = waiting
ending_of (ending.Fault f) = fault (fault_of f)

-- a run by its answer and by what is left
abbrev pub ran_of : State → Run → run.Ran
ran_of s r = ran s r.steps r.cycles (ending_of r.ending)

-- a run so far, and what is left of it
abbrev pub so_far : State → Run → Option Ending → (State → run.Ran) → run.Ran
so_far s r None rest = afterwards r.steps r.cycles (rest s)
so_far s r (Some e) rest = ran s r.steps r.cycles (ending_of e)

-- after one step more a run goes on as it did, whatever is left of it
abbrev pub Turned : Service → List ℕ → State → Run → State → Run → Option Ending → Type 0
Turned unit program s before t now answer =
    (rest : State → run.Ran) → so_far t now answer rest ≡ afterwards before.steps before.cycles (onward (step unit program s).state (step unit program s).told rest)
