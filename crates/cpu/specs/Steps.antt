-- One step of the machine. Assumes nothing.
use Rattle.std.specs.Prelude.{ℕ, ◌+◌, ◌%◌, Bool, true, false, cond, List, Some, None, Ok, Err, Option, Result, slice_get}
use Rattle.buses.specs.Cells.{Cells}
use Rattle.isa.specs.declared.Instruction.{Instruction}
use Rattle.isa.specs.declared.Instruction.TheVariants as i
use Rattle.isa.specs.Table.{decoded, length_of}
use Rattle.cpu.specs.declared.state.Core.{Core}
use Rattle.cpu.specs.declared.state.Mode.{Mode}
use Rattle.cpu.specs.declared.state.Mode.TheVariants.{Idle, Going, Waiting, Ended, Faulted}
use Rattle.cpu.specs.Faults.{Stop, of_core, from, and_then, Fault}
use Rattle.cpu.specs.Instructions.{Service, stack_set, vector_set, moved, constant_set, operated, amount_added, amount_subtracted, loaded, stored, stepped, status_byte, pushed, popped, status_popped, branched, called, returned, enabled_read, enabled_set, resumed, ordered, said_by, extended, replied}
use Rattle.cpu.specs.Interrupts.{due, taken}
use Rattle.cpu.specs.State.{State, register, with_pc, with_mode}

-- what an instruction leaves, the cycles that the unit lets it wait, and the byte that it says
pub record Effect : Type 0 where
  pub state : State
  pub wait : ℕ
  pub said : Option ℕ

abbrev pub over : State → Core → Cells → State
over s c cells = record { core = c; cells = cells; contents = s.contents }

abbrev pub leaves : State → Result Effect Stop
leaves s = Ok (record { state = s; wait = 0; said = None })

-- an instruction that changes the core only
abbrev pub on_core : State → Core → Result Effect Stop
on_core s c = leaves (over s c s.cells)

-- one that may be stopped
abbrev pub or_core : State → Result Core Stop → Result Effect Stop
or_core s r = and_then r (λ c. on_core s c)

-- one that also changes cells
abbrev pub or_both : State → Result (Core × Cells) Stop → Result Effect Stop
or_both s r = and_then r (λ p. leaves (over s p.0 p.1))

abbrev pub effect : Service → Instruction → State → Result Effect Stop
effect unit (i.Mvs top) s = on_core s (stack_set s.core top)
effect unit (i.Mvv handler vector) s = on_core s (vector_set s.core handler vector)
effect unit (i.Jmp target) s = on_core s (with_pc s.core target)
effect unit (i.Jsr target) s = or_both s (called s.core s.cells target)
effect unit (i.Branch flag target) s = or_core s (branched s.core flag target)
effect unit (i.Mvi byte dst) s = on_core s (constant_set s.core byte dst)
effect unit (i.Alu op src dst) s = on_core s (operated s.core op src dst)
effect unit (i.Adi amount dst) s = on_core s (amount_added s.core amount dst)
effect unit (i.Sbi amount dst) s = on_core s (amount_subtracted s.core amount dst)
effect unit (i.Aluc code src dst) s = and_then (extended unit s.core s.contents code src dst) (λ p. Ok (record { state = record { core = replied s.core dst p.0; cells = s.cells; contents = p.1 }; wait = p.0.wait; said = None }))
effect unit (i.Mov src dst) s = on_core s (moved s.core src dst)
effect unit (i.Ldb pair dst) s = or_core s (loaded s.core s.cells pair dst)
effect unit (i.Lpb pair dst) s = or_core s (and_then (loaded s.core s.cells pair dst) (λ c. Ok (stepped c pair)))
effect unit (i.Stb src pair) s = and_then (stored s.core s.cells src pair) (λ cells. leaves (over s s.core cells))
effect unit (i.Spb src pair) s = and_then (stored s.core s.cells src pair) (λ cells. leaves (over s (stepped s.core pair) cells))
effect unit i.Ret s = or_core s (returned s.core s.cells)
effect unit i.Str s = or_both s (pushed s.core s.cells (status_byte s.core.status))
effect unit i.Lsr s = or_core s (status_popped s.core s.cells)
effect unit (i.Rie pair) s = on_core s (enabled_read s.core pair)
effect unit (i.Sie pair) s = or_core s (enabled_set s.core pair)
effect unit i.Hlt s = on_core s (with_mode s.core Waiting)
effect unit i.Rti s = or_core s (resumed s.core)
effect unit (i.Sys byte) s = Ok (record { state = over s (ordered s.core byte) s.cells; wait = 0; said = said_by byte })
effect unit (i.Psh src) s = or_both s (pushed s.core s.cells (register s.core src))
effect unit (i.Pop dst) s = or_core s (popped s.core s.cells dst)

-- the cycles of an instruction, its wait apart
abbrev pub cycles_of : Instruction → ℕ
cycles_of (i.Mvs top) = 2
cycles_of (i.Mvv handler vector) = 2
cycles_of (i.Jmp target) = 2
cycles_of (i.Jsr target) = 2
cycles_of (i.Branch flag target) = 2
cycles_of (i.Mvi byte dst) = 2
cycles_of (i.Alu op src dst) = 2
cycles_of (i.Adi amount dst) = 2
cycles_of (i.Sbi amount dst) = 2
cycles_of (i.Aluc code src dst) = 2
cycles_of (i.Mov src dst) = 2
cycles_of (i.Ldb pair dst) = 2
cycles_of (i.Lpb pair dst) = 2
cycles_of (i.Stb src pair) = 2
cycles_of (i.Spb src pair) = 2
cycles_of i.Ret = 2
cycles_of i.Str = 1
cycles_of i.Lsr = 1
cycles_of (i.Rie pair) = 2
cycles_of (i.Sie pair) = 2
cycles_of i.Hlt = 1
cycles_of i.Rti = 1
cycles_of (i.Sys byte) = 2
cycles_of (i.Psh src) = 1
cycles_of (i.Pop dst) = 1

-- the instruction at pc, which counts modulo 4,096; there is no byte past the program's end
abbrev pub fetched : List ℕ → ℕ → Result Instruction Stop
fetched program pc = from of_core (decoded (slice_get program pc) (slice_get program ((pc + 1) % 4096)))

abbrev pub advanced : State → ℕ → State
advanced s n = over s (with_pc s.core ((s.core.pc + n) % 4096)) s.cells

-- what is told of a step: it was made in so many cycles and may have said a byte, none can be made, or it faulted
pub data Told : Type 0 where
  made : ℕ → Option ℕ → Told
  waits : Told
  faults : Fault → Told

pub record Stepped : Type 0 where
  pub state : State
  pub told : Told

-- a faulting instruction does nothing but make the mode faulted
abbrev pub ending : State → ℕ → Result Effect Stop → Stepped
ending s cycles (Ok e) = record { state = e.state; told = made (cycles + e.wait) e.said }
ending s cycles (Err stop) = record { state = over s (with_mode s.core Faulted) s.cells; told = faults (record { stop = stop; pc = s.core.pc }) }

-- the instruction at pc runs, or there is none
abbrev pub performed : Service → State → Result Instruction Stop → Stepped
performed unit s (Ok x) = ending s (cycles_of x) (effect unit x (advanced s (length_of x)))
performed unit s (Err stop) = ending s 0 (Err stop)

abbrev pub is_waiting : Mode → Bool
is_waiting Idle = false
is_waiting Going = false
is_waiting Waiting = true
is_waiting Ended = false
is_waiting Faulted = false

-- a line that is due is taken, which costs nothing; otherwise a waiting core makes no step; otherwise the instruction at pc runs
abbrev pub step_by : Option ℕ → Service → List ℕ → State → Stepped
step_by (Some line) unit program s = record { state = over s (taken s.core line) s.cells; told = made 0 None }
step_by None unit program s = cond (is_waiting s.core.mode) (record { state = s; told = waits }) (performed unit s (fetched program s.core.pc))

abbrev pub step : Service → List ℕ → State → Stepped
step unit program s = step_by (due s.core) unit program s
