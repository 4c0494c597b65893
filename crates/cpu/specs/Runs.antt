-- A run: steps until one of them ends it. Assumes nothing.
use Rattle.std.specs.Prelude.{ℕ, zero, suc, ◌+◌, Bool, true, false, cond, List, Some, None}
use Rattle.cpu.specs.declared.state.Mode.{Mode}
use Rattle.cpu.specs.declared.state.Mode.TheVariants.{Idle, Going, Waiting, Ended, Faulted}
use Rattle.cpu.specs.Faults.{Fault}
use Rattle.cpu.specs.Instructions.{Service}
use Rattle.cpu.specs.State.{State}
use Rattle.cpu.specs.Steps.{Told, made, waits, faults, step}

pub data Ending : Type 0 where
  said : ℕ → Ending
  ended : Ending
  spent : Ending
  waiting : Ending
  fault : Fault → Ending

-- what a run leaves and answers
pub record Ran : Type 0 where
  pub state : State
  pub steps : ℕ
  pub cycles : ℕ
  pub ending : Ending

abbrev pub ran : State → ℕ → ℕ → Ending → Ran
ran s steps cycles e = record { state = s; steps = steps; cycles = cycles; ending = e }

-- so many steps and cycles more, made before
abbrev pub afterwards : ℕ → ℕ → Ran → Ran
afterwards steps cycles r = ran r.state (steps + r.steps) (cycles + r.cycles) r.ending

abbrev pub is_ended : Mode → Bool
is_ended Idle = false
is_ended Going = false
is_ended Waiting = false
is_ended Ended = true
is_ended Faulted = false

-- what a step makes of its run: a byte that is said ends it, then the end of the program; otherwise the rest of the budget is run.
-- Where no step can be made, or one faults, that ends it
abbrev pub onward : State → Told → (State → Ran) → Ran
onward s (made cycles (Some byte)) rest = ran s 1 cycles (said byte)
onward s (made cycles None) rest = cond (is_ended s.core.mode) (ran s 1 cycles ended) (afterwards 1 cycles (rest s))
onward s waits rest = ran s 0 0 waiting
onward s (faults f) rest = ran s 0 0 (fault f)

-- a budget of steps; with none left it is spent, before anything else is looked at
abbrev pub run : Service → List ℕ → ℕ → State → Ran
run unit program zero s = ran s 0 0 spent
run unit program (suc budget) s = onward (step unit program s).state (step unit program s).told (λ t. run unit program budget t)
