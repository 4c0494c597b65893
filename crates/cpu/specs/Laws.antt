-- Laws of runs, in terms of runs only. Assumes nothing.
use Rattle.std.specs.Prelude.{◌≡◌, ℕ, ◌+◌, ◌≤◌, List}
use Rattle.cpu.specs.declared.state.Mode.TheVariants.{Faulted}
use Rattle.cpu.specs.Faults.{Fault}
use Rattle.cpu.specs.Instructions.{Service}
use Rattle.cpu.specs.State.{State, with_mode}
use Rattle.cpu.specs.Steps.{over}
use Rattle.cpu.specs.Runs.{spent, fault, Ran, ran, afterwards, run}

-- a run that faults leaves what the steps before the faulting one left, but for the mode; that step is not counted, and its place is told
abbrev pub LeavesWhole : Service → List ℕ → State → Ran → Fault → Type 0
LeavesWhole unit program s r f =
    (t : State)
    × (run unit program r.steps s ≡ ran t r.steps r.cycles spent)
    × (r.state ≡ over t (with_mode t.core Faulted) t.cells)
    × (f.pc ≡ t.core.pc)

pub record RunLaws (unit : Service) (program : List ℕ) : Type 0 where
  -- a run of m that was spent, and then a run of n, are a run of m + n
  pub joined : (m n : ℕ) (s : State) → (run unit program m s).ending ≡ spent → run unit program (m + n) s ≡ afterwards (run unit program m s).steps (run unit program m s).cycles (run unit program n (run unit program m s).state)
  -- no more steps are made than the budget allows
  pub bounded : (n : ℕ) (s : State) → (run unit program n s).steps ≤ n
  pub whole : (n : ℕ) (s : State) (f : Fault) → (run unit program n s).ending ≡ fault f → LeavesWhole unit program s (run unit program n s) f
