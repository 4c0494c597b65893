-- One turn of the loop that makes a run's steps. Assumes nothing.
use Rattle.std.proofs.Common.{◌≡◌, ℕ, suc, ◌+◌, ◌-◌, ◌<◌, List, Option, sym, ap, subst, ◌∙◌, arith}
use Rattle.cpu.specs.declared.machine.Ending.{Ending}
use Rattle.cpu.specs.declared.machine.Run.{Run}
use Rattle.cpu.specs.Instructions.{Service}
use Rattle.cpu.specs.Machines.{Turned, so_far}
use Rattle.cpu.specs.State.{State}
use Rattle.cpu.specs.Runs.{Ran, afterwards, run}

-- a turn makes the next step of the whole run, whose unit and program are still those of the beginning
pub turn : {unit now-unit : Service} {program now-program : List ℕ} {all : Ran} (budget count : ℕ) (s t : State) (before now : Run) (answer : Option Ending) →
    now-unit ≡ unit → now-program ≡ program → count < budget →
    Turned now-unit now-program s before t now answer →
    afterwards before.steps before.cycles (run unit program (budget - count) s) ≡ all →
    so_far t now answer (λ u. run unit program (budget - (count + 1)) u) ≡ all
turn {unit} {now-unit} {program} {now-program} budget count s t before now answer same-unit same-program less turned e =
    let left : budget - count ≡ suc (budget - (count + 1)) = omega arith in
    let same : Turned unit program s before t now answer =
    subst (λ (u : Service). Turned u program s before t now answer) same-unit
    (subst (λ (p : List ℕ). Turned now-unit p s before t now answer) same-program turned) in
    same (λ u. run unit program (budget - (count + 1)) u)
    ∙ sym (ap (λ (k : ℕ). afterwards before.steps before.cycles (run unit program k s)) left)
    ∙ e
