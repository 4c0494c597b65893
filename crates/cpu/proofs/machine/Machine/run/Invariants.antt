-- The steps made, and then a run of what is left of the budget, are the whole run. Assumes nothing.
use Rattle.std.proofs.Common.{◌≡◌, ◌-◌, ◌*◌, ◌≤◌}
use Rattle.cpu.specs.declared.machine.Ending.TheVariants.{Spent}
use Rattle.cpu.specs.Machines.{state_of, service, Keeps}
use Rattle.cpu.specs.Runs.{afterwards, run}
use Rattle.cpu.proofs.machine.Machine.run.Given as goal

abbrev pub invariant-loop : goal.invariant-loop
invariant-loop g l =
    let whole = run (service g.U.Unit l.initial.self.unit) l.initial.self.program.items in
    record {
      turned : afterwards l.run.steps l.run.cycles (whole (l.budget - l.counter) (state_of g.B.Bus g.U.Unit l.self)) ≡ whole l.budget (state_of g.B.Bus g.U.Unit l.initial.self);
      keeps : Keeps g.B.Bus g.U.Unit l.initial.self l.self;
      steps : l.run.steps ≤ l.counter;
      cycles : l.run.cycles ≤ l.counter * 65535;
      counted : l.counter ≤ l.budget;
      spent : l.run.ending ≡ Spent;
    }
