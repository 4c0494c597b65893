-- What a turn makes of the whole run. Assumes nothing.
use Rattle.std.proofs.Common.{Some, None, ap, vec_items, rules}
use Rattle.cpu.specs.Instructions.{served}
use Rattle.cpu.specs.Machines.{state_of, service}
use Rattle.cpu.proofs.Runs.{run_laws}
use Rattle.cpu.proofs.Turns.{turn}
use Rattle.cpu.proofs.machine.Machine.run.Goals as goal

pub loop-preserved : goal.loop-preserved
loop-preserved g c =
    let so = c.loop.invariant in
    let state = state_of g.B.Bus g.U.Unit in
    record {
      turned = turn c.args.budget c.loop.counter (state c.loop.self) (state c.turn.new.self) c.loop.run c.turn.new.run None (ap (served g.U.Unit.operates) so.keeps.codes) (ap vec_items so.keeps.program) c.loop-test.true c.in_default.ensures.turned so.turned;
      keeps = search rules;
      steps = search rules;
      cycles = search rules;
      counted = search rules;
      spent = search rules;
    }

pub returns-in-Some-clause-ran : goal.returns-in-Some-clause-ran
returns-in-Some-clause-ran g c =
    let so = c.loop.invariant in
    let state = state_of g.B.Bus g.U.Unit in
    turn c.args.budget c.loop.counter (state c.loop.self) (state c.turn.new.self) c.loop.run c.turn.new.run (Some c.in-Some.ending) (ap (served g.U.Unit.operates) so.keeps.codes) (ap vec_items so.keeps.program) c.loop-test.true c.in-Some.ensures.turned so.turned

pub returns-in-Some-clause-laws : goal.returns-in-Some-clause-laws
returns-in-Some-clause-laws g c = run_laws (service g.U.Unit c.args.self.now.unit) (vec_items c.args.self.now.program)

pub returns-after-loop-clause-laws : goal.returns-after-loop-clause-laws
returns-after-loop-clause-laws g c = run_laws (service g.U.Unit c.args.self.now.unit) (vec_items c.args.self.now.program)
