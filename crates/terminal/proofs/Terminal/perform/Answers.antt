-- The calls of a list in turn, and the two theorems. Assumes nothing.
use Rattle.terminal.proofs.Theorems.{noninterference, transparency}
use Rattle.terminal.proofs.Terminal.perform.Goals as goal

pub returns-in_err-answers-clause-noninterference : goal.returns-in_err-answers-clause-noninterference
returns-in_err-answers-clause-noninterference g c = noninterference g.U.Unit.operates (g.U.Unit.codes c.args.self.now.machine.unit) g.met.U.Unit.quiet

pub returns-in_err-answers-clause-transparency : goal.returns-in_err-answers-clause-transparency
returns-in_err-answers-clause-transparency g c = transparency g.U.Unit.operates (g.U.Unit.codes c.args.self.now.machine.unit) g.met.U.Unit.idle g.met.U.Unit.clean

pub returns-clause-noninterference : goal.returns-clause-noninterference
returns-clause-noninterference g c = noninterference g.U.Unit.operates (g.U.Unit.codes c.args.self.now.machine.unit) g.met.U.Unit.quiet

pub returns-clause-transparency : goal.returns-clause-transparency
returns-clause-transparency g c = transparency g.U.Unit.operates (g.U.Unit.codes c.args.self.now.machine.unit) g.met.U.Unit.idle g.met.U.Unit.clean
