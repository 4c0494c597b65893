-- What is found in the common set is latched and enabled, and nothing lower is. Assumes nothing.
use Rattle.std.proofs.Common.{sym, rules}
use Rattle.cpu.proofs.Lines.{lowest_due}
use Rattle.cpu.proofs.state.Core.due.Goals as goal

pub returns : goal.returns
returns c = record { line = search rules; lowest = lowest_due c.args.self.now c.if-self.false c.lowest.result (sym c.lowest.ensures) }
