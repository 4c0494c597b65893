use Rattle.std.proofs.Common.{ap, ◌∙◌, rules}
use Rattle.isa.proofs.RoundTrip.{back}
use Rattle.isa.specs.Laws.{reread}
use Rattle.isa.proofs.encode.Goals as goal

pub returns-then-operands_fit : goal.returns-then-operands_fit
returns-then-operands_fit c = record { told = search rules; read_back = ap reread c.word.ensures ∙ back c.args.instruction (search rules) }
