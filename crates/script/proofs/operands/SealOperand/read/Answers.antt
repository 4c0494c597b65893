use Rattle.std.proofs.Common.{codes, sym, ap, rules}
use Rattle.std.proofs.lemmas.Slice.Eq.{text_from_reads}
use Rattle.script.specs.Operands.{seal_of}
use Rattle.script.proofs.operands.SealOperand.read.Goals as goal

pub returns-in-sealed : goal.returns-in-sealed
returns-in-sealed c = sym (ap seal_of (text_from_reads c.args.word.now (codes "sealed") (search rules) (search rules)))

pub returns-in-practice : goal.returns-in-practice
returns-in-practice c = sym (ap seal_of (text_from_reads c.args.word.now (codes "practice") (search rules) (search rules)))
