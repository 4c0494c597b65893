use Rattle.std.proofs.Common.{codes, sym, ap, rules}
use Rattle.std.proofs.lemmas.Slice.Eq.{text_from_reads}
use Rattle.script.specs.Verbs.{verb_of}
use Rattle.script.proofs.verbs.verb_of.Goals as goal

pub returns-in-memory : goal.returns-in-memory
returns-in-memory c = sym (ap verb_of (text_from_reads c.args.word.now (codes "memory") (search rules) (search rules)))

pub returns-in-status : goal.returns-in-status
returns-in-status c = sym (ap verb_of (text_from_reads c.args.word.now (codes "status") (search rules) (search rules)))

pub returns-in-register : goal.returns-in-register
returns-in-register c = sym (ap verb_of (text_from_reads c.args.word.now (codes "register") (search rules) (search rules)))
