use Rattle.std.proofs.Common.{◌∙◌, rules}
use Rattle.player.proofs.Names.{named, removed}
use Rattle.player.proofs.intervals.take.Goals as goal

pub returns-clause-taken : goal.returns-clause-taken
returns-clause-taken c = let got = c.remove_entry.ensures.value ∙ named c.args.name.now c.args.open.now.entries in search rules

pub returns-clause-others : goal.returns-clause-others
returns-clause-others c = let left = c.remove_entry.ensures.entries ∙ removed c.args.name.now c.args.open.now.entries in search rules
