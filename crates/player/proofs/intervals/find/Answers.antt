use Rattle.std.proofs.Common.{◌∙◌, rules}
use Rattle.player.proofs.Names.{named}
use Rattle.player.proofs.intervals.find.Goals as goal

pub returns : goal.returns
returns c = let got = c.get.ensures.value ∙ named c.args.name.now c.args.open.now.entries in search rules
