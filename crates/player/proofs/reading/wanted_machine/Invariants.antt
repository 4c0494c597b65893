-- The lines that are left ask for the machine that all ask for. Assumes nothing.
use Rattle.std.proofs.Common.{◌≡◌, drop, map}
use Rattle.player.specs.Answers.{numbered}
use Rattle.player.specs.Wishes.{usual, wanted_after}
use Rattle.player.proofs.reading.wanted_machine.Given as goal

abbrev pub invariant-loop-line : goal.invariant-loop-line
invariant-loop-line l = wanted_after l.wanted (map numbered (drop l.line-index l.lines)) ≡ wanted_after usual (map numbered l.lines)
