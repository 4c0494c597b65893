-- The lines that are left fill the memories as all do. Assumes nothing.
use Rattle.std.proofs.Common.{◌≡◌, drop, map}
use Rattle.player.specs.Answers.{numbered}
use Rattle.player.specs.Contents.{contents}
use Rattle.player.specs.Memories.{filled}
use Rattle.player.proofs.memories.Memories.fill.Given as goal

abbrev pub invariant-loop-line : goal.invariant-loop-line
invariant-loop-line l = filled (map numbered (drop l.line-index l.lines)) (contents l.self) ≡ filled (map numbered l.lines) (contents l.initial.self)
