-- What is left to put gives what all gives. Assumes nothing.
use Rattle.std.proofs.Common.{◌≡◌, ◌+◌, drop}
use Rattle.marks.specs.Marks.{mark_byte}
use Rattle.player.specs.Contents.{contents}
use Rattle.player.specs.Memories.{put_from}
use Rattle.player.proofs.memories.Memories.put.Given as goal

abbrev pub invariant-loop-offset : goal.invariant-loop-offset
invariant-loop-offset l = put_from (l.address + l.offset) (drop l.offset l.values) (mark_byte l.mark) (contents l.self) ≡ put_from l.address l.values (mark_byte l.mark) (contents l.initial.self)
