-- The lines that are left are read as all are. Assumes nothing.
use Rattle.player.proofs.SplitLines.{LeftToRead}
use Rattle.player.proofs.reading.read_script.Given as goal

abbrev pub invariant-loop-line : goal.invariant-loop-line
invariant-loop-line l = record {
  can_next : (goal.iterator-loop-line).can_next l.line-iterator;
  finite : (goal.iterator-loop-line).is_finite l.line-iterator;
  left : LeftToRead (goal.iterator-loop-line).next_gives l.line-iterator l.reading l.text;
}
