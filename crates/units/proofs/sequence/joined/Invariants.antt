use Rattle.std.proofs.Common.{◌≡◌, drop}
use Rattle.marks.specs.Marks.{join}
use Rattle.units.specs.Plans.{joined}
use Rattle.units.proofs.sequence.joined.Given as goal

-- the mark so far, with the joined mark of the bytes that are left
abbrev pub invariant-loop-each : goal.invariant-loop-each
invariant-loop-each l = join l.mark (joined (drop l.each-index l.fn.bytes)) ≡ joined l.fn.bytes
