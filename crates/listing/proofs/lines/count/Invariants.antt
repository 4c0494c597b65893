use Rattle.std.proofs.Common.{◌≡◌, ◌+◌, drop}
use Rattle.listing.specs.Lines.{Below, tallied, counts_of}
use Rattle.listing.proofs.lines.count.Given as goal

-- the lines that are left give the counts of all
abbrev pub invariant-loop-line : goal.invariant-loop-line
invariant-loop-line l = (tallied l.counts (drop l.line-index l.lines) ≡ counts_of l.lines) × Below l.counts (l.line-index + 1)
