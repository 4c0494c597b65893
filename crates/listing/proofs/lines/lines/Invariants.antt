use Rattle.std.proofs.Common.{◌≡◌, ◌-◌, ◌++◌, length, vec_items}
use Rattle.listing.specs.Lines.{lines_of, bytes_of}
use Rattle.listing.proofs.lines.lines.Given as goal

-- the lines so far, with those of the bytes that are left, are all
abbrev pub invariant-loop-left : goal.invariant-loop-left
invariant-loop-left l =
    (vec_items l.lines ++ lines_of (length l.program - length l.left) l.left ≡ lines_of 0 l.program)
    × (bytes_of (vec_items l.lines) ++ l.left ≡ l.program)

abbrev pub decreases-loop-left : goal.decreases-loop-left
decreases-loop-left l = length l.left
