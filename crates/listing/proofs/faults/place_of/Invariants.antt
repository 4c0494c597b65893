use Rattle.std.proofs.Common.{◌≡◌, take}
use Rattle.listing.specs.Faults.{past}
use Rattle.listing.proofs.Places.{Within}
use Rattle.listing.proofs.faults.place_of.Given as goal

abbrev pub invariant-loop-b : goal.invariant-loop-b
invariant-loop-b l = (l.place ≡ past (record { line = 0; column = 0 }) (take l.b-index l.b-items)) × Within l.place l.b-index
