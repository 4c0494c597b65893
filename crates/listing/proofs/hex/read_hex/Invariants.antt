use Rattle.std.proofs.Common.{◌≡◌, drop}
use Rattle.listing.specs.Hex.{read_hex}
use Rattle.listing.specs.Reader.{Small, resumed}
use Rattle.listing.proofs.hex.read_hex.Given as goal

-- what is left of the text gives what the whole says
abbrev pub invariant-loop-at : goal.invariant-loop-at
invariant-loop-at l = Small l.reader.first × (resumed l.reader l.at (drop l.at l.text) ≡ read_hex l.text)
