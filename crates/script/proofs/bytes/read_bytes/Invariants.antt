use Rattle.std.proofs.Common.{◌≡◌, length, vec_items}
use Rattle.script.specs.Bytes.{before, bytes_of}
use Rattle.script.proofs.bytes.read_bytes.Given as goal

-- what is left of the word gives what the whole says
abbrev pub invariant-loop-rest : goal.invariant-loop-rest
invariant-loop-rest l = before (vec_items l.bytes) (bytes_of l.rest) ≡ bytes_of l.word

abbrev pub decreases-loop-rest : goal.decreases-loop-rest
decreases-loop-rest l = length l.rest
