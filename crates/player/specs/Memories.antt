-- The memories that a script begins with: bytes, and marks of 0 and 1. Assumes nothing.
use Rattle.std.specs.Prelude.{ℕ, ◌+◌, cond, ◌&&◌, List, [], ◌∷◌, codes, length, Some, None, Ok, Err, Option, Result, nat_lt, slice_set}
use Rattle.script.specs.Lines.{Said, bytes, held}
use Rattle.player.specs.Answers.{wrong_text}

abbrev pub Memories : Type 0
Memories = List ℕ × List ℕ

-- bytes with one mark from an address on, if both memories reach so far
abbrev pub put_from : ℕ → List ℕ → ℕ → Memories → Option Memories
put_from at [] mark m = Some m
put_from at (b ∷ bs) mark m =
    cond (nat_lt at (length m.0) && nat_lt at (length m.1))
    (put_from (at + 1) bs mark (slice_set m.0 at b, slice_set m.1 at mark))
    None

-- the memories after one line more
abbrev pub begun : Said → Memories → Option Memories
begun (bytes address bs) m = put_from address bs 0 m
begun (held address bs) m = put_from address bs 1 m
begun _ m = Some m

abbrev pub inside : ℕ → Option Memories → (Memories → Result Memories (List ℕ)) → Result Memories (List ℕ)
inside n None f = Err (wrong_text n (codes "bytes outside the memory"))
inside n (Some m) f = f m

-- the lines in turn
abbrev pub filled : List (ℕ × Said) → Memories → Result Memories (List ℕ)
filled [] m = Ok m
filled (l ∷ ls) m = inside l.0 (begun l.1 m) (λ n. filled ls n)
