-- Bytes written as hex digits. Assumes nothing.
use Rattle.std.specs.Prelude.{ℕ, ◌+◌, ◌*◌, List, [], ◌∷◌, ◌++◌, Some, None, Ok, Err, Option, Result}
use Rattle.script.specs.declared.faults.Fault.{Fault}
use Rattle.script.specs.declared.faults.Fault.TheVariants.{NoBytes}
use Rattle.script.specs.Numbers.{digit_of}

abbrev pub pair_of : ℕ → ℕ → Option ℕ
pair_of a b = elim (digit_of a) [ None ↦ None | Some high ↦ elim (digit_of b) [ None ↦ None | Some low ↦ Some (high * 16 + low) ] ]

-- some bytes before those that are read
abbrev pub before : List ℕ → Result (List ℕ) Fault → Result (List ℕ) Fault
before bs (Ok more) = Ok (bs ++ more)
before bs (Err fault) = Err fault

-- two digits to a byte; a word has a character, so it has at least one byte
abbrev pub bytes_of : List ℕ → Result (List ℕ) Fault
bytes_of [] = Ok []
bytes_of (a ∷ []) = Err NoBytes
bytes_of (a ∷ b ∷ rest) = elim (pair_of a b) [ None ↦ Err NoBytes | Some byte ↦ before (byte ∷ []) (bytes_of rest) ]
