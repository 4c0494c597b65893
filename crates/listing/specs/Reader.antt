-- A text that has been read in part, and what one character more does. Assumes nothing.
use Rattle.std.specs.Prelude.{◌≡◌, ℕ, ◌+◌, ◌-◌, ◌<◌, List, ◌∷◌, length, Some, None, Ok, Err, vec_items, Option, Result}
use Rattle.listing.specs.declared.hex.Digit.{Digit}
use Rattle.listing.specs.declared.hex.Fault.{Fault}
use Rattle.listing.specs.declared.hex.Fault.TheVariants.{NoDigit, OddDigits, TooLong, NoMemory}
use Rattle.listing.specs.declared.hex.Reader.{Reader}
use Rattle.listing.specs.Hex.{counted, paired, before}

-- a digit that waits is one
abbrev pub Small : Option Digit → Type 0
Small None = Unit {0}
Small (Some first) = first.value < 16

-- what is read if these characters that count come next
abbrev pub going_on : Reader → List (ℕ × ℕ) → Result (List ℕ) Fault
going_on r cs = before (vec_items r.bytes) (paired (4096 - length (vec_items r.bytes)) r.first cs)

-- what is read if this text comes next
abbrev pub resumed : Reader → ℕ → List ℕ → Result (List ℕ) Fault
resumed r at rest = going_on r (counted r.in_comment at rest)

-- an answer settles what is read: by what comes after, or by a fault
abbrev pub Settles : Result (Unit {0}) Fault → Result (List ℕ) Fault → Result (List ℕ) Fault → Type 0
Settles (Ok done) said later = said ≡ later
Settles (Err NoMemory) said later = Unit {0}
Settles (Err (NoDigit k c)) said later = said ≡ Err (NoDigit k c)
Settles (Err (OddDigits k)) said later = said ≡ Err (OddDigits k)
Settles (Err (TooLong k)) said later = said ≡ Err (TooLong k)

abbrev pub Took : Reader → ℕ → ℕ → Result (Unit {0}) Fault → Reader → Type 0
Took old at c r new = (rest : List ℕ) → Settles r (resumed old at (c ∷ rest)) (resumed new (at + 1) rest)

abbrev pub TookDigit : Reader → ℕ → ℕ → Result (Unit {0}) Fault → Reader → Type 0
TookDigit old at c r new = (rest : List (ℕ × ℕ)) → Settles r (going_on old ((at, c) ∷ rest)) (going_on new rest)
