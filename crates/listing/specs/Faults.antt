-- What is told of a text that is no program. Assumes nothing.
use Rattle.std.specs.Prelude.{ℕ, ◌+◌, cond, List, [], ◌∷◌, ◌++◌, take, codes, decimal, ◌==◌}
use Rattle.listing.specs.declared.faults.Place.{Place}
use Rattle.listing.specs.declared.hex.Fault.{Fault}
use Rattle.listing.specs.declared.hex.Fault.TheVariants.{NoDigit, OddDigits, TooLong, NoMemory}
use Rattle.listing.specs.Digits.{within}
use Rattle.isa.specs.Text.{hex_text}

-- lines and columns are told from 1
abbrev pub place_text : Place → List ℕ
place_text p = codes "line " ++ (decimal (p.line + 1) ++ (codes ", column " ++ decimal (p.column + 1)))

-- the place after one character; a line ends at 10
abbrev pub advanced : Place → ℕ → Place
advanced p c = cond (c == 10) (record { line = p.line + 1; column = 0 }) (record { line = p.line; column = p.column + 1 })

abbrev pub past : Place → List ℕ → Place
past p [] = p
past p (c ∷ cs) = past (advanced p c) cs

-- the place of the character at an offset: past all before it
abbrev pub place_of : List ℕ → ℕ → Place
place_of text at = past (record { line = 0; column = 0 }) (take at text)

-- a character that can be printed (33 to 126) in quotes, any other byte by its number
abbrev pub found_text : ℕ → List ℕ
found_text c = cond (within 33 126 c) (codes "'" ++ (c ∷ codes "'")) (codes "byte " ++ hex_text 2 c)

abbrev pub no_digit_text : ℕ → List ℕ
no_digit_text c = found_text c ++ codes " is no hex digit"

abbrev pub placed_text : List ℕ → ℕ → List ℕ → List ℕ
placed_text text at what = place_text (place_of text at) ++ (codes ": " ++ what)

abbrev pub fault_text : List ℕ → Fault → List ℕ
fault_text text (NoDigit at c) = placed_text text at (no_digit_text c)
fault_text text (OddDigits at) = placed_text text at (codes "an odd number of digits, this one is left over")
fault_text text (TooLong at) = placed_text text at (codes "more than 4096 bytes")
fault_text text NoMemory = codes "out of memory"
