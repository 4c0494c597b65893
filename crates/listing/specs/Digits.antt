-- Hex digits. Assumes nothing.
use Rattle.std.specs.Prelude.{ℕ, ◌-◌, ◌/◌, ◌%◌, Bool, cond, ◌&&◌, List, [], ◌∷◌, Some, None, Option, nat_le}
use Rattle.isa.specs.Text.{hex_digit}

-- two digits for each byte
abbrev pub hex_of : List ℕ → List ℕ
hex_of [] = []
hex_of (b ∷ bs) = hex_digit (b / 16) ∷ (hex_digit (b % 16) ∷ hex_of bs)

abbrev pub within : ℕ → ℕ → ℕ → Bool
within low high n = nat_le low n && nat_le n high

-- the value of a digit: 0 to 9, A to F (65 to 70) or a to f (97 to 102)
abbrev pub digit_of : ℕ → Option ℕ
digit_of c = cond (within 48 57 c) (Some (c - 48)) (cond (within 65 70 c) (Some (c - 55)) (cond (within 97 102 c) (Some (c - 87)) None))
