-- The S-box of AES by its rule, and its inverse. Assumes nothing.
use Rattle.std.specs.Prelude.{ℕ, zero, suc, ◌+◌, ◌-◌, ◌*◌, ◌/◌, ◌%◌, ◌^◌, cond, ◌==◌, bit_xor}
use Rattle.units.specs.Field.{inverse}

-- a byte turned left by k places
abbrev pub turned : ℕ → ℕ → ℕ
turned k b = (b * 2 ^ k) % 256 + b / 2 ^ (8 - k)

-- the affine map
unfoldable pub affine : ℕ → ℕ
affine b = bit_xor b (bit_xor (turned 1 b) (bit_xor (turned 2 b) (bit_xor (turned 3 b) (bit_xor (turned 4 b) 0x63))))

-- the S-box: the inverse in the field, then the affine map
unfoldable pub substituted : ℕ → ℕ
substituted b = affine (inverse b)

-- the byte below n that the S-box takes to b
abbrev pub found : ℕ → ℕ → ℕ
found zero b = 0
found (suc n) b = cond (substituted n == b) n (found n b)

unfoldable pub restored : ℕ → ℕ
restored b = found 256 b
