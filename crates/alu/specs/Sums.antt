-- Sums and differences of bytes, and their flags. Assumes nothing.
use Rattle.std.specs.Prelude.{ℕ, ◌+◌, ◌-◌, ◌*◌, ◌%◌, Bool, true, false, cond, ◌||◌, ℤ, pos, ◌+ℤ◌, ◌-ℤ◌, neg_ℤ, ◌==◌, int_lt, nat_le, nat_lt}

-- a byte as a signed number: from 128 on, 256 less
abbrev pub signed : ℕ → ℤ
signed b = cond (nat_lt b 128) (pos b) (pos b -ℤ pos 256)

-- outside -128 to 127
abbrev pub outside : ℤ → Bool
outside z = int_lt z (neg_ℤ (pos 128)) || int_lt (pos 127) z

abbrev pub one : Bool → ℕ
one true = 1
one false = 0

-- X (bit 3) as given, C (bit 2) as given, N (bit 1) of a byte from 128 on, Z (bit 0) of 0
abbrev pub nibble : Bool → Bool → ℕ → ℕ
nibble x c byte = 8 * one x + 4 * one c + 2 * one (nat_le 128 byte) + one (byte == 0)

-- a byte with its flags: X tells whether the exact signed result is outside the range of a byte, C the carry or the borrow
abbrev pub answer : ℤ → Bool → ℕ → ℕ × ℕ
answer exact carry byte = (byte, nibble (outside exact) carry byte)

abbrev pub sum : ℕ → ℕ → Bool → ℕ × ℕ
sum a b carry = answer (signed a +ℤ signed b +ℤ pos (one carry)) (nat_le 256 (a + b + one carry)) ((a + b + one carry) % 256)

abbrev pub difference : ℕ → ℕ → Bool → ℕ × ℕ
difference a b borrow = answer (signed a -ℤ signed b -ℤ pos (one borrow)) (nat_lt a (b + one borrow)) ((a + 256 - (b + one borrow)) % 256)

-- a byte and an immediate, which is no signed byte but a plain number
abbrev pub raised : ℕ → ℕ → ℕ × ℕ
raised a n = answer (signed a +ℤ pos n) (nat_le 256 (a + n)) ((a + n) % 256)

abbrev pub lowered : ℕ → ℕ → ℕ × ℕ
lowered a n = answer (signed a -ℤ pos n) (nat_lt a n) ((a + 256 - n) % 256)
