-- The field of AES: bytes as polynomials over two elements, modulo x^8 + x^4 + x^3 + x + 1. Assumes nothing.
use Rattle.std.specs.Prelude.{◌≡◌, ℕ, zero, suc, ◌*◌, ◌/◌, ◌%◌, ◌<◌, cond, ◌==◌, bit_xor, nat_lt}

-- times x
abbrev pub doubled : ℕ → ℕ
doubled b = cond (nat_lt b 128) (2 * b) (bit_xor ((2 * b) % 256) 0x1B)

-- b or nothing, by the lowest bit of m
abbrev pub by_lowest_bit : ℕ → ℕ → ℕ
by_lowest_bit m b = cond (m % 2 == 0) 0 b

-- the sum of b × x^k over the bits k of m, of which there are so many
abbrev pub product_of : ℕ → ℕ → ℕ → ℕ
product_of zero m b = 0
product_of (suc bits) m b = bit_xor (by_lowest_bit m b) (product_of bits (m / 2) (doubled b))

unfoldable pub product : ℕ → ℕ → ℕ
product m b = product_of 8 m b

abbrev pub squared : ℕ → ℕ
squared b = product_of 8 b b

-- b to the power 2^k - 2, by squaring and multiplying
abbrev pub raised_to : ℕ → ℕ → ℕ → ℕ
raised_to zero b p = p
raised_to (suc k) b p = raised_to k b (squared (product_of 8 p b))

-- the inverse is the power 254, since every power 255 is 1; 0 goes to 0
unfoldable pub inverse : ℕ → ℕ
inverse b = raised_to 7 b 1

-- and so it is: every byte but 0 times its inverse is 1
abbrev pub InverseLaw : Type 0
InverseLaw = (b : ℕ) → 0 < b → b < 256 → product b (inverse b) ≡ 1
