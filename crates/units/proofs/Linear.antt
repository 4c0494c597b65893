-- The field's distributive law, and what mixing makes of it. Assumes nothing.
use Rattle.std.proofs.Common.{◌≡◌, ℕ, zero, suc, ◌+◌, ◌*◌, ◌/◌, ◌%◌, ◌<◌, ◌≤◌, Bool, true, false, cond, eqb, ltb, sym, refl, ap, ◌∙◌, subst, arith, rules}
use lib.Bits.{bit_xor, xor_assoc, xor_comm, xor_zero_r, xor_mod, xor_shr, xor_block, xor_lt}
use Rattle.units.specs.Field.{by_lowest_bit, doubled, product, product_of}

-- two sums, regrouped
pub swap : (a b c d : ℕ) → bit_xor (bit_xor a b) (bit_xor c d) ≡ bit_xor (bit_xor a c) (bit_xor b d)
swap a b c d =
    xor_assoc a b (bit_xor c d)
    ∙ ap (bit_xor a) (sym (xor_assoc b c d) ∙ ap (λ n. bit_xor n d) (xor_comm b c) ∙ xor_assoc c b d)
    ∙ sym (xor_assoc a c (bit_xor b d))

-- a byte below 256 stays below
pub byte_xor : (a b : ℕ) → a < 256 → b < 256 → bit_xor a b < 256
byte_xor a b h k = xor_lt 8 a b h k

-- what a double adds where it passes 255, by the top bit
abbrev passed : ℕ → ℕ
passed b = cond (eqb (b / 128) 0) 0 0x1B

doubled_parts : (b : ℕ) → b < 256 → doubled b ≡ bit_xor ((2 * b) % 256) (passed b)
doubled_parts b h = parts (ltb b 128) refl where
  parts : (t : Bool) → ltb b 128 ≡ t → cond t (2 * b) (bit_xor ((2 * b) % 256) 0x1B) ≡ bit_xor ((2 * b) % 256) (passed b)
  parts true e =
      let low : b < 128 = search rules in
      let whole : 2 * b ≡ (2 * b) % 256 = omega arith in
      let top : b / 128 ≡ 0 = omega arith in
      whole ∙ sym (xor_zero_r ((2 * b) % 256)) ∙ ap (λ n. bit_xor ((2 * b) % 256) (cond (eqb n 0) 0 0x1B)) (sym top)
  parts false e =
      let high : 128 ≤ b = search rules in
      let top : b / 128 ≡ 1 = omega arith in
      ap (λ n. bit_xor ((2 * b) % 256) (cond (eqb n 0) 0 0x1B)) (sym top)

twice : (a b : ℕ) → bit_xor (2 * a) (2 * b) ≡ 2 * bit_xor a b
twice a b =
    let x : 2 * a ≡ a * 2 + 0 = omega arith in
    let y : 2 * b ≡ b * 2 + 0 = omega arith in
    let z : bit_xor a b * 2 + 0 ≡ 2 * bit_xor a b = omega arith in
    (λ i. bit_xor (x i) (y i)) ∙ xor_block 1 a b 0 0 (omega arith) (omega arith) ∙ z

low_double : (a b : ℕ) → (2 * bit_xor a b) % 256 ≡ bit_xor ((2 * a) % 256) ((2 * b) % 256)
low_double a b = ap (λ n. n % 256) (sym (twice a b)) ∙ xor_mod (2 * a) (2 * b) 8

top_bits : (i j : ℕ) → i ≤ 1 → j ≤ 1 → cond (eqb (bit_xor i j) 0) 0 0x1B ≡ bit_xor (cond (eqb i 0) 0 0x1B) (cond (eqb j 0) 0 0x1B)
top_bits zero zero h k = refl
top_bits zero (suc zero) h k = refl
top_bits (suc zero) zero h k = refl
top_bits (suc zero) (suc zero) h k = refl
top_bits zero (suc (suc j)) h k = absurd (omega arith)
top_bits (suc zero) (suc (suc j)) h k = absurd (omega arith)
top_bits (suc (suc i)) j h k = absurd (omega arith)

passed_xor : (a b : ℕ) → a < 256 → b < 256 → passed (bit_xor a b) ≡ bit_xor (passed a) (passed b)
passed_xor a b h k = ap (λ n. cond (eqb n 0) 0 0x1B) (xor_shr a b 7) ∙ top_bits (a / 128) (b / 128) (omega arith) (omega arith)

doubled_xor : (a b : ℕ) → a < 256 → b < 256 → doubled (bit_xor a b) ≡ bit_xor (doubled a) (doubled b)
doubled_xor a b h k =
    doubled_parts (bit_xor a b) (byte_xor a b h k)
    ∙ (λ i. bit_xor (low_double a b i) (passed_xor a b h k i))
    ∙ swap ((2 * a) % 256) ((2 * b) % 256) (passed a) (passed b)
    ∙ (λ i. bit_xor (sym (doubled_parts a h) i) (sym (doubled_parts b k) i))

passed_byte : (b : ℕ) → passed b < 256
passed_byte b = search rules

doubled_byte : (b : ℕ) → b < 256 → doubled b < 256
doubled_byte b h = subst (λ n. n < 256) (sym (doubled_parts b h)) (byte_xor ((2 * b) % 256) (passed b) (omega arith) (passed_byte b))

bit_xor_lem : (m a b : ℕ) → by_lowest_bit m (bit_xor a b) ≡ bit_xor (by_lowest_bit m a) (by_lowest_bit m b)
bit_xor_lem m a b = search rules

bit_byte : (m b : ℕ) → b < 256 → by_lowest_bit m b < 256
bit_byte m b h = search rules

-- the distributive law
spread : (n m a b : ℕ) → a < 256 → b < 256 → product_of n m (bit_xor a b) ≡ bit_xor (product_of n m a) (product_of n m b)
spread zero m a b h k = refl
spread (suc n) m a b h k =
    (λ i. bit_xor (bit_xor_lem m a b i) ((ap (product_of n (m / 2)) (doubled_xor a b h k) ∙ spread n (m / 2) (doubled a) (doubled b) (doubled_byte a h) (doubled_byte b k)) i))
    ∙ swap (by_lowest_bit m a) (by_lowest_bit m b) (product_of n (m / 2) (doubled a)) (product_of n (m / 2) (doubled b))

product_byte_of : (n m b : ℕ) → b < 256 → product_of n m b < 256
product_byte_of zero m b h = omega arith
product_byte_of (suc n) m b h = byte_xor (by_lowest_bit m b) (product_of n (m / 2) (doubled b)) (bit_byte m b h) (product_byte_of n (m / 2) (doubled b) (doubled_byte b h))

pub product_xor : (m a b : ℕ) → a < 256 → b < 256 → product m (bit_xor a b) ≡ bit_xor (product m a) (product m b)
unfolding product
product_xor m a b h k = spread 8 m a b h k

pub product_byte : (m b : ℕ) → b < 256 → product m b < 256
unfolding product
product_byte m b h = product_byte_of 8 m b h
