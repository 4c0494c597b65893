-- Shifts and rotations of bytes. Assumes nothing.
use Rattle.std.specs.Prelude.{ℕ, ◌-◌, ◌*◌, ◌/◌, ◌%◌, ◌^◌, cond, bit_or, nat_le}

-- by 8 or more, nothing is left
abbrev pub shifted_left : ℕ → ℕ → ℕ
shifted_left b n = cond (nat_le 8 n) 0 ((b * 2 ^ n) % 256)

abbrev pub shifted_right : ℕ → ℕ → ℕ
shifted_right b n = cond (nat_le 8 n) 0 (b / 2 ^ n)

-- by the amount modulo 8: what leaves at one end comes in at the other
abbrev pub turned_left : ℕ → ℕ → ℕ
turned_left b n = bit_or ((b * 2 ^ (n % 8)) % 256) (b / 2 ^ ((8 - n % 8) % 8))

abbrev pub turned_right : ℕ → ℕ → ℕ
turned_right b n = bit_or (b / 2 ^ (n % 8)) ((b * 2 ^ ((8 - n % 8) % 8)) % 256)
