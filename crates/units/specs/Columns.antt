-- The columns of AES, mixed and mixed back. Assumes nothing.
use Rattle.std.specs.Prelude.{ℕ, ◌+◌, ◌%◌, List, bit_xor, slice_index}
use Rattle.units.specs.Field.{product}

abbrev pub mix_row : ℕ → ℕ → ℕ → ℕ → ℕ
mix_row a b c d = bit_xor (bit_xor (bit_xor (product 2 a) (product 3 b)) c) d

abbrev pub unmix_row : ℕ → ℕ → ℕ → ℕ → ℕ
unmix_row a b c d = bit_xor (bit_xor (bit_xor (product 14 a) (product 11 b)) (product 13 c)) (product 9 d)

-- byte k of a column after a row is taken at each place: from the k-th byte on, round the column
abbrev pub around : (ℕ → ℕ → ℕ → ℕ → ℕ) → ℕ → List ℕ → ℕ
around row k s = row (slice_index s (k % 4)) (slice_index s ((k + 1) % 4)) (slice_index s ((k + 2) % 4)) (slice_index s ((k + 3) % 4))
