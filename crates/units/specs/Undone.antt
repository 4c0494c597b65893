-- Mixing back undoes mixing. Assumes nothing.
use Rattle.std.specs.Prelude.{◌≡◌, ℕ, ◌<◌}
use Rattle.units.specs.Columns.{mix_row, unmix_row}

-- the first byte of a column comes back; the others are the same statement, round the column
abbrev pub MixingUndone : Type 0
MixingUndone = (p q r s : ℕ) → p < 256 → q < 256 → r < 256 → s < 256 → unmix_row (mix_row p q r s) (mix_row q r s p) (mix_row r s p q) (mix_row s p q r) ≡ p
