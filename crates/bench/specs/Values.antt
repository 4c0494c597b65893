-- Worked values of the machine. Assumes nothing.
use Rattle.std.specs.Prelude.{◌≡◌, ℕ, Bool, false, List, [], ◌∷◌, Some, Ok}
use Rattle.alu.specs.Sums.{sum, difference}
use Rattle.isa.specs.declared.Instruction.TheVariants as i
use Rattle.isa.specs.declared.Word.TheVariants.{Two}
use Rattle.isa.specs.Table.{decoded, encoded}
use Rattle.marks.specs.Marks.{unheld}
use Rattle.units.specs.Aes.{aes_codes, aes_operates}
use Rattle.units.specs.Meaning.{Contents, Meaning, fresh}

-- the bytes that a unit answers to one code, over pairs of unheld bytes in turn
abbrev pub answers : Meaning → (ℕ → Bool) → ℕ → Contents → List (ℕ × ℕ) → List ℕ
answers op codes code c [] = []
answers op codes code c (p ∷ ps) =
    let o = op codes code c (record { a = unheld p.0; b = unheld p.1; high = unheld 0; low = unheld 0 }) in
    o.0.result.byte ∷ answers op codes code o.1 ps

pub record BenchValues : Type 0 where
  -- sums and differences, with their flags X, C, N and Z
  pub past_largest : sum 0x7F 1 false ≡ (0x80, 0xA)
  pub past_byte : sum 0xFF 1 false ≡ (0, 0x5)
  pub below_nought : difference 0 1 false ≡ (0xFF, 0x6)
  pub past_smallest : difference 0x80 1 false ≡ (0x7F, 0x8)
  -- instruction words, both ways
  pub mvs_written : encoded (i.Mvs 0x0040) ≡ Ok (Two 0x00 0x04)
  pub mvs_read : decoded (Some 0x00) (Some 0x04) ≡ Ok (i.Mvs 0x0040)
  pub mvv_written : encoded (i.Mvv 0xFF0 4) ≡ Ok (Two 0x14 0xFF)
  pub mvv_read : decoded (Some 0x14) (Some 0xFF) ≡ Ok (i.Mvv 0xFF0 4)
  pub spb_written : encoded (i.Spb 8 7) ≡ Ok (Two 0xC2 0x8F)
  pub spb_read : decoded (Some 0xC2) (Some 0x8F) ≡ Ok (i.Spb 8 7)
  -- asb of 0, and amc of D4 BF 5D 30 by a fresh unit: the last byte is unloaded first
  pub asb_nought : answers aes_operates aes_codes 0 (fresh 2 8) ((0, 0) ∷ []) ≡ 0x63 ∷ []
  pub amc_column : answers aes_operates aes_codes 2 (fresh 2 8) ((0xD4, 0xBF) ∷ (0x5D, 0x30) ∷ (0, 0) ∷ (0, 0) ∷ (0, 0) ∷ []) ≡ 0xBF ∷ 0xE5 ∷ 0x81 ∷ 0x66 ∷ 0x04 ∷ []
