-- The row of the instruction table that a first byte stands in. Assumes nothing.
use Rattle.std.proofs.Common.{◌≡◌, ℕ, ◌+◌, ◌*◌, ◌/◌, ◌%◌, ◌<◌, Some, Ok, Option, sym, refl, ap, ◌∙◌, arith}
use Rattle.isa.specs.declared.Alu.{Alu}
use Rattle.isa.specs.declared.Alu.TheVariants as alu
use Rattle.isa.specs.declared.Flag.{Flag}
use Rattle.isa.specs.declared.Flag.TheVariants as flag
use Rattle.isa.specs.declared.Instruction.{Instruction}
use Rattle.isa.specs.declared.Instruction.TheVariants as i
use Rattle.isa.specs.Table.{decoded, word, sums, registers, address, alu_opcode, branch_opcode}

-- by the byte's nibbles
pub row : {given : Option ℕ} {first : ℕ} (second : Option ℕ) (upper lower : ℕ) → given ≡ Some first → first / 16 ≡ upper → first % 16 ≡ lower → word upper lower second ≡ decoded given second
row second upper lower is u l = sym (ap (λ o. decoded o second) is ∙ (λ i. word (u i) (l i) second))

pub alu_row : (op : Alu) (second : Option ℕ) → sums (alu_opcode op) second ≡ registers second (i.Alu op)
alu_row alu.Add second = refl
alu_row alu.Sub second = refl
alu_row alu.And second = refl
alu_row alu.Lor second = refl
alu_row alu.Sll second = refl
alu_row alu.Rol second = refl
alu_row alu.Srl second = refl
alu_row alu.Ror second = refl
alu_row alu.Not second = refl
alu_row alu.Xor second = refl
alu_row alu.Adc second = refl
alu_row alu.Sbc second = refl

pub alu_nibble : (op : Alu) → alu_opcode op < 16
alu_nibble alu.Add = omega arith
alu_nibble alu.Sub = omega arith
alu_nibble alu.And = omega arith
alu_nibble alu.Lor = omega arith
alu_nibble alu.Sll = omega arith
alu_nibble alu.Rol = omega arith
alu_nibble alu.Srl = omega arith
alu_nibble alu.Ror = omega arith
alu_nibble alu.Not = omega arith
alu_nibble alu.Xor = omega arith
alu_nibble alu.Adc = omega arith
alu_nibble alu.Sbc = omega arith

pub branch_row : (f : Flag) (nibble : ℕ) (second : Option ℕ) → word (branch_opcode f) nibble second ≡ address nibble second (i.Branch f)
branch_row flag.Zero nibble second = refl
branch_row flag.Negative nibble second = refl
branch_row flag.Carry nibble second = refl
branch_row flag.Overflow nibble second = refl

-- two operands come back from the nibbles of a byte
pub from_nibbles : (f : ℕ → ℕ → Instruction) (high low : ℕ) → low < 16 → registers (Some (high * 16 + low)) f ≡ Ok (f high low)
from_nibbles f high low h = let u : (high * 16 + low) / 16 ≡ high = omega arith in let l : (high * 16 + low) % 16 ≡ low = omega arith in (λ i. Ok (f (u i) (l i)))

-- an address comes back from a nibble and a byte
pub from_address : (f : ℕ → Instruction) (n : ℕ) → address (n / 256) (Some (n % 256)) f ≡ Ok (f n)
from_address f n = let e : n / 256 * 256 + n % 256 ≡ n = omega arith in ap (λ m. Ok (f m)) e
