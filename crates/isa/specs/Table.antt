-- The instruction table. Assumes nothing.
use Rattle.std.specs.Prelude.{ℕ, ◌+◌, ◌-◌, ◌*◌, ◌/◌, ◌%◌, Bool, true, cond, ◌&&◌, List, [], ◌∷◌, Some, None, Ok, Err, Option, Result, ◌==◌, nat_le, nat_lt}
use Rattle.isa.specs.declared.Alu.{Alu}
use Rattle.isa.specs.declared.Alu.TheVariants as alu
use Rattle.isa.specs.declared.Flag.{Flag}
use Rattle.isa.specs.declared.Flag.TheVariants as flag
use Rattle.isa.specs.declared.Instruction.{Instruction}
use Rattle.isa.specs.declared.Instruction.TheVariants as i
use Rattle.isa.specs.declared.Word.{Word}
use Rattle.isa.specs.declared.Word.TheVariants.{One, Two}

-- what stands beside n in a table; what the table leaves out is reserved
abbrev pub pick : ℕ → List (ℕ × Result Instruction ℕ) → Result Instruction ℕ
pick n [] = Err 31
pick n (row ∷ rows) = cond (n == row.0) row.1 (pick n rows)

abbrev pub lower : ℕ → ℕ
lower b = b % 16

abbrev pub upper : ℕ → ℕ
upper b = b / 16

-- an instruction that also reads a second byte
abbrev pub two : Option ℕ → (ℕ → Instruction) → Result Instruction ℕ
two None f = Err 30
two (Some b) f = Ok (f b)

-- an instruction on the registers that the second byte names
abbrev pub registers : Option ℕ → (ℕ → ℕ → Instruction) → Result Instruction ℕ
registers second f = two second (λ b. f (upper b) (lower b))

-- an instruction on the program address that a nibble and the second byte make
abbrev pub address : ℕ → Option ℕ → (ℕ → Instruction) → Result Instruction ℕ
address nibble second f = two second (λ b. f (nibble * 256 + b))

-- upper nibble 9: by the lower nibble
abbrev pub sums : ℕ → Option ℕ → Result Instruction ℕ
sums opcode second =
    pick opcode (
    (0, registers second (i.Alu alu.Add))
    ∷ (1, registers second (i.Alu alu.Sub))
    ∷ (2, registers second (i.Alu alu.And))
    ∷ (3, registers second (i.Alu alu.Lor))
    ∷ (4, registers second (i.Alu alu.Sll))
    ∷ (5, registers second (i.Alu alu.Rol))
    ∷ (6, registers second (i.Alu alu.Srl))
    ∷ (7, registers second (i.Alu alu.Ror))
    ∷ (10, registers second (i.Alu alu.Not))
    ∷ (11, registers second (i.Alu alu.Xor))
    ∷ (12, registers second (i.Alu alu.Adc))
    ∷ (13, registers second (i.Alu alu.Sbc))
    ∷ (14, registers second (λ n dst. i.Adi (n + 1) dst))
    ∷ (15, registers second (λ n dst. i.Sbi (n + 1) dst))
    ∷ [])

-- upper nibble 12: by the lower nibble
abbrev pub general : ℕ → Option ℕ → Result Instruction ℕ
general opcode second =
    pick opcode (
    (0, registers second i.Mov)
    ∷ (1, registers second (λ n dst. cond (nat_lt n 8) (i.Ldb n dst) (i.Lpb (n - 8) dst)))
    ∷ (2, registers second (λ src n. cond (nat_lt n 8) (i.Stb src n) (i.Spb src (n - 8))))
    ∷ (3, Ok i.Ret)
    ∷ (4, Ok i.Str)
    ∷ (5, Ok i.Lsr)
    ∷ (6, registers second (λ n unused. i.Rie (n % 8)))
    ∷ (7, registers second (λ n unused. i.Sie (n % 8)))
    ∷ (8, Ok i.Hlt)
    ∷ (9, Ok i.Rti)
    ∷ (15, two second i.Sys)
    ∷ [])

-- by the two nibbles of the first byte
abbrev pub word : ℕ → ℕ → Option ℕ → Result Instruction ℕ
word opcode nibble second =
    pick opcode (
    (0, address nibble second (λ n. i.Mvs (n * 16)))
    ∷ (1, two second (λ b. i.Mvv (b * 16) nibble))
    ∷ (2, address nibble second i.Jmp)
    ∷ (3, address nibble second i.Jsr)
    ∷ (4, address nibble second (i.Branch flag.Zero))
    ∷ (5, address nibble second (i.Branch flag.Negative))
    ∷ (6, address nibble second (i.Branch flag.Carry))
    ∷ (7, address nibble second (i.Branch flag.Overflow))
    ∷ (8, two second (λ b. i.Mvi b nibble))
    ∷ (9, sums nibble second)
    ∷ (10, registers second (i.Aluc nibble))
    ∷ (12, general nibble second)
    ∷ (13, Ok (i.Psh nibble))
    ∷ (14, Ok (i.Pop nibble))
    ∷ [])

-- what the word that begins with these bytes says
abbrev pub decoded : Option ℕ → Option ℕ → Result Instruction ℕ
decoded None second = Err 30
decoded (Some first) second = word (upper first) (lower first) second

-- how many bytes the word of an instruction has
abbrev pub length_of : Instruction → ℕ
length_of (i.Mvs top) = 2
length_of (i.Mvv handler vector) = 2
length_of (i.Jmp target) = 2
length_of (i.Jsr target) = 2
length_of (i.Branch flag target) = 2
length_of (i.Mvi byte dst) = 2
length_of (i.Alu op src dst) = 2
length_of (i.Adi amount dst) = 2
length_of (i.Sbi amount dst) = 2
length_of (i.Aluc code src dst) = 2
length_of (i.Mov src dst) = 2
length_of (i.Ldb pair dst) = 2
length_of (i.Lpb pair dst) = 2
length_of (i.Stb src pair) = 2
length_of (i.Spb src pair) = 2
length_of i.Ret = 1
length_of i.Str = 1
length_of i.Lsr = 1
length_of (i.Rie pair) = 2
length_of (i.Sie pair) = 2
length_of i.Hlt = 1
length_of i.Rti = 1
length_of (i.Sys byte) = 2
length_of (i.Psh src) = 1
length_of (i.Pop dst) = 1

-- the fields of operands
abbrev pub is_register : ℕ → Bool
is_register n = nat_lt n 16

abbrev pub is_pair : ℕ → Bool
is_pair n = nat_lt n 8

abbrev pub is_byte : ℕ → Bool
is_byte n = nat_lt n 256

abbrev pub is_address : ℕ → Bool
is_address n = nat_lt n 4096

abbrev pub is_amount : ℕ → Bool
is_amount n = nat_le 1 n && nat_le n 16

-- a multiple of 16 below a limit
abbrev pub is_sixteens : ℕ → ℕ → Bool
is_sixteens limit n = n % 16 == 0 && nat_lt n limit

-- every operand lies in its field
abbrev pub fits : Instruction → Bool
fits (i.Mvs top) = is_sixteens 65536 top
fits (i.Mvv handler vector) = is_sixteens 4096 handler && nat_lt vector 16
fits (i.Jmp target) = is_address target
fits (i.Jsr target) = is_address target
fits (i.Branch flag target) = is_address target
fits (i.Mvi byte dst) = is_byte byte && is_register dst
fits (i.Alu op src dst) = is_register src && is_register dst
fits (i.Adi amount dst) = is_amount amount && is_register dst
fits (i.Sbi amount dst) = is_amount amount && is_register dst
fits (i.Aluc code src dst) = nat_lt code 16 && (is_register src && is_register dst)
fits (i.Mov src dst) = is_register src && is_register dst
fits (i.Ldb pair dst) = is_pair pair && is_register dst
fits (i.Lpb pair dst) = is_pair pair && is_register dst
fits (i.Stb src pair) = is_register src && is_pair pair
fits (i.Spb src pair) = is_register src && is_pair pair
fits i.Ret = true
fits i.Str = true
fits i.Lsr = true
fits (i.Rie pair) = is_pair pair
fits (i.Sie pair) = is_pair pair
fits i.Hlt = true
fits i.Rti = true
fits (i.Sys byte) = is_byte byte
fits (i.Psh src) = is_register src
fits (i.Pop dst) = is_register dst

abbrev pub branch_opcode : Flag → ℕ
branch_opcode flag.Zero = 4
branch_opcode flag.Negative = 5
branch_opcode flag.Carry = 6
branch_opcode flag.Overflow = 7

abbrev pub alu_opcode : Alu → ℕ
alu_opcode alu.Add = 0
alu_opcode alu.Sub = 1
alu_opcode alu.And = 2
alu_opcode alu.Lor = 3
alu_opcode alu.Sll = 4
alu_opcode alu.Rol = 5
alu_opcode alu.Srl = 6
alu_opcode alu.Ror = 7
alu_opcode alu.Not = 10
alu_opcode alu.Xor = 11
alu_opcode alu.Adc = 12
alu_opcode alu.Sbc = 13

-- a first byte of two nibbles
abbrev pub lone : ℕ → ℕ → Word
lone opcode nibble = One (opcode * 16 + nibble)

-- a second byte of two nibbles
abbrev pub nibbles : ℕ → ℕ → ℕ → ℕ → Word
nibbles opcode nibble high low = Two (opcode * 16 + nibble) (high * 16 + low)

abbrev pub with_byte : ℕ → ℕ → ℕ → Word
with_byte opcode nibble byte = Two (opcode * 16 + nibble) byte

abbrev pub with_address : ℕ → ℕ → Word
with_address opcode n = Two (opcode * 16 + n / 256) (n % 256)

-- the word of an instruction whose operands fit
abbrev pub word_of : Instruction → Word
word_of (i.Mvs top) = with_address 0 (top / 16)
word_of (i.Mvv handler vector) = with_byte 1 vector (handler / 16)
word_of (i.Jmp target) = with_address 2 target
word_of (i.Jsr target) = with_address 3 target
word_of (i.Branch flag target) = with_address (branch_opcode flag) target
word_of (i.Mvi byte dst) = with_byte 8 dst byte
word_of (i.Alu op src dst) = nibbles 9 (alu_opcode op) src dst
word_of (i.Adi amount dst) = nibbles 9 14 (amount - 1) dst
word_of (i.Sbi amount dst) = nibbles 9 15 (amount - 1) dst
word_of (i.Aluc code src dst) = nibbles 10 code src dst
word_of (i.Mov src dst) = nibbles 12 0 src dst
word_of (i.Ldb pair dst) = nibbles 12 1 pair dst
word_of (i.Lpb pair dst) = nibbles 12 1 (8 + pair) dst
word_of (i.Stb src pair) = nibbles 12 2 src pair
word_of (i.Spb src pair) = nibbles 12 2 src (8 + pair)
word_of i.Ret = lone 12 3
word_of i.Str = lone 12 4
word_of i.Lsr = lone 12 5
word_of (i.Rie pair) = nibbles 12 6 pair 0
word_of (i.Sie pair) = nibbles 12 7 pair 0
word_of i.Hlt = lone 12 8
word_of i.Rti = lone 12 9
word_of (i.Sys byte) = with_byte 12 15 byte
word_of (i.Psh src) = lone 13 src
word_of (i.Pop dst) = lone 14 dst

-- the word of an instruction, or the number of its refusal
abbrev pub encoded : Instruction → Result Word ℕ
encoded x = cond (fits x) (Ok (word_of x)) (Err 10)
