-- Instructions as text. Assumes nothing.
use Rattle.std.specs.Prelude.{ℕ, zero, suc, ◌+◌, ◌-◌, ◌/◌, ◌%◌, cond, List, [], ◌∷◌, ◌++◌, codes, decimal, ◌==◌, nat_lt}
use Rattle.isa.specs.declared.Alu.{Alu}
use Rattle.isa.specs.declared.Alu.TheVariants as alu
use Rattle.isa.specs.declared.Flag.{Flag}
use Rattle.isa.specs.declared.Flag.TheVariants as flag
use Rattle.isa.specs.declared.Instruction.{Instruction}
use Rattle.isa.specs.declared.Instruction.TheVariants as i

-- the character of a number below 16: 0 to 9 (48 to 57), A to F (65 to 70)
abbrev pub hex_digit : ℕ → ℕ
hex_digit n = cond (nat_lt n 10) (48 + n) (55 + n)

-- the last digits of a number, as many as asked for
abbrev pub hex_digits : ℕ → ℕ → List ℕ
hex_digits zero n = []
hex_digits (suc k) n = hex_digits k (n / 16) ++ (hex_digit (n % 16) ∷ [])

abbrev pub hex_text : ℕ → ℕ → List ℕ
hex_text k n = codes "0x" ++ hex_digits k n

abbrev pub register_text : ℕ → List ℕ
register_text n = cond (nat_lt n 8) (codes "r" ++ decimal n) (codes "a" ++ decimal (n - 8))

-- a name and its operands
abbrev pub spaced : List ℕ → List ℕ → List ℕ
spaced x y = x ++ (codes " " ++ y)

abbrev pub listed : List ℕ → List ℕ → List ℕ
listed x y = x ++ (codes ", " ++ y)

abbrev pub address_text : List ℕ → ℕ → List ℕ
address_text name target = spaced name (hex_text 3 target)

abbrev pub registers_text : List ℕ → ℕ → ℕ → List ℕ
registers_text name src dst = spaced name (listed (register_text src) (register_text dst))

abbrev pub number_text : List ℕ → ℕ → ℕ → List ℕ
number_text name n dst = spaced name (listed (decimal n) (register_text dst))

abbrev pub store_text : List ℕ → ℕ → ℕ → List ℕ
store_text name src n = spaced name (listed (register_text src) (decimal n))

abbrev pub alu_name : Alu → List ℕ
alu_name alu.Add = codes "add"
alu_name alu.Sub = codes "sub"
alu_name alu.And = codes "and"
alu_name alu.Lor = codes "lor"
alu_name alu.Sll = codes "sll"
alu_name alu.Rol = codes "rol"
alu_name alu.Srl = codes "srl"
alu_name alu.Ror = codes "ror"
alu_name alu.Not = codes "not"
alu_name alu.Xor = codes "xor"
alu_name alu.Adc = codes "adc"
alu_name alu.Sbc = codes "sbc"

abbrev pub branch_name : Flag → List ℕ
branch_name flag.Zero = codes "bzi"
branch_name flag.Negative = codes "bni"
branch_name flag.Carry = codes "bci"
branch_name flag.Overflow = codes "bxi"

-- the operations of AES and CHAM have names; any other goes by its code
abbrev pub unit_text : ℕ → ℕ → ℕ → List ℕ
unit_text code src dst =
    cond (code == 0) (registers_text (codes "asb") src dst)
    (cond (code == 1) (registers_text (codes "aib") src dst)
    (cond (code == 2) (registers_text (codes "amc") src dst)
    (cond (code == 3) (registers_text (codes "aic") src dst)
    (cond (code == 4) (registers_text (codes "swd") src dst)
    (spaced (codes "aluc") (listed (decimal code) (listed (register_text src) (register_text dst))))))))

abbrev pub instruction_text : Instruction → List ℕ
instruction_text (i.Mvs top) = spaced (codes "mvs") (hex_text 4 top)
instruction_text (i.Mvv handler vector) = spaced (codes "mvv") (listed (hex_text 3 handler) (codes "iv" ++ decimal vector))
instruction_text (i.Jmp target) = address_text (codes "jmp") target
instruction_text (i.Jsr target) = address_text (codes "jsr") target
instruction_text (i.Branch flag target) = address_text (branch_name flag) target
instruction_text (i.Mvi byte dst) = spaced (codes "mvi") (listed (hex_text 2 byte) (register_text dst))
instruction_text (i.Alu op src dst) = registers_text (alu_name op) src dst
instruction_text (i.Adi amount dst) = number_text (codes "adi") amount dst
instruction_text (i.Sbi amount dst) = number_text (codes "sbi") amount dst
instruction_text (i.Aluc code src dst) = unit_text code src dst
instruction_text (i.Mov src dst) = registers_text (codes "mov") src dst
instruction_text (i.Ldb pair dst) = number_text (codes "ldb") pair dst
instruction_text (i.Lpb pair dst) = number_text (codes "lpb") pair dst
instruction_text (i.Stb src pair) = store_text (codes "stb") src pair
instruction_text (i.Spb src pair) = store_text (codes "spb") src pair
instruction_text i.Ret = codes "ret"
instruction_text i.Str = codes "str"
instruction_text i.Lsr = codes "lsr"
instruction_text (i.Rie pair) = spaced (codes "rie") (decimal pair)
instruction_text (i.Sie pair) = spaced (codes "sie") (decimal pair)
instruction_text i.Hlt = codes "hlt"
instruction_text i.Rti = codes "rti"
instruction_text (i.Sys byte) = spaced (codes "sys") (hex_text 2 byte)
instruction_text (i.Psh src) = spaced (codes "psh") (register_text src)
instruction_text (i.Pop dst) = spaced (codes "pop") (register_text dst)
