-- Reading and writing words undo each other. Assumes nothing.
use Rattle.std.specs.Prelude.{◌≡◌, ℕ, ◌+◌, ◌*◌, ◌/◌, ◌%◌, cond, ◌||◌, Some, None, Ok, Err, Option, Result, ◌==◌}
use Rattle.std.specs.Option.{unwrap_or}
use Rattle.isa.specs.declared.Instruction.{Instruction}
use Rattle.isa.specs.declared.Word.{Word}
use Rattle.isa.specs.declared.Word.TheVariants.{One, Two}
use Rattle.isa.specs.Table.{decoded, encoded, length_of}

-- what decoding reads of a word
abbrev pub reread : Word → Result Instruction ℕ
reread (One a) = decoded (Some a) None
reread (Two a b) = decoded (Some a) (Some b)

-- decoding what encoding answered for x gives x back
abbrev pub ReadsBack : Instruction → Result Word ℕ → Type 0
ReadsBack x (Ok w) = reread w ≡ Ok x
ReadsBack x (Err n) = Unit {0}

-- the unused bits of a word: bits 7 and 3 to 0 of the second byte of rie (C6) and sie (C7)
abbrev pub unused : Word → ℕ
unused (One a) = 0
unused (Two a b) = cond (a == 0xC6 || a == 0xC7) (b / 128 * 128 + b % 16) 0

-- the word that an instruction was read from
abbrev pub source : Option ℕ → Option ℕ → Instruction → Word
source first second x = cond (length_of x == 1) (One (unwrap_or first 0)) (Two (unwrap_or first 0) (unwrap_or second 0))

-- encoding what decoding answered gives the word that was read exactly when its unused bits are zero
abbrev pub WritesBack : Option ℕ → Option ℕ → Result Instruction ℕ → Type 0
WritesBack first second (Ok x) =
    (unused (source first second x) ≡ 0 → encoded x ≡ Ok (source first second x))
    × (encoded x ≡ Ok (source first second x) → unused (source first second x) ≡ 0)
WritesBack first second (Err n) = Unit {0}
