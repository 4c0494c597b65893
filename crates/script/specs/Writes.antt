-- How lines are written. Assumes nothing.
use Rattle.std.specs.Prelude.{◌≡◌, IfOk, Result, ℕ, ◌/◌, ◌%◌, ◌<◌, Bool, true, false, cond, List, [], ◌∷◌, ◌++◌, Some, Ok, codes, slice_index}
use Rattle.terminal.specs.declared.interval.Seal.{Seal}
use Rattle.terminal.specs.declared.interval.Seal.TheVariants.{Sealed, Practice}
use Rattle.script.specs.declared.operands.UnitName.{UnitName}
use Rattle.script.specs.declared.operands.UnitName.TheVariants.{Aes, Cham}
use Rattle.script.specs.Labels.{first_of}
use Rattle.script.specs.Lines.{Said, memory, bytes, held, board, unit, load, start, raise, run, put, opening, entry, close, cell, register, status, line_said}
use Rattle.script.specs.Text.{hex_of}
use Rattle.script.specs.Words.{ends_word}

-- an addition to a text, where memory sufficed
abbrev pub Adds : {E : Type 0} → List ℕ → List ℕ → Result (Unit {0}) E → List ℕ → Type 0
Adds old new result added = IfOk result (λ _. new ≡ old ++ added)

-- a number as 0x (48 120) and the digits of its bytes
abbrev pub number_text : List ℕ → List ℕ
number_text bs = 48 ∷ (120 ∷ hex_of bs)

abbrev pub u8_text : ℕ → List ℕ
u8_text n = number_text (n ∷ [])

abbrev pub u16_text : ℕ → List ℕ
u16_text n = number_text (n / 256 ∷ (n % 256 ∷ []))

abbrev pub u32_text : ℕ → List ℕ
u32_text n = number_text (n / 16777216 ∷ (n / 65536 % 256 ∷ (n / 256 % 256 ∷ (n % 256 ∷ []))))

abbrev pub unit_text : UnitName → List ℕ
unit_text Aes = codes "aes"
unit_text Cham = codes "cham"

abbrev pub seal_text : Seal → List ℕ
seal_text Sealed = codes "sealed"
seal_text Practice = codes "practice"

-- the words that follow the first
abbrev pub operand_words : Said → List (List ℕ)
operand_words (memory n) = u32_text n ∷ []
operand_words (bytes address bs) = u16_text address ∷ (hex_of bs ∷ [])
operand_words (held address bs) = u16_text address ∷ (hex_of bs ∷ [])
operand_words (board page) = u8_text page ∷ []
operand_words (unit name) = unit_text name ∷ []
operand_words (load pairs bs) = u8_text pairs ∷ (hex_of bs ∷ [])
operand_words start = []
operand_words (raise n) = u8_text n ∷ []
operand_words (run budget) = u32_text budget ∷ []
operand_words (put address byte) = u16_text address ∷ (u8_text byte ∷ [])
operand_words (opening name seal first count) = name ∷ (seal_text seal ∷ (u16_text first ∷ (u16_text count ∷ [])))
operand_words (entry name offset byte) = name ∷ (u16_text offset ∷ (u8_text byte ∷ []))
operand_words (close name) = name ∷ []
operand_words (cell address) = u16_text address ∷ []
operand_words (register n) = u8_text n ∷ []
operand_words status = []

-- words, each after a blank (32)
abbrev pub trail : List (List ℕ) → List ℕ
trail [] = []
trail (w ∷ ws) = 32 ∷ (w ++ trail ws)

-- a line as it is written
abbrev pub written_of : Said → List ℕ
written_of said = first_of said ++ trail (operand_words said)

-- no character ends a word
abbrev pub is_plain : List ℕ → Bool
is_plain [] = true
is_plain (c ∷ cs) = cond (ends_word c) false (is_plain cs)

-- a word has a character, and none that ends it
abbrev pub is_word : List ℕ → Bool
is_word [] = false
is_word (c ∷ cs) = is_plain (c ∷ cs)

abbrev pub is_filled : List ℕ → Bool
is_filled [] = false
is_filled (b ∷ bs) = true

-- names are words, and there are bytes where there should be
abbrev pub Writable : Said → Type 0
Writable (memory n) = Unit {0}
Writable (bytes address bs) = is_filled bs ≡ true
Writable (held address bs) = is_filled bs ≡ true
Writable (board page) = Unit {0}
Writable (unit name) = Unit {0}
Writable (load pairs bs) = is_filled bs ≡ true
Writable start = Unit {0}
Writable (raise n) = Unit {0}
Writable (run budget) = Unit {0}
Writable (put address byte) = Unit {0}
Writable (opening name seal first count) = is_word name ≡ true
Writable (entry name offset byte) = is_word name ≡ true
Writable (close name) = is_word name ≡ true
Writable (cell address) = Unit {0}
Writable (register n) = Unit {0}
Writable status = Unit {0}

-- numbers and bytes fit their types
abbrev pub Small : List ℕ → Type 0
Small bs = (i : ℕ) → slice_index bs i < 256

abbrev pub Sized : Said → Type 0
Sized (memory n) = n < 4294967296
Sized (bytes address bs) = (address < 65536) × Small bs
Sized (held address bs) = (address < 65536) × Small bs
Sized (board page) = page < 256
Sized (unit name) = Unit {0}
Sized (load pairs bs) = (pairs < 256) × Small bs
Sized start = Unit {0}
Sized (raise n) = n < 256
Sized (run budget) = budget < 4294967296
Sized (put address byte) = (address < 65536) × (byte < 256)
Sized (opening name seal first count) = (first < 65536) × (count < 65536)
Sized (entry name offset byte) = (offset < 65536) × (byte < 256)
Sized (close name) = Unit {0}
Sized (cell address) = address < 65536
Sized (register n) = n < 256
Sized status = Unit {0}

-- what is written is read as the line that it is
abbrev pub ReadBack : Said → List ℕ → Type 0
ReadBack said text = Writable said → line_said text ≡ Ok (Some said)
