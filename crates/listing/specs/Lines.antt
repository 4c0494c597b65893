-- The lines of a listing. Assumes nothing.
use Rattle.std.specs.Prelude.{ℕ, ◌+◌, ◌%◌, ◌<◌, cond, List, [], ◌∷◌, ◌++◌, length, Some, None, Ok, Err, codes, decimal, Option, Result, ◌==◌}
use Rattle.isa.specs.declared.Instruction.{Instruction}
use Rattle.isa.specs.declared.Word.{Word}
use Rattle.isa.specs.declared.Word.TheVariants.{One, Two}
use Rattle.isa.specs.declared.Refusal.{Refusal}
use Rattle.isa.specs.declared.Refusal.TheVariants.{OperandOutOfField, MissingByte, ReservedWord}
use Rattle.isa.specs.Numbers.{refusal_of}
use Rattle.isa.specs.Table.{decoded, length_of}
use Rattle.isa.specs.Text.{hex_text, instruction_text}
use Rattle.listing.specs.declared.lines.Counts.{Counts}
use Rattle.listing.specs.declared.lines.Line.{Line}
use Rattle.listing.specs.Digits.{hex_of}

-- a decoded word, or why there is none
abbrev pub reading_of : Result Instruction ℕ → Result Instruction Refusal
reading_of (Ok x) = Ok x
reading_of (Err n) = Err (refusal_of n)

-- the bytes of a line: two where the instruction has two, else one
abbrev pub word_at : ℕ → Option ℕ → Result Instruction Refusal → Word
word_at first None reading = One first
word_at first (Some second) (Ok x) = cond (length_of x == 2) (Two first second) (One first)
word_at first (Some second) (Err e) = One first

abbrev pub line_of : ℕ → ℕ → Option ℕ → Line
line_of address first second =
    let reading = reading_of (decoded (Some first) second) in
    record { address = address; word = word_at first second reading; reading = reading }

abbrev pub size_of : Word → ℕ
size_of (One a) = 1
size_of (Two a b) = 2

abbrev pub lines_of : ℕ → List ℕ → List Line
lines_of at [] = []
lines_of at (a ∷ []) = line_of at a None ∷ []
lines_of at (a ∷ b ∷ rest) =
    line_of at a (Some b) ∷ cond (size_of (line_of at a (Some b)).word == 2) (lines_of (at + 2) rest) (lines_of (at + 1) (b ∷ rest))

abbrev pub word_bytes : Word → List ℕ
word_bytes (One a) = a ∷ []
word_bytes (Two a b) = a ∷ b ∷ []

-- the bytes of all lines, in order
abbrev pub bytes_of : List Line → List ℕ
bytes_of [] = []
bytes_of (l ∷ ls) = word_bytes l.word ++ bytes_of ls

-- four characters wide
abbrev pub word_text : Word → List ℕ
word_text (One a) = hex_of (a ∷ []) ++ codes "  "
word_text (Two a b) = hex_of (a ∷ b ∷ [])

-- the words of all lines as they are written, one after another
abbrev pub words_text : List Line → List ℕ
words_text [] = []
words_text (l ∷ ls) = word_text l.word ++ words_text ls

-- a word that cannot be read, and is not reserved, is cut off
abbrev pub reading_text : Result Instruction Refusal → List ℕ
reading_text (Ok x) = instruction_text x
reading_text (Err ReservedWord) = codes "reserved"
reading_text (Err MissingByte) = codes "cut off"
reading_text (Err OperandOutOfField) = codes "cut off"

-- a program counter has twelve bits
abbrev pub line_text : Line → List ℕ
line_text l = hex_text 3 (l.address % 4096) ++ (codes "  " ++ (word_text l.word ++ (codes "  " ++ reading_text l.reading)))

-- no count has come to n
abbrev pub Below : Counts → ℕ → Type 0
Below c n = (c.instructions < n) × (c.reserved < n) × (c.cut_off < n)

-- one line more
abbrev pub counted_to : Result Instruction Refusal → Counts → Counts
counted_to (Ok x) c = record { instructions = c.instructions + 1; reserved = c.reserved; cut_off = c.cut_off }
counted_to (Err ReservedWord) c = record { instructions = c.instructions; reserved = c.reserved + 1; cut_off = c.cut_off }
counted_to (Err MissingByte) c = record { instructions = c.instructions; reserved = c.reserved; cut_off = c.cut_off + 1 }
counted_to (Err OperandOutOfField) c = record { instructions = c.instructions; reserved = c.reserved; cut_off = c.cut_off + 1 }

-- the counts after some lines more
abbrev pub tallied : Counts → List Line → Counts
tallied c [] = c
tallied c (l ∷ ls) = tallied (counted_to l.reading c) ls

abbrev pub counts_of : List Line → Counts
counts_of ls = tallied (record { instructions = 0; reserved = 0; cut_off = 0 }) ls

abbrev pub summary_text : ℕ → Counts → List ℕ
summary_text bytes c =
    decimal bytes ++ (codes " bytes, "
    ++ (decimal c.instructions ++ (codes " instructions, "
    ++ (decimal c.reserved ++ (codes " reserved, "
    ++ (decimal c.cut_off ++ codes " cut off"))))))

-- each line ends with a line end (10)
abbrev pub lines_text : List Line → List ℕ
lines_text [] = []
lines_text (l ∷ ls) = line_text l ++ (10 ∷ lines_text ls)

abbrev pub counted_text : ℕ → List Line → List ℕ
counted_text bytes ls = lines_text ls ++ (summary_text bytes (counts_of ls) ++ (10 ∷ []))

abbrev pub listing_text : List ℕ → List ℕ
listing_text program = counted_text (length program) (lines_of 0 program)
