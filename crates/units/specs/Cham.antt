-- The CHAM unit. Assumes nothing.
use Rattle.std.specs.Prelude.{◌≡◌, ℕ, ◌+◌, ◌-◌, ◌*◌, ◌/◌, ◌%◌, ◌^◌, ◌<◌, Bool, true, cond, List, [], ◌∷◌, ◌++◌, map, ◌==◌, bit_or, slice_index, slice_index_or}
use Rattle.std.proofs.Common.{sym, subst, lit<}
use Rattle.std.proofs.lemmas.Bool.{eqb-true}
use Rattle.marks.specs.declared.Marked.{Marked}
use Rattle.marks.specs.Marks.{unheld}
use Rattle.units.specs.declared.unit.Reply.{Reply}
use Rattle.units.specs.declared.cham.Cham.{Cham}
use Rattle.units.specs.declared.sequence.Sequence.{Sequence}
use Rattle.units.specs.Meaning.{Contents, Meaning}
use Rattle.units.specs.Plans.{cell, from_a, from_b, Source, copy, work, Plan, worked_out, carried_out, planned}
use Rattle.units.specs.Sequences.{four, sequence_contents}

-- code 4
abbrev pub cham_codes : ℕ → Bool
cham_codes k = k == 4

-- a code has four bits
pub cham_few : (k : ℕ) → cham_codes k ≡ true → k < 16
cham_few k h = subst (λ n. n < 16) (sym (eqb-true k 4 h)) (lit< tt)

abbrev pub cham_contents : Cham → Contents
cham_contents s = sequence_contents s.word

-- four bytes as one number, the first lowest
abbrev pub word_of : ℕ → ℕ → ℕ → ℕ → ℕ
word_of p q r s = p + 256 * q + 65536 * r + 16777216 * s

-- 32 bits turned left by an amount modulo 32: what leaves at the top comes in at the bottom
abbrev pub turned_left : ℕ → ℕ → ℕ
turned_left amount n = bit_or ((n * 2 ^ (amount % 32)) % 2 ^ 32) (n / 2 ^ ((32 - amount % 32) % 32))

-- of four bytes and an amount, the byte from a power of 256 on of the turned number
unfoldable pub turned_byte : ℕ → List ℕ → ℕ
turned_byte power s = turned_left (slice_index s 4) (word_of (slice_index s 0) (slice_index s 1) (slice_index s 2) (slice_index s 3)) / power % 256

-- all four bytes of it
abbrev pub turned_bytes : List ℕ → ℕ → List ℕ
turned_bytes bytes amount =
    map (λ power. turned_byte power (slice_index bytes 0 ∷ slice_index bytes 1 ∷ slice_index bytes 2 ∷ slice_index bytes 3 ∷ amount ∷ [])) (1 ∷ 256 ∷ 65536 ∷ 16777216 ∷ [])

-- worked out from the four bytes and the amount
abbrev pub turned : ℕ → Source
turned power = work (turned_byte power) (cell 0 ∷ cell 1 ∷ cell 2 ∷ cell 3 ∷ from_a ∷ [])

-- four bytes as they are
abbrev pub kept : List Source
kept = copy (cell 0) ∷ copy (cell 1) ∷ copy (cell 2) ∷ copy (cell 3) ∷ []

abbrev pub step : Source → ℕ → ℕ → List Source → Plan
step answer wait stage bytes = record { result = answer; wait = wait; stages = stage ∷ []; bytes = bytes }

-- six calls: two load, the third turns by its first operand and waits 1 cycle, and from it on the results are unloaded, the highest first
abbrev pub cham_plan : ℕ → List ℕ → Plan
cham_plan code stages =
    let stage = slice_index_or stages 0 0 in
    cond (stage == 0) (step (copy from_b) 0 1 (copy from_a ∷ copy from_b ∷ copy (cell 2) ∷ copy (cell 3) ∷ []))
    (cond (stage == 1) (step (copy from_b) 0 2 (copy (cell 0) ∷ copy (cell 1) ∷ copy from_a ∷ copy from_b ∷ []))
    (cond (stage == 2) (step (turned 16777216) 1 3 (turned 1 ∷ turned 256 ∷ turned 65536 ∷ turned 16777216 ∷ []))
    (cond (stage == 3) (step (copy (cell 2)) 0 4 kept)
    (cond (stage == 4) (step (copy (cell 1)) 0 5 kept)
    (step (copy (cell 0)) 0 0 kept)))))

abbrev pub cham_operates : Meaning
cham_operates = planned cham_plan

-- one call, whatever the status register
abbrev pub cham_step : Cham → Marked → Marked → Reply × Contents
cham_step s a b = carried_out (cham_plan 4 (s.word.stage ∷ [])) (cham_contents s) (record { a = a; b = b; high = unheld 0; low = unheld 0 })

-- the four bytes after the calculating call, the stage apart
abbrev pub calculated : Sequence → Marked → Sequence
calculated s amount =
    record { stage = s.stage; bytes = map (λ power. worked_out (turned_byte power) (four s ++ (amount ∷ []))) (1 ∷ 256 ∷ 65536 ∷ 16777216 ∷ []) }
