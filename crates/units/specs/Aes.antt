-- The AES unit. Assumes nothing.
use Rattle.std.specs.Prelude.{◌≡◌, ℕ, ◌+◌, ◌<◌, Bool, true, cond, List, [], ◌∷◌, ◌++◌, map, ◌==◌, nat_lt, slice_index}
use Rattle.std.proofs.Common.{lit<}
use Rattle.std.proofs.Math.Nat.{lt_trans}
use Rattle.std.proofs.lemmas.Bool.{ltb-true}
use Rattle.marks.specs.declared.Marked.{Marked}
use Rattle.marks.specs.Marks.{unheld}
use Rattle.units.specs.declared.aes.Aes.{Aes}
use Rattle.units.specs.declared.aes.Direction.{Direction}
use Rattle.units.specs.declared.aes.Direction.TheVariants.{Mix, Unmix}
use Rattle.units.specs.declared.sequence.Sequence.{Sequence}
use Rattle.units.specs.declared.unit.Reply.{Reply}
use Rattle.units.specs.Columns.{around, mix_row, unmix_row}
use Rattle.units.specs.Meaning.{Contents, Operands, Meaning, plain}
use Rattle.units.specs.Plans.{Place, cell, from_a, from_b, Source, copy, work, Plan, made, planned}
use Rattle.units.specs.Sbox.{substituted, restored}
use Rattle.units.specs.Sequences.{four, sequence_contents}

-- codes 0 to 3
abbrev pub aes_codes : ℕ → Bool
aes_codes k = nat_lt k 4

-- a code has four bits
pub aes_few : (k : ℕ) → aes_codes k ≡ true → k < 16
aes_few k h = lt_trans (ltb-true k 4 h) (lit< tt)

-- the stages of amc and aic, and four bytes of each
abbrev pub aes_contents : Aes → Contents
aes_contents s = record {
  stages = s.mix.stage ∷ s.unmix.stage ∷ [];
  bytes = four s.mix ++ four s.unmix;
}

-- a call of a sequence: its answer, its wait, the next stage, and the four bytes afterwards
pub record Step : Type 0 where
  pub answer : Source
  pub wait : ℕ
  pub stage : ℕ
  pub bytes : List Source

-- four bytes of the contents as they are
abbrev pub kept : ℕ → List Source
kept o = copy (cell o) ∷ copy (cell (o + 1)) ∷ copy (cell (o + 2)) ∷ copy (cell (o + 3)) ∷ []

-- the column that the second call completes
abbrev pub column : ℕ → List Place
column o = cell o ∷ cell (o + 1) ∷ from_a ∷ from_b ∷ []

-- byte k of that column, mixed by a row
abbrev pub mixed : (ℕ → ℕ → ℕ → ℕ → ℕ) → ℕ → ℕ → Source
mixed row o k = work (around row k) (column o)

-- five calls over the four bytes from o on: two load, the second calculates, and from it on the results are unloaded, the last first
abbrev pub call : (ℕ → ℕ → ℕ → ℕ → ℕ) → ℕ → ℕ → ℕ → Step
call row wait o stage =
    cond (stage == 0) (record { answer = copy from_b; wait = 0; stage = 1; bytes = copy from_a ∷ copy from_b ∷ copy (cell (o + 2)) ∷ copy (cell (o + 3)) ∷ [] })
    (cond (stage == 1) (record { answer = mixed row o 3; wait = wait; stage = 2; bytes = mixed row o 0 ∷ mixed row o 1 ∷ mixed row o 2 ∷ mixed row o 3 ∷ [] })
    (cond (stage == 2) (record { answer = copy (cell (o + 2)); wait = 0; stage = 3; bytes = kept o })
    (cond (stage == 3) (record { answer = copy (cell (o + 1)); wait = 0; stage = 4; bytes = kept o })
    (record { answer = copy (cell o); wait = 0; stage = 0; bytes = kept o }))))

-- by the direction of a sequence
abbrev pub row_of : Direction → ℕ → ℕ → ℕ → ℕ → ℕ
row_of Mix = mix_row
row_of Unmix = unmix_row

-- the calculating call of amc waits 3 cycles, that of aic 23
abbrev pub wait_of : Direction → ℕ
wait_of Mix = 3
wait_of Unmix = 23

-- asb and aib answer at once; amc and aic each go through their own four bytes
abbrev pub aes_plan : ℕ → List ℕ → Plan
aes_plan code stages =
    let mixing = call (row_of Mix) (wait_of Mix) 0 (slice_index stages 0) in
    let unmixing = call (row_of Unmix) (wait_of Unmix) 4 (slice_index stages 1) in
    cond (code == 0) (record { result = work (λ s. substituted (slice_index s 0)) (from_a ∷ []); wait = 0; stages = stages; bytes = kept 0 ++ kept 4 })
    (cond (code == 1) (record { result = work (λ s. restored (slice_index s 0)) (from_a ∷ []); wait = 0; stages = stages; bytes = kept 0 ++ kept 4 })
    (cond (code == 2) (record { result = mixing.answer; wait = mixing.wait; stages = mixing.stage ∷ slice_index stages 1 ∷ []; bytes = mixing.bytes ++ kept 4 })
    (record { result = unmixing.answer; wait = unmixing.wait; stages = slice_index stages 0 ∷ unmixing.stage ∷ []; bytes = kept 0 ++ unmixing.bytes })))

abbrev pub aes_operates : Meaning
aes_operates = planned aes_plan

-- two operands, whatever the status register
abbrev pub loaded : Marked → Marked → Operands
loaded a b = record { a = a; b = b; high = unheld 0; low = unheld 0 }

abbrev pub column_step : Direction → Sequence → Step
column_step d s = call (row_of d) (wait_of d) 0 s.stage

abbrev pub column_reply : Direction → Sequence → Marked → Marked → Reply
column_reply d s a b = plain (made (sequence_contents s) (loaded a b) (column_step d s).answer) (column_step d s).wait

abbrev pub column_after : Direction → Sequence → Marked → Marked → Contents
column_after d s a b = record { stages = (column_step d s).stage ∷ []; bytes = map (made (sequence_contents s) (loaded a b)) (column_step d s).bytes }

-- the column after its calculating call, its stage apart
abbrev pub calculated : Direction → Sequence → Marked → Marked → Sequence
calculated d s a b =
    record { stage = s.stage; bytes = map (made (sequence_contents s) (loaded a b)) (mixed (row_of d) 0 0 ∷ mixed (row_of d) 0 1 ∷ mixed (row_of d) 0 2 ∷ mixed (row_of d) 0 3 ∷ []) }
