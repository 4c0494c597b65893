-- Which interrupt line is taken, and what taking it does. Assumes nothing.
use Rattle.std.specs.Prelude.{◌≡◌, ℕ, zero, suc, ◌*◌, ◌/◌, ◌%◌, ◌^◌, ◌<◌, Bool, true, false, cond, Some, None, Option, ◌==◌, bit_and, slice_index}
use Rattle.cpu.specs.declared.state.Core.{Core}
use Rattle.cpu.specs.declared.state.Mode.TheVariants.{Going}
use Rattle.cpu.specs.declared.state.Saved.{Saved}
use Rattle.cpu.specs.Instructions.{pairs_copied}
use Rattle.cpu.specs.State.{with_pc, with_saved, with_mode, with_handling}

-- a set of lines has a bit for each
abbrev pub has_line : ℕ → ℕ → Bool
has_line lines n = lines / 2 ^ n % 2 == 1

-- the lowest line in a set, of so many lines from n on
abbrev pub lowest : ℕ → ℕ → ℕ → Option ℕ
lowest zero n lines = None
lowest (suc count) n lines = cond (has_line lines n) (Some n) (lowest count (suc n) lines)

-- the line to take: none in a handler, otherwise the lowest that is both latched and enabled
abbrev pub due : Core → Option ℕ
due c = cond c.handling None (lowest 16 0 (bit_and c.latched c.enabled))

-- pc, sr and the saved pairs are saved with their marks, and the handler begins at sixteen times the vector
abbrev pub taken : Core → ℕ → Core
taken c line =
    let saved : Saved = record { pc = c.pc; status = c.status; registers = pairs_copied c.pairs c.registers c.saved.registers } in
    with_handling (with_mode (with_pc (with_saved c saved) (slice_index c.vectors line * 16)) Going) true

-- of a line that is due: it is latched and enabled, and no lower line is both
abbrev pub LowestDue : Core → Option ℕ → Type 0
LowestDue c None = Unit {0}
LowestDue c (Some line) =
    (has_line c.latched line ≡ true)
    × (has_line c.enabled line ≡ true)
    × (c.handling ≡ false)
    × ((n : ℕ) → n < line → has_line c.latched n ≡ true → has_line c.enabled n ≡ false)
