-- What a unit contains, and what an operation makes of it. Assumes nothing.
use Rattle.std.specs.Prelude.{◌≡◌, ℕ, Bool, List, None, length, replicate}
use Rattle.marks.specs.declared.Marked.{Marked}
use Rattle.marks.specs.Marks.{unheld}
use Rattle.units.specs.declared.unit.Reply.{Reply}
use Rattle.units.specs.declared.unit.Status.{Status}

-- stage numbers and marked bytes
pub record Contents : Type 0 where
  pub stages : List ℕ
  pub bytes : List Marked

-- two bytes, and the status register in two groups that count as bytes
pub record Operands : Type 0 where
  pub a : Marked
  pub b : Marked
  pub high : Marked
  pub low : Marked

abbrev pub operands : Marked → Marked → Status → Operands
operands a b s = record { a = a; b = b; high = s.high; low = s.low }

abbrev pub SameLengths : Contents → Contents → Type 0
SameLengths c d = (length d.stages ≡ length c.stages) × (length d.bytes ≡ length c.bytes)

-- by the codes that a unit has, the code that is used, contents and operands: the answer and the next contents
abbrev pub Meaning : Type 0
Meaning = (ℕ → Bool) → ℕ → Contents → Operands → Reply × Contents

-- an answer that sets no flags
abbrev pub plain : Marked → ℕ → Reply
plain m wait = record { result = m; wait = wait; flags = None }

-- so many stages and bytes of nought, unheld
abbrev pub fresh : ℕ → ℕ → Contents
fresh stages bytes = record { stages = replicate stages 0; bytes = replicate bytes (unheld 0) }
