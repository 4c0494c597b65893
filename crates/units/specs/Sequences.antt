-- Four bytes on their way through a sequence of calls. Assumes nothing.
use Rattle.std.specs.Prelude.{ℕ, List, [], ◌∷◌, slice_index_or}
use Rattle.marks.specs.declared.Marked.{Marked}
use Rattle.marks.specs.Marks.{unheld}
use Rattle.units.specs.declared.sequence.Sequence.{Sequence}
use Rattle.units.specs.Meaning.{Contents}

-- byte k of the four
abbrev pub byte_at : Sequence → ℕ → Marked
byte_at s k = slice_index_or s.bytes k (unheld 0)

abbrev pub four : Sequence → List Marked
four s = byte_at s 0 ∷ byte_at s 1 ∷ byte_at s 2 ∷ byte_at s 3 ∷ []

-- one sequence by itself
abbrev pub sequence_contents : Sequence → Contents
sequence_contents s = record { stages = s.stage ∷ []; bytes = four s }
