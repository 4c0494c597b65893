-- The status register of a byte. Assumes nothing.
use Rattle.std.specs.Prelude.{◌/◌, ◌%◌}
use Rattle.marks.specs.declared.Marked.{Marked}
use Rattle.units.specs.declared.unit.Status.{Status}

-- bits 7 to 4 and bits 3 to 0, both with the byte's mark
abbrev pub status_of : Marked → Status
status_of m = record { high = record { byte = m.byte / 16; mark = m.mark }; low = record { byte = m.byte % 16; mark = m.mark } }
