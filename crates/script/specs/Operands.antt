-- The words that are one of two. Assumes nothing.
use Rattle.std.specs.Prelude.{ℕ, cond, List, Ok, Err, codes, Result}
use Rattle.std.specs.Str.{bytes_eq}
use Rattle.terminal.specs.declared.interval.Seal.{Seal}
use Rattle.terminal.specs.declared.interval.Seal.TheVariants.{Sealed, Practice}
use Rattle.script.specs.declared.faults.Fault.{Fault}
use Rattle.script.specs.declared.faults.Fault.TheVariants.{NoSeal, NoUnit}
use Rattle.script.specs.declared.operands.UnitName.{UnitName}
use Rattle.script.specs.declared.operands.UnitName.TheVariants.{Aes, Cham}

abbrev pub seal_of : List ℕ → Result Seal Fault
seal_of word = cond (bytes_eq word (codes "sealed")) (Ok Sealed) (cond (bytes_eq word (codes "practice")) (Ok Practice) (Err NoSeal))

abbrev pub unit_of : List ℕ → Result UnitName Fault
unit_of word = cond (bytes_eq word (codes "aes")) (Ok Aes) (cond (bytes_eq word (codes "cham")) (Ok Cham) (Err NoUnit))
