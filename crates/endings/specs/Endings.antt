-- How a program ends. Assumes nothing.
use Rattle.std.specs.Prelude.{ℕ, Ok, Err, Result}

-- 0 where all went well, 1 where something failed
abbrev pub status_of : {A E : Type 0} → Result A E → ℕ
status_of (Ok x) = 0
status_of (Err e) = 1
