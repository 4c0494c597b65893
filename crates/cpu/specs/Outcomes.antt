-- What is answered and what is left where an instruction may be stopped: then nothing changes. Assumes nothing.
use Rattle.std.specs.Prelude.{Ok, Err, Result}
use Rattle.cpu.specs.Faults.{Stop}

abbrev pub told : {A : Type 0} → Result A Stop → Result (Unit {0}) Stop
told (Ok x) = Ok tt
told (Err e) = Err e

-- what is left in place of x
abbrev pub left : {A : Type 0} → A → Result A Stop → A
left x (Ok y) = y
left x (Err e) = x

abbrev pub left_first : {A B : Type 0} → A → Result (A × B) Stop → A
left_first x (Ok p) = p.0
left_first x (Err e) = x

abbrev pub left_second : {A B : Type 0} → B → Result (A × B) Stop → B
left_second y (Ok p) = p.1
left_second y (Err e) = y
