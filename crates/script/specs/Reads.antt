-- What a reading function answers. Assumes nothing.
use Rattle.std.specs.Prelude.{◌≡◌, Ok, Err, Result}
use Rattle.script.specs.declared.faults.Fault.{Fault}
use Rattle.script.specs.declared.faults.ReadError.{ReadError}
use Rattle.script.specs.declared.faults.ReadError.TheVariants.{Wrong, NoMemory}

-- an answer is what the text says, where memory sufficed
abbrev pub Reads : {A B : Type 0} → (A → B) → Result A ReadError → Result B Fault → Type 0
Reads told (Ok x) said = said ≡ Ok (told x)
Reads told (Err (Wrong fault)) said = said ≡ Err fault
Reads told (Err NoMemory) said = Unit {0}

abbrev pub and_then : {A B : Type 0} → Result A Fault → (A → Result B Fault) → Result B Fault
and_then (Ok x) f = f x
and_then (Err fault) f = Err fault
