-- The number of each refusal. Assumes nothing.
use Rattle.std.specs.Prelude.{ℕ, Ok, Err, Result}
use Rattle.buses.specs.declared.bus.Refusal.{Refusal}
use Rattle.buses.specs.declared.bus.Refusal.TheVariants.{UnfitMemories, AbsentCell, HeldToBoard}

abbrev pub number : Refusal → ℕ
number UnfitMemories = 9
number AbsentCell = 20
number HeldToBoard = 25

-- an answer, or the number of its refusal
abbrev pub numbered : {T : Type 0} → Result T Refusal → Result T ℕ
numbered (Ok x) = Ok x
numbered (Err e) = Err (number e)
