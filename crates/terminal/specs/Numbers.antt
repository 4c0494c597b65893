-- The number of each refusal of a call. Assumes nothing.
use Rattle.std.specs.Prelude.{ℕ, Ok, Err, Result}
use Rattle.terminal.specs.declared.calls.Refusal.{Refusal}
use Rattle.terminal.specs.declared.calls.Refusal.TheVariants.{ProgramLength, PairsRange, LineRange, RegisterRange, IntervalRange, OffsetRange, BudgetRange, AbsentCell, BoardCell, HeldByte, NoProgram, NotRunning}

abbrev pub number : Refusal → ℕ
number ProgramLength = 1
number PairsRange = 2
number LineRange = 3
number RegisterRange = 4
number IntervalRange = 5
number OffsetRange = 6
number BudgetRange = 7
number AbsentCell = 20
number BoardCell = 21
number HeldByte = 22
number NoProgram = 23
number NotRunning = 24

-- an answer, or the number of its refusal
abbrev pub numbered : {T : Type 0} → Result T Refusal → Result T ℕ
numbered (Ok x) = Ok x
numbered (Err e) = Err (number e)
