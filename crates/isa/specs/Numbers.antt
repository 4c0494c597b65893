-- The number of each refusal. Assumes nothing.
use Rattle.std.specs.Prelude.{ℕ, cond, Ok, Err, Result, ◌==◌}
use Rattle.isa.specs.declared.Refusal.{Refusal}
use Rattle.isa.specs.declared.Refusal.TheVariants.{OperandOutOfField, MissingByte, ReservedWord}

abbrev pub number : Refusal → ℕ
number OperandOutOfField = 10
number MissingByte = 30
number ReservedWord = 31

-- an answer, or the number of its refusal
abbrev pub numbered : {T : Type 0} → Result T Refusal → Result T ℕ
numbered (Ok x) = Ok x
numbered (Err e) = Err (number e)

-- the refusal that a number stands for
abbrev pub refusal_of : ℕ → Refusal
refusal_of n = cond (n == 31) ReservedWord (cond (n == 10) OperandOutOfField MissingByte)
