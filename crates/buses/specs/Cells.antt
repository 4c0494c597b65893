-- The meaning of a data bus: a cell at each address. Assumes nothing.
use Rattle.std.specs.Prelude.{ℕ, cond, Ok, Err, Result, ◌==◌}
use Rattle.marks.specs.declared.Mark.{Mark}
use Rattle.marks.specs.declared.Mark.TheVariants.{Held, Unheld}
use Rattle.marks.specs.declared.Marked.{Marked}
use Rattle.marks.specs.Marks.{unheld, lifted}
use Rattle.buses.specs.declared.bus.Kind.{Kind}
use Rattle.buses.specs.declared.bus.Kind.TheVariants.{Absent, Plain, Board}

-- a plain cell has a marked byte, a board cell an unheld one
pub data Cell : Type 0 where
  absent : Cell
  plain : Marked → Cell
  board : ℕ → Cell

abbrev pub Cells : Type 0
Cells = ℕ → Cell

abbrev pub kind_of : Cell → Kind
kind_of absent = Absent
kind_of (plain m) = Plain
kind_of (board b) = Board

-- an absent cell is refused 20
abbrev pub read_cell : Cell → Result Marked ℕ
read_cell absent = Err 20
read_cell (plain m) = Ok m
read_cell (board b) = Ok (unheld b)

-- a board cell takes no held byte
abbrev pub shown : Marked → Mark → Result Cell ℕ
shown m Held = Err 25
shown m Unheld = Ok (board m.byte)

-- the cell after a write, or the refusal
abbrev pub write_cell : Cell → Marked → Result Cell ℕ
write_cell absent m = Err 20
write_cell (plain old) m = Ok (plain m)
write_cell (board old) m = shown m m.mark

-- the cell after its byte is lifted; a board cell is left alone
abbrev pub lift_cell : Cell → Result Cell ℕ
lift_cell absent = Err 20
lift_cell (plain m) = Ok (plain (lifted m))
lift_cell (board b) = Ok (board b)

-- what a caller is told of it
abbrev pub told : Result Cell ℕ → Result (Unit {0}) ℕ
told (Ok c) = Ok tt
told (Err n) = Err n

abbrev pub put_at : Cells → ℕ → Cell → Cells
put_at cs a c = λ k. cond (k == a) c (cs k)

-- all cells afterwards: a refusal changes nothing
abbrev pub settled : Cells → ℕ → Result Cell ℕ → Cells
settled cs a (Ok c) = put_at cs a c
settled cs a (Err n) = cs
