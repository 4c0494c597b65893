-- What a terminal contains, and what each call makes of it. Assumes nothing.
use Rattle.std.specs.Prelude.{ℕ, zero, suc, ◌+◌, ◌^◌, Bool, true, false, cond, not, ◌||◌, List, [], ◌∷◌, length, Ok, Err, Result, ◌==◌, bit_or, nat_le, nat_lt, slice_index_or}
use Rattle.marks.specs.declared.Mark.{Mark}
use Rattle.marks.specs.declared.Mark.TheVariants.{Held, Unheld}
use Rattle.marks.specs.declared.Marked.{Marked}
use Rattle.marks.specs.Marks.{held, unheld}
use Rattle.buses.specs.Cells.{Cell, Cells, absent, plain, board, read_cell, write_cell, lift_cell, put_at, settled}
use Rattle.cpu.specs.declared.state.Core.{Core}
use Rattle.cpu.specs.declared.state.Mode.{Mode}
use Rattle.cpu.specs.declared.state.Mode.TheVariants.{Idle, Going, Waiting, Ended, Faulted}
use Rattle.cpu.specs.Instructions.{Service, above, status_byte, marked}
use Rattle.cpu.specs.Runs.{Ran, run}
use Rattle.cpu.specs.State as state
use Rattle.cpu.specs.State.{State, cleared, with_pc, with_mode, with_latched, with_handling}
use Rattle.terminal.specs.declared.interval.Interval.{Interval}
use Rattle.terminal.specs.declared.interval.Seal.{Seal}
use Rattle.terminal.specs.declared.interval.Seal.TheVariants.{Sealed, Practice}

-- a program, and the machine that runs it
pub record Terminal : Type 0 where
  pub program : List ℕ
  pub machine : State

abbrev pub with_core : Terminal → Core → Terminal
with_core t c = record { program = t.program; machine = record { core = c; cells = t.machine.cells; contents = t.machine.contents } }

abbrev pub with_cells : Terminal → Cells → Terminal
with_cells t cells = record { program = t.program; machine = record { core = t.machine.core; cells = cells; contents = t.machine.contents } }

-- refused with a number where a cause holds
abbrev pub unless : {A : Type 0} → Bool → ℕ → Result A ℕ → Result A ℕ
unless cause n answer = cond cause (Err n) answer

abbrev pub and_then : {A B : Type 0} → Result A ℕ → (A → Result B ℕ) → Result B ℕ
and_then (Ok x) f = f x
and_then (Err n) f = Err n

-- whether it was refused, and what is left in place of x
abbrev pub told : {A : Type 0} → Result A ℕ → Result (Unit {0}) ℕ
told (Ok x) = Ok tt
told (Err n) = Err n

abbrev pub left : {A : Type 0} → A → Result A ℕ → A
left x (Ok y) = y
left x (Err n) = x

abbrev pub outside : ℕ → ℕ → ℕ → Bool
outside least most n = nat_lt n least || nat_lt most n

-- load: all but the bus and the unit begins anew
abbrev pub loaded : ℕ → List ℕ → Terminal → Result Terminal ℕ
loaded pairs program t =
    unless (outside 1 4096 (length program)) 1
    (unless (outside 1 8 pairs) 2
    (Ok (record { program = program; machine = record { core = cleared pairs; cells = t.machine.cells; contents = t.machine.contents } })))

-- start: from any mode, at byte 0 and in no handler
abbrev pub started : Terminal → Result Terminal ℕ
started t = unless (length t.program == 0) 23 (Ok (with_core t (with_mode (with_handling (with_pc t.machine.core 0) false) Going)))

-- raise: a line is latched
abbrev pub raised : ℕ → Terminal → Result Terminal ℕ
raised line t = unless (nat_lt 15 line) 3 (Ok (with_core t (with_latched t.machine.core (bit_or t.machine.core.latched (2 ^ line)))))

-- going or waiting
abbrev pub runs : Mode → Bool
runs Idle = false
runs Going = true
runs Waiting = true
runs Ended = false
runs Faulted = false

-- run: steps, cycles and an ending, and what is left
abbrev pub ran : Service → ℕ → Terminal → Result Ran ℕ
ran unit budget t =
    unless (outside 1 1000000 budget) 7
    (unless (not (runs t.machine.core.mode)) 24
    (Ok (run unit t.program budget t.machine)))

-- the cells after a write
abbrev pub cells_written : Cells → ℕ → Marked → Result Cells ℕ
cells_written cells a m = and_then (write_cell (cells a) m) (λ c. Ok (put_at cells a c))

-- put: an unheld byte
abbrev pub written : ℕ → ℕ → Terminal → Result Terminal ℕ
written a byte t = and_then (cells_written t.machine.cells a (unheld byte)) (λ cells. Ok (with_cells t cells))

-- the cells of an interval, from the first on
abbrev pub addresses : ℕ → ℕ → List ℕ
addresses first zero = []
addresses first (suc count) = first ∷ addresses (above first) count

abbrev pub cells_of : Interval → List ℕ
cells_of i = addresses i.first i.count

-- only a plain cell lies in an interval
abbrev pub is_plain : Cell → Result (Unit {0}) ℕ
is_plain absent = Err 20
is_plain (plain m) = Ok tt
is_plain (board b) = Err 21

-- cell by cell from the first
abbrev pub checked : Cells → List ℕ → Result (Unit {0}) ℕ
checked cells [] = Ok tt
checked cells (a ∷ more) = and_then (is_plain (cells a)) (λ _. checked cells more)

-- open: an interval over plain cells
abbrev pub opened : Seal → ℕ → ℕ → Terminal → Result Interval ℕ
opened seal first count t =
    unless (outside 1 256 count || nat_lt 65536 (first + count)) 5
    (and_then (checked t.machine.cells (addresses first count)) (λ _. Ok (record { seal = seal; first = first; count = count })))

abbrev pub mark_of : Seal → Mark
mark_of Sealed = Held
mark_of Practice = Unheld

-- entry: a byte at an offset, held if the interval is sealed
abbrev pub cells_entered : Cells → ℕ → ℕ → ℕ → Marked → Result Cells ℕ
cells_entered cells first count offset m = and_then (checked cells (addresses first count)) (λ _. cells_written cells (slice_index_or (addresses first count) offset first) m)

abbrev pub entered : Interval → ℕ → ℕ → Terminal → Result Terminal ℕ
entered i offset byte t =
    unless (nat_le i.count offset) 6
    (and_then (cells_entered t.machine.cells i.first i.count offset (marked byte (mark_of i.seal))) (λ cells. Ok (with_cells t cells)))

-- close: all its cells are lifted
abbrev pub lifted : Cells → List ℕ → Cells
lifted cells [] = cells
lifted cells (a ∷ more) = lifted (settled cells a (lift_cell (cells a))) more

abbrev pub closed : Interval → Terminal → Result Terminal ℕ
closed i t = and_then (checked t.machine.cells (cells_of i)) (λ _. Ok (with_cells t (lifted t.machine.cells (cells_of i))))

-- a byte that may be shown
abbrev pub shown : Marked → Result ℕ ℕ
shown m = unless (held m.mark) 22 (Ok m.byte)

-- cell
abbrev pub cell_shown : ℕ → Terminal → Result ℕ ℕ
cell_shown a t = and_then (read_cell (t.machine.cells a)) shown

-- register: 16 is sr
abbrev pub register_shown : ℕ → Terminal → Result ℕ ℕ
register_shown n t =
    unless (nat_lt 16 n) 4
    (cond (n == 16) (shown (status_byte t.machine.core.status)) (shown (state.register t.machine.core n)))
