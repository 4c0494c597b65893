-- What each instruction does, pc being already that of the next one. Assumes nothing.
use Rattle.std.specs.Prelude.{◌≡◌, ℕ, zero, suc, ◌+◌, ◌-◌, ◌*◌, ◌/◌, ◌%◌, ◌^◌, Bool, false, cond, ◌&&◌, List, Some, None, Ok, Err, Option, Result, ◌==◌, bit_and, bit_or, bit_xor, nat_le, slice_index_or, slice_set}
use Rattle.marks.specs.declared.Mark.{Mark}
use Rattle.marks.specs.declared.Marked.{Marked}
use Rattle.marks.specs.Marks.{held, join, unheld}
use Rattle.alu.specs.Shifts.{shifted_left, shifted_right, turned_left, turned_right}
use Rattle.alu.specs.Sums.{sum, difference, raised, lowered}
use Rattle.isa.specs.declared.Alu.{Alu}
use Rattle.isa.specs.declared.Alu.TheVariants as alu
use Rattle.isa.specs.declared.Flag.{Flag}
use Rattle.isa.specs.declared.Flag.TheVariants as flag
use Rattle.buses.specs.Cells.{Cells, read_cell, write_cell, put_at}
use Rattle.units.specs.declared.unit.Reply.{Reply}
use Rattle.units.specs.declared.unit.Status.{Status}
use Rattle.units.specs.Meaning.{Contents, Operands, Meaning, operands}
use Rattle.units.specs.Registers.{status_of}
use Rattle.cpu.specs.declared.state.Core.{Core}
use Rattle.cpu.specs.declared.state.Mode.TheVariants.{Ended}
use Rattle.cpu.specs.Faults.{Stop, stop, of_core, of_bus, of_unit, from, and_then}
use Rattle.cpu.specs.Outcomes.{told}
use Rattle.cpu.specs.State.{register, with_register, with_registers, with_status, with_pc, with_sp, with_enabled, with_vectors, with_latched, with_mode, with_handling}

-- a byte with a mark
abbrev pub marked : ℕ → Mark → Marked
marked b m = record { byte = b; mark = m }

-- addresses and sp count modulo 65,536
abbrev pub above : ℕ → ℕ
above a = (a + 1) % 65536

abbrev pub below : ℕ → ℕ
below a = (a + 65535) % 65536

-- Moves

-- mvs: sp becomes one less than the operand
abbrev pub stack_set : Core → ℕ → Core
stack_set c top = with_sp c (below top)

-- mvv: a vector has the upper eight bits of its handler's address
abbrev pub vector_set : Core → ℕ → ℕ → Core
vector_set c handler n = with_vectors c (slice_set c.vectors n (handler / 16 % 256))

-- mov, mvi: the mark goes along; a constant is unheld
abbrev pub moved : Core → ℕ → ℕ → Core
moved c src dst = with_register c dst (register c src)

abbrev pub constant_set : Core → ℕ → ℕ → Core
constant_set c byte dst = with_register c dst (unheld byte)

-- Sums

-- a flag of the low group of sr: X, C, N and Z from bit 3 down
abbrev pub bit_of : Flag → ℕ
bit_of flag.Zero = 1
bit_of flag.Negative = 2
bit_of flag.Carry = 4
bit_of flag.Overflow = 8

abbrev pub has_flag : ℕ → Flag → Bool
has_flag flags f = flags / bit_of f % 2 == 1

abbrev pub is_set : Core → Flag → Bool
is_set c f = has_flag c.status.low.byte f

-- the result and the low group get the byte, the flags and one mark; the high group stays
abbrev pub summed : Core → ℕ → Mark → ℕ × ℕ → Core
summed c dst m answer = with_status (with_register c dst (marked answer.0 m)) (record { high = c.status.high; low = marked answer.1 m })

-- the joined mark of two registers
abbrev pub both_marks : Core → ℕ → ℕ → Mark
both_marks c src dst = join (register c src).mark (register c dst).mark

-- what works with C also joins the low mark
abbrev pub three_marks : Core → ℕ → ℕ → Mark
three_marks c src dst = join (register c src).mark (join (register c dst).mark c.status.low.mark)

abbrev pub byte_of : Core → ℕ → ℕ
byte_of c n = (register c n).byte

abbrev pub added : Core → ℕ → ℕ → Core
added c src dst = summed c dst (both_marks c src dst) (sum (byte_of c src) (byte_of c dst) false)

abbrev pub subtracted : Core → ℕ → ℕ → Core
subtracted c src dst = summed c dst (both_marks c src dst) (difference (byte_of c src) (byte_of c dst) false)

abbrev pub added_with_carry : Core → ℕ → ℕ → Core
added_with_carry c src dst = summed c dst (three_marks c src dst) (sum (byte_of c src) (byte_of c dst) (is_set c flag.Carry))

abbrev pub subtracted_with_carry : Core → ℕ → ℕ → Core
subtracted_with_carry c src dst = summed c dst (three_marks c src dst) (difference (byte_of c src) (byte_of c dst) (is_set c flag.Carry))

abbrev pub amount_added : Core → ℕ → ℕ → Core
amount_added c amount dst = summed c dst (register c dst).mark (raised (byte_of c dst) amount)

abbrev pub amount_subtracted : Core → ℕ → ℕ → Core
amount_subtracted c amount dst = summed c dst (register c dst).mark (lowered (byte_of c dst) amount)

-- Logic and shifts: sr stays as it is, and marks are joined

abbrev pub combined : Core → (ℕ → ℕ → ℕ) → ℕ → ℕ → Core
combined c f src dst = with_register c dst (marked (f (byte_of c src) (byte_of c dst)) (both_marks c src dst))

-- not has one operand
abbrev pub complemented : Core → ℕ → ℕ → Core
complemented c src dst = with_register c dst (marked (255 - byte_of c src) (register c src).mark)

abbrev pub operated : Core → Alu → ℕ → ℕ → Core
operated c alu.Add src dst = added c src dst
operated c alu.Sub src dst = subtracted c src dst
operated c alu.And src dst = combined c bit_and src dst
operated c alu.Lor src dst = combined c bit_or src dst
operated c alu.Sll src dst = combined c (λ amount b. shifted_left b amount) src dst
operated c alu.Rol src dst = combined c (λ amount b. turned_left b amount) src dst
operated c alu.Srl src dst = combined c (λ amount b. shifted_right b amount) src dst
operated c alu.Ror src dst = combined c (λ amount b. turned_right b amount) src dst
operated c alu.Not src dst = complemented c src dst
operated c alu.Xor src dst = combined c bit_xor src dst
operated c alu.Adc src dst = added_with_carry c src dst
operated c alu.Sbc src dst = subtracted_with_carry c src dst

-- what a branch, an address or a return goes by must not be held
abbrev pub steered : ℕ → Marked → Result ℕ Stop
steered n m = cond (held m.mark) (Err (stop n of_core)) (Ok m.byte)

-- Memory

-- the number in a pair, upper byte in a_i: 34 if a byte of it is held
abbrev pub number_in : Core → ℕ → Result ℕ Stop
number_in c pair = steered 34 (marked (byte_of c (pair + 8) * 256 + byte_of c pair) (both_marks c pair (pair + 8)))

abbrev pub read_from : Cells → ℕ → Result Marked Stop
read_from cells a = from (of_bus a) (read_cell (cells a))

-- the cells after a marked byte is written
abbrev pub written_to : Cells → ℕ → Marked → Result Cells Stop
written_to cells a m = and_then (from (of_bus a) (write_cell (cells a) m)) (λ cell. Ok (put_at cells a cell))

-- ldb
abbrev pub loaded : Core → Cells → ℕ → ℕ → Result Core Stop
loaded c cells pair dst = and_then (number_in c pair) (λ a. and_then (read_from cells a) (λ m. Ok (with_register c dst m)))

-- stb
abbrev pub stored : Core → Cells → ℕ → ℕ → Result Cells Stop
stored c cells src pair = and_then (number_in c pair) (λ a. written_to cells a (register c src))

-- lpb and spb: r_i as it then is goes up by one, 255 to 0, and a_i stays
abbrev pub stepped : Core → ℕ → Core
stepped c pair = with_register c pair (marked ((byte_of c pair + 1) % 256) (register c pair).mark)

-- Stack

-- sr as a byte with the joined mark of its groups
abbrev pub status_byte : Status → Marked
status_byte s = marked ((s.high.byte * 16 + s.low.byte) % 256) (join s.high.mark s.low.mark)

-- psh, str: into the cell at sp, which then goes down
abbrev pub pushed : Core → Cells → Marked → Result (Core × Cells) Stop
pushed c cells m = and_then (written_to cells c.sp m) (λ after. Ok (with_sp c (below c.sp), after))

-- from the cell above sp
abbrev pub top : Core → Cells → Result Marked Stop
top c cells = read_from cells (above c.sp)

abbrev pub risen : Core → Core
risen c = with_sp c (above c.sp)

-- pop, lsr
abbrev pub popped : Core → Cells → ℕ → Result Core Stop
popped c cells dst = and_then (top c cells) (λ m. Ok (with_register (risen c) dst m))

abbrev pub status_popped : Core → Cells → Result Core Stop
status_popped c cells = and_then (top c cells) (λ m. Ok (with_status (risen c) (status_of m)))

-- Control

-- 33 on a held low mark, whether or not the branch would be taken
abbrev pub branched : Core → Flag → ℕ → Result Core Stop
branched c f target = and_then (steered 33 c.status.low) (λ flags. Ok (cond (has_flag flags f) (with_pc c target) c))

-- whether unheld bytes can be written to a cell
abbrev pub Writable : Cells → ℕ → Result (Unit {0}) Stop → Type 0
Writable cells a r = (b : ℕ) → r ≡ told (written_to cells a (unheld b))

-- jsr: the return address, its upper byte first
abbrev pub called : Core → Cells → ℕ → Result (Core × Cells) Stop
called c cells target =
    and_then (pushed c cells (unheld (c.pc / 256))) (λ first.
    and_then (pushed first.0 first.1 (unheld (c.pc % 256))) (λ second. Ok (with_pc second.0 target, second.1)))

-- ret: the lower byte first, each 35 if it is held, and of the upper byte four bits
abbrev pub returned : Core → Cells → Result Core Stop
returned c cells =
    and_then (and_then (top c cells) (steered 35)) (λ low.
    and_then (and_then (top (risen c) cells) (steered 35)) (λ high. Ok (with_pc (risen (risen c)) (high % 16 * 256 + low))))

-- Interrupts

-- rie: unheld
abbrev pub enabled_read : Core → ℕ → Core
enabled_read c pair = with_register (with_register c pair (unheld (c.enabled % 256))) (pair + 8) (unheld (c.enabled / 256))

-- sie: 34 if a byte of the pair is held
abbrev pub enabled_set : Core → ℕ → Result Core Stop
enabled_set c pair = and_then (number_in c pair) (λ n. Ok (with_enabled c n))

-- the first n pairs of one set of registers, put into another from pair 0 up
abbrev pub pairs_copied : ℕ → List Marked → List Marked → List Marked
pairs_copied zero source target = target
pairs_copied (suc n) source target = slice_set (slice_set (pairs_copied n source target) n (slice_index_or source n (unheld 0))) (n + 8) (slice_index_or source (n + 8) (unheld 0))

-- rti: 32 outside a handler
abbrev pub resumed : Core → Result Core Stop
resumed c =
    cond c.handling
    (Ok (with_handling (with_pc (with_status (with_registers c (pairs_copied c.pairs c.saved.registers c.registers)) c.saved.status) c.saved.pc) false))
    (Err (stop 32 of_core))

-- System

abbrev pub line_cleared : Core → ℕ → Core
line_cleared c line = with_latched c (bit_and c.latched (65535 - 2 ^ line))

-- sys: 0x10 to 0x1F clear a line, 0xFF ends, and any other byte is said
abbrev pub clears_line : ℕ → Bool
clears_line byte = nat_le 0x10 byte && nat_le byte 0x1F

abbrev pub ordered : Core → ℕ → Core
ordered c byte = cond (clears_line byte) (line_cleared c (byte - 0x10)) (cond (byte == 0xFF) (with_mode c Ended) c)

abbrev pub said_by : ℕ → Option ℕ
said_by byte = cond (clears_line byte) None (cond (byte == 0xFF) None (Some byte))

-- The extension unit

-- what a unit makes of a code, its contents and operands: an answer and the next contents, or a refusal
abbrev pub Service : Type 0
Service = ℕ → Contents → Operands → Result (Reply × Contents) ℕ

abbrev pub served : Meaning → (ℕ → Bool) → Service
served op codes code c x = cond (codes code) (Ok (op codes code c x)) (Err 26)

-- new flags give both groups their mark
abbrev pub flagged : Core → Option Marked → Core
flagged c None = c
flagged c (Some m) = with_status c (status_of m)

abbrev pub extended : Service → Core → Contents → ℕ → ℕ → ℕ → Result (Reply × Contents) Stop
extended unit c contents code src dst = from (of_unit code) (unit code contents (operands (register c src) (register c dst) c.status))

abbrev pub replied : Core → ℕ → Reply → Core
replied c dst r = flagged (with_register c dst r.result) r.flags

-- of an answer of the unit: the wait, and the core with the result and the flags
abbrev pub wait_told : Result (Reply × Contents) Stop → Result ℕ Stop
wait_told (Ok p) = Ok p.0.wait
wait_told (Err e) = Err e

abbrev pub reply_left : Core → ℕ → Result (Reply × Contents) Stop → Core
reply_left c dst (Ok p) = replied c dst p.0
reply_left c dst (Err e) = c
