-- What a method of a terminal promises of its call. Assumes nothing.
use Rattle.std.specs.Prelude.{◌≡◌, ℕ, List, [], map, Ok, Err, vec_items, Result}
use Rattle.buses.specs.Cells.{Cells}
use Rattle.buses.specs.declared.bus.Bus as bus_of
use Rattle.units.specs.declared.unit.Unit as unit_of
use Rattle.units.specs.Meaning.{Contents}
use Rattle.cpu.specs.declared.machine.Run.{Run}
use Rattle.cpu.specs.Machines.{ending_of, service, state_of}
use Rattle.cpu.specs.State.{cleared}
use Rattle.terminal.specs.declared.Terminal as code
use Rattle.terminal.specs.declared.calls.Answer as code_answer
use Rattle.terminal.specs.declared.calls.Answer.TheVariants as answer
use Rattle.terminal.specs.declared.calls.Call as code_call
use Rattle.terminal.specs.declared.calls.Call.TheVariants as call
use Rattle.terminal.specs.declared.calls.Refusal.{Refusal}
use Rattle.terminal.specs.declared.calls.Standing.{Standing}
use Rattle.terminal.specs.declared.calls.Unclosed.{Unclosed}
use Rattle.terminal.specs.declared.calls.Unmade.{Unmade}
use Rattle.terminal.specs.declared.calls.Unmade.TheVariants as unmade
use Rattle.terminal.specs.declared.interval.Interval.{Interval}
use Rattle.terminal.specs.Calls.{Call, load, start, raise, run, put, opening, entry, close, cell, register, status, Answer, done, opened, ran, byte, stands, refused, unclosed, respond, performed}
use Rattle.terminal.specs.Numbers.{number}
use Rattle.terminal.specs.Terminals.{Terminal}

-- each answer of the code, by its number and values
abbrev pub answered : {A : Type 0} → (A → Answer) → Result A Refusal → Answer
answered answer (Ok x) = answer x
answered answer (Err e) = refused (number e)

abbrev pub done_of : Result (Unit {0}) Refusal → Answer
done_of = answered (λ _. done)

abbrev pub byte_of : Result ℕ Refusal → Answer
byte_of = answered byte

abbrev pub opened_of : Result Interval Refusal → Answer
opened_of = answered opened

abbrev pub unclosed_of : Unclosed → Answer
unclosed_of u = unclosed (number u.refusal) u.interval

abbrev pub closed_of : Result (Unit {0}) Unclosed → Answer
closed_of (Ok x) = done
closed_of (Err u) = unclosed_of u

abbrev pub run_of : Run → Answer
run_of r = ran r.steps r.cycles (ending_of r.ending)

abbrev pub ran_of : Result Run Refusal → Answer
ran_of = answered run_of

abbrev pub stands_of : Standing → Answer
stands_of s = stands s.mode s.pc s.sp s.enabled s.latched s.handling

abbrev pub answer_of : Result code_answer.Answer Unmade → Answer
answer_of (Ok answer.Done) = done
answer_of (Ok (answer.Opened i)) = opened i
answer_of (Ok (answer.Ran r)) = run_of r
answer_of (Ok (answer.Byte b)) = byte b
answer_of (Ok (answer.Stands s)) = stands_of s
answer_of (Err (unmade.Refused e)) = refused (number e)
answer_of (Err (unmade.Unclosed u)) = unclosed_of u

-- and each call
abbrev pub call_of : code_call.Call → Call
call_of (call.Load pairs program) = load pairs (vec_items program)
call_of call.Start = start
call_of (call.Raise line) = raise line
call_of (call.Run budget) = run budget
call_of (call.Put address b) = put address b
call_of (call.Open seal first count) = opening seal first count
call_of (call.Entry i offset b) = entry i.now offset b
call_of (call.Close i) = close i
call_of (call.Cell address) = cell address
call_of (call.Register n) = register n
call_of call.Status = status

-- a terminal of the code, by what it contains
abbrev pub terminal_of : {B U : Type 0} → bus_of.Ghosts B → unit_of.Ghosts U → code.Terminal B U → Terminal
terminal_of bus unit t = record { program = vec_items t.machine.program; machine = state_of bus unit t.machine }

-- a call: its answer and the terminal afterwards are those that are defined; hidden cells and the unit's codes stay
pub record Responds {B U : Type 0} (bus : bus_of.Ghosts B) (unit : unit_of.Ghosts U) (before after : code.Terminal B U) (k : Call) (a : Answer) : Type 0 where
  pub answers : a ≡ (respond (service unit before.machine.unit) k (terminal_of bus unit before)).0
  pub leaves : terminal_of bus unit after ≡ (respond (service unit before.machine.unit) k (terminal_of bus unit before)).1
  pub hides : bus.hidden after.machine.bus ≡ bus.hidden before.machine.bus
  pub keeps : unit.codes after.machine.unit ≡ unit.codes before.machine.unit

-- a list of calls: all answers, and the terminal at the end
abbrev pub performed_of : {B U : Type 0} → bus_of.Ghosts B → unit_of.Ghosts U → code.Terminal B U → List code_call.Call → List Answer × Terminal
performed_of bus unit t calls = performed (service unit t.machine.unit) (map call_of calls) (terminal_of bus unit t)

-- a terminal is made in the state after a load, with 1 pair and no program
abbrev pub made : Cells → Contents → Terminal
made cells contents = record { program = []; machine = record { core = cleared 1; cells = cells; contents = contents } }
