-- The answers so far, and then those to what is left of the list, are all answers. Assumes nothing.
use Rattle.std.proofs.Common.{◌≡◌, ◌+◌, ◌≤◌, ◌++◌, map, length, vec_items, vec_len, vec_capacity}
use Rattle.cpu.specs.Machines.{service}
use Rattle.terminal.specs.Calls.{performed}
use Rattle.terminal.specs.Responses.{answer_of, call_of, performed_of, terminal_of}
use Rattle.terminal.proofs.Terminal.perform.Given as goal

abbrev pub invariant-loop-call : goal.invariant-loop-call
invariant-loop-call g l =
    let rest = performed (service g.U.Unit l.initial.self.machine.unit) (map call_of l.call-iterator.rest.items) (terminal_of g.B.Bus g.U.Unit l.self) in
    (goal.iterator-loop-call g).can_next l.call-iterator
    × (goal.iterator-loop-call g).is_finite l.call-iterator
    × ((map answer_of (vec_items l.answers) ++ rest.0, rest.1) ≡ performed_of g.B.Bus g.U.Unit l.initial.self l.initial.call-iterator.rest.items)
    × (g.B.Bus.hidden l.self.machine.bus ≡ g.B.Bus.hidden l.initial.self.machine.bus)
    × (g.U.Unit.codes l.self.machine.unit ≡ g.U.Unit.codes l.initial.self.machine.unit)
    × (vec_len l.answers + length l.call-iterator.rest.items ≤ vec_capacity l.answers)
