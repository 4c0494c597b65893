-- Lifting what is left lifts the whole. Assumes nothing.
use Rattle.std.proofs.Common.{◌≡◌, ◌+◌, ◌-◌, ◌%◌, ◌≤◌}
use Rattle.terminal.specs.Terminals.{addresses, cells_of, lifted}
use Rattle.terminal.proofs.interval.Interval.lift.Given as goal

abbrev pub invariant-loop-offset : goal.invariant-loop-offset
invariant-loop-offset g l =
    (lifted (g.B.Bus.cells l.bus) (addresses ((l.self.first + l.offset) % 65536) (l.self.count - l.offset)) ≡ lifted (g.B.Bus.cells l.initial.bus) (cells_of l.self))
    × (g.B.Bus.hidden l.bus ≡ g.B.Bus.hidden l.initial.bus)
    × (l.offset ≤ l.self.count)
